-- A list that grows by one word, and the size of the next event. Assumes nothing.
use Prim.Native.Nat.{ℕ, zero, suc, ◌+◌, ◌<◌, ◌≤◌}
use mathlib.Core.Path.{◌≡◌, refl, sym, ap, ◌∙◌}
use mathlib.Core.Bool.{Bool, true, false, cond, true≢false, ◌&&◌}
use mathlib.Core.List.{List, [], ◌∷◌, ◌++◌}
use native.Mathlib.Omega.{arith}
use native.Mathlib.Decide.{dec_lt}
use native.Mathlib.Numerals.{add-one}
use lib.Dec.{eqb, leb}
use lib.ListN.{length, set, get_or, take, drop, length-append, length-drop}
use lib.Seq.{sets, take-suc, take-length}
use borrow.Author.Tests.{eq-eqb, ne_eqb, eqb-false, leb-true}
use Rattle.word_put.proofs.Stores.{sets_then}
use Rattle.record.specs.Record.{each, is_event, next_of, record_of, size_of, first_table, second_table, flag_table, number_table, user_table, walk}

pub each_length : (f : ℕ → ℕ) (n : ℕ) → length (each f n) ≡ n
each_length f zero = refl
each_length f (suc n) = omega (arith, length-append (each f n) (f n ∷ []), each_length f n)

pub grown : (l out : List ℕ) (f : ℕ → ℕ) (i x : ℕ) → out ≡ sets l 0 (each f i) → x ≡ f i → set out i x ≡ sets l 0 (each f (i + 1))
grown l out f i x e p =
    ap (λ (m : List ℕ). set m i x) e
    ∙ ap (λ (y : ℕ). set (sets l 0 (each f i)) i y) p
    ∙ ap (λ (k : ℕ). set (sets l 0 (each f i)) k (f i)) (let z : i ≡ 0 + length (each f i) = omega (arith, each_length f i) in z)
    ∙ sets_then (each f i) (f i ∷ []) l 0
    ∙ ap (λ (k : ℕ). sets l 0 (each f k)) (sym (add-one i))

-- the next event's bytes are all there
right : (a b : Bool) → a && b ≡ true → b ≡ true
right true b e = e
right false b e = absurd (true≢false (sym e))

ninth : (a b c d e f g h i : Bool) → a && (b && (c && (d && (e && (f && (g && (h && i))))))) ≡ true → i ≡ true
ninth a b c d e f g h i p =
    right h i
    (right g (h && i)
    (right f (g && (h && i))
    (right e (f && (g && (h && i)))
    (right d (e && (f && (g && (h && i))))
    (right c (d && (e && (f && (g && (h && i)))))
    (right b (c && (d && (e && (f && (g && (h && i)))))) (right a (b && (c && (d && (e && (f && (g && (h && i))))))) p)))))))

positive : (b : Bool) (n : ℕ) → 0 < cond b n 0 → b ≡ true
positive true n h = refl
positive false n h = absurd (let z : ⊥ = omega (arith, h) in z)

pub next_size : (bs : List ℕ) → 0 < next_of bs → next_of bs ≡ size_of (record_of bs)
next_size bs h = ap (λ (b : Bool). cond b (size_of (record_of bs)) 0) (positive (is_event (record_of bs) (length bs)) (size_of (record_of bs)) h)

pub all_there : (bs : List ℕ) → 0 < next_of bs → size_of (record_of bs) ≤ length bs
all_there bs h =
    let r = record_of bs in
    leb-true (size_of r) (length bs)
    (ninth (leb 1 r.kind) (leb r.kind 21) (leb r.first (get_or first_table r.kind 0)) (leb r.second (get_or second_table r.kind 0)) (leb r.flags (get_or flag_table r.kind 0))
    (leb r.number (get_or number_table r.kind 0)) (leb r.uid (get_or user_table r.kind 0)) (leb r.gid (get_or user_table r.kind 0)) (leb (size_of r) (length bs))
    (positive (is_event r (length bs)) (size_of r) h))

pub next_there : (bs : List ℕ) → next_of bs ≤ length bs
next_there bs = go (dec_lt 0 (next_of bs))
  where
    go : Dec (0 < next_of bs) → next_of bs ≤ length bs
    go (yes h) = omega (arith, next_size bs h, all_there bs h)
    go (no h) = omega (arith, h)

pub some : (n : ℕ) → (n ≡ 0 → ⊥) → 0 < n
some zero z = absurd (z refl)
some (suc n) z = omega arith

-- a walk over all records, by its first
module _ {A : Type 0} (stop : List ℕ → A) (more : List ℕ → A → A) where
  abbrev on : Bool → ℕ → List ℕ → A
  on b f bs = cond b (stop bs) (more bs (walk stop more f (drop (next_of bs) bs)))

  enough : (f g : ℕ) (bs : List ℕ) → length bs ≤ f → length bs ≤ g → walk stop more f bs ≡ walk stop more g bs
  enough zero zero bs h k = refl
  enough zero (suc g) bs h k = sym (ap (λ (b : Bool). on b g bs) (eq-eqb (next_of bs) 0 (omega (arith, h, next_there bs))))
  enough (suc f) zero bs h k = ap (λ (b : Bool). on b f bs) (eq-eqb (next_of bs) 0 (omega (arith, k, next_there bs)))
  enough (suc f) (suc g) bs h k =
      go (λ p. enough f g (drop (next_of bs) bs) (omega (arith, p, h, length-drop (next_of bs) bs)) (omega (arith, p, k, length-drop (next_of bs) bs))) (eqb (next_of bs) 0) refl
    where
      go : (0 < next_of bs → walk stop more f (drop (next_of bs) bs) ≡ walk stop more g (drop (next_of bs) bs)) → (b : Bool) → eqb (next_of bs) 0 ≡ b → on b f bs ≡ on b g bs
      go same true e = refl
      go same false e = ap (more bs) (same (some (next_of bs) (eqb-false (next_of bs) 0 e)))

  pub walk_ends : (bs : List ℕ) → next_of bs ≡ 0 → walk stop more (length bs) bs ≡ stop bs
  walk_ends bs e =
      enough (length bs) (suc (length bs)) bs (omega arith) (omega arith) ∙ ap (λ (b : Bool). on b (length bs) bs) (eq-eqb (next_of bs) 0 e)

  pub walk_goes_on :
      (bs : List ℕ) → (next_of bs ≡ 0 → ⊥) → walk stop more (length bs) bs ≡ more bs (walk stop more (length (drop (next_of bs) bs)) (drop (next_of bs) bs))
  walk_goes_on bs e =
      enough (length bs) (suc (length bs)) bs (omega arith) (omega arith)
      ∙ ap (λ (b : Bool). on b (length bs) bs) (ne_eqb (next_of bs) 0 e)
      ∙ ap (more bs) (enough (length bs) (length (drop (next_of bs) bs)) (drop (next_of bs) bs) (omega (arith, length-drop (next_of bs) bs)) (omega arith))

-- no event is shorter than 16 bytes
pub next_short : (bs : List ℕ) → length bs < 16 → 0 ≡ next_of bs
next_short bs h = go (dec_lt 0 (next_of bs))
  where
    go : Dec (0 < next_of bs) → 0 ≡ next_of bs
    go (yes p) = absurd (let z : ⊥ = omega (arith, h, all_there bs p) in z)
    go (no p) = omega (arith, p)

-- the elements of a list are each of them
pub each_take : (ws : List ℕ) (n : ℕ) → n ≤ length ws → each (λ i. get_or ws i 0) n ≡ take n ws
each_take ws zero h = refl
each_take ws (suc n) h = ap (λ (l : List ℕ). l ++ (get_or ws n 0 ∷ [])) (each_take ws n (omega (arith, h))) ∙ sym (take-suc ws n 0 h)

pub each_all : (ws : List ℕ) → each (λ i. get_or ws i 0) (length ws) ≡ ws
each_all ws = each_take ws (length ws) (omega arith) ∙ take-length ws
