-- Taking a list entry by entry is taking it as 205 and 206 say. Assumes nothing.
use Prim.Native.Nat.{ℕ, suc, ◌+◌, ◌-◌, ◌≤◌, ◌<◌}
use mathlib.Core.Path.{◌≡◌, refl, sym, ap, subst, ◌∙◌}
use mathlib.Core.Bool.{Bool, true, false, cond, ◌||◌}
use mathlib.Core.List.{List, [], ◌∷◌, map}
use native.Mathlib.Omega.{arith}
use native.Mathlib.Numerals.{add-one}
use native.Mathlib.Decide.{ℕ_discrete, dec_lt}
use native.Mathlib.Nat.{add-zero}
use lib.Dec.{ltb, eqb}
use lib.ListN.{get_or, set, length, take, drop, get_or-eq_default, drop_of_length-le}
use lib.Seq.{sets, drop-cons, take-suc, get_or-set_same, get_or-set_other}
use borrow.Author.Tests.{lt-ltb, le-ltb, eq-eqb, ne_eqb, ltb-true, eqb-true, eqb-false}
use Rattle.ids.specs.declared.Description.{Description}
use Rattle.fd_list.specs.Lists.{desc, blank}
use Rattle.counts.specs.Counts.{less, less_all, times, any}
use Rattle.counts.proofs.Laws.{less_all_then}
use Rattle.holds.specs.declared.Holds.{Holds}
use Rattle.holds.specs.Holds.{holds_with, unheld}
use Rattle.take_holds.specs.declared.Taken.{Taken}
use Rattle.answer.specs.declared.Refusal.{Refusal}
use Rattle.std.specs.Prelude.{Ok, Err}
use Rattle.answer.specs.declared.Refusal.TheVariants.{BadArgument, TooManyFds}
use Rattle.take_holds.specs.Take.{taken_as, bad_in, bad, take_of}

abbrev pub full : Holds → List ℕ → List Description → ℕ → Taken
full h left at n = record { list = Ok (record { at = at; len = n }); holds = holds_with h.holds left }

abbrev pub take_on : Holds → List ℕ → List Description → ℕ → List ℕ → Taken
take_on h left at i [] = full h left at i
take_on h left at i (d ∷ ds) = cond (unheld h.holds left d) (taken_as (Err BadArgument) h) (take_on h (less left d) (set at i (desc d)) (suc i) ds)

ltb_ext : (a b c d : ℕ) → (a < b → c < d) → (c < d → a < b) → ltb a b ≡ ltb c d
ltb_ext a b c d f g = go (dec_lt a b)
  where
    go : Dec (a < b) → ltb a b ≡ ltb c d
    go (yes p) = lt-ltb a b p ∙ sym (lt-ltb c d (f p))
    go (no p) = le-ltb a b (omega arith) ∙ sym (le-ltb c d (let z : c < d → ⊥ = (λ q. p (g q)) in go₂ z (dec_lt c d)))
      where
        go₂ : (c < d → ⊥) → Dec (c < d) → d ≤ c
        go₂ z (yes q) = absurd (z q)
        go₂ z (no q) = omega arith

any_ext : (p q : ℕ → Bool) → ((e : ℕ) → p e ≡ q e) → (ds : List ℕ) → any p ds ≡ any q ds
any_ext p q f [] = refl
any_ext p q f (d ∷ ds) = rw (f d, any_ext p q f ds)

pub or_true : (b : Bool) → b || true ≡ true
or_true true = refl
or_true false = refl

-- what stands in a list at all decides `any`
pub any_at : (p : ℕ → Bool) (d : ℕ) (ds : List ℕ) → p d ≡ true → 0 < times d ds → any p ds ≡ true
any_at p d [] e b = absurd (omega arith)
any_at p d (x ∷ ds) e b = go (any_at p d ds e) (ℕ_discrete x d)
  where
    go : (0 < times d ds → any p ds ≡ true) → Dec (x ≡ d) → p x || any p ds ≡ true
    go f (yes q) = rw (q, e) refl
    go f (no q) = rw (f (rw (ne_eqb x d q) at b)) (or_true (p x))

in_range : (a : List ℕ) (d : ℕ) → 0 < get_or a d 0 → d < length a
in_range a d b = go (dec_lt d (length a))
  where
    go : Dec (d < length a) → d < length a
    go (yes p) = p
    go (no p) = absurd (omega (arith, get_or-eq_default a 0 {n = d} (omega arith)))

module _ (all left : List ℕ) (d : ℕ) (ds : List ℕ) where
  -- one entry taken: what is bad in the rest
  bad_less : 0 < get_or left d 0 → (e : ℕ) → bad_in all left (d ∷ ds) e ≡ bad_in all (less left d) ds e
  bad_less b e = ap (λ (x : Bool). ltb 63 e || (eqb (get_or all e 0) 0 || x)) (go (ℕ_discrete e d))
    where
      go : Dec (e ≡ d) → ltb (get_or left e 0) (times e (d ∷ ds)) ≡ ltb (get_or (less left d) e 0) (times e ds)
      go (yes q) =
          subst (λ (y : ℕ). ltb (get_or left y 0) (times y (d ∷ ds)) ≡ ltb (get_or (less left d) y 0) (times y ds)) (sym q)
          (rw (eq-eqb d d refl) (rw (get_or-set_same left d (get_or left d 0 - 1) 0 (in_range left d b))
          (ltb_ext (get_or left d 0) (suc (times d ds)) (get_or left d 0 - 1) (times d ds) (λ p. omega arith) (λ p. omega arith))))
      go (no q) = rw (ne_eqb d e (λ y. q (sym y))) (rw (get_or-set_other left d e (get_or left d 0 - 1) 0 q) refl)

  unheld_bad : unheld all left d ≡ true → any (bad_in all left (d ∷ ds)) (d ∷ ds) ≡ true
  unheld_bad s = go (ltb 63 d) (eqb (get_or all d 0) 0) (eqb (get_or left d 0) 0) refl s
    where
      go : (x y z : Bool) → eqb (get_or left d 0) 0 ≡ z → x || (y || z) ≡ true → (x || (y || ltb (get_or left d 0) (times d (d ∷ ds)))) || any (bad_in all left (d ∷ ds)) ds ≡ true
      go true y z q e = refl
      go false true z q e = refl
      go false false z q e =
          let n : get_or left d 0 ≡ 0 = eqb-true (get_or left d 0) 0 (q ∙ e) in
          rw (lt-ltb (get_or left d 0) (times d (d ∷ ds)) (rw (eq-eqb d d refl) (omega arith))) refl

  go_on : unheld all left d ≡ false → any (bad_in all left (d ∷ ds)) (d ∷ ds) ≡ any (bad_in all (less left d) ds) ds
  go_on s = go (ltb 63 d) (eqb (get_or all d 0) 0) (eqb (get_or left d 0) 0) refl refl refl s
    where
      go : (x y z : Bool) → ltb 63 d ≡ x → eqb (get_or all d 0) 0 ≡ y → eqb (get_or left d 0) 0 ≡ z → x || (y || z) ≡ false → any (bad_in all left (d ∷ ds)) (d ∷ ds) ≡ any (bad_in all (less left d) ds) ds
      go true y z qx qy qz e = absurd (let w : ◌≡◌ {A = ℕ} 0 1 = cc in omega arith)
      go false true z qx qy qz e = absurd (let w : ◌≡◌ {A = ℕ} 0 1 = cc in omega arith)
      go false false true qx qy qz e = absurd (let w : ◌≡◌ {A = ℕ} 0 1 = cc in omega arith)
      go false false false qx qy qz e =
          let n = eqb-false (get_or left d 0) 0 qz in
          let b : 0 < get_or left d 0 = go₃ n (dec_lt 0 (get_or left d 0)) in
          ap (λ (x : Bool). x || any (bad_in all left (d ∷ ds)) ds) (bad_less b d)
          ∙ (ap (λ (x : Bool). bad_in all (less left d) ds d || x) (any_ext (bad_in all left (d ∷ ds)) (bad_in all (less left d) ds) (bad_less b) ds)
          ∙ go₂ (bad_in all (less left d) ds d) refl)
        where
          go₃ : (get_or left d 0 ≡ 0 → ⊥) → Dec (0 < get_or left d 0) → 0 < get_or left d 0
          go₃ n (yes p) = p
          go₃ n (no p) = absurd (n (omega arith))

          go₂ : (t : Bool) → bad_in all (less left d) ds d ≡ t → t || any (bad_in all (less left d) ds) ds ≡ any (bad_in all (less left d) ds) ds
          go₂ false t = refl
          go₂ true t =
              let u : ltb (get_or (less left d) d 0) (times d ds) ≡ true = sym (rw (qx, qy) refl) ∙ t in
              sym (any_at (bad_in all (less left d) ds) d ds t (omega (arith, ltb-true (get_or (less left d) d 0) (times d ds) u)))

walked : (h : Holds) (left : List ℕ) (at : List Description) (i : ℕ) (ds : List ℕ) →
    take_on h left at i ds ≡ cond (any (bad_in h.holds left ds) ds) (taken_as (Err BadArgument) h) (full h (less_all left ds) (sets at i (map desc ds)) (i + length ds))
walked h left at i [] = ap (λ (n : ℕ). full h left at n) (sym (add-zero i))
walked h left at i (d ∷ ds) = go (walked h (less left d) (set at i (desc d)) (suc i) ds) (unheld h.holds left d) refl
  where
    go : take_on h (less left d) (set at i (desc d)) (suc i) ds ≡ cond (any (bad_in h.holds (less left d) ds) ds) (taken_as (Err BadArgument) h) (full h (less_all (less left d) ds) (sets (set at i (desc d)) (suc i) (map desc ds)) (suc i + length ds)) →
        (b : Bool) → unheld h.holds left d ≡ b →
        cond b (taken_as (Err BadArgument) h) (take_on h (less left d) (set at i (desc d)) (suc i) ds)
        ≡ cond (any (bad_in h.holds left (d ∷ ds)) (d ∷ ds)) (taken_as (Err BadArgument) h) (full h (less_all left (d ∷ ds)) (sets at i (map desc (d ∷ ds))) (i + suc (length ds)))
    go w true s = rw (unheld_bad h.holds left d ds s) refl
    go w false s = rw (go_on h.holds left d ds s) (w ∙ ap (λ (n : ℕ). cond (any (bad_in h.holds (less left d) ds) ds) (taken_as (Err BadArgument) h) (full h (less_all (less left d) ds) (sets (set at i (desc d)) (suc i) (map desc ds)) n)) (let e : suc i + length ds ≡ i + suc (length ds) = omega arith in e))

pub take_is : (h : Holds) (ws : List ℕ) → length ws ≤ 16 → take_on h h.outside blank 0 ws ≡ take_of h ws
take_is h ws b =
    let e : 0 + length ws ≡ length ws = omega arith in
    walked h h.outside blank 0 ws ∙ rw (e, le-ltb 16 (length ws) b) refl

pub take_long : (h : Holds) (ws : List ℕ) → 16 < length ws → (a : Refusal) → a ≡ cond (any (bad h ws) ws) BadArgument TooManyFds → taken_as (Err a) h ≡ take_of h ws
take_long h ws b a e = rw (e, lt-ltb 16 (length ws) b) (go (any (bad h ws) ws))
  where
    go : (t : Bool) → taken_as (Err (cond t BadArgument TooManyFds)) h ≡ cond t (taken_as (Err BadArgument) h) (taken_as (Err TooManyFds) h)
    go true = refl
    go false = refl

pub take_long_list : (h : Holds) (ws : List ℕ) → 16 < length ws → (a : Refusal) → a ≡ cond (any (bad h ws) ws) BadArgument TooManyFds → Err a ≡ (take_of h ws).list
take_long_list h ws b a e = ap (λ (t : Taken). t.list) (take_long h ws b a e)

-- what the first i words leave of the outside counts
abbrev pub left_of : Holds → List ℕ → ℕ → List ℕ
left_of h ws i = less_all h.outside (take i ws)

left_more : (h : Holds) (ws : List ℕ) (i : ℕ) → i < length ws → left_of h ws (i + 1) ≡ less (left_of h ws i) (get_or ws i 0)
left_more h ws i b = rw (add-one i) (ap (less_all h.outside) (take-suc ws i 0 b) ∙ sym (less_all_then (take i ws) (get_or ws i 0 ∷ []) h.outside))

-- the loop's turns
module _ (h : Holds) (at : List Description) (i : ℕ) (ws : List ℕ) (W : Taken) (w : take_on h (left_of h ws i) at i (drop i ws) ≡ W) where
  module _ (b : i < length ws) where
    next : take_on h (left_of h ws i) at i (get_or ws i 0 ∷ drop (i + 1) ws) ≡ W
    next =
        let e : drop i ws ≡ get_or ws i 0 ∷ drop (i + 1) ws = rw (add-one i) (drop-cons ws i 0 b) in
        ap (λ (ds : List ℕ). take_on h (left_of h ws i) at i ds) (sym e) ∙ w

    turn : (t : Bool) → unheld h.holds (left_of h ws i) (get_or ws i 0) ≡ t →
        cond t (taken_as (Err BadArgument) h) (take_on h (less (left_of h ws i) (get_or ws i 0)) (set at i (desc (get_or ws i 0))) (suc i) (drop (i + 1) ws)) ≡ W
    turn t s = rw (← s) next

    pub take_bad : unheld h.holds (left_of h ws i) (get_or ws i 0) ≡ true → taken_as (Err BadArgument) h ≡ W
    take_bad s = turn true s

    pub take_more : (e : Description) → (unheld h.holds (left_of h ws i) (get_or ws i 0) ≡ false) × (e ≡ desc (get_or ws i 0)) → take_on h (left_of h ws (i + 1)) (set at i e) (i + 1) (drop (i + 1) ws) ≡ W
    take_more e s =
        rw (left_more h ws i b, s.1) (ap (λ (n : ℕ). take_on h (less (left_of h ws i) (get_or ws i 0)) (set at i (desc (get_or ws i 0))) n (drop (i + 1) ws)) (add-one i)
        ∙ turn false s.0)

  pub take_end : length ws ≤ i → full h (left_of h ws i) at i ≡ W
  take_end b = ap (λ (ds : List ℕ). take_on h (left_of h ws i) at i ds) (sym (drop_of_length-le ws b)) ∙ w
