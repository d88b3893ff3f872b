-- What a send and a receive leave unread: an entry more at the end, whole entries less at the front. Assumes nothing.
use mathlib.Core.Path.{◌≡◌, refl, sym, ap, ap₂, ◌∙◌}
use mathlib.Core.Bool.{Bool, true, false}
use mathlib.Core.Logic.{◌⊎◌, inl, inr, ⊎_elim}
use mathlib.Core.List.{List, [], ◌∷◌, ◌++◌, append_assoc}
use Prim.Native.Nat.{ℕ, zero, suc, ◌+◌, ◌-◌, ◌*◌, ◌/◌, ◌%◌, ◌<◌, ◌≤◌}
use native.Mathlib.Omega.{arith}
use native.Mathlib.Nat.{le_of_suc-le-suc, div-add-mod'}
use lib.Dec.{ltb}
use borrow.Author.Tests.{ltb-true, ltb-false}
use lib.ListN.{length, get_or, set, drop, length-set, length-append}
use lib.Seq.{sets, get_or-set_same, get_or-set_other, drop_at}
use Rattle.le.specs.Le.{bytes8, bytes_of}
use Rattle.schemev2.specs.declared.Sqe.{Sqe}
use Rattle.schemev2.specs.Entry.{sqe_words, sqe_bytes}
use Rattle.schemev2.proofs.RoundTrip.{sqe_words_lem}
use Rattle.wait_queue.specs.declared.WaitQueue.{WaitQueue}
use Rattle.wait_queue.specs.Queue.{word_at, words_from, unread, place_of, removed}

-- a run of stores: what stands outside it and in it
pub get_or_sets_before : (vs l : List ℕ) (k j : ℕ) → j < k → get_or (sets l k vs) j 0 ≡ get_or l j 0
get_or_sets_before [] l k j h = refl
get_or_sets_before (v ∷ vs) l k j h =
    get_or_sets_before vs (set l k v) (suc k) j (omega arith) ∙ get_or-set_other l k j v 0 (λ (e : j ≡ k). omega arith)

pub get_or_sets_after : (vs l : List ℕ) (k j : ℕ) → k + length vs ≤ j → get_or (sets l k vs) j 0 ≡ get_or l j 0
get_or_sets_after [] l k j h = refl
get_or_sets_after (v ∷ vs) l k j h =
    get_or_sets_after vs (set l k v) (suc k) j (omega (arith, h)) ∙ get_or-set_other l k j v 0 (λ (e : j ≡ k). omega (arith, h))

pub get_or_sets_in : (vs l : List ℕ) (k i : ℕ) → i < length vs → k + length vs ≤ length l → get_or (sets l k vs) (k + i) 0 ≡ get_or vs i 0
get_or_sets_in [] l k i h g = absurd (omega (arith, h))
get_or_sets_in (v ∷ vs) l k zero h g =
    ap (λ (j : ℕ). get_or (sets (set l k v) (suc k) vs) j 0) here ∙ get_or_sets_before vs (set l k v) (suc k) k (omega arith) ∙ get_or-set_same l k v 0 (omega (arith, g))
  where
    here : k + 0 ≡ k
    here = omega arith
get_or_sets_in (v ∷ vs) l k (suc i) h g =
    ap (λ (j : ℕ). get_or (sets (set l k v) (suc k) vs) j 0) there
    ∙ get_or_sets_in vs (set l k v) (suc k) i (le_of_suc-le-suc h) (omega (arith, g, length-set l k v))
  where
    there : k + suc i ≡ suc k + i
    there = omega arith

-- words cut in two, and their bytes
pub words_split : (q : WaitQueue) (ws : List ℕ) (a b i : ℕ) → words_from q ws i (a + b) ≡ words_from q ws i a ++ words_from q ws (i + a) b
unfolding words_from
words_split q ws zero b i = ap₂ (words_from q ws) start count
  where
    start : i ≡ i + 0
    start = omega arith

    count : 0 + b ≡ b
    count = omega arith
words_split q ws (suc a) b i =
    ap (words_from q ws i) count ∙ ap (λ (r : List ℕ). word_at q ws i ∷ r) (words_split q ws a b (suc i) ∙ ap (λ (j : ℕ). words_from q ws (suc i) a ++ words_from q ws j b) next)
  where
    count : suc a + b ≡ suc (a + b)
    count = omega arith

    next : suc i + a ≡ i + suc a
    next = omega arith

pub bytes_append : (a b : List ℕ) → bytes_of (a ++ b) ≡ bytes_of a ++ bytes_of b
bytes_append [] b = refl
bytes_append (w ∷ a) b = ap (λ (r : List ℕ). bytes8 w ++ r) (bytes_append a b) ∙ sym (append_assoc (bytes8 w) (bytes_of a) (bytes_of b))

pub length_bytes : (a : List ℕ) → length (bytes_of a) ≡ length a * 8
length_bytes [] = refl
length_bytes (w ∷ a) = omega (arith, length_bytes a, length-append (bytes8 w) (bytes_of a))

pub length_words : (q : WaitQueue) (ws : List ℕ) (n i : ℕ) → length (words_from q ws i n) ≡ n
unfolding words_from
length_words q ws zero i = refl
length_words q ws (suc n) i = ap suc (length_words q ws n (suc i))

-- two runs of words agree where each word does
words_agree :
    (q r : WaitQueue) (ws vs : List ℕ) (n i j : ℕ)
    → ((k : ℕ) → k < n → word_at q ws (i + k) ≡ word_at r vs (j + k))
    → words_from q ws i n ≡ words_from r vs j n
unfolding words_from
words_agree q r ws vs zero i j f = refl
words_agree q r ws vs (suc n) i j f =
    ap₂ (λ (w : ℕ) (l : List ℕ). w ∷ l) (ap (word_at q ws) (plain i) ∙ f 0 (omega arith) ∙ ap (word_at r vs) (sym (plain j)))
    (words_agree q r ws vs n (suc i) (suc j)
    (λ (k : ℕ) (h : k < n). ap (word_at q ws) (shift i k) ∙ f (suc k) (omega arith) ∙ ap (word_at r vs) (sym (shift j k))))
  where
    plain : (x : ℕ) → x ≡ x + 0
    plain x = omega arith

    shift : (x k : ℕ) → suc x + k ≡ x + suc k
    shift x k = omega arith

-- places in the ring
mod_shift : (f k i : ℕ) → ((f + k) % 128 * 8 + i) % 1024 ≡ (f * 8 + (k * 8 + i)) % 1024
mod_shift f k i = go (f + k) (f * 8 + (k * 8 + i)) (omega arith)
  where
    go : (a x : ℕ) → x ≡ a * 8 + i → (a % 128 * 8 + i) % 1024 ≡ x % 1024
    go a x e = omega (arith, e, div-add-mod' a 128)

place_is : (f n j : ℕ) → j < 8 → (f * 8 + (n * 8 + j)) % 1024 ≡ (f + n) % 128 * 8 + j
place_is f n j h = sym (mod_shift f n j) ∙ small ((f + n) % 128) (omega arith)
  where
    small : (r : ℕ) → r < 128 → (r * 8 + j) % 1024 ≡ r * 8 + j
    small r g = omega arith

-- whole entries removed
pub unread_removed : (q : WaitQueue) (ws : List ℕ) (k : ℕ) → k ≤ q.len → unread (removed q k) ws ≡ drop (k * 64) (unread q ws)
unread_removed q ws k h =
    ap bytes_of
    (words_agree (removed q k) q ws ws ((q.len - k) * 8) 0 (k * 8)
    (λ (i : ℕ) (g : i < (q.len - k) * 8). ap (λ (p : ℕ). get_or ws p 0) (ap (λ (x : ℕ). ((q.first + k) % 128 * 8 + x) % 1024) (plain i) ∙ mod_shift q.first k i)))
    ∙ sym
    (ap (λ (n : ℕ). drop (k * 64) (bytes_of (words_from q ws 0 n))) cut
    ∙ ap (λ (l : List ℕ). drop (k * 64) (bytes_of l)) (words_split q ws (k * 8) ((q.len - k) * 8) 0)
    ∙ ap (drop (k * 64)) (bytes_append (words_from q ws 0 (k * 8)) (words_from q ws (0 + k * 8) ((q.len - k) * 8)))
    ∙ drop_at (bytes_of (words_from q ws 0 (k * 8))) (bytes_of (words_from q ws (0 + k * 8) ((q.len - k) * 8))) (k * 64)
    (omega (arith, length_bytes (words_from q ws 0 (k * 8)), length_words q ws (k * 8) 0))
    ∙ ap (λ (n : ℕ). bytes_of (words_from q ws n ((q.len - k) * 8))) zero_plus)
  where
    plain : (x : ℕ) → 0 + x ≡ x
    plain x = omega arith

    zero_plus : 0 + k * 8 ≡ k * 8
    zero_plus = omega arith

    cut : q.len * 8 ≡ k * 8 + (q.len - k) * 8
    cut = omega arith

-- two entries of a ring that is not full stand apart
differ : (f n m : ℕ) → n < m → m < n + 128 → (f + n) % 128 ≡ (f + m) % 128 → ⊥
differ f n m h g e = omega (arith, div-add-mod' (f + n) 128, div-add-mod' (f + m) 128)

stands : (f n m j : ℕ) → n < m → m < n + 128 → j < 8 → ((f + n) % 128 * 8 + j < (f + m) % 128 * 8) ⊎ ((f + m) % 128 * 8 + 8 ≤ (f + n) % 128 * 8 + j)
stands f n m j h g u = go ((f + n) % 128) ((f + m) % 128) (differ f n m h g)
  where
    go : (a b : ℕ) → (a ≡ b → ⊥) → (a * 8 + j < b * 8) ⊎ (b * 8 + 8 ≤ a * 8 + j)
    go a b ne = by (ltb a b) refl
      where
        by : (t : Bool) → ltb a b ≡ t → (a * 8 + j < b * 8) ⊎ (b * 8 + 8 ≤ a * 8 + j)
        by true e = inl (omega (arith, ltb-true a b e))
        by false e = inr (omega (arith, ltb-false a b e, ne))

pub words_are :
    (q : WaitQueue) (ws vs : List ℕ) (i : ℕ) → ((k : ℕ) → k < length vs → word_at q ws (i + k) ≡ get_or vs k 0) → words_from q ws i (length vs) ≡ vs
unfolding words_from
words_are q ws [] i f = refl
words_are q ws (v ∷ vs) i f =
    ap₂ (λ (w : ℕ) (l : List ℕ). w ∷ l) (ap (word_at q ws) plain ∙ f 0 (omega arith))
    (words_are q ws vs (suc i) (λ (k : ℕ) (h : k < length vs). ap (word_at q ws) (shift k) ∙ f (suc k) (omega arith)))
  where
    plain : i ≡ i + 0
    plain = omega arith

    shift : (k : ℕ) → suc i + k ≡ i + suc k
    shift k = omega arith

-- one entry more
module _ (q : WaitQueue) (ws : List ℕ) (e : Sqe) (room : q.len < 128) (size : length ws ≡ 1024) where
  abbrev pub stored : List ℕ
  stored = sets ws (place_of q) (sqe_words e)

  abbrev pub longer : WaitQueue
  longer = record { first = q.first; len = q.len + 1 }

  old : (i : ℕ) → i < q.len * 8 → word_at longer stored i ≡ word_at q ws i
  old i h =
      ap (λ (p : ℕ). get_or stored p 0) split
      ∙ ⊎_elim (get_or_sets_before (sqe_words e) ws (place_of q) ((q.first + i / 8) % 128 * 8 + i % 8))
      (get_or_sets_after (sqe_words e) ws (place_of q) ((q.first + i / 8) % 128 * 8 + i % 8))
      (stands q.first (i / 8) q.len (i % 8) (omega arith) (omega arith) (omega arith))
      ∙ sym (ap (λ (p : ℕ). get_or ws p 0) split)
    where
      split : (q.first * 8 + i) % 1024 ≡ (q.first + i / 8) % 128 * 8 + i % 8
      split = ap (λ (x : ℕ). (q.first * 8 + x) % 1024) (sym (div-add-mod' i 8)) ∙ place_is q.first (i / 8) (i % 8) (omega arith)

  new : (k : ℕ) → k < 8 → word_at longer stored (q.len * 8 + k) ≡ get_or (sqe_words e) k 0
  new k h =
      ap (λ (p : ℕ). get_or stored p 0) (place_is q.first q.len k h)
      ∙ get_or_sets_in (sqe_words e) ws (place_of q) k h (omega (arith, size))

  -- whatever its numbers, its eight words come after all others
  pub unread_more : unread longer stored ≡ unread q ws ++ bytes_of (sqe_words e)
  unread_more =
      ap (λ (n : ℕ). bytes_of (words_from longer stored 0 n)) more
      ∙ ap bytes_of (words_split longer stored (q.len * 8) 8 0)
      ∙ bytes_append (words_from longer stored 0 (q.len * 8)) (words_from longer stored (0 + q.len * 8) 8)
      ∙ ap₂ (λ (a b : List ℕ). bytes_of a ++ b)
      (words_agree longer q stored ws (q.len * 8) 0 0 (λ (k : ℕ) (h : k < q.len * 8). ap (word_at longer stored) (plain k) ∙ old k h ∙ ap (word_at q ws) (sym (plain k))))
      (ap bytes_of (words_are longer stored (sqe_words e) (0 + q.len * 8) (λ (k : ℕ) (h : k < 8). ap (λ (p : ℕ). word_at longer stored (p + k)) (plain (q.len * 8)) ∙ new k h)))
    where
      plain : (x : ℕ) → 0 + x ≡ x
      plain x = omega arith

      more : (q.len + 1) * 8 ≡ q.len * 8 + 8
      more = omega arith

  pub unread_sent : e.opcode < 256 → e.sqe_flags < 256 → e.tag < 0x1_0000_0000 → unread longer stored ≡ unread q ws ++ sqe_bytes e
  unread_sent o f t = unread_more ∙ ap (λ (b : List ℕ). unread q ws ++ b) (sqe_words_lem e o f t)
