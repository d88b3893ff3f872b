-- A status word over any test that gives 0 or 1: its room, one turn of its loop, its count of ones; and the two words that the
-- Waiting slots are parted into. Assumes nothing.
use mathlib.Core.Path.{◌≡◌, refl, sym, ap, ◌∙◌}
use mathlib.Core.Bool.{Bool, true, false, not, ◌&&◌}
use mathlib.Core.List.{List, [], ◌∷◌}
use Prim.Native.Nat.{ℕ, zero, suc, ◌+◌, ◌*◌, ◌-◌, ◌/◌, ◌%◌, ◌^◌, min, ◌≤◌, ◌<◌}
use native.Mathlib.Omega.{arith}
use native.Mathlib.Nat.{pow-suc, not-suc-le-zero, le_of_suc-le-suc}
use lib.Bits.{bit_and, and_step, or_disjoint}
use lib.Pow.{pow_mono, shr-shr}
use lib.Count.{ones, ones_in, ones_step}
use lib.ListN.{get_or, length, drop, length-drop}
use lib.Seq.{drop-cons, drop-length}
use Rattle.slot.specs.declared.Slot.{Slot}
use Rattle.status.specs.declared.Status.{Status}
use Rattle.status.specs.declared.Status.TheVariants.{Outstanding, Orphans}
use Rattle.status.specs.Status.{bit, is_abandoned, is_waiting, passes, is_in, word_of, count_of, waiting_word, Parted}

bit_le : (b : Bool) → bit b ≤ 1
bit_le true = omega arith
bit_le false = omega arith

-- the tests that the code makes
pub in_is : (s k : Status) (v : Slot) (x : ℕ) → x ≡ is_in k v → s ≡ k → x ≡ is_in s v
in_is s k v x p q = p ∙ ap (λ (j : Status). is_in j v) (sym q)

pub both_hold : (a c : Bool) → c ≡ true → bit a ≡ bit (a && c)
both_hold true c e = sym (ap bit e)
both_hold false c e = refl

pub one_fails : (a c : Bool) → c ≡ false → 0 ≡ bit (a && c)
one_fails true c e = sym (ap bit e)
one_fails false c e = refl

pub in_le : (s : Status) (v : Slot) → is_in s v ≤ 1
in_le s v = bit_le (passes s v)

module _ {A : Type 0} (f : A → ℕ) (small : (v : A) → f v ≤ 1) where
  pub word_lt : (s : List A) → word_of f s < 2 ^ length s
  word_lt [] = omega arith
  word_lt (v ∷ s) = rw (pow-suc 2 (length s)) (omega (arith, word_lt s, small v))

  ones_zero : ones 0 ≡ 0
  unfolding ones ones_in
  ones_zero = refl

  -- the count of ones is the number of slots that pass
  pub ones_count : (s : List A) → ones (word_of f s) ≡ count_of f s
  ones_count [] = ones_zero
  ones_count (v ∷ s) =
      let n = word_of f s * 2 + f v in
      let a : n % 2 ≡ f v = omega (arith, small v) in
      let b : n / 2 ≡ word_of f s = omega (arith, small v) in
      ones_step n ∙ (ap (λ (x : ℕ). x + ones (n / 2)) a ∙ (ap (λ (x : ℕ). f v + ones x) b ∙ ap (λ (x : ℕ). f v + x) (ones_count s)))

  -- bit n is that of the slot at n
  pub word_bit : (s : List A) (n : ℕ) (d : A) → n < length s → word_of f s / 2 ^ n % 2 ≡ f (get_or s n d)
  word_bit [] n d b = absurd (not-suc-le-zero b)
  word_bit (v ∷ s) zero d b = omega (arith, small v)
  word_bit (v ∷ s) (suc n) d b =
      let w = word_of f s * 2 + f v in
      let half : w / 2 ≡ word_of f s = omega (arith, small v) in
      let first : w / 2 ^ suc n ≡ w / 2 / 2 ^ n = ap (λ (k : ℕ). w / 2 ^ k) (let z : suc n ≡ 1 + n = omega arith in z) ∙ sym (shr-shr w 1 n) in
      ap (λ (x : ℕ). x % 2) (first ∙ ap (λ (x : ℕ). x / 2 ^ n) half) ∙ word_bit s n d (le_of_suc-le-suc b)

  module _ (s : List A) (size : length s ≡ 64) (i : ℕ) where
    pub word_room : 0 < i → word_of f (drop i s) < 2 ^ 63
    word_room b =
        let c = word_lt (drop i s) in
        let d : 2 ^ length (drop i s) ≤ 2 ^ 63 = pow_mono {i = length (drop i s)} {j = 63} (omega (arith, length-drop i s)) in
        omega arith

    pub word_more : (d : A) → 0 < i → i ≤ 64 → word_of f (drop i s) * 2 + f (get_or s (i - 1) d) ≡ word_of f (drop (i - 1) s)
    word_more d b c =
        let e : suc (i - 1) ≡ i = omega arith in
        sym (ap (word_of f) (drop-cons s (i - 1) d (omega arith)) ∙ ap (λ (k : ℕ). word_of f (drop k s) * 2 + f (get_or s (i - 1) d)) e)

    pub word_none : i ≡ 64 → 0 ≡ word_of f (drop i s)
    word_none e = ap (word_of f) (sym (ap (λ (k : ℕ). drop k s) (e ∙ sym size) ∙ drop-length s))

-- two tests of which one passes, and not the other, where a third does
module _ {A : Type 0} (f g both : A → ℕ) (is : (v : A) → f v + g v ≡ both v) where
  pub words_sum : (s : List A) → word_of f s + word_of g s ≡ word_of both s
  words_sum [] = refl
  words_sum (v ∷ s) = omega (arith, words_sum s, is v)

  pub counts_sum : (s : List A) → count_of f s + count_of g s ≡ count_of both s
  counts_sum [] = refl
  counts_sum (v ∷ s) = omega (arith, counts_sum s, is v)

  pub words_apart : ((v : A) → both v ≤ 1) → (s : List A) → bit_and (word_of f s) (word_of g s) ≡ 0
  words_apart one [] = refl
  words_apart one (v ∷ s) =
      let a = word_of f s in
      let b = word_of g s in
      let ha : (a * 2 + f v) / 2 ≡ a = omega (arith, is v, one v) in
      let hb : (b * 2 + g v) / 2 ≡ b = omega (arith, is v, one v) in
      let la : (a * 2 + f v) % 2 ≡ f v = omega (arith, is v, one v) in
      let lb : (b * 2 + g v) % 2 ≡ g v = omega (arith, is v, one v) in
      let none : min (f v) (g v) ≡ 0 = omega (arith, is v, one v) in
      and_step (a * 2 + f v) (b * 2 + g v) ∙ (λ i. bit_and (ha i) (hb i) * 2 + min (la i) (lb i)) ∙ omega (arith, words_apart one s, none)

side : (b c : Bool) → bit (b && not c) + bit (b && c) ≡ bit b
side true true = refl
side true false = refl
side false c = refl

abbrev waits : Slot → ℕ
waits v = bit (is_waiting v)

pub parted : (s : List Slot) → Parted s
parted s =
    record {
      count = λ k. ones_count (is_in k) (in_le k) s;
      apart = apart;
      together = or_disjoint (word_of (is_in Outstanding) s) (word_of (is_in Orphans) s) apart ∙ sum;
      sum = sum;
      total = omega (arith, ones_count (is_in Outstanding) (in_le Outstanding) s, ones_count (is_in Orphans) (in_le Orphans) s, ones_count waits waits_le s, counts_sum (is_in Outstanding) (is_in Orphans) waits is s);
    }
  where
    waits_le : (v : Slot) → waits v ≤ 1
    waits_le v = bit_le (is_waiting v)

    is : (v : Slot) → is_in Outstanding v + is_in Orphans v ≡ waits v
    is v = side (is_waiting v) (is_abandoned v)

    sum : word_of (is_in Outstanding) s + word_of (is_in Orphans) s ≡ waiting_word s
    sum = words_sum (is_in Outstanding) (is_in Orphans) waits is s

    apart : bit_and (word_of (is_in Outstanding) s) (word_of (is_in Orphans) s) ≡ 0
    apart = words_apart (is_in Outstanding) (is_in Orphans) waits is waits_le s
