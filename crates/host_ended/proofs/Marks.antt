-- Marks set slot after slot. Assumes nothing.
use mathlib.Core.Path.{◌≡◌, refl, sym, ap, ◌∙◌}
use mathlib.Core.List.{List, [], ◌∷◌, map}
use Prim.Native.Nat.{ℕ, zero, suc, ◌+◌, ◌<◌}
use native.Mathlib.Numerals.{add-one}
use native.Mathlib.Nat.{not-suc-le-zero, le_of_suc-le-suc}
use lib.ListN.{get_or, set, length}

-- the first n elements mapped: what a loop that stores f of each element has done
module _ {A : Type 0} (f : A → A) where
  abbrev pub map_to : ℕ → List A → List A
  map_to zero s = s
  map_to (suc n) [] = []
  map_to (suc n) (x ∷ s) = f x ∷ map_to n s

  step : (i : ℕ) (s : List A) (d : A) → i < length s → set (map_to i s) i (f (get_or (map_to i s) i d)) ≡ map_to (suc i) s
  step i [] d b = absurd (not-suc-le-zero b)
  step zero (x ∷ s) d b = refl
  step (suc i) (x ∷ s) d b = ap {B = List A} (λ r. f x ∷ r) (step i s d (le_of_suc-le-suc b))

  whole : (s : List A) → map_to (length s) s ≡ map f s
  whole [] = refl
  whole (x ∷ s) = ap {B = List A} (λ r. f x ∷ r) (whole s)

  pub more :
      (s r : List A) (i : ℕ) (d w : A) → i < length s → r ≡ map_to i s → w ≡ f (get_or r i d) → set r i w ≡ map_to (i + 1) s
  more s r i d w h e q =
      ap (set r i) q ∙ ap (λ (x : List A). set x i (f (get_or x i d))) e ∙ step i s d h ∙ ap (λ (j : ℕ). map_to j s) (sym (add-one i))

  pub all : (s r : List A) (i : ℕ) → i ≡ length s → r ≡ map_to i s → r ≡ map f s
  all s r i h e = e ∙ ap (λ (j : ℕ). map_to j s) h ∙ whole s
