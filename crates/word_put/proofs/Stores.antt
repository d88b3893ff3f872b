-- Runs of stores, one behind the other and past the end. Assumes nothing.
use Prim.Native.Nat.{ℕ, suc, ◌+◌, ◌-◌, ◌≤◌}
use mathlib.Core.Path.{◌≡◌, refl, sym, ap, ap₂, ◌∙◌}
use mathlib.Core.List.{List, [], ◌∷◌, ◌++◌}
use native.Mathlib.Omega.{arith}
use lib.ListN.{length, set, take, drop, length-set, length-drop}
use lib.Seq.{sets, set_out, take_all}

-- nothing is stored past the end
pub sets_past : (vs l : List ℕ) (k : ℕ) → length l ≤ k → l ≡ sets l k vs
sets_past [] l k h = refl
sets_past (v ∷ vs) l k h = sym (set_out l k v h) ∙ sets_past vs (set l k v) (suc k) (omega (arith, length-set l k v))

-- what is stored, and then what follows it
pub sets_then : (xs ys l : List ℕ) (i : ℕ) → sets (sets l i xs) (i + length xs) ys ≡ sets l i (xs ++ ys)
sets_then [] ys l i = ap (λ (k : ℕ). sets l k ys) plain
  where
    plain : i + 0 ≡ i
    plain = omega arith
sets_then (x ∷ xs) ys l i = ap (λ (k : ℕ). sets (sets (set l i x) (suc i) xs) k ys) next ∙ sets_then xs ys (set l i x) (suc i)
  where
    next : i + suc (length xs) ≡ suc i + length xs
    next = omega arith

pub two_runs : (l m n xs ys : List ℕ) (i k : ℕ) → m ≡ sets l i xs → k ≡ i + length xs → n ≡ sets m k ys → n ≡ sets l i (xs ++ ys)
two_runs l m n xs ys i k em ek en = en ∙ ap₂ (λ (s : List ℕ) (j : ℕ). sets s j ys) em ek ∙ sets_then xs ys l i

pub behind : (l m n xs ys : List ℕ) (i k : ℕ) → m ≡ sets l i xs → k ≡ length xs → n ≡ sets m (i + k) ys → n ≡ sets l i (xs ++ ys)
behind l m n xs ys i k em ek en = two_runs l m n xs ys i (i + k) em (ap (λ (j : ℕ). i + j) ek) en

-- the rest of a list, as the part of it that a slice is
pub part_is : (bs : List ℕ) (k : ℕ) → take (length bs - k) (drop k bs) ≡ drop k bs
part_is bs k = take_all (length bs - k) (drop k bs) (omega (arith, length-drop k bs))
