-- Stores before a place and behind it. Assumes nothing.
use Prim.Native.Nat.{ℕ, suc, ◌+◌, ◌-◌, ◌≤◌}
use mathlib.Core.Path.{◌≡◌, refl, sym, ap, ap₂, ◌∙◌}
use mathlib.Core.List.{List, [], ◌∷◌, ◌++◌, append-nil}
use native.Mathlib.Omega.{arith}
use lib.ListN.{length, set, take, drop, take-append-drop, length-drop, length-set, drop_of_length-le}
use lib.Seq.{sets, length-sets, length-take-le, set-append_left}
use Rattle.word_put.proofs.Stores.{sets_then, part_is}

-- stores within a front leave the rest
pub sets_front : (vs xs ys : List ℕ) (i : ℕ) → i + length vs ≤ length xs → sets (xs ++ ys) i vs ≡ sets xs i vs ++ ys
sets_front [] xs ys i h = refl
sets_front (v ∷ vs) xs ys i h =
    ap (λ (l : List ℕ). sets l (suc i) vs) (set-append_left xs ys i v (omega (arith, h))) ∙ sets_front vs (set xs i v) ys (suc i) (omega (arith, h, length-set xs i v))

-- stores behind a place
set_behind : (ps ys : List ℕ) (i a : ℕ) → set (ps ++ ys) (length ps + i) a ≡ ps ++ set ys i a
set_behind [] ys i a = ap (λ (n : ℕ). set ys n a) (let z : 0 + i ≡ i = omega arith in z)
set_behind (p ∷ ps) ys i a =
    ap (λ (n : ℕ). set (p ∷ (ps ++ ys)) n a) (let z : suc (length ps) + i ≡ suc (length ps + i) = omega arith in z) ∙ ap (λ (l : List ℕ). p ∷ l) (set_behind ps ys i a)

sets_behind : (vs ps ys : List ℕ) (i : ℕ) → sets (ps ++ ys) (length ps + i) vs ≡ ps ++ sets ys i vs
sets_behind [] ps ys i = refl
sets_behind (v ∷ vs) ps ys i =
    ap₂ (λ (l : List ℕ) (n : ℕ). sets l n vs) (set_behind ps ys i v) (let z : suc (length ps + i) ≡ length ps + suc i = omega arith in z) ∙ sets_behind vs ps (set ys i v) (suc i)

-- the part behind a place was lent, and has been stored into
pub behind : (out xs ys : List ℕ) (j : ℕ) → j ≤ length out → ys ≡ sets (take (length out - j) (drop j out)) 0 xs → take j out ++ (ys ++ drop (length out - j) (drop j out)) ≡ sets out j xs
behind out xs ys j h e =
    ap₂ (λ (a b : List ℕ). take j out ++ (a ++ b)) (e ∙ ap (λ (l : List ℕ). sets l 0 xs) (part_is out j)) (drop_of_length-le (drop j out) {i = length out - j} (omega (arith, length-drop j out)))
    ∙ ap (λ (l : List ℕ). take j out ++ l) (append-nil (sets (drop j out) 0 xs))
    ∙ sym (sets_behind xs (take j out) (drop j out) 0)
    ∙ ap₂ (λ (l : List ℕ) (n : ℕ). sets l n xs) (take-append-drop j out) (let z : length (take j out) + 0 ≡ j = omega (arith, length-take-le j out h) in z)

-- what stands behind a place was stored first, and then all that stands before it
pub before : (l m n xs ys : List ℕ) (k : ℕ) → k ≤ length l → length xs ≡ k → m ≡ take k l ++ sets (drop k l) 0 ys → n ≡ sets m 0 xs → n ≡ sets l 0 (xs ++ ys)
before l m n xs ys k h e em en =
    en
    ∙ ap (λ (x : List ℕ). sets x 0 xs) em
    ∙ sets_front xs (take k l) (sets (drop k l) 0 ys) 0 fits
    ∙ sym (sets_behind ys (sets (take k l) 0 xs) (drop k l) 0)
    ∙ ap₂ (λ (x : List ℕ) (i : ℕ). sets x i ys) (sym (sets_front xs (take k l) (drop k l) 0 fits) ∙ ap (λ (x : List ℕ). sets x 0 xs) (take-append-drop k l)) place
    ∙ sets_then xs ys l 0
  where
    fits : 0 + length xs ≤ length (take k l)
    fits = omega (arith, e, length-take-le k l h)

    place : length (sets (take k l) 0 xs) + 0 ≡ 0 + length xs
    place = omega (arith, e, length-take-le k l h, length-sets (take k l) 0 xs)
