-- A list as the descriptions and the numbers that it names. Assumes nothing.
use Prim.Native.Nat.{ℕ, ◌+◌, ◌-◌, ◌≤◌, min}
use mathlib.Core.Path.{◌≡◌, refl, sym, ap, ap₂, ◌∙◌}
use mathlib.Core.List.{List, [], ◌∷◌, ◌++◌, map}
use native.Mathlib.Omega.{arith}
use lib.ListN.{get_or, length, take, drop, length-map, length-take, length-drop, get_or-map}
use lib.Seq.{sets, length-sets, sets-eq, take_at}
use Rattle.std.proofs.lemmas.List.{take_all, drop_min, drop-map}
use Rattle.ids.specs.declared.Description.{Description}
use Rattle.fd_list.specs.declared.List.{List as Sent}
use Rattle.fd_list.specs.Lists.{desc, num, named, numbers, blank, list_of, without_of}

pub length_mapped : (X Y : Type 0) (f : X → Y) (l : List X) (n : ℕ) → length (map f l) ≡ n → length l ≡ n
length_mapped X Y f l n p = sym (length-map l f) ∙ p

pub numbers_length : (l : Sent) → length (numbers l) ≡ min l.len (length l.at)
numbers_length l = length-map (named l) num ∙ length-take l.len l.at

pub numbers_most : (l : Sent) → length l.at ≡ 16 → length (numbers l) ≤ 16
numbers_most l e = omega (arith, numbers_length l, e)

-- what `pick` gives is what stands in the numbers
pub picked : (l : Sent) (i : ℕ) (d : Description) → d ≡ get_or (named l) i (desc 0) → d.0 ≡ get_or (numbers l) i 0
picked l i d q = ap num q ∙ sym (get_or-map num (named l) i (desc 0))

-- the numbers of a list made of at most 16 numbers are those numbers
num_desc : (ds : List ℕ) → map num (map desc ds) ≡ ds
num_desc [] = refl
num_desc (d ∷ ds) = ap (λ (x : List ℕ). d ∷ x) (num_desc ds)

pub list_of_length : (ds : List ℕ) → length (list_of ds).at ≡ 16
list_of_length ds = length-sets blank 0 (map desc ds)

pub numbers_list_of : (ds : List ℕ) → length ds ≤ 16 → numbers (list_of ds) ≡ ds
numbers_list_of ds b =
    let m : length (map desc ds) ≡ length ds = length-map ds desc in
    let n : length blank ≡ 16 = refl in
    ap (λ (x : List Description). map num (take (length ds) x)) (sets-eq (map desc ds) blank 0 (omega (arith, m, n)))
    ∙ (ap (map num) (take_at (map desc ds) (drop (0 + length (map desc ds)) blank) (length ds) m) ∙ num_desc ds)

-- a list of some descriptions, at most 16, is the list of their numbers
desc_num : (ds : List Description) → map desc (map num ds) ≡ ds
desc_num [] = refl
desc_num (d ∷ ds) = ap (λ (x : List Description). d ∷ x) (desc_num ds)

made_of : (ds : List Description) → length ds ≤ 16 → record { at = ds ++ drop (length ds) blank; len = length ds } ≡ list_of (map num ds)
made_of ds b =
    let n : length blank ≡ 16 = refl in
    let z : length ds ≡ 0 + length ds = omega arith in
    let at : ds ++ drop (length ds) blank ≡ (list_of (map num ds)).at =
    ap (λ (j : ℕ). ds ++ drop j blank) z ∙ sym (sets-eq ds blank 0 (omega (arith, b, n))) ∙ ap (sets blank 0) (sym (desc_num ds)) in
    ap₂ (λ (x : List Description) (k : ℕ). let r : Sent = record { at = x; len = k } in r) at (sym (length-map ds num))

-- a list without its first k: its names from the least of k and their number on
pub without_made :
    (l : Sent) (k f : ℕ) (ns : List Description) → ns ≡ named l → length ns ≤ 16 → f ≡ min k (length ns)
    → (xs : List Description) → xs ≡ take (length ns - f) (drop f ns) → record { at = xs ++ drop (length (take (length ns - f) (drop f ns))) blank; len = length (take (length ns - f) (drop f ns)) } ≡ without_of l k
without_made l k f ns is most e xs same =
    let all : take (length ns - f) (drop f ns) ≡ drop f ns = take_all (length ns - f) (drop f ns) (omega (arith, length-drop f ns)) in
    let left : drop f ns ≡ drop k (named l) = ap (λ (j : ℕ). drop j ns) e ∙ drop_min k ns ∙ ap (drop k) is in
    let short : length (drop f ns) ≤ 16 = omega (arith, most, length-drop f ns) in
    ap₂ (λ (x y : List Description). let r : Sent = record { at = x ++ drop (length y) blank; len = length y } in r) (same ∙ all) all
    ∙ made_of (drop f ns) short
    ∙ ap (λ (x : List Description). list_of (map num x)) left
    ∙ ap list_of (sym (drop-map num k (named l)))
