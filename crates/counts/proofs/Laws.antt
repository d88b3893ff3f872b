-- Hold counts after one hold or a list of holds is taken, given or dropped, for every description at once. Assumes nothing.
use Prim.Native.Nat.{ℕ, suc, ◌+◌, ◌-◌, ◌≤◌, ◌<◌}
use mathlib.Core.Path.{◌≡◌, refl, sym, ap, ◌∙◌}
use mathlib.Core.Bool.{Bool, true, false, cond}
use mathlib.Core.List.{List, [], ◌∷◌, ◌++◌}
use native.Mathlib.Omega.{arith}
use native.Mathlib.Decide.{ℕ_discrete, dec_lt}
use lib.Dec.{eqb}
use lib.ListN.{get_or, length, length-set, get_or-eq_default}
use lib.Seq.{set_out, get_or-set_same, get_or-set_other}
use borrow.Author.Tests.{lt-ltb, eq-eqb, ne_eqb}
use Rattle.counts.specs.Counts.{less, more, upto, less_all, more_all, last, lasts, times, one}

pub times_cons : (d x : ℕ) (ds : List ℕ) → times d (x ∷ ds) ≡ one x d + times d ds
times_cons d x ds = go (eqb x d)
  where
    go : (b : Bool) → cond b (suc (times d ds)) (times d ds) ≡ cond b 1 0 + times d ds
    go true = omega arith
    go false = omega arith

pub in_range : (a : List ℕ) (d : ℕ) → 0 < get_or a d 0 → d < length a
in_range a d b = go (dec_lt d (length a))
  where
    go : Dec (d < length a) → d < length a
    go (yes p) = p
    go (no p) = absurd (omega (arith, get_or-eq_default a 0 {n = d} (omega arith)))

pub less_at : (a : List ℕ) (x d : ℕ) → get_or (less a x) d 0 ≡ get_or a d 0 - one x d
less_at a x d = go (ℕ_discrete d x) (dec_lt x (length a))
  where
    go : Dec (d ≡ x) → Dec (x < length a) → get_or (less a x) d 0 ≡ get_or a d 0 - one x d
    go (no q) b =
        let z : one x d ≡ 0 = rw (ne_eqb x d (λ y. q (sym y))) refl in
        omega (arith, z, get_or-set_other a x d (get_or a x 0 - 1) 0 q)
    go (yes q) (yes b) =
        let z : one x x ≡ 1 = rw (eq-eqb x x refl) refl in
        rw q (omega (arith, z, get_or-set_same a x (get_or a x 0 - 1) 0 b))
    go (yes q) (no b) =
        let z : get_or a x 0 ≡ 0 = get_or-eq_default a 0 {n = x} (omega arith) in
        rw q (ap (λ (l : List ℕ). get_or l x 0) (set_out a x (get_or a x 0 - 1) (omega arith)) ∙ omega (arith, z))

pub less_all_at : (ds a : List ℕ) (d : ℕ) → get_or (less_all a ds) d 0 ≡ get_or a d 0 - times d ds
less_all_at [] a d = omega arith
less_all_at (x ∷ ds) a d = omega (arith, less_all_at ds (less a x) d, less_at a x d, times_cons d x ds)

pub less_length : (a : List ℕ) (x : ℕ) → length (less a x) ≡ length a
less_length a x = length-set a x (get_or a x 0 - 1)

pub less_all_length : (ds a : List ℕ) → length (less_all a ds) ≡ length a
less_all_length [] a = refl
less_all_length (x ∷ ds) a = less_all_length ds (less a x) ∙ less_length a x

pub more_at : (a : List ℕ) (x d : ℕ) → x < length a → get_or a x 0 < 65535 → get_or (more a x) d 0 ≡ get_or a d 0 + one x d
more_at a x d b c = go (ℕ_discrete d x)
  where
    go : Dec (d ≡ x) → get_or (more a x) d 0 ≡ get_or a d 0 + one x d
    go (no q) =
        let z : one x d ≡ 0 = rw (ne_eqb x d (λ y. q (sym y))) refl in
        omega (arith, z, get_or-set_other a x d (upto (get_or a x 0)) 0 q)
    go (yes q) =
        let z : one x x ≡ 1 = rw (eq-eqb x x refl) refl in
        let u : upto (get_or a x 0) ≡ suc (get_or a x 0) = rw (lt-ltb (get_or a x 0) 65535 c) refl in
        rw q (omega (arith, z, u, get_or-set_same a x (upto (get_or a x 0)) 0 b))

pub more_length : (a : List ℕ) (x : ℕ) → length (more a x) ≡ length a
more_length a x = length-set a x (upto (get_or a x 0))

pub more_all_length : (ds a : List ℕ) → length (more_all a ds) ≡ length a
more_all_length [] a = refl
more_all_length (x ∷ ds) a = more_all_length ds (more a x) ∙ more_length a x

pub one_self : (x : ℕ) → one x x ≡ 1
one_self x = rw (eq-eqb x x refl) refl

pub more_all_at : (ds a : List ℕ) → ((e : ℕ) → 0 < times e ds → e < length a) → ((e : ℕ) → get_or a e 0 + times e ds ≤ 65535) → (d : ℕ) → get_or (more_all a ds) d 0 ≡ get_or a d 0 + times d ds
more_all_at [] a b c d = omega arith
more_all_at (x ∷ ds) a b c d =
    let t = times_cons x x ds in
    let i : x < length a = b x (omega (arith, t, one_self x)) in
    let j : get_or a x 0 < 65535 = omega (arith, c x, t, one_self x) in
    omega (
      arith,
      times_cons d x ds,
      more_at a x d i j,
      more_all_at ds (more a x)
          (λ e p. rw (length-set a x (upto (get_or a x 0))) (b e (omega (arith, p, times_cons e x ds))))
          (λ e. omega (arith, c e, times_cons e x ds, more_at a x e i j)) d,
    )

-- of a list dropped there are no more last holds than entries
pub lasts_length : (ds a : List ℕ) → length (lasts a ds) ≤ length ds
lasts_length [] a = omega arith
lasts_length (d ∷ ds) a = go (last a d) (lasts_length ds (less a d))
  where
    go : (b : Bool) → length (lasts (less a d) ds) ≤ length ds → length (cond b (d ∷ lasts (less a d) ds) (lasts (less a d) ds)) ≤ suc (length ds)
    go true h = omega arith
    go false h = omega arith

-- a drop of two lists in turn is a drop of both
pub less_all_then : (xs ys a : List ℕ) → less_all (less_all a xs) ys ≡ less_all a (xs ++ ys)
less_all_then [] ys a = refl
less_all_then (x ∷ xs) ys a = less_all_then xs ys (less a x)

-- of D, E, D, with two holds of D and one of E, the closes are E, D
pub twice_listed : (a : List ℕ) (d e : ℕ) → (d ≡ e → ⊥) → get_or a d 0 ≡ 2 → get_or a e 0 ≡ 1 → lasts a (d ∷ (e ∷ (d ∷ []))) ≡ e ∷ (d ∷ [])
twice_listed a d e n p q =
    let s : (x : ℕ) → one x x ≡ 1 = λ x. one_self x in
    let z : one d e ≡ 0 = rw (ne_eqb d e n) refl in
    let y : one e d ≡ 0 = rw (ne_eqb e d (λ m. n (sym m))) refl in
    let f : last a d ≡ false = ne_eqb (get_or a d 0) 1 (λ m. let w : ◌≡◌ {A = ℕ} 2 1 = sym p ∙ m in omega arith) in
    let g : last (less a d) e ≡ true = eq-eqb (get_or (less a d) e 0) 1 (omega (arith, less_at a d e, q, z)) in
    let h : last (less (less a d) e) d ≡ true = eq-eqb (get_or (less (less a d) e) d 0) 1 (omega (arith, less_at (less a d) e d, less_at a d d, p, y, s d)) in
    rw (f, g, h) refl
