-- A list that is taken names no description more often than it has outside holds. Assumes nothing.
use Prim.Native.Nat.{ℕ, ◌≤◌, ◌<◌}
use mathlib.Core.Path.{◌≡◌, refl, sym, ap, ◌∙◌}
use mathlib.Core.Bool.{Bool, true, false, ◌||◌}
use mathlib.Core.List.{List, [], ◌∷◌}
use native.Mathlib.Omega.{arith}
use native.Mathlib.Decide.{ℕ_discrete, dec_lt}
use lib.Dec.{ltb, eqb}
use lib.ListN.{get_or}
use borrow.Author.Tests.{ne_eqb, ltb-false}
use Rattle.counts.specs.Counts.{times, any}
use Rattle.take_holds.specs.Take.{bad_in}

any_at : (p : ℕ → Bool) (d : ℕ) (ds : List ℕ) → any p ds ≡ false → 0 < times d ds → p d ≡ false
any_at p d [] e b = absurd (omega arith)
any_at p d (x ∷ ds) e b = go (any_at p d ds) (p x) refl e (ℕ_discrete x d)
  where
    go : (any p ds ≡ false → 0 < times d ds → p d ≡ false) → (t : Bool) → p x ≡ t → t || any p ds ≡ false → Dec (x ≡ d) → p d ≡ false
    go f true q e g = absurd (let z : ◌≡◌ {A = ℕ} 0 1 = cc in omega arith)
    go f false q e (yes g) = sym (ap p g) ∙ q
    go f false q e (no g) = f e (rw (ne_eqb x d g) at b)

or_parts : (x y z : Bool) → x || (y || z) ≡ false → z ≡ false
or_parts true y z e = absurd (let z : ◌≡◌ {A = ℕ} 0 1 = cc in omega arith)
or_parts false true z e = absurd (let z : ◌≡◌ {A = ℕ} 0 1 = cc in omega arith)
or_parts false false z e = e

pub accepted : (all out ds : List ℕ) → any (bad_in all out ds) ds ≡ false → (d : ℕ) → times d ds ≤ get_or out d 0
accepted all out ds e d = go (dec_lt 0 (times d ds))
  where
    go : Dec (0 < times d ds) → times d ds ≤ get_or out d 0
    go (no p) = omega arith
    go (yes p) = ltb-false (get_or out d 0) (times d ds) (or_parts (ltb 63 d) (eqb (get_or all d 0) 0) _ (any_at (bad_in all out ds) d ds e p))
