-- Laws of the closes. Assumes nothing.
use Prim.Native.Nat.{ℕ, ◌*◌, ◌≤◌}
use mathlib.Core.Path.{◌≡◌, refl}
use mathlib.Core.Bool.{Bool, true, false, cond}
use mathlib.Core.List.{List, [], ◌∷◌}
use native.Mathlib.Omega.{arith}
use lib.ListN.{length}
use Rattle.counts.specs.Counts.{last, lasts}
use Rattle.counts.proofs.Laws.{lasts_length}
use Rattle.closes.specs.Closes.{only, closes}

pub closes_length : (ds : List ℕ) → length (closes ds) ≡ 3 * length ds
closes_length [] = refl
closes_length (d ∷ ds) = omega (arith, closes_length ds)

pub only_length : (b : Bool) (ds : List ℕ) → length (only b ds) ≤ length ds
only_length true ds = omega arith
only_length false ds = omega arith

-- the words of a list's closes: at most three an entry
pub closes_room : (b : Bool) (ds a : List ℕ) → length (closes (only b (lasts a ds))) ≤ 3 * length ds
closes_room b ds a = omega (arith, closes_length (only b (lasts a ds)), only_length b (lasts a ds), lasts_length ds a)

-- one drop makes one close at most
pub one_close : (t : Bool) (a : List ℕ) (d : ℕ) → length (only t (lasts a (d ∷ []))) ≤ 1
one_close t a d = go t (last a d)
  where
    go : (t b : Bool) → length (only t (cond b (d ∷ []) [])) ≤ 1
    go true true = omega arith
    go true false = omega arith
    go false true = omega arith
    go false false = omega arith
