-- A description past the end takes no hold. Assumes nothing.
use Prim.Native.Nat.{ℕ, ◌≤◌}
use mathlib.Core.Path.{◌≡◌, sym}
use mathlib.Core.List.{List}
use lib.ListN.{length}
use lib.Seq.{set_out}
use Rattle.counts.specs.Counts.{more}

pub more_out : (a : List ℕ) (i d : ℕ) → i ≡ d → length a ≤ i → a ≡ more a d
more_out a i d e h = sym (set_out a d _ (rw (← e) h))
