-- The loops of `run::run_all`.
use Rattle.run.proofs.Going.{Going}
use lib.ListN.{length}
use mathlib.Core.Path.{◌≡◌}
use Prim.Native.Nat.{◌-◌}
use Rattle.run.proofs.run_all.Given as goal

abbrev pub invariant-loop-at : goal.invariant-loop-at
invariant-loop-at l = Going l.scheme l.events l.initial.out l.initial.fx l.end l.out l.fx l.s l.at l.j × (length l.first ≡ 255) × (length l.second ≡ 255)

abbrev pub decreases-loop-at : goal.decreases-loop-at
decreases-loop-at l = length l.events - l.at
