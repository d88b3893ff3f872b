-- A decision carried out: what holds of it accepted and of it turned down holds of what the entry does. Assumes nothing.
use Prim.Native.Nat.{ℕ}
use mathlib.Core.Bool.{Bool, true, false, cond}
use lib.Dec.{eqb}
use Rattle.events.specs.World.{World, holds_of, handles_of, slot_in}
use Rattle.events.specs.Entry.{Decision, refused_of}
use Rattle.events.specs.Complete.{Entered, accepted, rejected, after, carried}

-- a refusal at tag n that leaves w as it is
abbrev pub refused_in : World → ℕ → ℕ → Decision
refused_in w n = refused_of (slot_in w n) (holds_of w) (handles_of w)

pub carried_cases :
    (P : Entered → Type 0) (w : World) (n : ℕ) (d : Decision)
    → P (accepted d.effects (after w n d)) → P (rejected d.number d.effects (after w n d)) → P (carried w n d)
carried_cases P w n d good bad = go (eqb d.number 0)
  where
    go : (b : Bool) → P (cond b (accepted d.effects (after w n d)) (rejected d.number d.effects (after w n d)))
    go true = good
    go false = bad
