-- The loop of `take_holds::listed`.
use Rattle.std.specs.Prelude.{◌≡◌, length, drop}
use Rattle.holds.specs.Holds.{holds_with}
use Rattle.take_holds.specs.Take.{take_of}
use Rattle.take_holds.proofs.Walk.{take_on, left_of}
use Rattle.take_holds.proofs.listed.Given as goal

abbrev pub invariant-loop-i : goal.invariant-loop-i
invariant-loop-i l = let h = holds_with l.all l.outside in (length l.at ≡ 16) × (take_on h (left_of h l.words l.i) l.at l.i (drop l.i l.words) ≡ take_of h l.words)
