-- The loop of `take_holds::long`.
use Rattle.take_holds.proofs.Counted.{Counted}
use Rattle.take_holds.proofs.long.Given as goal

abbrev pub invariant-loop-d : goal.invariant-loop-d
invariant-loop-d l = Counted l.all l.outside l.words l.uncounted l.d
