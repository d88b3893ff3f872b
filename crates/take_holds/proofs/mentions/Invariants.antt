-- The loop of `take_holds::mentions`.
use Rattle.std.specs.Prelude.{◌≡◌, ◌+◌, ◌≤◌, drop}
use Rattle.counts.specs.Counts.{times}
use Rattle.take_holds.proofs.mentions.Given as goal

abbrev pub invariant-loop-w : goal.invariant-loop-w
invariant-loop-w l = (l.n ≤ l.w-index) × (l.n + times l.word (drop l.w-index l.words) ≡ times l.word l.words)
