-- What `plain::slots` leaves open. Assumes nothing.
use Rattle.plain.proofs.Laws.{read_end}
use Rattle.plain.proofs.slots.Goals as goal

pub returns : goal.returns
returns c = let l = c.loop-i in read_end c.args.s.now l.a l.i c.loop-i-test.false l.invariant.long l.invariant.read
