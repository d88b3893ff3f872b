-- What is left of the slots has room in the bits that are left.
use Rattle.std.proofs.Common.{arith}
use Rattle.state_bytes.proofs.Laws.{begins, room, small}
use Rattle.state_bytes.proofs.status_word.Goals as goal

pub loop-i-init : goal.loop-i-init
loop-i-init c = begins c.args.s.now c.args.which

pub overflow_mul-w : goal.overflow_mul-w
overflow_mul-w c = omega (arith, room c.args.s.now c.args.which c.loop-i.i c.loop-i.w c.loop-i-test.true c.loop-i.invariant)

pub overflow_add-w : goal.overflow_add-w
overflow_add-w c = omega (arith, room c.args.s.now c.args.which c.loop-i.i c.loop-i.w c.loop-i-test.true c.loop-i.invariant, small c.args.s.now c.args.which c.loop-i.i c.loop-i.w c.loop-i-test.true c.loop-i.invariant _ c.load-v.result c.is_in.ensures)
