-- Nothing is stored past the end.
use Rattle.std.proofs.Common.{arith}
use Rattle.word_put.proofs.Stores.{sets_past}
use Rattle.le_put.proofs.put_bytes.Goals as goal

pub returns-then-out-at : goal.returns-then-out-at
returns-then-out-at c = sets_past c.args.bytes.now c.args.out.now c.args.at (omega arith)
