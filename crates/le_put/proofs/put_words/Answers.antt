-- Nothing is stored past the end.
use Rattle.std.proofs.Common.{arith}
use Rattle.le.specs.Le.{bytes_of}
use Rattle.word_put.proofs.Stores.{sets_past}
use Rattle.le_put.proofs.put_words.Goals as goal

pub returns-then-out-at : goal.returns-then-out-at
returns-then-out-at c = sets_past (bytes_of c.args.ws.now) c.args.out.now c.args.at (omega arith)
