-- Nothing is stored past the end.
use Rattle.std.proofs.Common.{arith}
use Rattle.word_put.proofs.Stores.{sets_past}
use Rattle.word_put.proofs.put_all.Goals as goal

pub returns-then-words-at : goal.returns-then-words-at
returns-then-words-at c = sets_past c.args.xs.now c.args.words.now c.args.at (omega arith)
