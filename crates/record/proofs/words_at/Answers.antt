-- One word more.
use Rattle.std.proofs.Common.{ℕ, ◌+◌, ◌*◌, ◌∙◌}
use Rattle.le.specs.Le.{word}
use Rattle.record.proofs.Laws.{grown}
use Rattle.record.proofs.words_at.Goals as goal

pub loop-i-preserved : goal.loop-i-preserved
loop-i-preserved c = c.put.ensures ∙ grown c.args.out.now c.loop-i.out (λ (j : ℕ). word c.args.s.now (c.args.at + 8 * j)) c.loop-i.i c.word.result c.loop-i.invariant c.word.ensures
