-- What `record::head_at` leaves open. Assumes nothing.
use mathlib.Core.Path.{◌∙◌}
use Rattle.record.proofs.Front.{head_front}
use Rattle.record.proofs.head_at.Goals as goal

pub returns-then-s-ge16 : goal.returns-then-s-ge16
returns-then-s-ge16 c = c.head.ensures ∙ head_front c.args.s.now
