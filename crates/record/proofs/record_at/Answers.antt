-- What `record::record_at` leaves open. Assumes nothing.
use mathlib.Core.Path.{◌∙◌}
use Rattle.record.proofs.Front.{record_front}
use Rattle.record.proofs.record_at.Goals as goal

pub returns-then-s-ge88 : goal.returns-then-s-ge88
returns-then-s-ge88 c = c.fields.ensures ∙ record_front c.args.s.now
