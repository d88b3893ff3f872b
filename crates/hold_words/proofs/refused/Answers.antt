-- What `hold_words::refused` leaves open. Assumes nothing.
use mathlib.Core.Path.{◌∙◌}
use Rattle.holds.specs.Holds.{holds_with}
use Rattle.take_holds.specs.Take.{refusal_of}
use Rattle.hold_words.proofs.Parts.{all_lent, outside_lent}
use Rattle.hold_words.proofs.refused.Goals as goal

pub returns : goal.returns
returns c = let a = c.args in c.refused.ensures ∙ λ i. refusal_of (holds_with (all_lent a.s.now i) (outside_lent a.s.now i)) a.fds.now
