-- What `hold_words::listed` leaves open. Assumes nothing.
use mathlib.Core.Path.{◌∙◌}
use Rattle.holds.specs.Holds.{holds_with}
use Rattle.take_holds.specs.Take.{take_of, listed_of}
use Rattle.hold_words.proofs.Parts.{all_lent, outside_lent}
use Rattle.hold_words.proofs.listed.Goals as goal

pub returns : goal.returns
returns c = let a = c.args in c.listed.ensures ∙ λ i. listed_of (take_of (holds_with (all_lent a.s.now i) (outside_lent a.s.now i)) a.fds.now).list
