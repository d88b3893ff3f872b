-- What `hold_words::look` leaves open. Assumes nothing.
use Rattle.hold_words.proofs.Parts.{all_lent, outside_lent, looked}
use Rattle.hold_words.proofs.look.Goals as goal

pub returns : goal.returns
returns c = let a = c.args in looked a.s.now a.fds.now _ _ _ (all_lent a.s.now) (outside_lent a.s.now) c.look.ensures
