-- What `tilgurap::tilgurap_drop` leaves open. Assumes nothing.
use Rattle.tilgurap.proofs.tilgurap_drop.Goals as goal

pub returns : goal.returns
returns c = c.step_words.ensures _ _ _ c.drop.ensures
