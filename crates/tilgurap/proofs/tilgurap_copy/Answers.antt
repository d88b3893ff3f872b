-- What `tilgurap::tilgurap_copy` leaves open. Assumes nothing.
use Rattle.tilgurap.proofs.tilgurap_copy.Goals as goal

pub returns : goal.returns
returns c = c.step_words.ensures _ _ _ c.copy.ensures
