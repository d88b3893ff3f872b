-- What `tilgurap::tilgurap_detach` leaves open. Assumes nothing.
use Rattle.tilgurap.proofs.tilgurap_detach.Goals as goal

pub returns : goal.returns
returns c = c.step_words.ensures _ _ _ c.detach.ensures
