-- What `tilgurap::tilgurap_ended` leaves open. Assumes nothing.
use Rattle.tilgurap.proofs.tilgurap_ended.Goals as goal

pub returns : goal.returns
returns c = c.step_words.ensures _ _ _ c.ended.ensures
