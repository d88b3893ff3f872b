-- What `tilgurap::tilgurap_submit` leaves open. Assumes nothing.
use Rattle.tilgurap.proofs.tilgurap_submit.Goals as goal

pub returns : goal.returns
returns c = c.step_words.ensures _ _ _ c.submit.ensures
