-- What `tilgurap::tilgurap_close` leaves open. Assumes nothing.
use Rattle.tilgurap.proofs.tilgurap_close.Goals as goal

pub returns : goal.returns
returns c = c.step_words.ensures _ _ _ c.close.ensures
