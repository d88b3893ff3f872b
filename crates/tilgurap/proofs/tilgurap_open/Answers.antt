-- What `tilgurap::tilgurap_open` leaves open. Assumes nothing.
use Rattle.tilgurap.proofs.tilgurap_open.Goals as goal

pub returns : goal.returns
returns c = c.step_words.ensures _ _ _ c.open.ensures
