-- What `tilgurap::tilgurap_put` leaves open. Assumes nothing.
use Rattle.tilgurap.proofs.tilgurap_put.Goals as goal

pub returns : goal.returns
returns c = c.step_words.ensures _ _ _ c.put.ensures
