-- What `tilgurap::tilgurap_call` leaves open. Assumes nothing.
use Rattle.tilgurap.proofs.tilgurap_call.Goals as goal

pub returns : goal.returns
returns c = c.step_words.ensures _ _ _ c.call.ensures
