-- What `tilgurap::tilgurap_call_fdwrite` leaves open. Assumes nothing.
use Rattle.tilgurap.proofs.tilgurap_call_fdwrite.Goals as goal

pub returns : goal.returns
returns c = c.step_words.ensures _ _ _ c.call_fdwrite.ensures
