-- What `tilgurap::tilgurap_call_fdread` leaves open. Assumes nothing.
use Rattle.tilgurap.proofs.tilgurap_call_fdread.Goals as goal

pub returns : goal.returns
returns c = c.step_words.ensures _ _ _ c.call_fdread.ensures
