-- What `tilgurap::tilgurap_request_fmap` leaves open. Assumes nothing.
use Rattle.tilgurap.proofs.tilgurap_request_fmap.Goals as goal

pub returns : goal.returns
returns c = c.step_words.ensures _ _ _ c.request_fmap.ensures
