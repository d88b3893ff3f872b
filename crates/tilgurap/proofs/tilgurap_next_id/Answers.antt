-- What `tilgurap::tilgurap_next_id` leaves open. Assumes nothing.
use Rattle.tilgurap.proofs.tilgurap_next_id.Goals as goal

pub returns : goal.returns
returns c = c.step_words.ensures _ _ _ c.next_id.ensures
