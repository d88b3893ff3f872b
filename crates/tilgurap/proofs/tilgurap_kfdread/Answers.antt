-- What `tilgurap::tilgurap_kfdread` leaves open. Assumes nothing.
use Rattle.tilgurap.proofs.tilgurap_kfdread.Goals as goal

pub returns : goal.returns
returns c = c.step_words.ensures _ _ _ c.kfdread.ensures
