-- What `tilgurap::tilgurap_kfdwrite` leaves open. Assumes nothing.
use Rattle.tilgurap.proofs.tilgurap_kfdwrite.Goals as goal

pub returns : goal.returns
returns c = c.step_words.ensures _ _ _ c.kfdwrite.ensures
