-- What `tilgurap::tilgurap_provide_mmap` leaves open. Assumes nothing.
use Rattle.tilgurap.proofs.tilgurap_provide_mmap.Goals as goal

pub returns : goal.returns
returns c = c.step_words.ensures _ _ _ c.provide_mmap.ensures
