-- What `tilgurap::tilgurap_translate_std_fs_call` leaves open. Assumes nothing.
use Rattle.tilgurap.proofs.tilgurap_translate_std_fs_call.Goals as goal

pub returns : goal.returns
returns c = c.step_words.ensures _ _ _ c.translate_std_fs_call.ensures
