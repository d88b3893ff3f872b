-- What `answer_words::wake_words` leaves open. Assumes nothing.
use Rattle.events.specs.Wake.{response_from}
use Rattle.answer_words.proofs.Laws.{told_as}
use Rattle.answer_words.proofs.wake_words.Goals as goal

pub returns : goal.returns
returns c = let a = c.args in λ ws xs e d. c.woken_words.ensures ws xs e (told_as ws xs e _ _ _ _ (c.answer_in.ensures (response_from a.r a.fds)) c.effect_in.ensures d)
