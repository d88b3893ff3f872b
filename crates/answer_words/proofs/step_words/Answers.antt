-- What `answer_words::step_words` leaves open. Assumes nothing.
use Rattle.std.specs.Prelude.{false}
use Rattle.events.specs.Outcome.{success}
use Rattle.answer_words.proofs.Laws.{told_as}
use Rattle.answer_words.proofs.step_words.Goals as goal

pub returns : goal.returns
returns c = λ ws xs e d. c.said_words.ensures ws xs e (told_as ws xs e _ _ _ _ (c.answer_in.ensures (success 0 0 false)) c.effect_in.ensures d)
