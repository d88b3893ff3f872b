-- What `outcome_bytes::put_answer` leaves open. Assumes nothing.
use mathlib.Core.Path.{ap, ◌∙◌}
use mathlib.Core.Bool.{false}
use lib.Seq.{sets}
use Rattle.le.specs.Le.{bytes_of}
use Rattle.events.specs.Outcome.{success, said}
use Rattle.outcome_bytes.proofs.Laws.{plain_words}
use Rattle.outcome_bytes.proofs.put_answer.Goals as goal

pub returns-clause-out_after : goal.returns-clause-out_after
returns-clause-out_after c = let a = c.args in
    c.put_two.ensures ∙ ap (λ l. sets a.out.now 0 (bytes_of l)) (plain_words _ (said a.a) (c.words-w.ensures (success 0 0 false)) c.if-w-eq4.false)
