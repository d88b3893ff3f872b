-- What `lent_bytes::put_completed` leaves open. Assumes nothing.
use Rattle.le.specs.Le.{bytes_of}
use Rattle.events.specs.Outcome.{said}
use Rattle.outcome_bytes.specs.Output.{answer_words}
use Rattle.outcome_bytes.proofs.Laws.{write_runs}
use Rattle.lent_bytes.proofs.put_completed.Goals as goal

pub returns-clause-out_after : goal.returns-clause-out_after
returns-clause-out_after c = let a = c.args in
    let p = c.put_answer-k.ensures in
    let t = write_runs a.out.now _ _ _ _ (bytes_of (answer_words (said a.a))) a.fx.now c.put_answer-k.result p.out_after p.value c.put8.ensures c.put_words.ensures c.put8-2.ensures in t.0

pub returns-clause-value : goal.returns-clause-value
returns-clause-value c = let a = c.args in
    let p = c.put_answer-k.ensures in
    let t = write_runs a.out.now _ _ _ _ (bytes_of (answer_words (said a.a))) a.fx.now c.put_answer-k.result p.out_after p.value c.put8.ensures c.put_words.ensures c.put8-2.ensures in t.1
