-- What `outcome_bytes::put_effect` leaves open. Assumes nothing.
use Rattle.outcome_bytes.proofs.Laws.{one_effect}
use Rattle.outcome_bytes.proofs.put_effect.Goals as goal

pub returns-in-Some-clause-out_after : goal.returns-in-Some-clause-out_after
returns-in-Some-clause-out_after c = let a = c.args in (one_effect a.e _ c.in-Some.is _ c.words-w.ensures.value a.out.now _ _ a.at c.put_two.ensures c.put_two-in-Some.ensures).0
