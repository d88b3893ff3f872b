-- What `plan::from_handle` leaves open. Assumes nothing.
use mathlib.Core.Path.{ap}
use Rattle.plan.specs.Plans.{number_by}
use Rattle.plan.proofs.Laws.{given_over, turned_out}
use Rattle.plan.proofs.from_handle.Goals as goal

pub returns-in-None-clause-plans : goal.returns-in-None-clause-plans
returns-in-None-clause-plans c = let a = c.args in λ t x e f. given_over a.v t a.fd a.word x e a.r f (ap number_by c.in-None.is)

pub returns-in-Some-clause-plans : goal.returns-in-Some-clause-plans
returns-in-Some-clause-plans c = let a = c.args in λ t x e f. turned_out a.v t a.fd a.word x e a.r f _ c.in-Some.is c.nothing.result c.nothing.ensures _ _ c.one_or_none.ensures c.is_closing.ensures
