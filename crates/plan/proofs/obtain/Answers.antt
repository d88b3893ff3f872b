-- What `plan::obtain` leaves open. Assumes nothing.
use mathlib.Core.Path.{sym, ◌∙◌}
use Rattle.plan.proofs.Laws.{obtain_vacant}
use Rattle.plan.proofs.obtain.Goals as goal

pub returns-in-Vacant-clause-plans : goal.returns-in-Vacant-clause-plans
returns-in-Vacant-clause-plans c = let a = c.args in obtain_vacant a.v a.fd a.held c.refused.result (sym c.phase_of.ensures ∙ c.in-Vacant.is) c.refused.ensures.plans
