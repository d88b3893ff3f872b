-- What `plan::respond` leaves open. Assumes nothing.
use mathlib.Core.Path.{refl, sym, ◌∙◌}
use Rattle.handles.specs.Handles.{held_at}
use Rattle.slot.specs.declared.Phase.TheVariants.{Vacant, Placeholder, Responded, Fmap}
use Rattle.plan.proofs.Laws.{in_phase}
use Rattle.plan.proofs.respond.Goals as goal

pub returns-in-Vacant-clause-plans : goal.returns-in-Vacant-clause-plans
returns-in-Vacant-clause-plans c = let a = c.args in in_phase a.v a.tag a.offer c.refused.result Vacant (sym c.phase_of.ensures ∙ c.in-Vacant.is) (λ h n. c.refused.ensures.plans 0 (held_at n 0) h n refl)

pub returns-in-Placeholder-clause-plans : goal.returns-in-Placeholder-clause-plans
returns-in-Placeholder-clause-plans c = let a = c.args in in_phase a.v a.tag a.offer c.refused-in-Placeholder.result Placeholder (sym c.phase_of.ensures ∙ c.in-Placeholder.is) (λ h n. c.refused-in-Placeholder.ensures.plans 0 (held_at n 0) h n refl)

pub returns-in-Responded-clause-plans : goal.returns-in-Responded-clause-plans
returns-in-Responded-clause-plans c = let a = c.args in in_phase a.v a.tag a.offer c.refused-in-Responded.result Responded (sym c.phase_of.ensures ∙ c.in-Responded.is) (λ h n. c.refused-in-Responded.ensures.plans 0 (held_at n 0) h n refl)

pub returns-in-Fmap-clause-plans : goal.returns-in-Fmap-clause-plans
returns-in-Fmap-clause-plans c = let a = c.args in in_phase a.v a.tag a.offer c.refused-in-Fmap.result Fmap (sym c.phase_of.ensures ∙ c.in-Fmap.is) (λ h n. c.refused-in-Fmap.ensures.plans 0 (held_at n 0) h n refl)
