-- What `plan::handle_parsed` leaves open. Assumes nothing.
use mathlib.Core.Path.{ap, ◌∙◌}
use Rattle.std.specs.Prelude.{Some}
use Rattle.plan.proofs.Laws.{asked}
use Rattle.plan.proofs.handle_parsed.Goals as goal

pub returns-in-Some-Reply-clause-plans : goal.returns-in-Some-Reply-clause-plans
returns-in-Some-Reply-clause-plans c = let a = c.args in let k = c.handle_in-fd in let w = c.wished in asked a.p a.v a.held k.result k.ensures w.result w.ensures _ (c.in-Some-Reply.is ∙ ap Some c.in-Some-Reply.field-0-is) c.reply.result (c.reply.ensures.plans a.held)

pub returns-in-None-clause-plans : goal.returns-in-None-clause-plans
returns-in-None-clause-plans c = let a = c.args in let k = c.handle_in-fd in let w = c.wished in asked a.p a.v a.held k.result k.ensures w.result w.ensures _ c.in-None.is c.refused.result (λ z. c.refused.ensures.plans k.result.0 a.held)
