-- What `call_fd::moved` leaves open. Assumes nothing.
use Rattle.answer.specs.declared.Accepted.TheVariants.{Descriptions}
use Rattle.events.specs.Outcome.{no}
use Rattle.step.proofs.Rows.{told}
use Rattle.events.specs.Entry.{is_vacant, is_waiting}
use mathlib.Core.List.{[]}
use mathlib.Core.Path.{refl, sym, ap, ◌∙◌}
use Rattle.call_fd.proofs.Cases.{other_phase, move_vacant, move_other, moved_in}
use Rattle.call_fd.proofs.moved.Goals as goal

pub returns-in-Vacant : goal.returns-in-Vacant
returns-in-Vacant c = let a = c.args in λ ds g n. move_vacant a.s.now a.metadata.now ds a.list g _ _ c.request_slot-n.ensures c.load-v.ensures _ c.take.ensures (sym c.phase_of.ensures ∙ c.in-Vacant.is) _ (no 22) [] c.discard.ensures refl refl

pub returns-in-Waiting : goal.returns-in-Waiting
returns-in-Waiting c = let a = c.args in λ ds g n. moved_in a.s.now a.metadata.now ds a.list g _ _ c.request_slot-n.ensures c.load-v.ensures _ c.take.ensures (sym c.phase_of.ensures ∙ c.in-Waiting.is) _ _ _ _ _ _ n c.with_fds-w.ensures c.discard-in-Waiting.ensures c.put.ensures (told _ (Descriptions a.count) c.answered.ensures.answer_value) c.answered.ensures.effect_value

pub returns-in_default : goal.returns-in_default
returns-in_default c = let a = c.args in let o = other_phase c.phase_of.result c.in_default.not-Vacant c.in_default.not-Waiting in λ ds g n. move_other a.s.now a.metadata.now ds a.list g _ _ c.request_slot-n.ensures c.load-v.ensures _ c.take.ensures (ap is_vacant (sym c.phase_of.ensures) ∙ o.0) (ap is_waiting (sym c.phase_of.ensures) ∙ o.1) _ (no 2) [] c.discard-in_default.ensures refl refl
