-- What `host::copy` leaves open. Assumes nothing.
use mathlib.Core.Path.{◌≡◌, refl, ap, ◌∙◌}
use borrow.Author.Rules.{rules}
use Rattle.std.specs.Prelude.{false, Err}
use Rattle.answer.specs.declared.Accepted.TheVariants.{Done}
use Rattle.answer.specs.declared.Refusal.TheVariants.{BadArgument}
use Rattle.events.specs.Outcome.{success}
use Rattle.events.specs.Event.{host_copy}
use Rattle.step.proofs.Rows.{told, down}
use Rattle.step.proofs.Tests.{found, missed}
use Rattle.host.proofs.Cases.{copies_none, copies_full, copies}
use Rattle.host.proofs.copy.Goals as goal

pub returns-then-is_full : goal.returns-then-is_full
returns-then-is_full c = let a = c.args in copies_full a.s.now c.told-s a.description _ c.held.ensures _ (found _ _ _ _ c.ok_or.ensures.value c.in_ok-d.was) _ c.holds_of-is_full.ensures c.if-is_full.true _ _ refl refl

pub returns : goal.returns
returns c = let a = c.args in copies a.s.now c.told-s a.description _ c.held.ensures _ (found _ _ _ _ c.ok_or.ensures.value c.in_ok-d.was) _ c.holds_of-is_full.ensures c.if-is_full.false _ _ _ _ c.raise_outside.ensures c.raise.ensures (told _ Done c.answered.ensures.answer_value) c.answered.ensures.effect_value

pub returns-in_err-d : goal.returns-in_err-d
returns-in_err-d c = let a = c.args in
    let m = missed _ _ _ _ c.ok_or.ensures.value c.in_err-d.was in
    let z : c.from_residual.result ≡ Err c.in_err-d.field-0.0 = search rules in
    down a.s.now a.s.now (host_copy a.description) (success 0 0 false) _ BadArgument (z ∙ ap Err m.1) (copies_none a.s.now c.told-s a.description _ c.held.ensures m.0 _ _ refl refl)
