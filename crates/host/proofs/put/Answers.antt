-- What `host::put` leaves open. Assumes nothing.
use mathlib.Core.Path.{◌≡◌, refl, ap, ◌∙◌}
use borrow.Author.Rules.{rules}
use Rattle.std.specs.Prelude.{false, Err}
use Rattle.answer.specs.declared.Accepted.TheVariants.{Done}
use Rattle.answer.specs.declared.Refusal.TheVariants.{BadArgument}
use Rattle.events.specs.Outcome.{success}
use Rattle.events.specs.Event.{on, host_put}
use Rattle.step.proofs.Rows.{told, down}
use Rattle.step.proofs.Tests.{found, missed}
use Rattle.host.proofs.Cases.{puts_none, puts_over, puts_full, puts}
use Rattle.host.proofs.put.Goals as goal

pub returns-then-handle-gt63 : goal.returns-then-handle-gt63
returns-then-handle-gt63 c = let a = c.args in puts_over a.s.now c.told-s a.description _ c.held.ensures _ (found _ _ _ _ c.ok_or.ensures.value c.in_ok-d.was) a.handle c.if-handle-gt63.true _ _ refl refl

pub returns-then-held_at-ne0 : goal.returns-then-held_at-ne0
returns-then-held_at-ne0 c = let a = c.args in puts_full a.s.now c.told-s a.description _ c.held.ensures _ (found _ _ _ _ c.ok_or.ensures.value c.in_ok-d.was) a.handle c.if-handle-gt63.false _ c.handle_of-k.ensures _ c.held_at.ensures c.if-held_at-ne0.true _ _ refl refl

pub returns : goal.returns
returns c = let a = c.args in puts a.s.now c.told-s a.description _ c.held.ensures _ (found _ _ _ _ c.ok_or.ensures.value c.in_ok-d.was) a.handle c.if-handle-gt63.false _ c.handle_of-k.ensures _ c.held_at.ensures c.if-held_at-ne0.false _ _ _ _ c.lower_outside.ensures c.put_into.ensures (told _ Done c.answered.ensures.answer_value) c.answered.ensures.effect_value

pub returns-in_err-d : goal.returns-in_err-d
returns-in_err-d c = let a = c.args in
    let m = missed _ _ _ _ c.ok_or.ensures.value c.in_err-d.was in
    let z : c.from_residual.result ≡ Err c.in_err-d.field-0.0 = search rules in
    down a.s.now a.s.now (on (host_put a.description a.handle)) (success 0 0 false) _ BadArgument (z ∙ ap Err m.1) (puts_none a.s.now c.told-s a.description _ c.held.ensures m.0 _ _ refl refl a.handle)
