-- What `submit::submit` leaves open. Assumes nothing.
use mathlib.Core.Path.{sym, ◌∙◌}
use borrow.Author.Rules.{rules}
use Rattle.std.specs.Prelude.{false}
use Rattle.answer.specs.declared.Accepted.TheVariants.{Submitted}
use Rattle.ask.proofs.Cases.{asked_good}
use Rattle.events.specs.Outcome.{success}
use Rattle.events.specs.Event.{on, submit}
use Rattle.layout.specs.Layout.{plain_of}
use Rattle.step.proofs.Rows.{told, down}
use Rattle.step.proofs.Tests.{is}
use Rattle.submit.proofs.Cases.{refused, sent}
use Rattle.submit.proofs.submit.Goals as goal

pub returns-in_err-asked : goal.returns-in_err-asked
returns-in_err-asked c = let a = c.args in
    down a.s.now a.s.now (on (submit a.tag.0 a.caller a.opcode a.flags a.args a.pid a.fds.now)) (success 0 0 false) _ c.in_err-asked.field-0.0 (search rules)
    (refused a.s.now a.tag a.caller a.opcode a.flags a.args a.pid a.fds.now _ (sym c.in_err-asked.was ∙ c.ask.ensures))

pub returns : goal.returns
returns c = let a = c.args in let g = asked_good (plain_of a.s.now) a.opcode a.fds.now _ (sym c.in_ok-asked.was ∙ c.ask.ensures) in
    sent a.s.now a.tag a.caller a.opcode a.flags a.args a.pid a.fds.now g.0 g.1 _ c.slot_of-n.ensures _ c.load-v.ensures (is c.is_submittable.ensures c.if-not-is_submittable.false) (is c.queue_full.ensures c.if-queue_full.false) _ _ _ _ _ _ _ g.2 g.3 c.waiting-w.ensures c.take.ensures (told _ (Submitted a.tag) c.went_on.ensures.answer_value) c.went_on.ensures.effect_value c.went_on.ensures.s_after
