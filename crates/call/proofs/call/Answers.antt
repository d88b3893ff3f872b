-- What `call::call` leaves open. Assumes nothing.
use mathlib.Core.Path.{sym, ◌∙◌}
use borrow.Author.Rules.{rules}
use Rattle.std.specs.Prelude.{false}
use Rattle.ask.proofs.Cases.{asked_good}
use Rattle.call.proofs.Cases.{entry_is, refused, called}
use Rattle.events.specs.Outcome.{success}
use Rattle.events.specs.Event.{on, call}
use Rattle.layout.specs.Layout.{plain_of}
use Rattle.step.proofs.Rows.{down}
use Rattle.step.proofs.Tests.{is}
use Rattle.call.proofs.call.Goals as goal

pub returns-in_err-asked : goal.returns-in_err-asked
returns-in_err-asked c = let a = c.args in
    down a.s.now a.s.now (on (call a.caller a.opcode a.args a.ctx.uid a.ctx.gid a.ctx.pid a.fds.now)) (success 0 0 false) _ c.in_err-asked.field-0.0 (search rules)
    (refused a.s.now a.caller a.opcode a.args a.ctx.uid a.ctx.gid a.ctx.pid a.fds.now _ (sym c.in_err-asked.was ∙ c.ask.ensures))

pub returns : goal.returns
returns c = let a = c.args in let g = asked_good (plain_of a.s.now) a.opcode a.fds.now _ (sym c.in_ok-asked.was ∙ c.ask.ensures) in
    called a.s.now a.caller a.opcode a.args a.ctx.uid a.ctx.gid a.ctx.pid a.fds.now g.0 g.1 (is c.is_full.ensures c.if-is_full.false) (is c.queue_full.ensures c.if-queue_full.false) _ _ _ _ _ _ _ _ c.head-n.ensures g.3 c.waiting-v.ensures (entry_is a.opcode _ a.args a.ctx.uid a.ctx.gid a.ctx.pid _ _ g.2 c.uid_gid_hack_merge-who.ensures) c.take.ensures c.begun.ensures.answer_value c.begun.ensures.effect_value c.begun.ensures.s_after
