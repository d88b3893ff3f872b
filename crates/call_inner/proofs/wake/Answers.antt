-- What `call_inner::wake` leaves open. Assumes nothing.
use mathlib.Core.Path.{refl, sym, ap, ◌∙◌}
use borrow.Author.Rules.{rules}
use Rattle.std.specs.Prelude.{Ok}
use Rattle.answer.specs.declared.Accepted.{Accepted}
use Rattle.events.specs.World.{slot_in, holds_of}
use Rattle.events.specs.Outcome.{said_with}
use Rattle.events.specs.Wake.{response_of}
use Rattle.events.specs.Event.{on, wake}
use Rattle.layout.specs.Layout.{plain_of}
use Rattle.layout.proofs.Worlds.{plain_fits}
use Rattle.step.proofs.Rows.{down}
use Rattle.call_inner.proofs.Cases.{stay, killed_now, blocked_now, handed}
use Rattle.call_inner.proofs.wake.Goals as goal

pub returns-in_err-decided-in-Stay : goal.returns-in_err-decided-in-Stay
returns-in_err-decided-in-Stay c = let a = c.args in
    let R = response_of (slot_in (plain_of a.s.now) a.tag.0) in
    down a.s.now a.s.now (on (wake a.tag.0 a.caller a.killed a.base a.count)) R _ c.in_err-decided-in-Stay.field-0.0 (search rules)
    (stay a.s.now a.tag a.caller a.killed a.base a.count c.if-killed-gt1.false _ c.slot_of-n.ensures _ c.load-v.ensures _ c.unread-unread.ensures _ c.decide-decided.ensures R _ _ c.in-Stay.is (sym (ap (said_with R) c.in_err-decided-in-Stay.was)) refl)

pub returns-in_ok-decided-in-Stay : goal.returns-in_ok-decided-in-Stay
returns-in_ok-decided-in-Stay c = let a = c.args in
    let R = response_of (slot_in (plain_of a.s.now) a.tag.0) in
    let d = c.answered.ensures in
    stay a.s.now a.tag a.caller a.killed a.base a.count c.if-killed-gt1.false _ c.slot_of-n.ensures _ c.load-v.ensures _ c.unread-unread.ensures _ c.decide-decided.ensures R _ _ c.in-Stay.is
    (ap (λ (x : Accepted). said_with R (Ok x)) d.answer_value ∙ sym (ap (said_with R) c.in_ok-decided-in-Stay.was)) d.effect_value

pub returns-in-Interrupt : goal.returns-in-Interrupt
returns-in-Interrupt c = let a = c.args in
    let R = response_of (slot_in (plain_of a.s.now) a.tag.0) in
    killed_now a.s.now a.tag a.caller a.killed a.base a.count c.if-killed-gt1.false _ c.slot_of-n.ensures _ c.load-v.ensures _ c.unread-unread.ensures _ c.decide-decided.ensures R _ _ _ _ c.in-Interrupt.is refl refl c.interrupted-w.ensures c.put.ensures

pub returns-in-Cancel : goal.returns-in-Cancel
returns-in-Cancel c = let a = c.args in
    let R = response_of (slot_in (plain_of a.s.now) a.tag.0) in
    blocked_now a.s.now a.tag a.caller a.killed a.base a.count c.if-killed-gt1.false _ c.slot_of-n.ensures _ c.load-v.ensures _ c.unread-unread.ensures _ c.decide-decided.ensures R _ _ _ _ _ c.in-Cancel.is
    (ap (λ (x : Accepted). said_with R (Ok x)) c.went_on.ensures.answer_value) c.went_on.ensures.effect_value c.canceled-w.ensures c.cancel_entry-e.ensures c.went_on.ensures.s_after

pub returns-in-HandOver : goal.returns-in-HandOver
returns-in-HandOver c = let a = c.args in
    let R = response_of (slot_in (plain_of a.s.now) a.tag.0) in
    let d = c.answered-in-HandOver.ensures in
    handed a.s.now a.tag a.caller a.killed a.base a.count c.if-killed-gt1.false _ c.slot_of-n.ensures _ c.load-v.ensures _ c.unread-unread.ensures _ c.decide-decided.ensures _ _ c.holds_in-out.result _ _ c.in-HandOver.is
    (ap (λ (x : Accepted). said_with R (Ok x)) d.answer_value) d.effect_value (c.holds_in-out.ensures (holds_of (plain_of a.s.now)) (plain_fits a.s.now c.told-s).outside) c.to_outside.ensures c.vacate.ensures
