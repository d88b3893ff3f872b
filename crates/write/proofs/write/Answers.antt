-- What `write::write` leaves open. Assumes nothing.
use Prim.Native.Nat.{◌*◌}
use mathlib.Core.Path.{◌≡◌, sym, ap, ◌∙◌}
use native.Mathlib.Omega.{arith}
use Rattle.answer.specs.Numbered.{refusal_number}
use Rattle.events.specs.Complete.{stopped}
use Rattle.plan.specs.Plans.{number_by}
use Rattle.plan.proofs.Laws.{above_zero}
use Rattle.schemev2.specs.Entry.{cqe_of}
use Rattle.word_put.proofs.Stores.{part_is}
use Rattle.write.proofs.Looping.{goes_on, stops, stops_lent, stops_count, stops_words, lent_length, with_room}
use Rattle.write.proofs.write.Goals as goal

pub returns-in-Some : goal.returns-in-Some
returns-in-Some c = let a = c.args in
    let l = c.loop-i in
    let k : number_by c.entry-done.result.refusal ≡ refusal_number c.in-Some.refusal = ap number_by c.in-Some.is in
    let z : number_by c.entry-done.result.refusal ≡ 0 → ⊥ = λ q. above_zero c.in-Some.refusal (sym k ∙ q) in
    with_room a.s.now a.fx.now a.bytes.now c.if-fx-n.false _ (stops a.s.now a.fx.now a.bytes.now _ l.s l.fx l.i l.words l.invariant.2 c.loop-i-test.true c.cqe_at-e.result (c.cqe_at-e.ensures ∙ ap cqe_of (part_is a.bytes.now (16 * l.i))) _ _ _ _ c.entry-done.ensures.enters z) _ _ _ _ (c.stop.ensures ∙ ap (stopped l.i) (sym k)) (stops_lent a.s.now a.fx.now a.bytes.now _ l.s l.fx l.i l.words l.invariant.2 c.loop-i-test.true c.cqe_at-e.result (c.cqe_at-e.ensures ∙ ap cqe_of (part_is a.bytes.now (16 * l.i))) _ _ _ _ c.entry-done.ensures.enters z) (stops_count a.s.now a.fx.now a.bytes.now _ l.s l.fx l.i l.words l.invariant.2 c.loop-i-test.true c.cqe_at-e.result (c.cqe_at-e.ensures ∙ ap cqe_of (part_is a.bytes.now (16 * l.i))) _ _ _ _ c.entry-done.ensures.enters z) (stops_words a.s.now a.fx.now a.bytes.now _ l.s l.fx l.i l.words l.invariant.2 c.loop-i-test.true c.cqe_at-e.result (c.cqe_at-e.ensures ∙ ap cqe_of (part_is a.bytes.now (16 * l.i))) _ _ _ _ c.entry-done.ensures.enters z) c.entry-done.ensures.enters.left

pub loop-i-preserved : goal.loop-i-preserved
loop-i-preserved c = let a = c.args in
    let l = c.loop-i in
    (omega (arith, l.invariant.0, c.entry-done.ensures.words_bound), lent_length l.s _ l.fx _ l.words c.cqe_at-e.result _ _ c.entry-done.ensures.enters ∙ l.invariant.1, goes_on a.s.now a.fx.now a.bytes.now _ l.s l.fx l.i l.words l.invariant.2 c.loop-i-test.true c.cqe_at-e.result (c.cqe_at-e.ensures ∙ ap cqe_of (part_is a.bytes.now (16 * l.i))) _ _ _ _ c.entry-done.ensures.enters (ap number_by c.in_default.is), l.invariant.3)
