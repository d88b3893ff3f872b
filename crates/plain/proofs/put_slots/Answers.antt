-- What `plain::put_slots` leaves open. Assumes nothing.
use Rattle.std.proofs.Common.{◌≡◌, ℕ, length, get_or, ap, ◌∙◌, rules}
use Rattle.table.specs.Table.{no_slot}
use Rattle.layout.specs.Store.{stored, put}
use Rattle.plain.proofs.Laws.{slot_no, put_more}
use Rattle.plain.proofs.put_slots.Goals as goal

pub loop-i-preserved : goal.loop-i-preserved
loop-i-preserved c =
    let slots = c.args.slots.now in
    let l = c.loop-i in
    let b = c.loop-i-test.true in
    let long : length slots ≡ 64 = search rules in
    put_more slots long l.s _ l.i b (c.put.ensures ∙ ap (λ (n : ℕ). stored l.s (put n (get_or slots l.i no_slot))) (slot_no l.i _ b c.slot_of.ensures)) ∙ l.invariant
