-- What `plain::packed` leaves open. Assumes nothing.
use Rattle.std.proofs.Common.{◌≡◌, length, rules}
use Rattle.events.specs.World.{world}
use Rattle.layout.proofs.Packs.{Long}
use Rattle.plain.proofs.Laws.{all_stored}
use Rattle.plain.proofs.packed.Goals as goal

pub returns : goal.returns
returns c =
    let w = world c.args.st c.args.queue.now in
    let words = c.put_queue.ensures.s_len in
    let slots : length c.args.st.table.slots ≡ 64 = search rules in
    let next : length c.args.st.table.next ≡ 64 = search rules in
    let all : length c.args.st.table.holds.holds ≡ 64 = search rules in
    let outside : length c.args.st.table.holds.outside ≡ 64 = search rules in
    let handles : length c.args.st.driver.handles.at ≡ 64 = search rules in
    let long : Long w = record { slots = slots; next = next; all = all; outside = outside; handles = handles; words = words.1 } in
    all_stored w long c.args.s.now _ _ _ _ _ _ _ _ c.put_slots.ensures c.put_chain.ensures c.put_head.ensures c.put_all.ensures c.put_outside.ensures c.put_driver.ensures c.put_handles.ensures c.put_queue.ensures.s_after words.0
