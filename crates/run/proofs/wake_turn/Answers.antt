-- What `run::wake_turn` leaves open. Assumes nothing.
use Rattle.call_inner.proofs.Cases.{looked_before}
use Rattle.events.specs.World.{slot_in}
use Rattle.layout.specs.Layout.{plain_of}
use Rattle.run.proofs.ByKind.{wake_told}
use Rattle.std.proofs.Common.{◌≡◌, length, rules}
use Rattle.run.proofs.wake_turn.Goals as goal

pub returns-clause-told : goal.returns-clause-told
returns-clause-told c = let a = c.args in
    let d = looked_before _ _ _ _ c.wake-done.result _ (slot_in (plain_of a.s.now) a.r.words.0) c.stored_reply-kept.ensures c.wake-done.ensures in
    let p = c.put_woken.ensures in wake_told a.s.now _ a.r _ _ a.out.now _ _ (let z : length a.s.now ≡ 2060 = search rules in z) d p.out_after p.value
