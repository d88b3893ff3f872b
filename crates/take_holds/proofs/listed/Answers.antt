-- What `take_holds::listed` leaves open. Assumes nothing.
use mathlib.Core.Path.{◌≡◌, refl}
use lib.ListN.{get_or, length-set}
use Rattle.std.specs.Prelude.{Some}
use Rattle.holds.proofs.Laws.{held_is}
use Rattle.holds.specs.Holds.{holds_with}
use Rattle.take_holds.proofs.Walk.{left_of, take_is, take_more}
use Rattle.take_holds.proofs.listed.Goals as goal

pub loop-i-init : goal.loop-i-init
loop-i-init c = let a = c.args in (refl, take_is (holds_with a.all.now a.outside.now) a.words.now c.if-words-gt16.false)

pub loop-i-preserved : goal.loop-i-preserved
loop-i-preserved c = let a = c.args in
    let h = holds_with a.all.now a.outside.now in
    let l = c.loop-i in
    let x = get_or a.words.now l.i 0 in
    let z : c.held_after.result ≡ Some c.in_ok-at.field-0 = c.in_ok-at.was in
    let p = held_is a.all.now (left_of h a.words.now l.i) x _ c.held_after.ensures _ z in
    (simp length-set l.invariant.0, take_more h l.at l.i a.words.now _ l.invariant.1 c.loop-i-test.true _ p)
