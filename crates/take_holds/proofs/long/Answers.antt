-- What `take_holds::long` leaves open. Assumes nothing.
use native.Mathlib.Omega.{arith}
use Rattle.take_holds.proofs.Counted.{from_all, count_fits, count_over, count_next, count_left, count_end}
use Rattle.take_holds.proofs.long.Goals as goal

pub loop-d-init : goal.loop-d-init
loop-d-init c = (omega arith, from_all c.args.words.now, λ e p. absurd (omega arith))

pub returns-then-allowed-n : goal.returns-then-allowed-n
returns-then-allowed-n c = let a = c.args in
    let l = c.loop-d in
    count_over a.all.now a.outside.now a.words.now l.uncounted l.d l.invariant _ c.mentions-n.ensures _ c.allowed.ensures c.if-allowed-n.true

pub overflow_sub-uncounted : goal.overflow_sub-uncounted
overflow_sub-uncounted c = let a = c.args in
    let l = c.loop-d in
    count_fits a.all.now a.outside.now a.words.now l.uncounted l.d l.invariant _ c.mentions-n.ensures

pub loop-d-preserved : goal.loop-d-preserved
loop-d-preserved c = let a = c.args in
    let l = c.loop-d in
    count_next a.all.now a.outside.now a.words.now l.uncounted l.d l.invariant _ c.mentions-n.ensures _ c.allowed.ensures c.loop-d-test.true c.if-allowed-n.false

pub returns-then-uncounted-ne0 : goal.returns-then-uncounted-ne0
returns-then-uncounted-ne0 c = let a = c.args in
    let l = c.loop-d in
    count_left a.all.now a.outside.now a.words.now l.uncounted l.d l.invariant c.loop-d-test.false c.if-uncounted-ne0.true

pub returns : goal.returns
returns c = let a = c.args in
    let l = c.loop-d in
    count_end a.all.now a.outside.now a.words.now l.uncounted l.d l.invariant c.loop-d-test.false c.if-uncounted-ne0.false
