-- What `run::run_all` leaves open. Assumes nothing.
use borrow.Author.Rules.{rules}
use Rattle.run.proofs.Going.{begins, whole, in_out, some_next, room_here, goes_on_turned, out_is}
use Rattle.run.proofs.Stores.{behind}
use Rattle.state_bytes.specs.StateBytes.{state_bytes}
use Rattle.record.specs.Record.{size_of}
use Rattle.run_room.specs.Room.{room_of}
use Rattle.layout.specs.Layout.{plain_of}
use lib.ListN.{length-replicate}
use native.Mathlib.Omega.{arith}
use mathlib.Core.Path.{ap, ◌∙◌}
use Prim.Native.Nat.{ℕ}
use Rattle.run.proofs.run_all.Goals as goal

pub loop-at-init : goal.loop-at-init
loop-at-init c = let a = c.args in (begins a.scheme a.events.now a.out.now a.fx.now a.end _ c.requires.0 c.requires.1.0 c.fresh_words.ensures, length-replicate {A = ℕ} 255 0, length-replicate {A = ℕ} 255 0)

pub turn-used-requires : goal.turn-used-requires
turn-used-requires c = let a = c.args in
    let l = c.loop-at in
    let here = c.record_at-r.ensures in (
      whole a.scheme a.events.now a.out.now a.fx.now a.end l.out l.fx l.s l.at l.j l.invariant.0,
      some_next a.scheme a.events.now a.out.now a.fx.now a.end l.out l.fx l.s l.at l.j l.invariant.0 c.loop-at-test.true,
      here,
      omega (arith, l.invariant.1),
      omega (arith, l.invariant.2),
      omega (arith, ap room_of here, room_here a.scheme a.events.now a.out.now a.fx.now a.end l.out l.fx l.s l.at l.j l.invariant.0 c.loop-at-test.true c.size-size.result (c.size-size.ensures ∙ ap size_of here)),
    )

pub loop-at-preserved : goal.loop-at-preserved
loop-at-preserved c = let a = c.args in
    let l = c.loop-at in
    let inside = c.loop-at-test.true in
    let size = c.size-size.result in
    let is = c.size-size.ensures ∙ ap size_of c.record_at-r.ensures in
    let t = c.turn-used in
    (goes_on_turned a.scheme a.events.now a.out.now a.fx.now a.end l.out l.fx l.s l.at l.j l.invariant.0 inside size is _ _ _ t.result t.ensures, search rules, search rules)

pub returns-clause-out_after : goal.returns-clause-out_after
returns-clause-out_after c = let a = c.args in let l = c.loop-at in out_is a.scheme a.events.now a.out.now a.fx.now a.end l.out l.fx l.s l.at l.j l.invariant.0 c.loop-at-test.false _ c.put_state.ensures.s_len (behind l.out (state_bytes (plain_of l.s)) _ l.j (in_out a.scheme a.events.now a.out.now a.fx.now a.end l.out l.fx l.s l.at l.j l.invariant.0) c.put_state.ensures.out_after)
