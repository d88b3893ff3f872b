-- What `carry_out::carry_out` leaves open. Assumes nothing.
use Rattle.carry_out.proofs.Carried.{in_place, all_behind, all_stored, counted, all_effects}
use Prim.Native.Nat.{ℕ}
use mathlib.Core.List.{List}
use lib.ListN.{length}
use Rattle.plan.specs.declared.Plan.{Plan}
use mathlib.Core.Path.{◌≡◌, ◌∙◌}
use Rattle.events.specs.World.{holds_of}
use Rattle.layout.specs.Layout.{plain_of}
use Rattle.plan.specs.Plans.{effects_by}
use Rattle.carry_out.proofs.carry_out.Goals as goal

pub returns-clause-value : goal.returns-clause-value
returns-clause-value c = let a = c.args in
    let ws : List ℕ = a.s.now in
    let p : Plan = a.p in
    let size : length ws ≡ 2060 = c.told-s in
    let at : ℕ = c.min-at.result in
    let e = c.drop_all-c.ensures in
    let g = c.drop_all-d.ensures in
    let q = all_behind ws size p _ e.s_after in
    let x = c.put-a.ensures in
    let y = c.put_unmap-b.ensures in
    let f = c.is_closing-follows.ensures in counted ws size p a.fx.now at _ _ _ _ x.value y.value _ f e.value _ q g.value

pub returns-clause-fx_after : goal.returns-clause-fx_after
returns-clause-fx_after c = let a = c.args in
    let ws : List ℕ = a.s.now in
    let p : Plan = a.p in
    let size : length ws ≡ 2060 = c.told-s in
    let at : ℕ = c.min-at.result in
    let e = c.drop_all-c.ensures in
    let g = c.drop_all-d.ensures in
    let q = all_behind ws size p _ e.s_after in
    let x = c.put-a.ensures in
    let y = c.put_unmap-b.ensures in
    let f = c.is_closing-follows.ensures in all_effects ws size p a.fx.now at _ _ _ _ x.value y.value _ f e.value _ q g.value _ _ _ _ x.fx_after y.fx_after e.fx_after g.fx_after ∙ in_place a.fx.now (effects_by p (holds_of (plain_of ws))) a.at at c.min-at.ensures

pub returns-clause-s_after : goal.returns-clause-s_after
returns-clause-s_after c = let a = c.args in
    let ws : List ℕ = a.s.now in
    let p : Plan = a.p in
    let size : length ws ≡ 2060 = c.told-s in
    let at : ℕ = c.min-at.result in
    let e = c.drop_all-c.ensures in
    let g = c.drop_all-d.ensures in
    let q = all_behind ws size p _ e.s_after in
    let x = c.put-a.ensures in
    let y = c.put_unmap-b.ensures in
    let f = c.is_closing-follows.ensures in all_stored ws size p _ e.s_after _ g.s_after _ c.move_handle.ensures
