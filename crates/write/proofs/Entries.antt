-- An entry on words is its decision carried out. Assumes nothing.
use Rattle.std.specs.Prelude.{Result}
use Prim.Native.Nat.{ℕ, min, ◌<◌}
use mathlib.Core.Path.{◌≡◌, refl, sym, ap, ap₂, ◌∙◌}
use mathlib.Core.List.{List}
use lib.ListN.{length}
use lib.Seq.{sets}
use Rattle.handles.specs.Handles.{held_at}
use Rattle.ids.specs.declared.Handle.{Handle}
use Rattle.ids.specs.declared.SlotNo.{SlotNo}
use Rattle.ids.specs.Ids.{slot_of}
use Rattle.parse_cqe.specs.declared.ParsedCqe.{ParsedCqe}
use Rattle.parse_cqe.specs.declared.CqeError.{CqeError}
use Rattle.parse_cqe.specs.Parsed.{parsed_of}
use Rattle.schemev2.specs.declared.Cqe.{Cqe}
use Rattle.slot.specs.declared.Act.{Act}
use Rattle.slot.specs.declared.Act.TheVariants as act
use Rattle.slot.specs.declared.Slot.{Slot}
use Rattle.events.specs.World.{World, holds_of, handles_of, slot_in}
use Rattle.events.specs.Entry.{Decision, decision_of}
use Rattle.layout.specs.Layout.{plain_of}
use Rattle.layout.specs.Store.{outside, all, handles, stored, stored_all}
use Rattle.layout.proofs.Worlds.{plain_fits, stored_all_plain}
use Rattle.packed.specs.Stores.{act_stores, decided_stores, entry_stores}
use Rattle.packed.proofs.Changes.{after_is}
use Rattle.packed.proofs.Fit.{entry_fits}
use Rattle.carry_out.specs.Held.{held_stores}
use Rattle.plan.specs.declared.Plan.{Plan}
use Rattle.wish.specs.Wishes.{handle_in}
use Rattle.plan.specs.Plans.{effects_by, number_by, decision_by, Plans}
use Rattle.step.proofs.Tests.{slot_of_in, put_of, vacate_of}
use Rattle.write.specs.Writing.{decision_at, Enters}

act_of : (ws : List ℕ) (a : Act) (t : ℕ) (v : Slot) → stored_all ws (act_stores a (min t 64) v) ≡ stored_all ws (act_stores a t v)
act_of ws act.Leave t v = refl
act_of ws act.Store t v = put_of ws t v
act_of ws act.Vacate t v = vacate_of ws t

-- the plan carried out, then its slot
pub then_acted :
    (ws ys xs : List ℕ) (d : Decision) (n : ℕ) → ys ≡ stored_all ws (held_stores d) → xs ≡ stored_all ys (act_stores d.act n d.slot) → xs ≡ stored_all ws (decided_stores n d)
then_acted ws ys xs d n e q = q ∙ ap (λ (l : List ℕ). stored_all l (act_stores d.act n d.slot)) e

pub entered :
    (ws xs fx gx : List ℕ) (at : ℕ) (e : Cqe) (size : length ws ≡ 2060) → e.extra_raw.0 < 256
    → (q : Result ParsedCqe CqeError) → q ≡ parsed_of e → (k : SlotNo) → k ≡ slot_of (record { 0 = e.tag }) → (v : Slot) → v ≡ slot_in (plain_of ws) k.0
    → (h : Handle) → h.0 ≡ handle_in q → (x : ℕ) → x ≡ held_at (handles_of (plain_of ws)) h.0
    → (p : Plan) → Plans p (handle_in q) x (λ g n. decision_of q v g n)
    → (j : ℕ) → j ≡ length (effects_by p (holds_of (plain_of ws))) → gx ≡ sets fx at (effects_by p (holds_of (plain_of ws)))
    → xs ≡ stored_all ws (decided_stores k.0 (decision_by p (holds_of (plain_of ws)) (handles_of (plain_of ws))))
    → Enters ws xs fx gx at e (number_by p.refusal) j
entered ws xs fx gx at e size small q eq k ek v ev h eh x ex p is j ej eg es =
    let w : World = plain_of ws in
    let here : v ≡ slot_in w e.tag = ev ∙ ap (λ (y : SlotNo). slot_in w y.0) ek ∙ slot_of_in w e.tag in
    let d : decision_by p (holds_of w) (handles_of w) ≡ decision_at w e = is (holds_of w) (handles_of w) (ap (held_at (handles_of w)) (sym eh) ∙ sym ex) ∙ ap₂ (λ (y : Result ParsedCqe CqeError) (z : Slot). decision_of y z (holds_of w) (handles_of w)) eq here in
    let s : xs ≡ stored_all ws (entry_stores w e) =
    es
    ∙ ap₂ (λ (n : ℕ) (y : Decision). stored_all ws (decided_stores n y)) (ap (λ (y : SlotNo). y.0) ek) d
    ∙ act_of (stored (stored (stored ws (outside (decision_at w e).holds.outside)) (all (decision_at w e).holds.holds)) (handles (decision_at w e).handles.at)) (decision_at w e).act e.tag (decision_at w e).slot in
    record {
      number = ap (λ (y : Decision). y.number) d;
      words = ej ∙ ap (λ (y : Decision). length y.effects) d;
      lent = eg ∙ ap (λ (y : Decision). sets fx at y.effects) d;
      stored = s;
      left = ap plain_of s ∙ stored_all_plain (entry_stores w e) ws size (entry_fits w (plain_fits ws size) e small) ∙ sym (after_is w e.tag (decision_at w e));
    }
