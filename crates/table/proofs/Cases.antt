-- What the definitions say in range and past it, over plain variables; k is the slot number of the tag n. Assumes nothing.
use mathlib.Core.Path.{◌≡◌, sym, ap, ◌∙◌}
use mathlib.Core.Bool.{Bool, true, false, cond}
use Prim.Native.Nat.{ℕ, ◌<◌, ◌≤◌}
use native.Mathlib.Omega.{arith}
use lib.Dec.{ltb}
use lib.ListN.{get_or}
use borrow.Author.Tests.{lt-ltb, le-ltb}
use Rattle.ids.specs.declared.SlotNo.{SlotNo}
use Rattle.ids.specs.declared.Tag.{Tag}
use Rattle.ids.specs.Ids.{slot_of}
use Rattle.slot.specs.declared.Slot.{Slot}
use Rattle.slot.specs.Slots.{vacant_slot}
use Rattle.table.specs.declared.Table.{Table}
use Rattle.table.specs.Table.{no_slot, slot_at, stored, put_at}

module _ (t : Table) (n : Tag) (k : SlotNo) (is : k ≡ slot_of n) where
  beyond : 64 ≤ k.0 → ltb n.0 64 ≡ false
  beyond h = le-ltb n.0 64 (omega (arith, ap (λ (s : SlotNo). s.0) is))

  within : k.0 < 64 → ltb n.0 64 ≡ true
  within h = lt-ltb n.0 64 (omega (arith, ap (λ (s : SlotNo). s.0) is))

  same : k.0 < 64 → k.0 ≡ n.0
  same h = omega (arith, ap (λ (s : SlotNo). s.0) is)

  pub slot_in_lem : k.0 < 64 → get_or t.slots k.0 no_slot ≡ slot_at t n.0
  slot_in_lem h =
      ap (λ (j : ℕ). get_or t.slots j no_slot) (same h)
      ∙ sym (ap (λ (b : Bool). cond b (get_or t.slots n.0 no_slot) vacant_slot) (within h))

  pub put_in : (v : Slot) → k.0 < 64 → stored t k.0 v ≡ put_at t n.0 v
  put_in v h = ap (λ (j : ℕ). stored t j v) (same h) ∙ sym (ap (λ (b : Bool). cond b (stored t n.0 v) t) (within h))
