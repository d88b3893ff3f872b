-- What stands at every tag after a store, a give-out and a vacate: all that the rest needs of the layout. Assumes nothing.
use mathlib.Core.Path.{◌≡◌, sym, ap, ◌∙◌, subst}
use mathlib.Core.Logic.{◌≢◌}
use mathlib.Core.Bool.{Bool, true, false, cond}
use Prim.Native.Nat.{ℕ, ◌<◌, ◌≤◌}
use native.Mathlib.Omega.{arith}
use native.Mathlib.Decide.{ℕ_discrete}
use lib.Dec.{ltb}
use lib.ListN.{get_or, set, length, length-set}
use lib.Seq.{get_or-set_same, get_or-set_other}
use borrow.Author.Tests.{lt-ltb, le-ltb}
use Rattle.slot.specs.declared.Slot.{Slot}
use Rattle.slot.specs.Slots.{vacant_slot}
use Rattle.table.specs.declared.Table.{Table}
use Rattle.table.specs.Table.{no_slot, slot_at, stored, put_at, given_out, vacated, vacate_at}

-- a tag over 63 counts as vacant
pub beyond_is : (t : Table) (n : ℕ) → 64 ≤ n → slot_at t n ≡ vacant_slot
beyond_is t n h = ap (λ (b : Bool). cond b (get_or t.slots n no_slot) vacant_slot) (le-ltb n 64 h)

pub put_within : (t : Table) (n : ℕ) (v : Slot) → n < 64 → put_at t n v ≡ stored t n v
put_within t n v h = ap (λ (b : Bool). cond b (stored t n v) t) (lt-ltb n 64 h)

pub vacate_within : (t : Table) (n : ℕ) → n < 64 → vacate_at t n ≡ vacated t n
vacate_within t n h = ap (λ (b : Bool). cond b (vacated t n) t) (lt-ltb n 64 h)

-- the slots after a store in range
module _ (P : Slot → Type 0) (t : Table) (size : length t.slots ≡ 64) (n m : ℕ) (v : Slot) (h : n < 64) (here : m ≡ n → P v) (there : m ≢ n → P (slot_at t m)) where
  at_set : P (cond (ltb m 64) (get_or (set t.slots n v) m no_slot) vacant_slot)
  at_set = go (ℕ_discrete m n)
    where
      go : Dec (m ≡ n) → P (cond (ltb m 64) (get_or (set t.slots n v) m no_slot) vacant_slot)
      go (yes e) =
          subst P
          (sym
          (ap (λ (b : Bool). cond b (get_or (set t.slots n v) m no_slot) vacant_slot) (lt-ltb m 64 (omega (arith, e)))
          ∙ ap (λ (j : ℕ). get_or (set t.slots n v) j no_slot) e
          ∙ get_or-set_same t.slots n v no_slot (omega arith)))
          (here e)
      go (no ne) = subst P (sym (ap (λ (x : Slot). cond (ltb m 64) x vacant_slot) (get_or-set_other t.slots n m v no_slot ne))) (there ne)

  pub put_at_lem : P (slot_at (put_at t n v) m)
  put_at_lem = subst (λ (u : Table). P (slot_at u m)) (sym (put_within t n v h)) at_set

-- the first of the chain is v, every other slot as it was
pub give_at :
    (P : Slot → Type 0) (t : Table) (m : ℕ) (v : Slot) → length t.slots ≡ 64 → t.head < 64
    → (m ≡ t.head → P v) → (m ≢ t.head → P (slot_at t m)) → P (slot_at (given_out t v) m)
give_at P t m v size h here there = at_set P t size t.head m v h here there

pub vacate_at_lem :
    (P : Slot → Type 0) (t : Table) (n m : ℕ) → length t.slots ≡ 64 → n < 64
    → (m ≡ n → P vacant_slot) → (m ≢ n → P (slot_at t m)) → P (slot_at (vacate_at t n) m)
vacate_at_lem P t n m size h here there =
    subst (λ (u : Table). P (slot_at u m)) (sym (vacate_within t n h)) (at_set P t size n m vacant_slot h here there)

-- as many slots and places as before
pub record Sized (t : Table) : Type 0 where
  pub slots : length t.slots ≡ 64
  pub next : length t.next ≡ 64

pub sized_put : (t : Table) (n : ℕ) (v : Slot) → Sized t → Sized (put_at t n v)
sized_put t n v s = go (ltb n 64)
  where
    go : (b : Bool) → Sized (cond b (stored t n v) t)
    go true = record { slots = length-set t.slots n v ∙ s.slots; next = s.next }
    go false = s

pub sized_give : (t : Table) (v : Slot) → Sized t → Sized (given_out t v)
sized_give t v s = record { slots = length-set t.slots t.head v ∙ s.slots; next = s.next }

pub sized_vacate : (t : Table) (n : ℕ) → Sized t → Sized (vacate_at t n)
sized_vacate t n s = go (ltb n 64)
  where
    go : (b : Bool) → Sized (cond b (vacated t n) t)
    go true = record { slots = length-set t.slots n vacant_slot ∙ s.slots; next = length-set t.next n t.head ∙ s.next }
    go false = s
