-- The chain of vacant slots, and the tables that come from the fresh one by give-outs, stores and vacates.
use Rattle.std.specs.Prelude.{◌≡◌, Bool, true, false, List, [], ◌∷◌, ℕ, ◌+◌, ◌<◌, ◌≤◌, eqb, get_or}
use Rattle.slot.specs.declared.Phase.{Phase}
use Rattle.slot.specs.declared.Phase.TheVariants.{Vacant, Placeholder, Waiting, Responded, Fmap}
use Rattle.slot.specs.declared.Slot.{Slot}
use Rattle.slot.specs.Slots.{phase_of}
use Rattle.table.specs.declared.Table.{Table}
use Rattle.table.specs.Table.{fresh_table, slot_at, put_at, given_out, vacate_at}

-- 1 for a vacant slot
abbrev pub idle : Phase → ℕ
idle Vacant = 1
idle Placeholder = 0
idle Waiting = 0
idle Responded = 0
idle Fmap = 0

abbrev pub Occupied : Slot → Type 0
Occupied v = idle (phase_of v) ≡ 0

abbrev pub one : Bool → ℕ
one true = 1
one false = 0

-- how often m stands in a list
abbrev pub times : ℕ → List ℕ → ℕ
times m [] = 0
times m (x ∷ c) = one (eqb x m) + times m c

-- c is the chain that starts at head: each slot's next is the one after it, and a number over 63 ends it
abbrev pub Linked : List ℕ → ℕ → List ℕ → Type 0
Linked next head [] = 64 ≤ head
Linked next head (x ∷ c) = (head ≡ x) × (x < 64) × Linked next (get_or next x 0) c

-- the chain holds exactly the vacant slots, each once
abbrev pub Chain : Table → Type 0
Chain t = (c : List ℕ) × Linked t.next t.head c × ((m : ℕ) → m < 64 → times m c ≡ idle (phase_of (slot_at t m)))

pub data Reached : Table → Type 0 where
  fresh : Reached fresh_table
  gave : (t : Table) (v : Slot) → Reached t → t.head < 64 → Occupied v → Reached (given_out t v)
  put : (t : Table) (n : ℕ) (v : Slot) → Reached t → Occupied (slot_at t n) → Occupied v → Reached (put_at t n v)
  gone : (t : Table) (n : ℕ) → Reached t → Occupied (slot_at t n) → Reached (vacate_at t n)
