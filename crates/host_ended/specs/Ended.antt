-- The host reports an ended caller (01, "Slots and holds"): the slots that it has at that moment are marked, whatever their
-- state. A vacant slot is nobody's.
use Rattle.std.specs.Prelude.{Bool, true, false, map, ℕ, eqb}
use Rattle.slot.specs.declared.Phase.{Phase}
use Rattle.slot.specs.declared.Phase.TheVariants.{Vacant, Placeholder, Waiting, Responded, Fmap}
use Rattle.slot.specs.declared.Slot.{Slot}
use Rattle.slot.specs.Slots.{phase_of, ended_of}
use Rattle.table.specs.declared.Table.{Table}

-- is it the caller's; in which phase
abbrev pub marked_by : Bool → Phase → Slot → Slot
marked_by false p v = v
marked_by true Vacant v = v
marked_by true Placeholder v = ended_of v
marked_by true Waiting v = ended_of v
marked_by true Responded v = ended_of v
marked_by true Fmap v = ended_of v

abbrev pub marked_of : ℕ → Slot → Slot
marked_of c v = marked_by (eqb v.caller c) (phase_of v) v

abbrev pub ended_table : Table → ℕ → Table
ended_table t c = record { slots = map (marked_of c) t.slots; next = t.next; head = t.head; holds = t.holds }
