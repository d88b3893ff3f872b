-- The slots with the chain of vacated ones (01, "What changes shape"): last vacated first, unused slots rising from 0;
-- and the hold counts, which nothing here touches.
-- `head` is the first vacant slot, `next` the one after each; a number over 63 ends the chain.
use Rattle.std.specs.Prelude.{false, cond, List, [], ◌∷◌, ℕ, zero, suc, ltb, get_or, set, replicate}
use Rattle.holds.specs.declared.Holds.{Holds}
use Rattle.slot.specs.declared.Slot.{Slot}
use Rattle.slot.specs.Slots.{vacant_slot, no_span, no_reply}
use Rattle.table.specs.declared.Table.{Table}

-- n numbers from k on
abbrev pub rising : ℕ → ℕ → List ℕ
rising k zero = []
rising k (suc n) = k ∷ rising (suc k) n

-- no description is open
abbrev pub no_holds : Holds
no_holds = record { holds = replicate 64 0; outside = replicate 64 0 }

abbrev pub fresh_table : Table
fresh_table = record { slots = replicate 64 vacant_slot; next = rising 1 64; head = 0; holds = no_holds }

-- nothing: what a list of slots is read as past its end, where no tag leads
abbrev pub no_slot : Slot
no_slot =
    record { state = 0; caller = 0; canceling = false; ended = false; returned = false; span = no_span; reply = no_reply; fds = record { at = []; len = 0 } }

-- what stands at a tag: one over 63 counts as vacant
abbrev pub slot_at : Table → ℕ → Slot
slot_at t n = cond (ltb n 64) (get_or t.slots n no_slot) vacant_slot

-- a slot stored at a tag
abbrev pub stored : Table → ℕ → Slot → Table
stored t n v = record { slots = set t.slots n v; next = t.next; head = t.head; holds = t.holds }

abbrev pub put_at : Table → ℕ → Slot → Table
put_at t n v = cond (ltb n 64) (stored t n v) t

-- the first of the chain becomes v and leaves it
abbrev pub given_out : Table → Slot → Table
given_out t v = record { slots = set t.slots t.head v; next = t.next; head = get_or t.next t.head 0; holds = t.holds }

-- vacant, and first in the chain
abbrev pub vacated : Table → ℕ → Table
vacated t n = record { slots = set t.slots n vacant_slot; next = set t.next n t.head; head = n; holds = t.holds }

abbrev pub vacate_at : Table → ℕ → Table
vacate_at t n = cond (ltb n 64) (vacated t n) t
