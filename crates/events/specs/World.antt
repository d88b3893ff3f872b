-- The state that an event finds and leaves: the layer's own and the words of its queue, which are lent beside it.
use Rattle.std.specs.Prelude.{ℕ, Bool, List, leb}
use Rattle.handles.specs.declared.Handles.{Handles}
use Rattle.holds.specs.declared.Holds.{Holds}
use Rattle.schemev2.specs.declared.Sqe.{Sqe}
use Rattle.slot.specs.declared.Phase.{Phase}
use Rattle.slot.specs.declared.Slot.{Slot}
use Rattle.slot.specs.Slots.{phase_of}
use Rattle.state.specs.declared.State.{State}
use Rattle.state.specs.State.{fresh_state}
use Rattle.table.specs.declared.Table.{Table}
use Rattle.table.specs.Table.{slot_at}
use Rattle.wait_queue.specs.declared.WaitQueue.{WaitQueue}
use Rattle.wait_queue.specs.Queue.{unread, sent_of, sent_words}

pub record World : Type 0 where
  pub state : State
  pub words : List ℕ

abbrev pub world : State → List ℕ → World
world s ws = record { state = s; words = ws }

-- a fresh state with its scheme number; the queue's words are whatever the host lends
abbrev pub fresh_world : ℕ → List ℕ → World
fresh_world scheme words = world (fresh_state scheme) words

abbrev pub scheme_of : World → ℕ
scheme_of w = w.state.driver.scheme

abbrev pub handles_of : World → Handles
handles_of w = w.state.driver.handles

abbrev pub queue_of : World → WaitQueue
queue_of w = w.state.driver.queue

abbrev pub table_of : World → Table
table_of w = w.state.table

abbrev pub holds_of : World → Holds
holds_of w = w.state.table.holds

abbrev pub slot_in : World → ℕ → Slot
slot_in w n = slot_at (table_of w) n

abbrev pub phase_in : World → ℕ → Phase
phase_in w n = phase_of (slot_in w n)

abbrev pub with_table : World → Table → World
with_table w t = record { state = record { driver = w.state.driver; table = t }; words = w.words }

abbrev pub table_with : Table → Holds → Table
table_with t h = record { slots = t.slots; next = t.next; head = t.head; holds = h }

abbrev pub with_holds : World → Holds → World
with_holds w h = with_table w (table_with (table_of w) h)

abbrev pub with_handles : World → Handles → World
with_handles w k =
    record {
      state = record { driver = record { scheme = scheme_of w; handles = k; queue = queue_of w }; table = table_of w };
      words = w.words;
    }

abbrev pub with_queue : World → WaitQueue → List ℕ → World
with_queue w q ws =
    record {
      state = record { driver = record { scheme = scheme_of w; handles = handles_of w; queue = q }; table = table_of w };
      words = ws;
    }

-- 128 entries are unread
abbrev pub queue_full : World → Bool
queue_full w = leb 128 (queue_of w).len

-- one entry more in the queue, where there is room
abbrev pub queued : World → Sqe → World
queued w e = with_queue w (sent_of (queue_of w)).queue (sent_words (queue_of w) w.words e)

-- the unread bytes, oldest first
abbrev pub unread_in : World → List ℕ
unread_in w = unread (queue_of w) w.words
