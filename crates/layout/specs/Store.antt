-- What an event stores, one thing at a time: on the words, and on the plain state. Both are total: a store to no slot is nothing,
-- and so is one more entry in a full queue.
use Rattle.std.specs.Prelude.{ℕ, ◌+◌, ◌*◌, ◌%◌, ◌≡◌, cond, List, [], ◌∷◌, ltb, leb, get_or, set, length}
use Rattle.std.proofs.lemmas.List.Edits.{sets}
use Rattle.handles.specs.Handles.{handles_with}
use Rattle.holds.specs.Holds.{holds_with}
use Rattle.schemev2.specs.declared.Sqe.{Sqe}
use Rattle.schemev2.specs.Entry.{sqe_words}
use Rattle.slot.specs.declared.Slot.{Slot}
use Rattle.slot.specs.Slots.{vacant_slot}
use Rattle.table.specs.Table.{put_at, given_out, vacate_at}
use Rattle.wait_queue.specs.declared.WaitQueue.{WaitQueue}
use Rattle.events.specs.World.{World, table_of, holds_of, with_table, with_holds, with_handles, with_queue, queued}
use Rattle.layout.specs.Layout.{slot_place, chain_place, head_place, all_place, outside_place, first_place, unread_place, handle_place, queue_place, slot_words}
use Rattle.layout.specs.Fits.{SlotFits}

pub data Store : Type 0 where
  put : (n : ℕ) (v : Slot) → Store  -- slot n becomes v
  give : (v : Slot) → Store  -- the first of the chain becomes v and leaves it
  vacate : (n : ℕ) → Store  -- slot n is vacant, and first in the chain
  send : (e : Sqe) → Store  -- one entry more in the queue
  queue : (q : WaitQueue) → Store  -- where the oldest entry stands, and how many are unread
  outside : (o : List ℕ) → Store  -- the counts of outside holds, of all holds; the handles
  all : (a : List ℕ) → Store
  handles : (k : List ℕ) → Store

-- on words
abbrev pub put_words : List ℕ → ℕ → Slot → List ℕ
put_words ws n v = sets ws (slot_place n) (slot_words v)

abbrev pub give_words : List ℕ → ℕ → Slot → List ℕ
give_words ws n v = set (put_words ws n v) head_place (get_or ws (chain_place n) 0)

abbrev pub vacate_words : List ℕ → ℕ → List ℕ
vacate_words ws n = set (set (put_words ws n vacant_slot) (chain_place n) (get_or ws head_place 0)) head_place n

abbrev pub send_place : List ℕ → ℕ
send_place ws = (get_or ws first_place 0 + get_or ws unread_place 0) % 128 * 8

abbrev pub send_words : List ℕ → Sqe → List ℕ
send_words ws e = set (sets ws (queue_place (send_place ws)) (sqe_words e)) unread_place (get_or ws unread_place 0 + 1)

abbrev pub stored : List ℕ → Store → List ℕ
stored ws (put n v) = cond (ltb n 64) (put_words ws n v) ws
stored ws (give v) = cond (leb 64 (get_or ws head_place 0)) ws (give_words ws (get_or ws head_place 0) v)
stored ws (vacate n) = cond (ltb n 64) (vacate_words ws n) ws
stored ws (send e) = cond (leb 128 (get_or ws unread_place 0)) ws (send_words ws e)
stored ws (queue q) = set (set ws first_place q.first) unread_place q.len
stored ws (outside o) = sets ws (outside_place 0) o
stored ws (all a) = sets ws (all_place 0) a
stored ws (handles k) = sets ws (handle_place 0) k

abbrev pub stored_all : List ℕ → List Store → List ℕ
stored_all ws [] = ws
stored_all ws (s ∷ ss) = stored_all (stored ws s) ss

-- on the plain state
abbrev pub changed : World → Store → World
changed w (put n v) = with_table w (put_at (table_of w) n v)
changed w (give v) = cond (leb 64 (table_of w).head) w (with_table w (given_out (table_of w) v))
changed w (vacate n) = with_table w (vacate_at (table_of w) n)
changed w (send e) = queued w e
changed w (queue q) = with_queue w q w.words
changed w (outside o) = with_holds w (holds_with (holds_of w).holds o)
changed w (all a) = with_holds w (holds_with a (holds_of w).outside)
changed w (handles k) = with_handles w (handles_with k)

abbrev pub changed_all : World → List Store → World
changed_all w [] = w
changed_all w (s ∷ ss) = changed_all (changed w s) ss

-- what is stored fits its place
abbrev pub StoreFits : Store → Type 0
StoreFits (put n v) = SlotFits v
StoreFits (give v) = SlotFits v
StoreFits (vacate n) = Unit {0}
StoreFits (send e) = Unit {0}
StoreFits (queue q) = Unit {0}
StoreFits (outside o) = length o ≡ 64
StoreFits (all a) = length a ≡ 64
StoreFits (handles k) = length k ≡ 64

abbrev pub StoresFit : List Store → Type 0
StoresFit [] = Unit {0}
StoresFit (s ∷ ss) = StoreFits s × StoresFit ss
