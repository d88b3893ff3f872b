-- Demand 1: a refusal changes no state and no lent buffer, but for the four cases that 01 names ("Where each refusal is checked",
-- last lines); "would wait" changes nothing either. Over every event and every state, reached by a run or not.
use Rattle.std.specs.Prelude.{ℕ, ◌*◌, ◌/◌, ◌≡◌, cond, ◌||◌, List, [], eqb, ltb, length, Option, Some, None}
use Rattle.fd_list.specs.Lists.{numbers}
use Rattle.handles.specs.Handles.{held_at, emptied}
use Rattle.schemev2.specs.declared.Cqe.{Cqe}
use Rattle.schemev2.specs.declared.CqeOpcode.{CqeOpcode}
use Rattle.schemev2.specs.declared.CqeOpcode.TheVariants.{RespondRegular, RespondWithFd, SendFevent, ObtainFd, RespondWithMultipleFds, RespondAndNotifyOnDetach}
use Rattle.schemev2.specs.Entry.{kind_of, cqe_opcode_of}
use Rattle.slot.specs.Slots.{interrupted_of}
use Rattle.table.specs.Table.{put_at, vacate_at}
use Rattle.events.specs.World.{World, table_of, holds_of, handles_of, slot_in, with_table, with_holds, with_handles}
use Rattle.events.specs.Outcome.{Outcome, ok, no, wait}
use Rattle.events.specs.Submit.{taken_holds}
use Rattle.events.specs.Entry.{dropped, named_of, in_handle}
use Rattle.events.specs.Complete.{rejected, entry_of}
use Rattle.events.specs.Event.{write, Event, on, step}
use Rattle.events.specs.History.{View, tells, sends, wakes, reads, writes, moves, supplies, view_of, entry_at, after_entries}

-- no effect was made and no byte stored, so that lent words and bytes keep what they held
pub record Nothing (o : Outcome) : Type 0 where
  pub effects : o.effects ≡ []
  pub bytes : o.bytes ≡ []

-- what a refused entry leaves: the state as it was, but "a descriptor response refused by its tag has emptied the handle and
-- dropped the hold"; with an empty handle it is refused before its tag is looked at
abbrev pub left_by : Option CqeOpcode → World → Cqe → World
left_by (Some RespondRegular) w e = w
left_by (Some RespondWithFd) w e =
    cond (eqb (held_at (handles_of w) e.result) 0) w
    (with_handles (with_holds w (dropped (holds_of w) (numbers (named_of (in_handle (handles_of w) e.result))))) (emptied (handles_of w) e.result))
left_by (Some SendFevent) w e = w
left_by (Some ObtainFd) w e = w
left_by (Some RespondWithMultipleFds) w e = w
left_by (Some RespondAndNotifyOnDetach) w e = w
left_by None w e = w

abbrev pub left_entry : World → Cqe → World
left_entry w e = left_by (cqe_opcode_of (kind_of e)) w e

-- what a refusal with number k leaves: the state as it was, but for the four cases
abbrev pub left : World → View → ℕ → World
left w (tells f) k = w
left w (sends f e flags) k = w
-- "EINTR as above": cancelling and returned are marked, the span is in the slot, nothing is queued
left w (wakes n c killed span) k = cond (eqb k 4) (with_table w (put_at (table_of w) n (interrupted_of (slot_in w n) span))) w
left w reads k = w
-- a write that is refused is refused for want of words, or for its first entry
left w (writes words bs) k = cond (ltb words (54 * (length bs / 16))) w (left_entry w (entry_at bs 0))
-- "a move refused by 22 or 2 drops what it brought"
left w (moves ds) k = cond (eqb k 22 || eqb k 2) (with_holds w (dropped (taken_holds w ds) ds)) w
-- "ESRCH has vacated the slot"
left w (supplies n) k = cond (eqb k 3) (with_table w (vacate_at (table_of w) n)) w

-- what a write leaves that counts j entries: what these leave, and of one more, which stopped it, what a refused entry leaves
abbrev pub left_after : World → List ℕ → ℕ → World
left_after w bs j = cond (ltb j (length bs / 16)) (left_entry (after_entries bs w j) (entry_at bs j)) (after_entries bs w j)

pub record Demand1 : Type 0 where
  -- every event, on every state, that is refused with a number
  pub refused : (w : World) (e : Event) (k : ℕ) → (step w e).answer ≡ no k → Nothing (step w e) × ((step w e).world ≡ left w (view_of e) k)
  pub waiting : (w : World) (e : Event) → (step w e).answer ≡ wait → Nothing (step w e) × ((step w e).world ≡ w)
  -- each entry of a write, on the state before it: a refused one makes no effect
  pub entry : (w : World) (e : Cqe) (k : ℕ) (fx : List ℕ) (u : World) → entry_of w e ≡ rejected k fx u → (fx ≡ []) × (u ≡ left_entry w e)
  -- "a refusal after a good entry stops", whatever comes after it
  pub stops : (w : World) (words : ℕ) (bs : List ℕ) (v : ℕ) → (step w (on (write words bs))).answer ≡ ok v → (step w (on (write words bs))).world ≡ left_after w bs (v / 16)
