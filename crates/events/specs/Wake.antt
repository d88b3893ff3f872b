-- One turn of `call_inner`'s loop (01, "Waking"; src/scheme/user.rs, lines 256 to 392), and what a slot holds for it.
use Rattle.std.specs.Prelude.{ℕ, zero, suc, Bool, true, false, not, ◌&&◌, List, [], ◌∷◌, ltb, eqb}
use Rattle.fd_list.specs.declared.List.{List as Fds}
use Rattle.fd_list.specs.Lists.{numbers}
use Rattle.flag.specs.Flags.{sqe_oneway}
use Rattle.holds.specs.Holds.{outside_of}
use Rattle.opcode.specs.Opcodes as opcode
use Rattle.schemev2.specs.declared.Sqe.{Sqe}
use Rattle.slot.specs.declared.PageSpan.{PageSpan}
use Rattle.slot.specs.declared.Phase.{Phase}
use Rattle.slot.specs.declared.Phase.TheVariants.{Vacant, Placeholder, Waiting, Responded, Fmap}
use Rattle.slot.specs.declared.Reply.{Reply}
use Rattle.slot.specs.declared.Slot.{Slot}
use Rattle.slot.specs.Slots.{canceled_of, interrupted_of}
use Rattle.table.specs.Table.{put_at, vacate_at}
use Rattle.events.specs.World.{World, table_of, holds_of, slot_in, phase_in, with_table, table_with, queue_full, queued}
use Rattle.events.specs.Outcome.{Response, success, error, descriptor, many, Outcome, outcome, no, blocked, reply, refuse, Row, row, checked, readable}
use Rattle.events.specs.Submit.{sqe, args6}

-- a stored reply, and the list beside it, as the reply that it is: by the stored kind, its word, and for many the list
abbrev pub response_by : ℕ → Reply → Fds → Response
response_by zero r l = success r.word r.extra0 r.notice
response_by (suc zero) r l = error r.word r.extra0 r.notice
response_by (suc (suc zero)) r l = descriptor r.word
response_by (suc (suc (suc k))) r l = many (numbers l)

abbrev pub response_from : Reply → Fds → Response
response_from r l = response_by r.kind r l

-- the reply that a slot holds
abbrev pub response_of : Slot → Response
response_of v = response_from v.reply v.fds

-- the descriptions that a reply holds, in order
abbrev pub held_in : Response → List ℕ
held_in (success w x b) = []
held_in (error e x b) = []
held_in (descriptor d) = d ∷ []
held_in (many ds) = ds

-- Cancel: ONEWAY, the call's tag, all else 0
abbrev pub cancel_entry : ℕ → Sqe
cancel_entry n = sqe opcode.cancel sqe_oneway n (args6 0 0 0 0 0 0) 0

-- the reply leaves with its holds, which become outside ones, and its slot is vacated
abbrev pub handed_over : World → ℕ → Outcome
handed_over w n =
    outcome (reply (response_of (slot_in w n))) []
    (with_table w (table_with (vacate_at (table_of w) n) (outside_of (holds_of w) (held_in (response_of (slot_in w n))))))

-- killed while waiting: EINTR; whoever responds unmaps the span
abbrev pub interrupted : World → ℕ → PageSpan → Outcome
interrupted w n span = outcome (no 4) [] (with_table w (put_at (table_of w) n (interrupted_of (slot_in w n) span)))

-- still blocked: cancelling already; else no room for the Cancel, or it is queued
abbrev pub blocked_by : Bool → Bool → World → ℕ → Outcome
blocked_by true full w n = outcome blocked [] w
blocked_by false true w n = refuse w 203
blocked_by false false w n = outcome blocked (readable w) (queued (with_table w (put_at (table_of w) n (canceled_of (slot_in w n)))) (cancel_entry n))

-- a Waiting slot: killed or not
abbrev pub waited_by : Bool → World → ℕ → PageSpan → Outcome
waited_by true w n span = interrupted w n span
waited_by false w n span = blocked_by (slot_in w n).canceling (queue_full w) w n

-- a Responded slot hands its reply over, also to a killed caller
abbrev pub woken_by : Phase → World → ℕ → ℕ → PageSpan → Outcome
woken_by Vacant w n killed span = refuse w 77
woken_by Placeholder w n killed span = refuse w 77
woken_by Waiting w n killed span = waited_by (eqb killed 1) w n span
woken_by Responded w n killed span = handed_over w n
woken_by Fmap w n killed span = refuse w 77

abbrev pub awaits : Phase → Bool
awaits Vacant = false
awaits Placeholder = false
awaits Waiting = true
awaits Responded = true
awaits Fmap = false

abbrev pub wakeable : Slot → ℕ → Bool
wakeable v c = eqb v.caller c && (not v.ended && not v.returned)

-- killed is no yes-or-no word; the phase; is it wakeable
abbrev pub wake_rows : Bool → Phase → Bool → List Row
wake_rows x p y = row 205 x ∷ row 77 (not (awaits p)) ∷ row 201 (not y) ∷ []

abbrev pub wake_of : World → ℕ → ℕ → ℕ → ℕ → ℕ → Outcome
wake_of w n c killed base count =
    checked (refuse w) (wake_rows (ltb 1 killed) (phase_in w n) (wakeable (slot_in w n) c))
    (woken_by (phase_in w n) w n killed (record { base = base; count = count }))
