-- Giving slots out and queuing entries (01, "Submitting"; src/scheme/user.rs: `next_id` 185, `call` 195, `call_inner` 225 to
-- 254, `request_fmap` 756, `call_generic` 1384, `close` 1641, `detach` 1663, `kfdwrite` 1958, `kfdread` 1992,
-- `translate_std_fs_call` 2048).
use Rattle.std.specs.Prelude.{ℕ, ◌+◌, ◌/◌, ◌%◌, Bool, true, false, not, cond, ◌||◌, ◌&&◌, List, [], ◌∷◌, ltb, leb, eqb, length, get_or}
use Rattle.counts.specs.Counts.{any}
use Rattle.fd_list.specs.Lists.{list_of}
use Rattle.flag.specs.Flags.{event_read, event_hup, send_fd_flags, recv_fd_flags, sqe_multiple_ids}
use Rattle.holds.specs.declared.Holds.{Holds}
use Rattle.opcode.specs.Opcodes as opcode
use Rattle.schemev2.specs.declared.Args.{Args}
use Rattle.schemev2.specs.declared.Sqe.{Sqe}
use Rattle.slot.specs.declared.Phase.{Phase}
use Rattle.slot.specs.declared.Phase.TheVariants.{Vacant, Placeholder, Waiting, Responded, Fmap}
use Rattle.slot.specs.declared.Slot.{Slot}
use Rattle.slot.specs.Slots.{phase_of, placeholder_of, waiting_of, map_request_of}
use Rattle.table.specs.Table.{put_at, given_out}
use Rattle.take_holds.specs.Take.{bad, take_of}
use Rattle.user_args.specs.Args.{merge_of}
use Rattle.events.specs.World.{World, table_of, holds_of, slot_in, with_table, table_with, queue_full, queued}
use Rattle.events.specs.Outcome.{Outcome, outcome, ok, refuse, Row, row, checked, readable, root_effect}

abbrev pub args6 : ℕ → ℕ → ℕ → ℕ → ℕ → ℕ → Args
args6 a b c d e f = record { 0 = a; 1 = b; 2 = c; 3 = d; 4 = e; 5 = f }

abbrev pub sqe : ℕ → ℕ → ℕ → Args → ℕ → Sqe
sqe opcode flags tag args pid = record { opcode = opcode; sqe_flags = flags; tag = tag; args = args; caller = pid }

-- conditions of refusals
abbrev pub bad_opcode : ℕ → Bool
bad_opcode op = not (leb 3 op && leb op 34)

abbrev pub bad_list : World → List ℕ → Bool
bad_list w ds = any (bad (holds_of w) ds) ds

abbrev pub long_list : List ℕ → Bool
long_list ds = ltb 16 (length ds)

-- the chain of vacant slots is empty
abbrev pub table_full : World → Bool
table_full w = leb 64 (table_of w).head

-- a list's holds, taken from the outside ones
abbrev pub taken_holds : World → List ℕ → Holds
taken_holds w ds = (take_of (holds_of w) ds).holds

-- `next_id`: a Placeholder of the caller's
abbrev pub reserve_rows : World → List Row
reserve_rows w = row 202 (table_full w) ∷ []

abbrev pub reserved : World → ℕ → Outcome
reserved w c = outcome (ok (table_of w).head) [] (with_table w (given_out (table_of w) (placeholder_of c)))

abbrev pub reserve_of : World → ℕ → Outcome
reserve_of w c = checked (refuse w) (reserve_rows w) (reserved w c)

-- is it a Placeholder of this caller's that has not ended
abbrev pub is_placeholder : Phase → Bool
is_placeholder Vacant = false
is_placeholder Placeholder = true
is_placeholder Waiting = false
is_placeholder Responded = false
is_placeholder Fmap = false

abbrev pub submittable : Slot → ℕ → Bool
submittable v c = is_placeholder (phase_of v) && (eqb v.caller c && not v.ended)

-- submit: opcode, flags, arguments and pid as given; the Placeholder becomes Waiting with the list
abbrev pub submit_entry : ℕ → ℕ → ℕ → Args → ℕ → Sqe
submit_entry n op fl args pid = sqe op fl n args pid

abbrev pub submit_rows : World → ℕ → ℕ → ℕ → List ℕ → List Row
submit_rows w n c op ds =
    row 205 (bad_opcode op || bad_list w ds)
    ∷ row 206 (long_list ds)
    ∷ row 201 (not (submittable (slot_in w n) c))
    ∷ row 203 (queue_full w)
    ∷ []

abbrev pub submitted : World → ℕ → ℕ → List ℕ → Sqe → Outcome
submitted w n c ds e =
    outcome (ok n) (readable w) (queued (with_table w (table_with (put_at (table_of w) n (waiting_of c (list_of ds))) (taken_holds w ds))) e)

abbrev pub submit_of : World → ℕ → ℕ → ℕ → ℕ → Args → ℕ → List ℕ → Outcome
submit_of w n c op fl args pid ds = checked (refuse w) (submit_rows w n c op ds) (submitted w n c ds (submit_entry n op fl args pid))

-- a vacant slot given out and an entry with its tag queued
abbrev pub begun : World → Slot → Holds → (ℕ → Sqe) → Outcome
begun w v h e =
    outcome (ok (table_of w).head) (readable w)
    (queued (with_table w (table_with (given_out (table_of w) v) h)) (e (table_of w).head))

-- `call`: reserve and submit in one; argument 5 is overwritten
abbrev pub call_entry : ℕ → Args → ℕ → ℕ → ℕ → ℕ → Sqe
call_entry op a uid gid pid n = sqe op 0 n (args6 a.0 a.1 a.2 a.3 a.4 (merge_of uid gid)) pid

abbrev pub call_rows : World → ℕ → List ℕ → List Row
call_rows w op ds = row 205 (bad_opcode op || bad_list w ds) ∷ row 206 (long_list ds) ∷ row 202 (table_full w) ∷ row 203 (queue_full w) ∷ []

abbrev pub call_of : World → ℕ → ℕ → Args → ℕ → ℕ → ℕ → List ℕ → Outcome
call_of w c op args uid gid pid ds =
    checked (refuse w) (call_rows w op ds) (begun w (waiting_of c (list_of ds)) (taken_holds w ds) (call_entry op args uid gid pid))

-- `kfdwrite`: a `call` that sends its list; what the flags say, and the list's length, are among its arguments
abbrev pub fdwrite_args : ℕ → ℕ → List ℕ → List ℕ → Args
fdwrite_args number flags ms ds = args6 number (send_fd_flags flags) (get_or ms 0 0) (length ds) 0 0

abbrev pub fdwrite_of : World → ℕ → ℕ → ℕ → List ℕ → ℕ → ℕ → ℕ → List ℕ → Outcome
fdwrite_of w c number flags ms uid gid pid ds = call_of w c opcode.sendfd (fdwrite_args number flags ms ds) uid gid pid ds

-- `kfdread`: a `call` without a list, for a payload of so many words of eight bytes
abbrev pub fdread_args : ℕ → ℕ → ℕ → List ℕ → Args
fdread_args number len flags ms = args6 number (recv_fd_flags flags) (len / 8) (get_or ms 0 0) (get_or ms 1 0) 0

-- the length first, before a slot is looked for
abbrev pub length_rows : ℕ → List Row
length_rows len = row 22 (not (eqb (len % 8) 0)) ∷ []

abbrev pub fdread_of : World → ℕ → ℕ → ℕ → ℕ → List ℕ → ℕ → ℕ → ℕ → Outcome
fdread_of w c number len flags ms uid gid pid =
    checked (refuse w) (length_rows len) (call_of w c opcode.recvfd (fdread_args number len flags ms) uid gid pid [])

-- `call_generic` and `translate_std_fs_call`: one or two fds, the payload's address and length, metadata words
abbrev pub wrong_fds : List ℕ → Bool
wrong_fds fds = eqb (length fds) 0 || ltb 2 (length fds)

-- with two fds argument 5 is the second and MULTIPLE_IDS is set; with one it is the third metadata word
abbrev pub generic_args : Bool → List ℕ → ℕ → ℕ → List ℕ → Args
generic_args true fds base len ms = args6 (get_or fds 0 0) base len (get_or ms 0 0) (get_or ms 1 0) (get_or fds 1 0)
generic_args false fds base len ms = args6 (get_or fds 0 0) base len (get_or ms 0 0) (get_or ms 1 0) (get_or ms 2 0)

abbrev pub generic_entry : ℕ → ℕ → List ℕ → ℕ → ℕ → List ℕ → ℕ → Sqe
generic_entry op pid fds base len ms n =
    sqe op (cond (eqb (length fds) 2) sqe_multiple_ids 0) n (generic_args (eqb (length fds) 2) fds base len ms) pid

abbrev pub generic_rows : World → List ℕ → List Row
generic_rows w fds = row 22 (wrong_fds fds) ∷ row 202 (table_full w) ∷ row 203 (queue_full w) ∷ []

abbrev pub generic_of : World → ℕ → ℕ → List ℕ → ℕ → ℕ → List ℕ → Outcome
generic_of w c pid fds base len ms =
    checked (refuse w) (generic_rows w fds) (begun w (waiting_of c (list_of [])) (holds_of w) (generic_entry opcode.call pid fds base len ms))

-- `StdFsCallKind`: 1 to 8 and 10 to 16 (syscall/src/flag.rs, lines 515 to 533)
abbrev pub wrong_kind : ℕ → Bool
wrong_kind k = not (leb 1 k && leb k 8 || leb 10 k && leb k 16)

-- the three words of `StdFsCallMeta`: low byte of the kind, arg1, arg2
abbrev pub kind_byte : List ℕ → ℕ
kind_byte ms = get_or ms 0 0 % 256

abbrev pub std_meta : List ℕ → List ℕ
std_meta ms = kind_byte ms ∷ get_or ms 1 0 ∷ get_or ms 2 0 ∷ []

-- words, then kind, then fds
abbrev pub stdfs_rows : World → List ℕ → List ℕ → List Row
stdfs_rows w fds ms = row 22 (ltb (length ms) 3) ∷ row 95 (wrong_kind (kind_byte ms)) ∷ generic_rows w fds

abbrev pub stdfs_of : World → ℕ → ℕ → List ℕ → ℕ → ℕ → List ℕ → Outcome
stdfs_of w c pid fds base len ms =
    checked (refuse w) (stdfs_rows w fds ms) (begun w (waiting_of c (list_of [])) (holds_of w) (generic_entry opcode.std_fs_call pid fds base len (std_meta ms)))

-- `request_fmap`: an Fmap slot, which is no call; the offset is left out of the entry
abbrev pub fmap_entry : ℕ → ℕ → ℕ → ℕ → ℕ → ℕ → ℕ → Sqe
fmap_entry id pages flags uid gid pid n = sqe opcode.request_mmap 0 n (args6 id flags pages 0 0 (merge_of uid gid)) pid

abbrev pub fmap_rows : World → List Row
fmap_rows w = row 202 (table_full w) ∷ row 203 (queue_full w) ∷ []

abbrev pub fmap_of : World → ℕ → ℕ → ℕ → ℕ → ℕ → ℕ → ℕ → Outcome
fmap_of w c id pages flags uid gid pid =
    checked (refuse w) (fmap_rows w) (begun w (map_request_of c) (holds_of w) (fmap_entry id pages flags uid gid pid))

-- `close`: pid 0, tag 0, and its effect has READ and HUP
abbrev pub close_entry : ℕ → Sqe
close_entry id = sqe opcode.close_msg 0 0 (args6 id 0 0 0 0 0) 0

abbrev pub queue_rows : World → List Row
queue_rows w = row 203 (queue_full w) ∷ []

-- an entry of its own, with the event's flags
abbrev pub notified : World → ℕ → Sqe → Outcome
notified w flags e = outcome (ok 0) (root_effect w flags) (queued w e)

abbrev pub close_of : World → ℕ → Outcome
close_of w id = checked (refuse w) (queue_rows w) (notified w (event_read + event_hup) (close_entry id))

-- `detach`: the pid, tag 0
abbrev pub detach_entry : ℕ → ℕ → Sqe
detach_entry id pid = sqe opcode.detach 0 0 (args6 id 0 0 0 0 0) pid

abbrev pub detach_of : World → ℕ → ℕ → Outcome
detach_of w id pid = checked (refuse w) (queue_rows w) (notified w event_read (detach_entry id pid))
