-- What each event stores: counts and handles first, then a slot, then an entry. A refusal stores nothing, but in four named cases: a descriptor response and a move that are
-- refused by the tag have dropped a hold; EINTR of a killed wake stores its span and mark; ESRCH of a supply vacates its slot.
use Rattle.std.specs.Prelude.{ℕ, zero, suc, Bool, true, false, not, cond, ◌&&◌, List, [], ◌∷◌, ◌++◌, ltb, eqb}
use Rattle.fd_list.specs.Lists.{numbers, list_of}
use Rattle.holds.specs.declared.Holds.{Holds}
use Rattle.holds.specs.Holds.{outside_of}
use Rattle.host_holds.specs.Host.{open_of, copy_of, drop_of}
use Rattle.host_put.specs.Put.{put_of}
use Rattle.opcode.specs.Opcodes as opcode
use Rattle.parse_cqe.specs.Parsed.{parsed_of}
use Rattle.schemev2.specs.declared.Args.{Args}
use Rattle.schemev2.specs.declared.Cqe.{Cqe}
use Rattle.slot.specs.declared.Act.{Act}
use Rattle.slot.specs.declared.Act.TheVariants as act
use Rattle.slot.specs.declared.PageSpan.{PageSpan}
use Rattle.slot.specs.declared.Phase.{Phase}
use Rattle.slot.specs.declared.Phase.TheVariants.{Vacant, Placeholder, Waiting, Responded, Fmap}
use Rattle.slot.specs.declared.Slot.{Slot}
use Rattle.slot.specs.Slots.{phase_of, no_fds, placeholder_of, waiting_of, map_request_of, canceled_of, interrupted_of, ended_of, with_fds_of}
use Rattle.wait_queue_receive.specs.Receive.{received_of}
use Rattle.events.specs.World.{World, table_of, holds_of, handles_of, queue_of, slot_in, phase_in, queue_full}
use Rattle.events.specs.Outcome.{Row, checked}
use Rattle.events.specs.Submit.{taken_holds, reserve_rows, submit_rows, submit_entry, call_rows, call_entry, fdwrite_args, fdread_args, length_rows, generic_rows, generic_entry, stdfs_rows, std_meta, fmap_rows, fmap_entry, queue_rows, close_entry, detach_entry}
use Rattle.events.specs.Wake.{response_of, held_in, cancel_entry, wakeable, wake_rows}
use Rattle.events.specs.Entry.{Decision, decision_of, dropped, is_vacant}
use Rattle.events.specs.Complete.{Entered, accepted, rejected, entry_of, entries_of, write_rows}
use Rattle.events.specs.Descriptors.{request_of, request_rows, list_rows}
use Rattle.events.specs.Supply.{page_rows}
use Rattle.events.specs.Event.{DriverEvent, host_put, reserve, submit, call, fdwrite, fdread, generic, stdfs, fmap, close, detach, wake, read, write, move, obtain, supply, Event, host_open, host_copy, host_drop, host_ended, on}
use Rattle.layout.specs.Store.{Store, put, give, vacate, send, queue, outside, all, handles}

-- nothing where a row is due
abbrev pub unless : List Row → List Store → List Store
unless rows ss = checked (λ k. []) rows ss

-- both counts
abbrev pub counts : Holds → List Store
counts h = outside h.outside ∷ all h.holds ∷ []

-- a list's holds, taken from the outside ones
abbrev pub taken : World → List ℕ → Store
taken w ds = outside (taken_holds w ds).outside

-- an ended caller's slots, of the k from n on
abbrev pub has : ℕ → Slot → Bool
has c v = eqb v.caller c && not (is_vacant (phase_of v))

abbrev pub marks : ℕ → ℕ → World → ℕ → List Store
marks zero n w c = []
marks (suc k) n w c = cond (has c (slot_in w n)) (put n (ended_of (slot_in w n)) ∷ marks k (suc n) w c) (marks k (suc n) w c)

-- a wake, by its cases
abbrev pub blocked_stores : Bool → Bool → World → ℕ → List Store
blocked_stores true full w n = []
blocked_stores false true w n = []
blocked_stores false false w n = put n (canceled_of (slot_in w n)) ∷ send (cancel_entry n) ∷ []

abbrev pub waited_stores : Bool → World → ℕ → PageSpan → List Store
waited_stores true w n span = put n (interrupted_of (slot_in w n) span) ∷ []
waited_stores false w n span = blocked_stores (slot_in w n).canceling (queue_full w) w n

abbrev pub woken_stores : Phase → World → ℕ → ℕ → PageSpan → List Store
woken_stores Vacant w n killed span = []
woken_stores Placeholder w n killed span = []
woken_stores Waiting w n killed span = waited_stores (eqb killed 1) w n span
woken_stores Responded w n killed span =
    outside (outside_of (holds_of w) (held_in (response_of (slot_in w n)))).outside ∷ vacate n ∷ []
woken_stores Fmap w n killed span = []

-- a completion entry: its decision carried out at its tag
abbrev pub act_stores : Act → ℕ → Slot → List Store
act_stores act.Leave n v = []
act_stores act.Store n v = put n v ∷ []
act_stores act.Vacate n v = vacate n ∷ []

abbrev pub decided_stores : ℕ → Decision → List Store
decided_stores n d = outside d.holds.outside ∷ all d.holds.holds ∷ handles d.handles.at ∷ act_stores d.act n d.slot

abbrev pub entry_stores : World → Cqe → List Store
entry_stores w e = decided_stores e.tag (decision_of (parsed_of e) (slot_in w e.tag) (holds_of w) (handles_of w))

-- entry after entry, up to the first refusal
abbrev pub gone_on : Entered → (World → List Store) → List Store
gone_on (accepted fx w) f = f w
gone_on (rejected k fx w) f = []

abbrev pub write_stores : World → List Cqe → List Store
write_stores w [] = []
write_stores w (e ∷ es) = entry_stores w e ++ gone_on (entry_of w e) (λ u. write_stores u es)

-- a map supply
abbrev pub supplied_stores : Phase → ℕ → List Store
supplied_stores Vacant n = []
supplied_stores Placeholder n = []
supplied_stores Waiting n = []
supplied_stores Responded n = []
supplied_stores Fmap n = vacate n ∷ []

-- a `call`
abbrev pub call_stores : World → ℕ → ℕ → Args → ℕ → ℕ → ℕ → List ℕ → List Store
call_stores w c op args uid gid pid ds =
    unless (call_rows w op ds) (taken w ds ∷ give (waiting_of c (list_of ds)) ∷ send (call_entry op args uid gid pid (table_of w).head) ∷ [])

abbrev pub driver_stores : World → DriverEvent → List Store
driver_stores w (host_put d k) =
    counts (put_of (holds_of w) (handles_of w) d k).holds ++ handles (put_of (holds_of w) (handles_of w) d k).handles.at ∷ []
driver_stores w (reserve c) = unless (reserve_rows w) (give (placeholder_of c) ∷ [])
driver_stores w (submit n c op fl args pid ds) =
    unless (submit_rows w n c op ds) (taken w ds ∷ put n (waiting_of c (list_of ds)) ∷ send (submit_entry n op fl args pid) ∷ [])
driver_stores w (call c op args uid gid pid ds) = call_stores w c op args uid gid pid ds
driver_stores w (fdwrite c number flags ms uid gid pid ds) = call_stores w c opcode.sendfd (fdwrite_args number flags ms ds) uid gid pid ds
driver_stores w (fdread c number len flags ms uid gid pid) =
    unless (length_rows len) (call_stores w c opcode.recvfd (fdread_args number len flags ms) uid gid pid [])
driver_stores w (generic c pid fds base len ms) =
    unless (generic_rows w fds) (give (waiting_of c no_fds) ∷ send (generic_entry opcode.call pid fds base len ms (table_of w).head) ∷ [])
driver_stores w (stdfs c pid fds base len ms) =
    unless (stdfs_rows w fds ms) (give (waiting_of c no_fds) ∷ send (generic_entry opcode.std_fs_call pid fds base len (std_meta ms) (table_of w).head) ∷ [])
driver_stores w (fmap c id pages flags uid gid pid) =
    unless (fmap_rows w) (give (map_request_of c) ∷ send (fmap_entry id pages flags uid gid pid (table_of w).head) ∷ [])
driver_stores w (close id) = unless (queue_rows w) (send (close_entry id) ∷ [])
driver_stores w (detach id pid) = unless (queue_rows w) (send (detach_entry id pid) ∷ [])
driver_stores w (wake n c killed base count) =
    unless (wake_rows (ltb 1 killed) (phase_in w n) (wakeable (slot_in w n) c)) (woken_stores (phase_in w n) w n killed (record { base = base; count = count }))
driver_stores w (read len flags) = queue (received_of (queue_of w) len flags).queue ∷ []
driver_stores w (write words bs) = unless (write_rows words bs) (write_stores w (entries_of bs))
driver_stores w (move ms ds) =
    unless (list_rows w ds)
    (checked (λ k. counts (dropped (taken_holds w ds) ds)) (request_rows w 1 ms)
    (counts (dropped (taken_holds w ds) (numbers (slot_in w (request_of ms)).fds)) ++ put (request_of ms) (with_fds_of (slot_in w (request_of ms)) (list_of ds)) ∷ []))
driver_stores w (obtain ms) =
    unless (request_rows w 0 ms)
    (outside (outside_of (holds_of w) (numbers (slot_in w (request_of ms)).fds)).outside ∷ put (request_of ms) (with_fds_of (slot_in w (request_of ms)) no_fds) ∷ [])
driver_stores w (supply n offset base count) = unless (page_rows offset base count) (supplied_stores (phase_in w n) n)

abbrev pub stores_of : World → Event → List Store
stores_of w (host_open d) = counts (open_of (holds_of w) d).holds
stores_of w (host_copy d) = counts (copy_of (holds_of w) d).holds
stores_of w (host_drop d) = counts (drop_of (holds_of w) d).holds
stores_of w (host_ended c) = marks 64 0 w c
stores_of w (on e) = driver_stores w e
