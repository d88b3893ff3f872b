-- What each event answers (01, "Where each refusal is checked"): the number of the first row whose condition holds, and where
-- none does, what follows from what happened. Conditions are told by the history and by the queue's bytes; those on holds,
-- handles and lists by the state. What else an event does stands in Effects.antt.
use Rattle.std.specs.Prelude.{ℕ, zero, suc, min, ◌*◌, ◌/◌, ◌%◌, ◌≤◌, ◌≡◌, Bool, true, false, not, cond, ◌||◌, ◌&&◌, List, [], ◌∷◌, ◌++◌, ltb, leb, eqb, length, get_or, drop, Option, Some, None}
use Rattle.counts.specs.Counts.{times, any}
use Rattle.fd_list.specs.Lists.{numbers}
use Rattle.flag.specs.Flags.{within, event_flags, fobtain_fd_flags}
use Rattle.schemev2.specs.declared.Cqe.{Cqe}
use Rattle.schemev2.specs.declared.CqeOpcode.{CqeOpcode}
use Rattle.schemev2.specs.declared.CqeOpcode.TheVariants.{RespondRegular, RespondWithFd, SendFevent, ObtainFd, RespondWithMultipleFds, RespondAndNotifyOnDetach}
use Rattle.schemev2.specs.Entry.{kind_of, extra_of, cqe_opcode_of}
use Rattle.table.specs.Table.{rising}
use Rattle.events.specs.World.{World, holds_of, handles_of, slot_in, unread_in}
use Rattle.events.specs.Outcome.{Answer, ok, no, wait, blocked, reply, Row, row}
use Rattle.events.specs.Event.{DriverEvent, host_put, reserve, submit, call, fdwrite, fdread, generic, stdfs, fmap, close, detach, wake, read, write, move, obtain, supply, Event, host_open, host_copy, host_drop, host_ended, on, step}
use Rattle.events.specs.History.{What, Fact, to, end, gave, took, serve, block, interrupt, pass, filled, Stage, free, reserved, waits, replied, mapping, book, view_of, entry_at, after_entries, poured}
use Rattle.events.specs.Run.{Run, turn_of, Steps}
use Rattle.events.specs.Effects.{Rest}

-- the number of the first row that is due; where none is, the answer
abbrev pub ruled : List Row → Answer → Answer
ruled [] a = a
ruled (r ∷ rs) a = cond r.due (no r.number) (ruled rs a)

abbrev pub is_due : List Row → Bool
is_due [] = false
is_due (r ∷ rs) = r.due || is_due rs

-- 01's state of a tag's slot, told by its call: 0 vacant, 1 Placeholder, 2 Waiting, 3 Responded, 4 Fmap
abbrev pub state : Stage → ℕ
state free = 0
state reserved = 1
state waits = 2
state (replied r) = 3
state mapping = 4

abbrev pub in_state : ℕ → List Fact → ℕ → Bool
in_state k h n = eqb (state (book h n).stage) k

-- the vacant tags, the next to be given out first: "last vacated first, unused slots rising from 0"
abbrev pub relisted : What → ℕ → Bool → List ℕ → List ℕ
relisted (gave m c) n ended l = drop 1 l
relisted took n ended l = l
relisted (serve i j r) n ended l = cond ended (n ∷ l) l
relisted block n ended l = l
relisted interrupt n ended l = l
relisted (pass r) n ended l = n ∷ l
relisted filled n ended l = n ∷ l

abbrev pub vacant_tags : List Fact → List ℕ
vacant_tags [] = rising 0 64
vacant_tags (to n x ∷ h) = relisted x n (book h n).ended (vacant_tags h)
vacant_tags (end c ∷ h) = vacant_tags h

abbrev pub no_tag_vacant : List Fact → Bool
no_tag_vacant h = eqb (length (vacant_tags h)) 0

abbrev pub next_tag : List Fact → ℕ
next_tag h = get_or (vacant_tags h) 0 0

-- 128 entries of 64 bytes are unread
abbrev pub all_128_unread : World → Bool
all_128_unread w = eqb (length (unread_in w)) 8192

-- hold counts: all holds of a description, its outside ones
abbrev pub holds_in : World → ℕ → ℕ
holds_in w d = get_or (holds_of w).holds d 0

abbrev pub outside_in : World → ℕ → ℕ
outside_in w d = get_or (holds_of w).outside d 0

-- a description over 63, not open, or with fewer than n outside holds
abbrev pub lacks : World → ℕ → ℕ → Bool
lacks w n d = ltb 63 d || (eqb (holds_in w d) 0 || ltb (outside_in w d) n)

-- some description of the list is over 63, not open or listed more often than it has outside holds
abbrev pub list_lacks : World → List ℕ → Bool
list_lacks w ds = any (λ d. lacks w (times d ds) d) ds

abbrev pub handle_at : World → ℕ → ℕ
handle_at w k = get_or (handles_of w).at k 0

abbrev pub list_at : World → ℕ → List ℕ
list_at w n = numbers (slot_in w n).fds

abbrev pub wrong_opcode : ℕ → Bool
wrong_opcode op = ltb op 3 || ltb 34 op

abbrev pub wrong_fd_count : List ℕ → Bool
wrong_fd_count fds = not (eqb (length fds) 1 || eqb (length fds) 2)

abbrev pub wrong_fs_kind : ℕ → Bool
wrong_fs_kind k = eqb k 0 || (eqb k 9 || ltb 16 k)

abbrev pub off_word : ℕ → Bool
off_word len = not (eqb (len % 8) 0)

abbrev pub off_page : ℕ → Bool
off_page a = not (eqb (a % 4096) 0)

-- the queue is empty, and the read not blocking (flag 0x00040000)
abbrev pub empty_now : World → ℕ → Bool
empty_now w flags = eqb (length (unread_in w)) 0 && eqb (flags / 0x4_0000 % 2) 1

-- respond: vacant or Placeholder 77, Responded or Fmap 22
abbrev pub respond_rows : List Fact → ℕ → List Row
respond_rows h n = row 77 (in_state 0 h n || in_state 1 h n) ∷ row 22 (in_state 3 h n || in_state 4 h n) ∷ []

-- a completion entry, by its kind
abbrev pub entry_rows_by : Option CqeOpcode → List Fact → World → Cqe → List Row
entry_rows_by (Some RespondRegular) h w e = respond_rows h e.tag
entry_rows_by (Some RespondWithFd) h w e = row 22 (ltb 63 e.result || eqb (handle_at w e.result) 0) ∷ respond_rows h e.tag
entry_rows_by (Some SendFevent) h w e = row 22 (not (within event_flags e.tag)) ∷ []
entry_rows_by (Some ObtainFd) h w e =
    row 22 (not (within fobtain_fd_flags (extra_of e)))
    ∷ row 22 (in_state 0 h e.tag)
    ∷ row 2 (not (in_state 2 h e.tag) || eqb (length (list_at w e.tag)) 0)
    ∷ []
entry_rows_by (Some RespondWithMultipleFds) h w e = respond_rows h e.tag
entry_rows_by (Some RespondAndNotifyOnDetach) h w e = respond_rows h e.tag
entry_rows_by None h w e = row 22 true ∷ []

-- entry j of a write, after those before it
abbrev pub entry_rows : Run → List ℕ → ℕ → List Row
entry_rows r bs j =
    entry_rows_by (cqe_opcode_of (kind_of (entry_at bs j))) (poured r.number bs r.world j ++ r.facts) (after_entries bs r.world j) (entry_at bs j)

-- the entries before the first whose row is due, all where none is: those before j, and of n more from j on
abbrev pub good_entries : Run → List ℕ → ℕ → ℕ → ℕ
good_entries r bs j zero = j
good_entries r bs j (suc n) = cond (is_due (entry_rows r bs j)) j (good_entries r bs (suc j) n)

abbrev pub first_rows : Run → List ℕ → ℕ → List Row
first_rows r bs zero = []
first_rows r bs (suc n) = entry_rows r bs 0

-- move and obtain call: metadata not two words, another verb, or a vacant request; then not Waiting
abbrev pub request_rows : List Fact → ℕ → List ℕ → List Row
request_rows h verb ms =
    row 22 (not (eqb (length ms) 2) || (not (eqb (get_or ms 0 0) verb) || in_state 0 h (get_or ms 1 0)))
    ∷ row 2 (not (in_state 2 h (get_or ms 1 0)))
    ∷ []

-- a wake that no row refuses: still blocked while its call waits, else the reply is handed over; of the other stages row 77 is due
abbrev pub woken : Stage → Answer
woken free = no 77
woken reserved = no 77
woken waits = blocked
woken (replied r) = reply r
woken mapping = no 77

-- the rows of each event in 01's order, and its answer where none is due
abbrev pub driver_answer : Run → DriverEvent → Answer
driver_answer r (host_put d k) = ruled (row 205 (lacks r.world 1 d || (ltb 63 k || not (eqb (handle_at r.world k) 0))) ∷ []) (ok 0)
driver_answer r (reserve c) = ruled (row 202 (no_tag_vacant r.facts) ∷ []) (ok (next_tag r.facts))
driver_answer r (submit n c op fl args pid ds) =
    ruled
    (row 205 (wrong_opcode op || list_lacks r.world ds)
    ∷ row 206 (ltb 16 (length ds))
    ∷ row 201 (not (in_state 1 r.facts n) || (not (eqb (book r.facts n).caller c) || (book r.facts n).ended))
    ∷ row 203 (all_128_unread r.world)
    ∷ [])
    (ok n)
driver_answer r (call c op args uid gid pid ds) =
    ruled
    (row 205 (wrong_opcode op || list_lacks r.world ds)
    ∷ row 206 (ltb 16 (length ds))
    ∷ row 202 (no_tag_vacant r.facts)
    ∷ row 203 (all_128_unread r.world)
    ∷ [])
    (ok (next_tag r.facts))
driver_answer r (fdwrite c number flags ms uid gid pid ds) =
    ruled
    (row 205 (list_lacks r.world ds)
    ∷ row 206 (ltb 16 (length ds))
    ∷ row 202 (no_tag_vacant r.facts)
    ∷ row 203 (all_128_unread r.world)
    ∷ [])
    (ok (next_tag r.facts))
driver_answer r (fdread c number len flags ms uid gid pid) =
    ruled (row 22 (off_word len) ∷ row 202 (no_tag_vacant r.facts) ∷ row 203 (all_128_unread r.world) ∷ []) (ok (next_tag r.facts))
driver_answer r (generic c pid fds base len ms) =
    ruled (row 22 (wrong_fd_count fds) ∷ row 202 (no_tag_vacant r.facts) ∷ row 203 (all_128_unread r.world) ∷ []) (ok (next_tag r.facts))
driver_answer r (stdfs c pid fds base len ms) =
    ruled
    (row 22 (ltb (length ms) 3)
    ∷ row 95 (wrong_fs_kind (get_or ms 0 0 % 256))
    ∷ row 22 (wrong_fd_count fds)
    ∷ row 202 (no_tag_vacant r.facts)
    ∷ row 203 (all_128_unread r.world)
    ∷ [])
    (ok (next_tag r.facts))
driver_answer r (fmap c id pages flags uid gid pid) =
    ruled (row 202 (no_tag_vacant r.facts) ∷ row 203 (all_128_unread r.world) ∷ []) (ok (next_tag r.facts))
driver_answer r (close id) = ruled (row 203 (all_128_unread r.world) ∷ []) (ok 0)
driver_answer r (detach id pid) = ruled (row 203 (all_128_unread r.world) ∷ []) (ok 0)
driver_answer r (wake n c killed base count) =
    ruled
    (row 205 (ltb 1 killed)
    ∷ row 77 (not (in_state 2 r.facts n || in_state 3 r.facts n))
    ∷ row 201 (not (eqb (book r.facts n).caller c) || ((book r.facts n).ended || (book r.facts n).returned))
    ∷ row 4 (in_state 2 r.facts n && eqb killed 1)
    ∷ row 203 (in_state 2 r.facts n && (not (book r.facts n).was_blocked && all_128_unread r.world))
    ∷ [])
    (woken (book r.facts n).stage)
driver_answer r (read len flags) =
    ruled (row 22 (empty_now r.world flags && (ltb 0 len && ltb len 64)) ∷ row 11 (empty_now r.world flags && leb 64 len) ∷ [])
    (cond (eqb (length (unread_in r.world)) 0 && eqb (flags / 0x4_0000 % 2) 0) wait (ok (min len (length (unread_in r.world)))))
driver_answer r (write words bs) =
    ruled (row 204 (ltb words (54 * (length bs / 16))) ∷ first_rows r bs (length bs / 16)) (ok (16 * good_entries r bs 0 (length bs / 16)))
driver_answer r (move ms ds) =
    ruled (row 205 (list_lacks r.world ds) ∷ row 206 (ltb 16 (length ds)) ∷ request_rows r.facts 1 ms) (ok (length ds))
driver_answer r (obtain ms) = ruled (request_rows r.facts 0 ms) (ok (length (list_at r.world (get_or ms 1 0))))
driver_answer r (supply n offset base count) =
    ruled
    (row 22 (off_page offset || (off_page base || not (eqb count 1)))
    ∷ row 22 (in_state 0 r.facts n || (in_state 2 r.facts n || in_state 3 r.facts n))
    ∷ row 77 (in_state 1 r.facts n)
    ∷ row 3 (book r.facts n).ended
    ∷ [])
    (ok 0)

abbrev pub answer_to : Run → Event → Answer
answer_to r (host_open d) = ruled (row 205 (ltb 63 d || not (eqb (holds_in r.world d) 0)) ∷ []) (ok 0)
answer_to r (host_copy d) = ruled (row 205 (lacks r.world 1 d) ∷ row 207 (eqb (holds_in r.world d) 65535) ∷ []) (ok 0)
answer_to r (host_drop d) = ruled (row 205 (lacks r.world 1 d) ∷ []) (ok 0)
answer_to r (host_ended c) = ok 0
answer_to r (on e) = driver_answer r e

-- of whatever event comes next the answer, and stored bytes, effects and scheme number; a write's effects, 18 an entry at most, and in the words that it is lent
pub record ExactAt (r : Run) : Type 0 where
  pub answer : (e : Event) → (step r.world e).answer ≡ answer_to r e
  pub rest : (e : Event) → Rest (turn_of r e) (view_of e)
  pub most : (words : ℕ) (bs : List ℕ) → length (step r.world (on (write words bs))).effects ≤ 54 * (length bs / 16)
  pub room : (words : ℕ) (bs : List ℕ) → length (step r.world (on (write words bs))).effects ≤ words

abbrev pub Exactly : Type 0
Exactly = (r : Run) → Steps r → ExactAt r
