-- What the claims take over from the definitions, spelled out by itself: the state at the start, the entry that each event queues,
-- which `call` two events are and how their reply is read, how a reply entry is read, and what EINTR leaves in a slot. A wrong one
-- of these would be wrong on both sides of a claim.
use Rattle.std.specs.Prelude.{ℕ, suc, ◌+◌, ◌*◌, ◌%◌, ◌<◌, ◌≡◌, Bool, true, cond, List, [], ◌∷◌, eqb, length, get_or, replicate, Ok, Err}
use Rattle.error.specs.declared.Error.{Error}
use Rattle.error.specs.Reference.{as_usize}
use Rattle.fd_list.specs.Lists.{numbers}
use Rattle.flag.specs.Flags.{within, fd_exclusive, fd_upper, send_fd_exclusive, recv_fd_upper_tbl, sqe_multiple_ids}
use Rattle.handles.specs.declared.Handles.{Handles}
use Rattle.handles.specs.Handles.{held_at}
use Rattle.schemev2.specs.declared.Args.{Args}
use Rattle.schemev2.specs.Entry.{sqe_words}
use Rattle.slot.specs.declared.PageSpan.{PageSpan}
use Rattle.slot.specs.declared.Phase.TheVariants.{Vacant}
use Rattle.slot.specs.declared.Slot.{Slot}
use Rattle.slot.specs.Slots.{interrupted_of}
use Rattle.events.specs.World.{World, fresh_world, scheme_of, holds_of, handles_of, phase_in, unread_in}
use Rattle.events.specs.Outcome.{Response, success, error, descriptor, many, Answer, ok, no, refuse}
use Rattle.events.specs.Submit.{args6, submit_entry, call_entry, generic_entry, std_meta, fmap_entry, close_entry, detach_entry}
use Rattle.events.specs.Entry.{result, one, listed, response_to, in_handle}
use Rattle.events.specs.Replies.{kfdwrite_of, kfdread_of}
use Rattle.events.specs.Event.{call, fdwrite, fdread, on, step}

-- "A fresh state has every slot vacant, the queue and handles empty, no description open, and is given the scheme number"
pub record Started (scheme : ℕ) (words : List ℕ) : Type 0 where
  pub slots : (n : ℕ) → phase_in (fresh_world scheme words) n ≡ Vacant
  pub queue : unread_in (fresh_world scheme words) ≡ []
  pub handles : (handles_of (fresh_world scheme words)).at ≡ replicate 64 0
  pub holds : (holds_of (fresh_world scheme words)).holds ≡ replicate 64 0
  pub outside : (holds_of (fresh_world scheme words)).outside ≡ replicate 64 0
  pub number : scheme_of (fresh_world scheme words) ≡ scheme

-- an entry's 64 bytes as eight words: opcode, flags and tag; six arguments; the pid
abbrev pub words8 : ℕ → ℕ → ℕ → ℕ → ℕ → ℕ → ℕ → ℕ → ℕ → ℕ → List ℕ
words8 op fl tag a b c d e f pid = (op + fl * 0x100 + tag * 0x1_0000_0000) ∷ a ∷ b ∷ c ∷ d ∷ e ∷ f ∷ pid ∷ []

-- the second of two fds, else the third metadata word
abbrev pub last : List ℕ → List ℕ → ℕ
last fds ms = cond (eqb (length fds) 2) (get_or fds 1 0) (get_or ms 2 0)

abbrev pub many_ids : List ℕ → ℕ
many_ids fds = cond (eqb (length fds) 2) sqe_multiple_ids 0

-- 01, "Submitting", n being the call's tag
pub record Queued : Type 0 where
  pub submit :
      (n op fl : ℕ) (a : Args) (pid : ℕ)
      → sqe_words (submit_entry n op fl a pid) ≡ words8 op fl n a.0 a.1 a.2 a.3 a.4 a.5 pid
  -- "always overwrites argument 5 with uid + gid × 2^32"
  pub call :
      (op : ℕ) (a : Args) (uid gid pid n : ℕ)
      → sqe_words (call_entry op a uid gid pid n) ≡ words8 op 0 n a.0 a.1 a.2 a.3 a.4 (uid + gid * 0x1_0000_0000) pid
  pub generic :
      (op pid : ℕ) (fds : List ℕ) (base len : ℕ) (ms : List ℕ) (n : ℕ)
      → sqe_words (generic_entry op pid fds base len ms n)
      ≡ words8 op (many_ids fds) n (get_or fds 0 0) base len (get_or ms 0 0) (get_or ms 1 0) (last fds ms) pid
  -- "three words: low byte of the kind, arg1, arg2"
  pub stdfs : (ms : List ℕ) → std_meta ms ≡ get_or ms 0 0 % 256 ∷ get_or ms 1 0 ∷ get_or ms 2 0 ∷ []
  -- "leaves the offset out of its entry"
  pub fmap :
      (id pages flags uid gid pid n : ℕ)
      → sqe_words (fmap_entry id pages flags uid gid pid n) ≡ words8 21 0 n id flags pages 0 0 (uid + gid * 0x1_0000_0000) pid
  -- "Close queues pid 0 and tag 0, detach the pid and tag 0"
  pub close : (id : ℕ) → sqe_words (close_entry id) ≡ words8 27 0 0 id 0 0 0 0 0 0
  pub detach : (id pid : ℕ) → sqe_words (detach_entry id pid) ≡ words8 34 0 0 id 0 0 0 0 0 pid

-- 02, T-01: "arguments number, send flags, first metadata word or 0, and list length"; "a payload length that isn't a multiple of 8
-- with EINVAL before taking a slot. It then sends number, receive flags, length/8 and two metadata words, each 0 where absent"
pub record AreCalls : Type 0 where
  pub kfdwrite :
      (w : World) (c number flags : ℕ) (ms : List ℕ) (uid gid pid : ℕ) (ds : List ℕ)
      → step w (on (fdwrite c number flags ms uid gid pid ds))
      ≡ step w (on (call c 12 (args6 number (cond (within flags fd_exclusive) send_fd_exclusive 0) (get_or ms 0 0) (length ds) 0 0) uid gid pid ds))
  pub kfdread :
      (w : World) (c number words flags : ℕ) (ms : List ℕ) (uid gid pid : ℕ)
      → step w (on (fdread c number (8 * words) flags ms uid gid pid))
      ≡ step w (on (call c 31 (args6 number (cond (within flags fd_upper) recv_fd_upper_tbl 0) words (get_or ms 0 0) (get_or ms 1 0) 0) uid gid pid []))
  pub refused :
      (w : World) (c number words k flags : ℕ) (ms : List ℕ) (uid gid pid : ℕ)
      → 0 < k → k < 8 → step w (on (fdread c number (8 * words + k) flags ms uid gid pid)) ≡ refuse w 22

-- how a reply is read: an error passes through, one descriptor is EIO; a word and a list by the front
pub record Reads (front : Response → Answer) (word : ℕ → Answer) (list : List ℕ → Answer) : Type 0 where
  pub success : (w x : ℕ) (b : Bool) → front (success w x b) ≡ word w
  pub error : (e x : ℕ) (b : Bool) → front (error e x b) ≡ no e
  pub descriptor : (d : ℕ) → front (descriptor d) ≡ no 5
  pub many : (ds : List ℕ) → front (many ds) ≡ list ds

-- "A regular success or a single descriptor in reply to it is EIO; an error passes through; many descriptors [..] their count";
-- the other reads a word as `into_regular` does, and no descriptors
pub record Fronts : Type 0 where
  pub kfdwrite : Reads kfdwrite_of (λ w. ok w) (λ ds. no 5)
  pub kfdread : Reads kfdread_of (λ w. no 5) (λ ds. ok (length ds))

-- 01, "Completions": "cancelling and ECANCELED is stored as EINTR; not cancelling and EINTR as EIO"; kind 4 stores the slot's list
pub record Readings : Type 0 where
  pub success : (v : Slot) (w x : ℕ) (b : Bool) → response_to v (result (Ok w) x b) ≡ success w x b
  pub error :
      (v : Slot) (e : Error) (x : ℕ) (b : Bool)
      → response_to v (result (Err e) x b)
      ≡ error (cond v.canceling (cond (eqb (as_usize e.errno) 125) 4 (as_usize e.errno)) (cond (eqb (as_usize e.errno) 4) 5 (as_usize e.errno))) x b
  pub descriptor : (v : Slot) (n : Handles) (k d : ℕ) → held_at n k ≡ suc d → response_to v (one (in_handle n k)) ≡ descriptor d
  pub many : (v : Slot) → response_to v listed ≡ many (numbers v.fds)

pub record Spelled : Type 0 where
  pub started : (scheme : ℕ) (words : List ℕ) → Started scheme words
  pub queued : Queued
  pub calls : AreCalls
  pub fronts : Fronts
  pub readings : Readings
  -- "mark cancelling and returned, put the span in the slot"
  pub interrupted :
      (v : Slot) (s : PageSpan)
      → interrupted_of v s
      ≡ record { state = v.state; caller = v.caller; canceling = true; ended = v.ended; returned = true; span = s; reply = v.reply; fds = v.fds }
