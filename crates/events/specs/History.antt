-- What happened in a run, newest first, and what that says of each tag's call (01, "Runs"). It is told by the events and their
-- answers; a state is looked at for one thing alone, the reading of an accepted reply entry, which 01 leaves to demand 2.
use Rattle.std.specs.Prelude.{ℕ, zero, suc, ◌+◌, ◌*◌, ◌/◌, Bool, true, false, cond, ◌||◌, List, [], ◌∷◌, ◌++◌, map, eqb, Option, Some, None}
use Rattle.error.specs.Errors.{demux_of}
use Rattle.flag.specs.Flags.{event_read, event_hup}
use Rattle.le.specs.Le.{byte, half, word}
use Rattle.opcode.specs.Opcodes as opcode
use Rattle.schemev2.specs.declared.Cqe.{Cqe}
use Rattle.schemev2.specs.declared.CqeOpcode.{CqeOpcode}
use Rattle.schemev2.specs.declared.CqeOpcode.TheVariants.{RespondRegular, RespondWithFd, SendFevent, ObtainFd, RespondWithMultipleFds, RespondAndNotifyOnDetach}
use Rattle.schemev2.specs.declared.Sqe.{Sqe}
use Rattle.schemev2.specs.Entry.{kind_of, cqe_opcode_of}
use Rattle.slot.specs.declared.PageSpan.{PageSpan}
use Rattle.events.specs.World.{World, handles_of, slot_in}
use Rattle.events.specs.Outcome.{Response, Answer, ok, no, wait, blocked, reply, on_ok}
use Rattle.events.specs.Submit.{submit_entry, call_entry, fdwrite_args, fdread_args, generic_entry, std_meta, fmap_entry, close_entry, detach_entry}
use Rattle.events.specs.Entry.{Offer, result, one, listed, response_to, in_handle}
use Rattle.events.specs.Complete.{world_of, entry_of}
use Rattle.events.specs.Event.{DriverEvent, host_put, reserve, submit, call, fdwrite, fdread, generic, stdfs, fmap, close, detach, wake, read, write, move, obtain, supply, Event, host_open, host_copy, host_drop, host_ended, on}

-- how far the call or map request is that a tag was last given out for; it is the tag's until given out again
pub data Stage : Type 0 where
  free : Stage  -- none yet; or handed its reply, served when its caller had already ended, or supplied
  reserved : Stage  -- a call, not submitted yet
  waits : Stage  -- from its accepted submit or `call` until a reply entry to it is accepted
  replied : Response → Stage  -- served by an entry that reads this, not handed it yet; for good, if it had returned with EINTR or its caller ended after that
  mapping : Stage  -- a map request, not supplied yet

-- what happens to a tag
pub data What : Type 0 where
  gave : (m : Bool) (c : ℕ) → What  -- it was given out to caller c, for a map request (m) or else for a call
  took : What  -- a submit of it, or the `call` that gave it out, was accepted
  serve : (i j : ℕ) (r : Response) → What  -- a reply entry to it, entry j of event i (both from 0), was accepted and reads r
  block : What  -- a wake of it, whoever asked, was answered still blocked
  interrupt : What  -- a wake of it, whoever asked, was refused with EINTR
  pass : (r : Response) → What  -- a wake of it handed r over
  filled : What  -- map supply vacated it: a success or ESRCH

pub data Fact : Type 0 where
  to : (n : ℕ) → What → Fact  -- this happened to tag n
  end : (c : ℕ) → Fact  -- caller c was reported ended

pub record Call : Type 0 where  -- what is known of the call or map request that a tag was last given out for
  pub stage : Stage
  pub caller : ℕ  -- whose it is
  pub was_blocked : Bool  -- a wake of it was answered still blocked
  pub returned : Bool  -- a wake of it was refused with EINTR
  pub ended : Bool  -- its caller was reported ended since it was given out
  pub lap : ℕ  -- how often the tag had been given out, this time included; counted here alone, no tag carries it

abbrev pub given : Stage → ℕ → Call → Call  -- given out once more, to caller c
given s c k = record { stage = s; caller = c; was_blocked = false; returned = false; ended = false; lap = suc k.lap }

abbrev pub onto : Stage → Call → Call  -- in another stage
onto s k = record { stage = s; caller = k.caller; was_blocked = k.was_blocked; returned = k.returned; ended = k.ended; lap = k.lap }

-- with those of the three marks set that are true here (was_blocked, returned, ended), the others as they were
abbrev pub marked : Bool → Bool → Bool → Call → Call
marked w r e k =
    record { stage = k.stage; caller = k.caller; was_blocked = w || k.was_blocked; returned = r || k.returned; ended = e || k.ended; lap = k.lap }

abbrev pub change : What → Call → Call
change (gave m c) k = given (cond m mapping reserved) c k
change took k = onto waits k
change (serve i j r) k = onto (cond k.ended free (replied r)) k  -- an ended caller's reply is dropped
change block k = marked true false false k
change interrupt k = marked false true false k
change (pass r) k = onto free k
change filled k = onto free k

-- tag n's call, after what happened
abbrev pub book : List Fact → ℕ → Call
book [] n = record { stage = free; caller = 0; was_blocked = false; returned = false; ended = false; lap = 0 }
book (to t x ∷ h) n = cond (eqb t n) (change x (book h n)) (book h n)
book (end c ∷ h) n = marked false false (eqb (book h n).caller c) (book h n)  -- `given` clears it: ended since it was given out

-- what an event is for the claims; flags, words, span and descriptions are for Effects and Refusals, Demand3 does not look at them
pub data View : Type 0 where
  tells : (ℕ → List Fact) → View  -- answered ok v, the facts of v, newest first, happened; else none (v is the new tag of reserve, `call`, map request)
  sends : (ℕ → List Fact) → (ℕ → Sqe) → (flags : ℕ) → View  -- the same; answered ok v, the entry of v is queued
  wakes : (n c killed : ℕ) (span : PageSpan) → View  -- caller c asks for tag n, killed (1) or not (0)
  reads : View  -- the driver reads
  writes : (words : ℕ) (bs : List ℕ) → View  -- the driver writes these bytes
  moves : (ds : List ℕ) → View  -- a move that brings these descriptions; it tells nothing
  supplies : (n : ℕ) → View  -- a map supply to tag n

abbrev pub plain : View
plain = tells (λ v. [])  -- nothing is told

-- `call` in each form is given out and submitted at once
abbrev pub begins : ℕ → (ℕ → Sqe) → View
begins c e = sends (λ n. to n took ∷ to n (gave false c) ∷ []) e event_read

abbrev pub driver_view : DriverEvent → View
driver_view (host_put d k) = plain  -- the host's fifth event
driver_view (reserve c) = tells (λ n. to n (gave false c) ∷ [])  -- "a call from the start, submitted or not"
driver_view (submit n c op fl args pid ds) = sends (λ v. to n took ∷ []) (λ v. submit_entry n op fl args pid) event_read
driver_view (call c op args uid gid pid ds) = begins c (call_entry op args uid gid pid)
driver_view (fdwrite c number flags ms uid gid pid ds) = begins c (call_entry opcode.sendfd (fdwrite_args number flags ms ds) uid gid pid)
driver_view (fdread c number len flags ms uid gid pid) = begins c (call_entry opcode.recvfd (fdread_args number len flags ms) uid gid pid)
driver_view (generic c pid fds base len ms) = begins c (generic_entry opcode.call pid fds base len ms)
driver_view (stdfs c pid fds base len ms) = begins c (generic_entry opcode.std_fs_call pid fds base len (std_meta ms))
driver_view (fmap c id pages flags uid gid pid) = sends (λ n. to n (gave true c) ∷ []) (fmap_entry id pages flags uid gid pid) event_read
driver_view (close id) = sends (λ v. []) (λ v. close_entry id) (event_read + event_hup)
driver_view (detach id pid) = sends (λ v. []) (λ v. detach_entry id pid) event_read
driver_view (wake n c killed base count) = wakes n c killed (record { base = base; count = count })
driver_view (read len flags) = reads
driver_view (write words bs) = writes words bs
driver_view (move ms ds) = moves ds
driver_view (obtain ms) = plain
driver_view (supply n offset base count) = supplies n

abbrev pub view_of : Event → View
view_of (host_open d) = plain
view_of (host_copy d) = plain
view_of (host_drop d) = plain
view_of (host_ended c) = tells (λ v. end c ∷ [])
view_of (on e) = driver_view e

-- A write that is answered ok v accepted its first v / 16 entries, and each reply entry among them is a `serve` of its tag's call.
-- Entry j stands at byte 16 j: flags at its byte 0, extra at 1 to 3, tag at 4 to 7, result at 8 to 15, little-endian
abbrev pub entry_at : List ℕ → ℕ → Cqe
entry_at bs j =
    record {
      flags = byte bs (16 * j);
      extra_raw = record { 0 = byte bs (16 * j + 1); 1 = byte bs (16 * j + 2); 2 = byte bs (16 * j + 3) };
      tag = half bs (16 * j + 4);
      result = word bs (16 * j + 8);
    }

-- the state that demand 2's definition leaves after the first j entries
abbrev pub after_entries : List ℕ → World → ℕ → World
after_entries bs w zero = w
after_entries bs w (suc j) = world_of (entry_of (after_entries bs w j) (entry_at bs j))

-- "Reply entries are kinds 0, 1, 4 and 5": what one brings, its handle looked up in the state before it; any other entry brings nothing
abbrev pub offers : Option CqeOpcode → World → Cqe → List Offer
offers (Some RespondRegular) w e = result (demux_of e.result) e.extra_raw.0 false ∷ []  -- success word or errno, extra's first byte, no notice
offers (Some RespondWithFd) w e = one (in_handle (handles_of w) e.result) ∷ []  -- the description in that handle
offers (Some SendFevent) w e = []
offers (Some ObtainFd) w e = []
offers (Some RespondWithMultipleFds) w e = listed ∷ []  -- the call's own list
offers (Some RespondAndNotifyOnDetach) w e = result (demux_of e.result) e.extra_raw.0 true ∷ []
offers None w e = []

-- what happens by entry j of event i on state w: its reading is the reply that demand 2's definition (`response_to`) stores for it
abbrev pub served : ℕ → ℕ → World → Cqe → List Fact
served i j w e = map (λ o. to e.tag (serve i j (response_to (slot_in w e.tag) o))) (offers (cqe_opcode_of (kind_of e)) w e)

abbrev pub poured : ℕ → List ℕ → World → ℕ → List Fact  -- the first j entries, newest first, each on the state that those before it left
poured i bs w zero = []
poured i bs w (suc j) = served i j (after_entries bs w j) (entry_at bs j) ++ poured i bs w j

-- what happened to tag n, by the answer to a wake of it
abbrev pub told_by_wake : ℕ → Answer → List Fact
told_by_wake n (ok v) = []
told_by_wake n (no k) = cond (eqb k 4) (to n interrupt ∷ []) []  -- refused with EINTR
told_by_wake n wait = []
told_by_wake n blocked = to n block ∷ []
told_by_wake n (reply r) = to n (pass r) ∷ []

-- by the answer to a map supply to it
abbrev pub told_by_supply : ℕ → Answer → List Fact
told_by_supply n (ok v) = to n filled ∷ []
told_by_supply n (no k) = cond (eqb k 3) (to n filled ∷ []) []  -- refused with ESRCH
told_by_supply n wait = []
told_by_supply n blocked = []
told_by_supply n (reply r) = []

-- what event i on state w tells, by its answer
abbrev pub news : ℕ → World → View → Answer → List Fact
news i w (tells f) a = on_ok a f []
news i w (sends f e flags) a = on_ok a f []
news i w (wakes n c killed span) a = told_by_wake n a
news i w reads a = []
news i w (writes words bs) a = poured i bs w (on_ok a (λ v. v / 16) 0)  -- the entries that it counts
news i w (moves ds) a = []
news i w (supplies n) a = told_by_supply n a
