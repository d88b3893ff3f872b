-- Each event keeps the invariant and does what it owes: hand-over, queue, bytes, effects. Assumes nothing.
use Rattle.std.specs.Prelude.{Ok as Accepts, Err as Refuses}
use Prim.Native.Nat.{ℕ, ◌+◌, ◌/◌, ◌%◌, ◌<◌}
use mathlib.Core.Path.{◌≡◌, refl, sym, ap, ap₂, ◌∙◌, subst}
use mathlib.Core.Bool.{Bool, true, false, not, cond, ◌||◌, ◌&&◌}
use mathlib.Core.List.{List, [], ◌∷◌, ◌++◌, append-nil}
use native.Mathlib.Omega.{arith}
use lib.Dec.{eqb, leb, ltb}
use lib.ListN.{take, length, get_or}
use lib.Seq.{sets}
use borrow.Author.Tests.{eqb-true, leb-false, ltb-true, ltb-false, lt-leb, le-leb, not-true, not-false}
use Rattle.answer.specs.declared.Accepted.TheVariants.{Done}
use Rattle.answer.specs.declared.Refusal.TheVariants.{BadArgument, TooManyHolds}
use Rattle.fd_list.specs.declared.List.{List as Fds}
use Rattle.fd_list.specs.Lists.{list_of}
use Rattle.flag.specs.Flags.{event_read, event_hup, sqe_oneway}
use Rattle.handles.specs.declared.Handles.{Handles}
use Rattle.handles.specs.Handles.{is_free, into}
use Rattle.holds.specs.declared.Holds.{Holds}
use Rattle.holds.specs.Holds.{unheld}
use Rattle.host_holds.specs.Host.{one_more, one_fewer, left_as, open_of, copy_of, drop_of}
use Rattle.host_put.specs.Put.{inside as taken_in, put, put_of}
use Rattle.le.specs.Le.{bytes_of}
use Rattle.schemev2.specs.declared.Args.{Args}
use Rattle.schemev2.specs.declared.Sqe.{Sqe}
use Rattle.schemev2.specs.Entry.{sqe_words}
use Rattle.slot.specs.declared.PageSpan.{PageSpan}
use Rattle.slot.specs.declared.Phase.{Phase}
use Rattle.slot.specs.declared.Phase.TheVariants.{Vacant, Placeholder, Waiting, Responded, Fmap}
use Rattle.slot.specs.declared.Slot.{Slot}
use Rattle.slot.specs.Slots.{phase_of, placeholder_of, waiting_of, map_request_of, canceled_of, interrupted_of, with_fds_of, no_fds}
use Rattle.table.specs.Reached.{idle}
use Rattle.table.specs.Table.{put_at, given_out, vacate_at}
use Rattle.table.proofs.Chain.{head_vacant}
use Rattle.wait_queue.specs.Queue.{unread, sent_if, place_of}
use Rattle.wait_queue.proofs.Unread.{unread_more, unread_sent, unread_removed}
use Rattle.wait_queue_receive.specs.Receive.{copied, empty_by, received_if}
use Rattle.events.specs.World.{World, table_of, holds_of, handles_of, queue_of, slot_in, phase_in, with_table, with_queue, queue_full, queued, unread_in}
use Rattle.events.specs.Outcome.{Answer, ok, no, wait, blocked, reply, is_reply, on_ok, Outcome, outcome, said, refuse, checked}
use Rattle.events.specs.Submit.{bad_opcode, bad_list, long_list, is_placeholder, submittable, table_full, reserve_rows, reserved, taken_holds, begun, call_rows, call_of, fdwrite_args, fdread_args, length_rows, generic_rows, stdfs_rows, fmap_rows, queue_rows, notified, submit_entry, call_entry, generic_entry, std_meta, fmap_entry, close_entry, detach_entry}
use Rattle.events.specs.Wake.{response_of, cancel_entry, blocked_by, waited_by, woken_by, wakeable, wake_rows}
use Rattle.events.specs.Entry.{is_waiting}
use Rattle.events.specs.Complete.{write_rows, write_on, entries_of}
use Rattle.events.specs.Descriptors.{request_of, request_rows, list_rows, brought_back, moved, given_up}
use Rattle.events.specs.Supply.{wrong_pages, supplied_as, supplied_by}
use Rattle.events.specs.Event.{DriverEvent, host_put, reserve, submit, call, fdwrite, fdread, generic, stdfs, fmap, close, detach, wake, read, write, move, obtain, supply, Event, host_open, host_copy, host_drop, host_ended, on, step}
use Rattle.events.specs.History.{Fact, to, end, gave, took, filled, Stage, free, reserved as held_back, waits, replied, mapping, Call, book, View, tells, sends, reads, writes, moves, supplies, begins, view_of, poured, news}
use Rattle.events.specs.Demand3.{Right, owes, due, cancel_bytes}
use Rattle.events.specs.Effects.{Rest, wakes_for}
use Rattle.events.specs.Run.{Run}
use Rattle.events.specs.WellFormed.{WellFormed}
use Rattle.events.proofs.Checked.{checked_cases}
use Rattle.events.proofs.Conditions.{placeholder_is}
use Rattle.events.proofs.Entries.{InvOf, Same, in_range, same_core, waiting_is}
use Rattle.events.proofs.Inv.{Inv, in_stage, in_phase, replied_is, inv_same, inv_gave, inv_asked, inv_took, inv_block, inv_break, inv_pass, inv_filled, inv_end}
use Rattle.events.proofs.Stage.{Core, StageIn, clash, caller_is, canceling_is, ended_is, returned_is}
use Rattle.events.proofs.Stored.{Shape, shape, holding, stored_over, put_stored, vacate_stored, give_stored}
use Rattle.events.proofs.Writes.{write_ok}

-- the host's events hand nothing over
module _ (h : Holds) (d : ℕ) where
  open_quiet : is_reply (said (open_of h d).answer) ≡ false
  open_quiet = go (ltb 63 d || not (eqb (get_or h.holds d 0) 0))
    where
      go : (b : Bool) → is_reply (said (cond b (left_as (Refuses BadArgument) h) (left_as (Accepts Done) (one_more h d))).answer) ≡ false
      go true = refl
      go false = refl

  copy_quiet : is_reply (said (copy_of h d).answer) ≡ false
  copy_quiet = go (unheld h.holds h.outside d) (eqb (get_or h.holds d 0) 65535)
    where
      go : (b c : Bool) → is_reply (said (cond b (left_as (Refuses BadArgument) h) (cond c (left_as (Refuses TooManyHolds) h) (left_as (Accepts Done) (one_more h d)))).answer) ≡ false
      go true c = refl
      go false true = refl
      go false false = refl

  drop_quiet : is_reply (said (drop_of h d).answer) ≡ false
  drop_quiet = go (unheld h.holds h.outside d)
    where
      go : (b : Bool) → is_reply (said (cond b (left_as (Refuses BadArgument) h) (left_as (Accepts Done) (one_fewer h d))).answer) ≡ false
      go true = refl
      go false = refl

  put_quiet : (n : Handles) (k : ℕ) → is_reply (said (put_of h n d k).answer) ≡ false
  put_quiet n k = go (unheld h.holds h.outside d || not (is_free n k))
    where
      go : (b : Bool) → is_reply (said (cond b (put (Refuses BadArgument) n h) (put (Accepts Done) (into n k d) (taken_in h d))).answer) ≡ false
      go true = refl
      go false = refl

-- an event that tells nothing, whatever its answer
none_told : (a : Answer) (h : List Fact) → on_ok a (λ v. []) [] ++ h ≡ h
none_told (ok v) h = refl
none_told (no k) h = refl
none_told wait h = refl
none_told blocked h = refl
none_told (reply r) h = refl

both : (a b : Bool) → a && b ≡ true → (a ≡ true) × (b ≡ true)
both true b e = (refl, e)
both false b e = clash false e refl

-- a reply is due by what the slot says of its caller
due_by : (x o e r : Bool) → x ≡ true → x && (o && (not r && not e)) ≡ o && (not e && not r)
due_by true false e r q = refl
due_by true true true true q = refl
due_by true true true false q = refl
due_by true true false true q = refl
due_by true true false false q = refl
due_by false o e r q = clash false q refl

or_split : (a b : Bool) → b ≡ false → a || b ≡ a
or_split true b q = refl
or_split false b q = q

-- the first time, and not again
once : (b x : Bool) (l : List ℕ) → b ≡ x → cond (not x) l [] ≡ cond (not b) l []
once b x l q = ap (λ (y : Bool). cond (not y) l []) (sym q)

-- an entry is queued
module _ (w : World) (whole : WellFormed w) (room : queue_full w ≡ false) where
  sent : (e : Sqe) → unread_in (queued w e) ≡ unread (record { first = (queue_of w).first; len = (queue_of w).len + 1 }) (sets w.words (place_of (queue_of w)) (sqe_words e))
  sent e =
      ap₂ unread (ap (λ (b : Bool). (sent_if b (queue_of w)).queue) room) (ap (λ (b : Bool). cond b w.words (sets w.words (place_of (queue_of w)) (sqe_words e))) room)

  queue_more : (e : Sqe) → unread_in (queued w e) ≡ unread_in w ++ bytes_of (sqe_words e)
  queue_more e = sent e ∙ unread_more (queue_of w) w.words e (leb-false 128 (queue_of w).len room) whole.words

  queue_cancel : (n : ℕ) → n < 64 → sqe_oneway < 256 → unread_in (queued w (cancel_entry n)) ≡ unread_in w ++ cancel_bytes n
  queue_cancel n b small =
      sent (cancel_entry n) ∙ unread_sent (queue_of w) w.words (cancel_entry n) (leb-false 128 (queue_of w).len room) whole.words (omega arith) small (omega (arith, b))

pub record Ok (r : Run) (e : Event) (v : View) (o : Outcome) : Type 0 where
  pub inv : InvOf o.world (news r.number r.world v o.answer ++ r.facts)
  pub right :
      Right (record { number = r.number; past = r.facts; before = r.world; event = e; outcome = o })
      (owes (record { number = r.number; past = r.facts; before = r.world; event = e; outcome = o }) v)
  pub rest : Rest (record { number = r.number; past = r.facts; before = r.world; event = e; outcome = o }) v

module _ (r : Run) (whole : WellFormed r.world) (i : InvOf r.world r.facts) where
  abbrev w : World
  w = r.world

  abbrev h : List Fact
  h = r.facts

  abbrev t : Shape
  t = shape (table_of w)

  -- nothing is added to the queue
  still : unread_in w ≡ unread_in w ++ []
  still = sym (append-nil (unread_in w))

  -- an event that queues nothing and tells fs where it is accepted
  plain_ok :
      (e : Event) (f : ℕ → List Fact) (a : Answer) (u : World) → InvOf u (on_ok a f [] ++ h) → is_reply a ≡ false → Same w u
      → Ok r e (tells f) (outcome a [] u)
  plain_ok e f a u j b s =
      record { inv = j; right = record { hand = b; queue = s.queue ∙ still }; rest = record { bytes = refl; effects = refl; scheme = s.scheme } }

  -- the host's events
  host_ok : (e : Event) (a : Answer) (u : World) → is_reply a ≡ false → InvOf u h → Same w u → Ok r e (tells (λ v. [])) (outcome a [] u)
  host_ok e a u b j s = plain_ok e (λ v. []) a u (subst (InvOf u) (sym (none_told a h)) j) b s

  turned_down : (e : Event) (f : ℕ → List Fact) (k : ℕ) → Ok r e (tells f) (refuse w k)
  turned_down e f k = plain_ok e f (no k) w i refl (record { queue = refl; scheme = refl })

  unsent : (e : Event) (f : ℕ → List Fact) (s : ℕ → Sqe) (flags k : ℕ) → Ok r e (sends f s flags) (refuse w k)
  unsent e f s flags k = record { inv = i; right = record { hand = refl; queue = still }; rest = record { bytes = refl; effects = refl; scheme = refl } }

  -- the first of the chain is vacant and in range
  module _ (full : table_full w ≡ false) where
    first_in : (table_of w).head < 64
    first_in = leb-false 64 (table_of w).head full

    first_vacant : phase_in w (table_of w).head ≡ Vacant
    first_vacant = head_vacant (table_of w) (record { slots = whole.slots; next = whole.next }) first_in whole.chain

    gave_inv : (c : ℕ) → Inv (shape (given_out (table_of w) (placeholder_of c))) (to (table_of w).head (gave false c) ∷ h)
    gave_inv c = inv_gave t h i (table_of w).head c _ (give_stored (table_of w) whole.slots (placeholder_of c) first_in) first_vacant

    -- given out and submitted at once
    begun_inv : (c : ℕ) (fds : Fds) (g : Holds) (e : ℕ → Sqe) → InvOf (begun w (waiting_of c fds) g e).world (to (table_of w).head took ∷ to (table_of w).head (gave false c) ∷ h)
    begun_inv c fds g e =
        let a = give_stored (table_of w) whole.slots (placeholder_of c) first_in in
        let b = give_stored (table_of w) whole.slots (waiting_of c fds) first_in in
        inv_took (shape (given_out (table_of w) (placeholder_of c))) (to (table_of w).head (gave false c) ∷ h) (gave_inv c) (table_of w).head c fds (shape (given_out (table_of w) (waiting_of c fds)))
        (stored_over a b (λ l p. p)) (ap phase_of a.here) (ap (λ (v : Slot). v.caller) a.here) (ap (λ (v : Slot). v.ended) a.here)

    sent_ok :
        (e : Event) (c : ℕ) (fds : Fds) (g : Holds) (s : ℕ → Sqe) → queue_full w ≡ false
        → Ok r e (sends (λ n. to n took ∷ to n (gave false c) ∷ []) s event_read) (begun w (waiting_of c fds) g s)
    sent_ok e c fds g s room =
        record {
          inv = begun_inv c fds g s;
          right = record { hand = refl; queue = queue_more w whole room (s (table_of w).head) };
          rest = record { bytes = refl; effects = refl; scheme = refl };
        }

  reserve_ok : (c : ℕ) → Ok r (on (reserve c)) (view_of (on (reserve c))) (step w (on (reserve c)))
  reserve_ok c =
      checked_cases (Ok r (on (reserve c)) (view_of (on (reserve c)))) (refuse w) (reserve_rows w) (reserved w c) (turned_down _ _)
      (λ f. plain_ok _ (λ n. to n (gave false c) ∷ []) _ _ (gave_inv f.0 c) refl (record { queue = refl; scheme = refl }))

  submit_ok :
      (n c op fl : ℕ) (args : Args) (pid : ℕ) (ds : List ℕ)
      → Ok r (on (submit n c op fl args pid ds)) (view_of (on (submit n c op fl args pid ds))) (step w (on (submit n c op fl args pid ds)))
  submit_ok n c op fl args pid ds = go (bad_opcode op || bad_list w ds) (long_list ds) (submittable (slot_in w n) c) (queue_full w) refl refl refl refl
    where
      down : (k : ℕ) → Ok r (on (submit n c op fl args pid ds)) (view_of (on (submit n c op fl args pid ds))) (refuse w k)
      down k = unsent _ _ _ _ k

      go :
          (a b x y : Bool) → (bad_opcode op || bad_list w ds) ≡ a → long_list ds ≡ b → submittable (slot_in w n) c ≡ x → queue_full w ≡ y
          → Ok r (on (submit n c op fl args pid ds)) (view_of (on (submit n c op fl args pid ds))) (step w (on (submit n c op fl args pid ds)))
      go true b x y qa qb qx qy = rw qa (down 205)
      go false true x y qa qb qx qy = rw (qa, qb) (down 206)
      go false false false y qa qb qx qy = rw (qa, qb, qx) (down 201)
      go false false true true qa qb qx qy = rw (qa, qb, qx, qy) (down 203)
      go false false true false qa qb qx qy =
          let a = both (is_placeholder (phase_in w n)) _ qx in
          let b = both (eqb (slot_in w n).caller c) _ a.1 in
          let p = placeholder_is (phase_in w n) a.0 in
          rw (qa, qb, qx, qy)
          (record {
            inv =
                inv_took t h i n c (list_of ds) (shape (put_at (table_of w) n (waiting_of c (list_of ds))))
                (put_stored (table_of w) whole.slots n (waiting_of c (list_of ds)) (in_range w n Placeholder p refl)) p (eqb-true _ _ b.0) (not-true _ b.1);
            right =
                record {
                  hand = refl;
                  queue = unread_more (queue_of w) w.words (submit_entry n op fl args pid) (leb-false 128 (queue_of w).len qy) whole.words;
                };
            rest = record { bytes = refl; effects = refl; scheme = refl };
          })

  fmap_ok : (c id pages flags uid gid pid : ℕ) → Ok r (on (fmap c id pages flags uid gid pid)) (view_of (on (fmap c id pages flags uid gid pid))) (step w (on (fmap c id pages flags uid gid pid)))
  fmap_ok c id pages flags uid gid pid =
      checked_cases (Ok r (on (fmap c id pages flags uid gid pid)) (view_of (on (fmap c id pages flags uid gid pid)))) (refuse w) (fmap_rows w)
      (begun w (map_request_of c) (holds_of w) (fmap_entry id pages flags uid gid pid)) (unsent _ _ _ _)
      (λ f.
      record {
        inv =
            inv_asked t h i (table_of w).head c (shape (given_out (table_of w) (map_request_of c)))
            (give_stored (table_of w) whole.slots (map_request_of c) (first_in f.0)) (first_vacant f.0);
        right = record { hand = refl; queue = queue_more w whole f.1.0 (fmap_entry id pages flags uid gid pid (table_of w).head) };
        rest = record { bytes = refl; effects = refl; scheme = refl };
      })

  -- an entry of its own
  notified_ok : (e : Event) (flags : ℕ) (s : Sqe) → Ok r e (sends (λ v. []) (λ v. s) flags) (checked (refuse w) (queue_rows w) (notified w flags s))
  notified_ok e flags s =
      checked_cases (Ok r e (sends (λ v. []) (λ v. s) flags)) (refuse w) (queue_rows w) (notified w flags s) (unsent _ _ _ _)
      (λ f. record { inv = i; right = record { hand = refl; queue = queue_more w whole f.0 s }; rest = record { bytes = refl; effects = refl; scheme = refl } })

  module _ (n c killed base count : ℕ) where
    abbrev woken : Event
    woken = on (wake n c killed base count)

    abbrev span : PageSpan
    span = record { base = base; count = count }

    abbrev k : Call
    k = book h n

    abbrev owed_reply : Bool
    owed_reply = due k.stage k c killed

    one_or_none : (x : Bool) → ltb 1 killed ≡ x → leb killed 1 ≡ not x
    one_or_none true q = lt-leb killed 1 (ltb-true 1 killed q)
    one_or_none false q = le-leb killed 1 (ltb-false 1 killed q)

    none_due : (g : Stage) → leb killed 1 ≡ false → due g k c killed ≡ false
    none_due free q = refl
    none_due held_back q = refl
    none_due waits q = refl
    none_due (replied v) q = ap (λ (b : Bool). b && (eqb k.caller c && (not k.returned && not k.ended))) q
    none_due mapping q = refl

    refused_ok : (m : ℕ) → eqb m 4 ≡ false → owed_reply ≡ false → Ok r woken (view_of woken) (refuse w m)
    refused_ok m z d =
        record { inv = rw z i; right = record { hand = sym d; queue = still }; rest = record { bytes = refl; effects = refl; scheme = refl } }

    stage : (p : Phase) → phase_in w n ≡ p → StageIn p k.stage
    stage p q = in_stage t h i n p q

    -- a served call's reply is due by what its slot says
    slot_due : ltb 1 killed ≡ false → phase_in w n ≡ Responded → owed_reply ≡ wakeable (slot_in w n) c
    slot_due x p =
        let g = replied_is t h i n p in
        let d = in_phase t h i n Responded (replied (response_of (slot_in w n))) p g in
        ap (λ (s : Stage). due s k c killed) g ∙ due_by (leb killed 1) (eqb k.caller c) k.ended k.returned (one_or_none false x)
        ∙ sym (ap (λ (v : Core). eqb (caller_is v) c && (not (ended_is v) && not (returned_is v))) d)

    -- a waiting call is woken by its own caller, neither ended nor returned
    module _ (p : phase_in w n ≡ Waiting) (y : wakeable (slot_in w n) c ≡ true) where
      not_due : owed_reply ≡ false
      not_due = ap (λ (s : Stage). due s k c killed) (stage Waiting p)

      -- cancelling is having waited, since the call has not returned
      pub waited_is : k.was_blocked ≡ (slot_in w n).canceling
      waited_is =
          let e = in_phase t h i n Waiting waits p (stage Waiting p) in
          let b = both (eqb (slot_in w n).caller c) (not (slot_in w n).ended && not (slot_in w n).returned) y in
          let f = both (not (slot_in w n).ended) (not (slot_in w n).returned) b.1 in
          let z : k.returned ≡ false = ap returned_is (sym e) ∙ not-true (slot_in w n).returned f.1 in
          sym (or_split k.was_blocked k.returned z) ∙ ap canceling_is (sym e)

      inside : n < 64
      inside = in_range w n Waiting p refl

      block_go : (a b : Bool) → (slot_in w n).canceling ≡ a → queue_full w ≡ b → Ok r woken (view_of woken) (blocked_by a b w n)
      block_go true b qa qb =
          let z : k.was_blocked ≡ true = waited_is ∙ qa in
          record {
            inv =
                inv_block t h i n t
                (record { here = same; there = λ m o. refl; sum = ap (λ (v : Slot). t.held + holding v) same; chain = λ l p. p }) p;
            right = rw z (record { hand = sym not_due; queue = still });
            rest = record { bytes = refl; effects = once k.was_blocked _ _ z; scheme = refl };
          }
        where
          same : slot_in w n ≡ canceled_of (slot_in w n)
          same = λ z. record { state = (slot_in w n).state; caller = (slot_in w n).caller; canceling = qa z; ended = (slot_in w n).ended; returned = (slot_in w n).returned; span = (slot_in w n).span; reply = (slot_in w n).reply; fds = (slot_in w n).fds }
      block_go false true qa qb = refused_ok 203 refl not_due
      block_go false false qa qb =
          let z : k.was_blocked ≡ false = waited_is ∙ qa in
          record {
            inv =
                inv_block t h i n (shape (put_at (table_of w) n (canceled_of (slot_in w n)))) (put_stored (table_of w) whole.slots n (canceled_of (slot_in w n)) inside) p;
            right = rw z (record { hand = sym not_due; queue = queue_cancel w whole qb n inside (omega arith) });
            rest = record { bytes = refl; effects = once k.was_blocked _ _ z; scheme = refl };
          }

      wait_go : (b : Bool) → Ok r woken (view_of woken) (waited_by b w n span)
      wait_go true =
          record {
            inv =
                inv_break t h i n span (shape (put_at (table_of w) n (interrupted_of (slot_in w n) span)))
                (put_stored (table_of w) whole.slots n (interrupted_of (slot_in w n) span) inside) p;
            right = record { hand = sym not_due; queue = still };
            rest = record { bytes = refl; effects = refl; scheme = refl };
          }
      wait_go false = block_go (slot_in w n).canceling (queue_full w) refl refl

    wake_go :
        (x : Bool) (p : Phase) (y : Bool) → ltb 1 killed ≡ x → phase_in w n ≡ p → wakeable (slot_in w n) c ≡ y
        → Ok r woken (view_of woken) (checked (refuse w) (wake_rows x p y) (woken_by p w n killed span))
    wake_go true p y qx qp qy = refused_ok 205 refl (none_due k.stage (one_or_none true qx))
    wake_go false Vacant y qx qp qy = refused_ok 77 refl (ap (λ (s : Stage). due s k c killed) (stage Vacant qp))
    wake_go false Placeholder y qx qp qy = refused_ok 77 refl (ap (λ (s : Stage). due s k c killed) (stage Placeholder qp))
    wake_go false Waiting false qx qp qy = refused_ok 201 refl (ap (λ (s : Stage). due s k c killed) (stage Waiting qp))
    wake_go false Waiting true qx qp qy = wait_go qp qy (eqb killed 1)
    wake_go false Responded false qx qp qy = refused_ok 201 refl (slot_due qx qp ∙ qy)
    wake_go false Responded true qx qp qy =
        record {
          inv =
              inv_pass t h i n (shape (vacate_at (table_of w) n))
              (vacate_stored (table_of w) whole.slots n (in_range w n Responded qp refl) whole.next whole.chain (ap idle qp)) qp;
          right = record { hand = sym (slot_due qx qp ∙ qy); queue = still };
          rest = record { bytes = refl; effects = refl; scheme = refl };
        }
    wake_go false Fmap y qx qp qy = refused_ok 77 refl (ap (λ (s : Stage). due s k c killed) (stage Fmap qp))

  -- a read: of an empty queue nothing is copied
  read_ok : (len flags : ℕ) → Ok r (on (read len flags)) reads (step w (on (read len flags)))
  read_ok len flags = go (eqb (queue_of w).len 0) refl
    where
      read_by : Bool → Outcome
      read_by b =
          record {
            answer = said (received_if b (queue_of w) len flags).answer;
            effects = [];
            bytes = take (copied (queue_of w) len) (unread_in w);
            world = with_queue w (received_if b (queue_of w) len flags).queue w.words;
          }

      empty : (x y z : Bool) → copied (queue_of w) len ≡ 0 → Ok r (on (read len flags)) reads (record { answer = said (empty_by x y z); effects = []; bytes = take (copied (queue_of w) len) (unread_in w); world = w })
      empty true y z q = record { inv = i; right = record { hand = refl; queue = still }; rest = record { bytes = ap (λ (m : ℕ). take m (unread_in w)) q; effects = refl; scheme = refl } }
      empty false true z q = record { inv = i; right = record { hand = refl; queue = still }; rest = record { bytes = ap (λ (m : ℕ). take m (unread_in w)) q; effects = refl; scheme = refl } }
      empty false false true q = record { inv = i; right = record { hand = refl; queue = still }; rest = record { bytes = ap (λ (m : ℕ). take m (unread_in w)) q; effects = refl; scheme = refl } }
      empty false false false q = record { inv = i; right = record { hand = refl; queue = still }; rest = record { bytes = ap (λ (m : ℕ). take m (unread_in w)) q; effects = refl; scheme = refl } }

      go : (b : Bool) → eqb (queue_of w).len 0 ≡ b → Ok r (on (read len flags)) reads (read_by b)
      go true q = empty (eqb (flags / 0x4_0000 % 2) 0) (eqb len 0) (ltb len 64) (omega (arith, eqb-true (queue_of w).len 0 q))
      go false q =
          record {
            inv = i;
            right = record { hand = refl; queue = unread_removed (queue_of w) w.words (copied (queue_of w) len / 64) (omega arith) ∙ sym (append-nil _) };
            rest = record { bytes = refl; effects = refl; scheme = refl };
          }

  write_event_ok : (words : ℕ) (bs : List ℕ) → Ok r (on (write words bs)) (writes words bs) (step w (on (write words bs)))
  write_event_ok words bs =
      checked_cases (Ok r (on (write words bs)) (writes words bs)) (refuse w) (write_rows words bs) (write_on w (entries_of bs) 0 [])
      (λ m. record { inv = i; right = record { hand = refl; queue = still }; rest = record { bytes = refl; effects = refl; scheme = refl } })
      (λ f.
      let o = write_ok r bs whole i (length bs / 16) in
      record {
        inv = subst (λ (m : ℕ). InvOf (write_on w (entries_of bs) 0 []).world (poured r.number bs w m ++ h)) (sym o.counted) o.inv;
        right =
            record {
              hand = o.hand;
              queue = o.same.queue ∙ still;
            };
        rest = record { bytes = o.bytes; effects = o.wakes ∙ ap (λ (m : ℕ). wakes_for h (poured r.number bs w m)) (sym o.counted); scheme = o.same.scheme };
      })

  -- another list in a Waiting slot
  list_inv : (n : ℕ) (fds : Fds) → is_waiting (phase_in w n) ≡ true → InvOf (with_table w (put_at (table_of w) n (with_fds_of (slot_in w n) fds))) h
  list_inv n fds q =
      let p = waiting_is (phase_in w n) q in
      let v = with_fds_of (slot_in w n) fds in
      inv_same t (shape (put_at (table_of w) n v)) h n v i (put_stored (table_of w) whole.slots n v (in_range w n Waiting p refl)) Waiting p p
      (same_core (slot_in w n) fds Waiting p refl)

  move_ok : (ms ds : List ℕ) → Ok r (on (move ms ds)) (moves ds) (step w (on (move ms ds)))
  move_ok ms ds =
      checked_cases (Ok r (on (move ms ds)) (moves ds)) (refuse w) (list_rows w ds) (checked (refuse (brought_back w ds)) (request_rows w 1 ms) (moved w (request_of ms) ds))
      (λ m. record { inv = i; right = record { hand = refl; queue = still }; rest = record { bytes = refl; effects = refl; scheme = refl } })
      (λ f.
      checked_cases (Ok r (on (move ms ds)) (moves ds)) (refuse (brought_back w ds)) (request_rows w 1 ms) (moved w (request_of ms) ds)
      (λ m. record { inv = i; right = record { hand = refl; queue = still }; rest = record { bytes = refl; effects = refl; scheme = refl } })
      (λ g.
      record {
        inv = list_inv (request_of ms) (list_of ds) (not-false _ g.1.0);
        right = record { hand = refl; queue = still };
        rest = record { bytes = refl; effects = refl; scheme = refl };
      }))

  obtain_ok : (ms : List ℕ) → Ok r (on (obtain ms)) (view_of (on (obtain ms))) (step w (on (obtain ms)))
  obtain_ok ms =
      checked_cases (Ok r (on (obtain ms)) (view_of (on (obtain ms)))) (refuse w) (request_rows w 0 ms) (given_up w (request_of ms)) (turned_down _ _)
      (λ g. plain_ok _ (λ v. []) _ _ (list_inv (request_of ms) no_fds (not-false _ g.1.0)) refl (record { queue = refl; scheme = refl }))

  module _ (n offset base count : ℕ) where
    abbrev filling : Event
    filling = on (supply n offset base count)

    down : (m : ℕ) → eqb m 3 ≡ false → Ok r filling (supplies n) (refuse w m)
    down m z = record { inv = rw z i; right = record { hand = refl; queue = still }; rest = record { bytes = refl; effects = refl; scheme = refl } }

    fill_inv : phase_in w n ≡ Fmap → InvOf (with_table w (vacate_at (table_of w) n)) (to n filled ∷ h)
    fill_inv p =
        inv_filled t h i n (shape (vacate_at (table_of w) n))
        (vacate_stored (table_of w) whole.slots n (in_range w n Fmap p refl) whole.next whole.chain (ap idle p)) p

    supplied_go : (b : Bool) → phase_in w n ≡ Fmap → Ok r filling (supplies n) (outcome (supplied_as b) [] (with_table w (vacate_at (table_of w) n)))
    supplied_go true p = record { inv = fill_inv p; right = record { hand = refl; queue = still }; rest = record { bytes = refl; effects = refl; scheme = refl } }
    supplied_go false p = record { inv = fill_inv p; right = record { hand = refl; queue = still }; rest = record { bytes = refl; effects = refl; scheme = refl } }

    supply_go : (p : Phase) → phase_in w n ≡ p → Ok r filling (supplies n) (supplied_by p w n)
    supply_go Vacant e = down 22 refl
    supply_go Placeholder e = down 77 refl
    supply_go Waiting e = down 22 refl
    supply_go Responded e = down 22 refl
    supply_go Fmap e = supplied_go (slot_in w n).ended e

    supply_ok : Ok r filling (supplies n) (step w filling)
    supply_ok = go (wrong_pages offset base count)
      where
        go : (b : Bool) → Ok r filling (supplies n) (cond b (refuse w 22) (supplied_by (phase_in w n) w n))
        go true = down 22 refl
        go false = supply_go (phase_in w n) refl

  call_ok :
      (e : Event) (c op : ℕ) (args : Args) (uid gid pid : ℕ) (ds : List ℕ)
      → Ok r e (begins c (call_entry op args uid gid pid)) (call_of w c op args uid gid pid ds)
  call_ok e c op args uid gid pid ds =
      checked_cases (Ok r e (begins c (call_entry op args uid gid pid))) (refuse w) (call_rows w op ds)
      (begun w (waiting_of c (list_of ds)) (taken_holds w ds) (call_entry op args uid gid pid)) (unsent _ _ _ _)
      (λ f. sent_ok f.1.1.0 _ c (list_of ds) (taken_holds w ds) (call_entry op args uid gid pid) f.1.1.1.0)

  driver_ok : (e : DriverEvent) → Ok r (on e) (view_of (on e)) (step w (on e))
  driver_ok (host_put d k) = host_ok _ _ _ (put_quiet (holds_of w) d (handles_of w) k) i (record { queue = refl; scheme = refl })
  driver_ok (reserve c) = reserve_ok c
  driver_ok (submit n c op fl args pid ds) = submit_ok n c op fl args pid ds
  driver_ok (call c op args uid gid pid ds) = call_ok _ c op args uid gid pid ds
  driver_ok (fdwrite c number flags ms uid gid pid ds) = call_ok _ c 12 (fdwrite_args number flags ms ds) uid gid pid ds
  driver_ok (fdread c number len flags ms uid gid pid) =
      checked_cases (Ok r _ (view_of (on (fdread c number len flags ms uid gid pid)))) (refuse w) (length_rows len)
      (call_of w c 31 (fdread_args number len flags ms) uid gid pid []) (unsent _ _ _ _) (λ f. call_ok _ c 31 (fdread_args number len flags ms) uid gid pid [])
  driver_ok (generic c pid fds base len ms) =
      checked_cases (Ok r _ (view_of (on (generic c pid fds base len ms)))) (refuse w) (generic_rows w fds) (begun w (waiting_of c (list_of [])) (holds_of w) (generic_entry 28 pid fds base len ms)) (unsent _ _ _ _)
      (λ f. sent_ok f.1.0 _ c (list_of []) (holds_of w) (generic_entry 28 pid fds base len ms) f.1.1.0)
  driver_ok (stdfs c pid fds base len ms) =
      checked_cases (Ok r _ (view_of (on (stdfs c pid fds base len ms)))) (refuse w) (stdfs_rows w fds ms) (begun w (waiting_of c (list_of [])) (holds_of w) (generic_entry 33 pid fds base len (std_meta ms))) (unsent _ _ _ _)
      (λ f. sent_ok f.1.1.1.0 _ c (list_of []) (holds_of w) (generic_entry 33 pid fds base len (std_meta ms)) f.1.1.1.1.0)
  driver_ok (fmap c id pages flags uid gid pid) = fmap_ok c id pages flags uid gid pid
  driver_ok (close id) = notified_ok _ (event_read + event_hup) (close_entry id)
  driver_ok (detach id pid) = notified_ok _ event_read (detach_entry id pid)
  driver_ok (wake n c killed base count) = wake_go n c killed base count _ _ _ refl refl refl
  driver_ok (read len flags) = read_ok len flags
  driver_ok (write words bs) = write_event_ok words bs
  driver_ok (move ms ds) = move_ok ms ds
  driver_ok (obtain ms) = obtain_ok ms
  driver_ok (supply n offset base count) = supply_ok n offset base count

  pub event_ok : (e : Event) → Ok r e (view_of e) (step w e)
  event_ok (host_open d) = host_ok _ _ _ (open_quiet (holds_of w) d) i (record { queue = refl; scheme = refl })
  event_ok (host_copy d) = host_ok _ _ _ (copy_quiet (holds_of w) d) i (record { queue = refl; scheme = refl })
  event_ok (host_drop d) = host_ok _ _ _ (drop_quiet (holds_of w) d) i (record { queue = refl; scheme = refl })
  event_ok (host_ended c) = plain_ok _ (λ v. end c ∷ []) (ok 0) _ (inv_end c (table_of w) h i) refl (record { queue = refl; scheme = refl })
  event_ok (on e) = driver_ok e
