-- What each event answers, by the rows of the claim and by what happened. Assumes nothing.
use Rattle.std.specs.Prelude.{Result, Ok, Err}
use Prim.Native.Nat.{ℕ, zero, suc, min, ◌+◌, ◌*◌, ◌/◌, ◌%◌, ◌≤◌}
use mathlib.Core.Path.{◌≡◌, refl, sym, ap, ap₂, ◌∙◌}
use mathlib.Core.Bool.{Bool, true, false, not, cond, ◌||◌, ◌&&◌, true≢false, false≢true}
use mathlib.Core.List.{List, [], ◌∷◌, ◌++◌}
use native.Mathlib.Omega.{arith}
use lib.Dec.{ltb, eqb}
use lib.ListN.{length, length-append, drop}
use borrow.Author.Tests.{lt-ltb, ltb-false, eqb-true}
use Rattle.answer.specs.declared.Accepted.TheVariants.{Done}
use Rattle.answer.specs.declared.Refusal.TheVariants.{BadArgument, TooManyHolds}
use Rattle.counts.specs.Counts.{lasts}
use Rattle.closes.specs.declared.Reason.TheVariants.{Replied, Ended, Unusable}
use Rattle.closes.specs.Closes.{closing, only, closes}
use Rattle.closes.proofs.Laws.{closes_room}
use Rattle.fd_list.specs.declared.List.{List as Fds}
use Rattle.fd_list.specs.Lists.{numbers, list_of}
use Rattle.fd_list.proofs.Laws.{numbers_most}
use Rattle.handles.specs.declared.Handles.{Handles}
use Rattle.handles.specs.Handles.{is_free, obtain_lasts, obtain_closes}
use Rattle.holds.specs.declared.Holds.{Holds}
use Rattle.holds.specs.Holds.{discarded_of, unheld}
use Rattle.host_holds.specs.Host.{left_as}
use Rattle.host_put.specs.Put.{put}
use Rattle.parse_cqe.specs.Parsed.{parsed_of}
use Rattle.parse_cqe.specs.declared.ParsedCqe.{ParsedCqe}
use Rattle.parse_cqe.specs.declared.ParsedCqe.TheVariants as parsed
use Rattle.parse_cqe.specs.declared.CqeError.{CqeError}
use Rattle.schemev2.specs.declared.Args.{Args}
use Rattle.schemev2.specs.declared.Cqe.{Cqe}
use Rattle.slot.specs.declared.PageSpan.{PageSpan}
use Rattle.slot.specs.declared.Phase.{Phase}
use Rattle.slot.specs.Slots.{no_fds}
use Rattle.slot.specs.declared.Phase.TheVariants.{Vacant, Placeholder, Waiting, Responded, Fmap}
use Rattle.wait_queue.specs.declared.WaitQueue.{WaitQueue}
use Rattle.wait_queue_receive.specs.Receive.{empty_by, received_if}
use Rattle.events.specs.World.{World, table_of, queue_of, holds_of, handles_of, slot_in, phase_in, queue_full}
use Rattle.events.specs.Outcome.{Answer, ok, no, wait, said, Outcome, outcome, Row, row, checked, refuse}
use Rattle.events.specs.Submit.{bad_opcode, reserve_rows, submit_rows, call_rows, call_of, fdwrite_args, fdread_args, length_rows, generic_rows, stdfs_rows, fmap_rows, queue_rows, long_list, kind_byte, is_placeholder, table_full}
use Rattle.events.specs.Wake.{response_of, wakeable, wake_rows, waited_by, woken_by}
use Rattle.events.specs.Descriptors.{request_of, request_rows, list_rows}
use Rattle.events.specs.Supply.{wrong_pages, page_rows, supplied_as, supplied_by}
use Rattle.events.specs.Entry.{Decision, closes_of, Offer, result, one, listed, gone_fds, named_of, own_fds, unmap_of, release_of, served_by, respond_by, in_handle, handle_rows, is_vacant, is_waiting, obtain_rows, decision_of}
use Rattle.events.specs.Complete.{write_rows, Entered, accepted, rejected, world_of, entry_of, cut, entries_of, stopped, on_entered, write_on}
use Rattle.events.specs.Event.{DriverEvent, host_put, reserve, submit, call, fdwrite, fdread, generic, stdfs, fmap, close, detach, wake, read, write, move, obtain, supply, Event, host_open, host_copy, host_drop, host_ended, on, step}
use Rattle.events.specs.History.{Fact, Stage, waits, replied, mapping, Call, book}
use Rattle.events.specs.Run.{Run}
use Rattle.events.specs.WellFormed.{WellFormed}
use Rattle.events.specs.Exactly.{ruled, state, in_state, no_tag_vacant, next_tag, all_128_unread, holds_in, list_lacks, wrong_opcode, driver_answer, answer_to, ExactAt}
use Rattle.events.proofs.Checked.{checked_cases}
use Rattle.events.proofs.Decided.{refused_in, carried_cases}
use Rattle.events.proofs.Conditions.{Named, opcode_same, not_ltb, some_same, odd_same, count_same, kind_same, unread_length, queue_same, empty_same, is_responded, slot_named, table_same, next_tag_lem, submit_same, wake_same, lacks_same, free_same, words_same}
use Rattle.events.proofs.Entries.{InvOf}
use Rattle.events.proofs.Inv.{in_stage, in_phase, replied_is}
use Rattle.events.proofs.Stage.{Core, core_by, dress, StageIn, caller_is, ended_is, returned_is}
use Rattle.events.proofs.Steps.{waited_is, event_ok}
use Rattle.events.proofs.Stored.{shape}
use Rattle.events.proofs.WellFormed.{formed_entry}
use Rattle.events.proofs.Writes.{ruled_checked, write_ok}

abbrev entry_effects : Entered → List ℕ
entry_effects (accepted fx w) = fx
entry_effects (rejected k fx w) = fx

-- an entry's effects, three words each: a wake, an unmap and a close of each of at most 16 listed descriptions; with no wake, of one more
module _ (w : World) (i : WellFormed w) where
  abbrev Holding : ℕ → Offer → Type 0
  Holding n o =
      (length (numbers (gone_fds o (slot_in w n))) ≤ 16) × (length (numbers (gone_fds o (slot_in w n))) + length (numbers (own_fds o (slot_in w n))) ≤ 17)

  named_most : (d : ℕ) → length (numbers (named_of d)) ≤ 1
  named_most d = go (ltb 63 d)
    where
      go : (b : Bool) → length (numbers (cond b no_fds (list_of (d ∷ [])))) ≤ 1
      go true = omega arith
      go false = omega arith

  holding : (n : ℕ) (o : Offer) → Holding n o
  holding n o = go o (numbers_most (slot_in w n).fds (i.lists n))
    where
      go : (o : Offer) → length (numbers (slot_in w n).fds) ≤ 16 → Holding n o
      go (result r x b) h = omega arith
      go (one d) h = omega (arith, named_most d)
      go listed h = omega arith

  unmap_most : (b : Bool) (s : PageSpan) → length (unmap_of b s) ≤ 3
  unmap_most true s = omega arith
  unmap_most false s = omega arith

  release_most : (n : ℕ) (o : Offer) → length (release_of (slot_in w n) (numbers (gone_fds o (slot_in w n))) (holds_of w)) ≤ 3 + 3 * length (numbers (gone_fds o (slot_in w n)))
  release_most n o =
      omega (
        arith,
        length-append (unmap_of (eqb (slot_in w n).span.count 0) (slot_in w n).span) (closes_of Replied (holds_of w) (numbers (gone_fds o (slot_in w n)))),
        unmap_most (eqb (slot_in w n).span.count 0) (slot_in w n).span,
        closes_room (closing Replied) (numbers (gone_fds o (slot_in w n))) (holds_of w).holds,
      )

  served_most : (b : Bool) (n t : ℕ) (o : Offer) (k : Handles) → length (served_by b (slot_in w n) t o (holds_of w) k).effects ≤ 54
  served_most false n t o k = omega (arith, release_most n o, holding n o)
  served_most true n t o k =
      let gone = numbers (gone_fds o (slot_in w n)) in
      let held = numbers (own_fds o (slot_in w n)) in
      let left = discarded_of (holds_of w) gone in
      omega (
        arith,
        length-append (release_of (slot_in w n) gone (holds_of w)) (closes_of Ended left held),
        release_most n o,
        closes_room (closing Ended) held left.holds,
        holding n o,
      )

  respond_most :
      (turn : ℕ → Decision) (n t : ℕ) (o : Offer) (k : Handles) → ((m : ℕ) → length (turn m).effects ≤ 54)
      → (p : Phase) → length (respond_by p turn (slot_in w n) t o (holds_of w) k).effects ≤ 54
  respond_most turn n t o k h Vacant = h 77
  respond_most turn n t o k h Placeholder = h 77
  respond_most turn n t o k h Waiting = served_most (slot_in w n).ended n t o k
  respond_most turn n t o k h Responded = h 22
  respond_most turn n t o k h Fmap = h 22

  obtain_most : (h : Holds) (k : Handles) (l : Fds) (n : ℕ) → length (obtain_closes h k l n) ≤ 54
  obtain_most h k l n = go (numbers l)
    where
      by : (b : Bool) (d : ℕ) → length (closes (cond b [] (only (closing Unusable) (lasts h.holds (d ∷ []))))) ≤ 54
      by true d = omega arith
      by false d = omega (arith, closes_room (closing Unusable) (d ∷ []) h.holds)

      go : (ds : List ℕ) → length (closes (obtain_lasts ds h k n)) ≤ 54
      go [] = omega arith
      go (d ∷ ds) = by (is_free k n) d

entry_most : (w : World) → WellFormed w → (p : Result ParsedCqe CqeError) (n : ℕ) → length (decision_of p (slot_in w n) (holds_of w) (handles_of w)).effects ≤ 54
entry_most w i (Ok (parsed.TriggerFevent number flags)) n = omega arith
entry_most w i (Ok (parsed.RegularResponse t r x)) n = respond_most w i (refused_in w n) n t.0 (result r x false) (handles_of w) (λ m. omega arith) (phase_in w n)
entry_most w i (Ok (parsed.ResponseWithFd t k)) n =
    checked_cases (λ (d : Decision). length d.effects ≤ 54) (refused_in w n) (handle_rows (handles_of w) k.0) _ (λ k. omega arith)
    (λ p. respond_most w i _ n t.0 (one (in_handle (handles_of w) k.0)) _ (λ m. omega arith) (phase_in w n))
entry_most w i (Ok (parsed.ResponseWithMultipleFds t c)) n = respond_most w i (refused_in w n) n t.0 listed (handles_of w) (λ m. omega arith) (phase_in w n)
entry_most w i (Ok (parsed.ObtainFd t flags k)) n =
    checked_cases (λ (d : Decision). length d.effects ≤ 54) (refused_in w n) (obtain_rows (slot_in w n)) _ (λ k. omega arith)
    (λ p. obtain_most w i (holds_of w) (handles_of w) (slot_in w n).fds k.0)
entry_most w i (Ok (parsed.RespondAndNotifyOnDetach t r x)) n = respond_most w i (refused_in w n) n t.0 (result r x true) (handles_of w) (λ m. omega arith) (phase_in w n)
entry_most w i (Err e) n = omega arith

entered_most : (w : World) → WellFormed w → (e : Cqe) → length (entry_effects (entry_of w e)) ≤ 54
entered_most w i e =
    let m = entry_most w i (parsed_of e) e.tag in
    carried_cases (λ (x : Entered). length (entry_effects x) ≤ 54) w e.tag (decision_of (parsed_of e) (slot_in w e.tag) (holds_of w) (handles_of w)) m m

-- the effects of a write: at most 54 words for each entry
cut_length : (n : ℕ) (bs : List ℕ) → length (cut n bs) ≡ n
cut_length zero bs = refl
cut_length (suc n) bs = ap suc (cut_length n (drop 16 bs))

written_most : (es : List Cqe) (w : World) → WellFormed w → (n : ℕ) (fx : List ℕ) → length (write_on w es n fx).effects ≤ length fx + 54 * length es
written_most [] w i n fx = omega arith
written_most (e ∷ es) w i n fx = go (entry_of w e) (entered_most w i e) (formed_entry w e i) (written_most es)
  where
    go :
        (x : Entered) → length (entry_effects x) ≤ 54 → WellFormed (world_of x)
        → ((u : World) → WellFormed u → (n : ℕ) (fx : List ℕ) → length (write_on u es n fx).effects ≤ length fx + 54 * length es)
        → length (on_entered x (λ gx u. write_on u es (suc n) (fx ++ gx)) (λ k gx u. outcome (stopped n k) (fx ++ gx) u)).effects ≤ length fx + 54 * suc (length es)
    go (accepted gx u) m j more = omega (arith, more u j (suc n) (fx ++ gx), length-append fx gx)
    go (rejected k gx u) m j more = omega (arith, length-append fx gx)

-- at most 54 words for each entry of a write
pub write_most : (w : World) → WellFormed w → (words : ℕ) (bs : List ℕ) → length (step w (on (write words bs))).effects ≤ 54 * (length bs / 16)
write_most w i words bs =
    checked_cases (λ (o : Outcome). length o.effects ≤ 54 * (length bs / 16)) (refuse w) (write_rows words bs) (write_on w (entries_of bs) 0 []) (λ k. omega arith)
    (λ p. omega (arith, written_most (entries_of bs) w i 0 [], cut_length (length bs / 16) bs))

pub write_room : (w : World) → WellFormed w → (words : ℕ) (bs : List ℕ) → length (step w (on (write words bs))).effects ≤ words
write_room w i words bs =
    checked_cases (λ (o : Outcome). length o.effects ≤ words) (refuse w) (write_rows words bs) (write_on w (entries_of bs) 0 []) (λ k. omega arith)
    (λ p. omega (arith, ltb-false words (54 * (length bs / 16)) p.0, written_most (entries_of bs) w i 0 [], cut_length (length bs / 16) bs))

-- an event's rows are those of the claim, and what it answers where none is due
answer_checked : (w : World) (rows : List Row) (o : Outcome) → (checked (refuse w) rows o).answer ≡ ruled rows o.answer
answer_checked w rows o = ruled_checked (λ (u : Outcome). u.answer) (refuse w) (λ k. refl) rows o

under : {a : Answer} {rows claimed : List Row} (x : Answer) → a ≡ ruled rows x → rows ≡ claimed → a ≡ ruled claimed x
under x e p = e ∙ ap (λ (rs : List Row). ruled rs x) p

-- a row, and what follows where it is not due
row_same : (k : ℕ) {b c : Bool} {x y : Answer} → b ≡ c → (c ≡ false → x ≡ y) → cond b (no k) x ≡ cond c (no k) y
row_same k {b} {c} {x} {y} e f = ap (λ (z : Bool). cond z (no k) x) e ∙ go c f
  where
    go : (c : Bool) → (c ≡ false → x ≡ y) → cond c (no k) x ≡ cond c (no k) y
    go true f = refl
    go false f = f refl

-- the host's events
open_answer : (b : Bool) (h k : Holds) → said (cond b (left_as (Err BadArgument) h) (left_as (Ok Done) k)).answer ≡ ruled (row 205 b ∷ []) (ok 0)
open_answer true h k = refl
open_answer false h k = refl

copy_answer :
    (b c : Bool) (h k l : Holds)
    → said (cond b (left_as (Err BadArgument) h) (cond c (left_as (Err TooManyHolds) k) (left_as (Ok Done) l))).answer
    ≡ ruled (row 205 b ∷ row 207 c ∷ []) (ok 0)
copy_answer true c h k l = refl
copy_answer false true h k l = refl
copy_answer false false h k l = refl

drop_answer : (b : Bool) (h k : Holds) → said (cond b (left_as (Err BadArgument) h) (left_as (Ok Done) k)).answer ≡ ruled (row 205 b ∷ []) (ok 0)
drop_answer true h k = refl
drop_answer false h k = refl

put_answer :
    (b : Bool) (n m : Handles) (h k : Holds)
    → said (cond b (put (Err BadArgument) n h) (put (Ok Done) m k)).answer ≡ ruled (row 205 b ∷ []) (ok 0)
put_answer true n m h k = refl
put_answer false n m h k = refl

-- a map supply, by the slot's phase
supplied_answer :
    (w : World) (n : ℕ) (p : Phase)
    → (supplied_by p w n).answer ≡ ruled (row 22 (is_vacant p || (is_waiting p || is_responded p)) ∷ row 77 (is_placeholder p) ∷ row 3 (slot_in w n).ended ∷ []) (ok 0)
supplied_answer w n Vacant = refl
supplied_answer w n Placeholder = refl
supplied_answer w n Waiting = refl
supplied_answer w n Responded = refl
supplied_answer w n Fmap = go (slot_in w n).ended
  where
    go : (b : Bool) → supplied_as b ≡ ruled (row 3 b ∷ []) (ok 0)
    go true = refl
    go false = refl

-- a read: by whether the queue is empty, the read blocks, no byte is lent, and fewer than 64 are
empty_answer :
    (x none short : Bool) (n : ℕ) → n ≡ 0 → (none ≡ true → short ≡ true)
    → said (empty_by x none short) ≡ ruled (row 22 (not x && (not none && short)) ∷ row 11 (not x && not short) ∷ []) (cond x wait (ok n))
empty_answer true none short n z h = refl
empty_answer false true true n z h = ap ok (sym z)
empty_answer false true false n z h = absurd (false≢true (h refl))
empty_answer false false true n z h = refl
empty_answer false false false n z h = refl

read_answer :
    (q : WaitQueue) (n flags : ℕ) (b x : Bool) → eqb q.len 0 ≡ b → eqb (flags / 0x4_0000 % 2) 0 ≡ x
    → said (received_if b q n flags).answer
    ≡ ruled (row 22 ((b && not x) && (not (eqb n 0) && ltb n 64)) ∷ row 11 ((b && not x) && not (ltb n 64)) ∷ []) (cond (b && x) wait (ok (min n (q.len * 64))))
read_answer q n flags true x z e =
    rw e (empty_answer x (eqb n 0) (ltb n 64) (min n (q.len * 64)) (omega (arith, eqb-true q.len 0 z)) (λ y. lt-ltb n 64 (omega (arith, eqb-true n 0 y))))
read_answer q n flags false x z e = refl

module _ (r : Run) (i : WellFormed r.world) (inv : InvOf r.world r.facts) where
  abbrev w : World
  w = r.world

  abbrev h : List Fact
  h = r.facts

  -- 202, then whatever follows, at the next tag
  give_answer : (x : Answer) (y : Answer) → (table_full w ≡ false → x ≡ y) → cond (table_full w) (no 202) x ≡ cond (no_tag_vacant h) (no 202) y
  give_answer x y f = row_same 202 (table_same w h inv) (λ q. f (table_same w h inv ∙ q))

  begun_answer : table_full w ≡ false → ruled (row 203 (queue_full w) ∷ []) (ok (table_of w).head) ≡ ruled (row 203 (all_128_unread w) ∷ []) (ok (next_tag h))
  begun_answer f = row_same 203 (queue_same w i) (λ q. ap ok (next_tag_lem w h inv f))

  module _ (n c killed base count : ℕ) where
    abbrev k : Call
    k = book h n

    abbrev span : PageSpan
    span = record { base = base; count = count }

    abbrev claimed : Answer
    claimed = driver_answer r (wake n c killed base count)

    stage : (p : Phase) → phase_in w n ≡ p → StageIn p k.stage
    stage p q = in_stage (shape (table_of w)) h inv n p q

    -- who may be woken, by what the slot and by what the history says
    barred : (p : Phase) (g : Stage) (v : Core) → v ≡ dress g k → caller_is (dress g k) ≡ k.caller → ended_is (dress g k) ≡ k.ended → returned_is (dress g k) ≡ k.returned
        → not (eqb k.caller c) || (k.ended || k.returned) ≡ not (eqb (caller_is v) c && (not (ended_is v) && not (returned_is v)))
    barred p g v d a b e =
        sym
        (ap (λ (u : Core). not (eqb (caller_is u) c && (not (ended_is u) && not (returned_is u)))) d
        ∙ ap₂ (λ (x : ℕ) (y : Bool). not (eqb x c && (not y && not (returned_is (dress g k))))) a b
        ∙ ap (λ (y : Bool). not (eqb k.caller c && (not k.ended && not y))) e
        ∙ wake_same (eqb k.caller c) k.ended k.returned)

    module _ (p : phase_in w n ≡ Waiting) where
      core : core_by Waiting (slot_in w n) ≡ dress waits k
      core = in_phase (shape (table_of w)) h inv n Waiting waits p (stage Waiting p)

      barred_waiting : not (eqb k.caller c) || (k.ended || k.returned) ≡ not (wakeable (slot_in w n) c)
      barred_waiting = barred Waiting waits (core_by Waiting (slot_in w n)) core refl refl refl

      waiting_answer : ltb 1 killed ≡ false → wakeable (slot_in w n) c ≡ true → (waited_by (eqb killed 1) w n span).answer ≡ claimed
      waiting_answer qx qy = go (eqb killed 1) (slot_in w n).canceling (queue_full w) refl refl refl
        where
          open_to : not (eqb k.caller c) || (k.ended || k.returned) ≡ false
          open_to = barred_waiting ∙ ap not qy

          go :
              (b x y : Bool) → eqb killed 1 ≡ b → (slot_in w n).canceling ≡ x → queue_full w ≡ y
              → (waited_by (eqb killed 1) w n span).answer ≡ claimed
          go true x y qb qc qf = rw (qx, stage Waiting p, open_to, qb) refl
          go false true y qb qc qf = let z : k.was_blocked ≡ true = waited_is r i inv n c killed base count p qy ∙ qc in rw (qx, stage Waiting p, open_to, qb, qc, z) refl
          go false false true qb qc qf =
              let z : k.was_blocked ≡ false = waited_is r i inv n c killed base count p qy ∙ qc in
              let f : all_128_unread w ≡ true = sym (queue_same w i) ∙ qf in
              rw (qx, stage Waiting p, open_to, qb, qc, z, qf, f) refl
          go false false false qb qc qf =
              let z : k.was_blocked ≡ false = waited_is r i inv n c killed base count p qy ∙ qc in
              let f : all_128_unread w ≡ false = sym (queue_same w i) ∙ qf in
              rw (qx, stage Waiting p, open_to, qb, qc, z, qf, f) refl

    wake_answer :
        (x : Bool) (p : Phase) (y : Bool) → ltb 1 killed ≡ x → phase_in w n ≡ p → wakeable (slot_in w n) c ≡ y
        → (checked (refuse w) (wake_rows x p y) (woken_by p w n killed span)).answer ≡ claimed
    wake_answer true p y qx qp qy = rw qx refl
    wake_answer false Vacant y qx qp qy = rw (qx, stage Vacant qp) refl
    wake_answer false Placeholder y qx qp qy = rw (qx, stage Placeholder qp) refl
    wake_answer false Waiting false qx qp qy =
        let z : not (eqb k.caller c) || (k.ended || k.returned) ≡ true = barred_waiting qp ∙ ap not qy in rw (qx, stage Waiting qp, z) refl
    wake_answer false Waiting true qx qp qy = waiting_answer qp qx qy
    wake_answer false Responded y qx qp qy = go y qy
      where
        g : k.stage ≡ replied (response_of (slot_in w n))
        g = replied_is (shape (table_of w)) h inv n qp

        z : not (eqb k.caller c) || (k.ended || k.returned) ≡ not (wakeable (slot_in w n) c)
        z =
            barred Responded (replied (response_of (slot_in w n))) (core_by Responded (slot_in w n))
            (in_phase (shape (table_of w)) h inv n Responded (replied (response_of (slot_in w n))) qp g) refl refl refl

        go : (y : Bool) → wakeable (slot_in w n) c ≡ y → (checked (refuse w) (wake_rows false Responded y) (woken_by Responded w n killed span)).answer ≡ claimed
        go false q = let e : not (eqb k.caller c) || (k.ended || k.returned) ≡ true = z ∙ ap not q in rw (qx, g, e) refl
        go true q = let e : not (eqb k.caller c) || (k.ended || k.returned) ≡ false = z ∙ ap not q in rw (qx, g, e) refl
    wake_answer false Fmap y qx qp qy = rw (qx, stage Fmap qp) refl

  -- a supply looks at the ended mark of a map request alone
  supply_answer : (n offset base count : ℕ) → (step w (on (supply n offset base count))).answer ≡ driver_answer r (supply n offset base count)
  supply_answer n offset base count =
      answer_checked w (page_rows offset base count) (supplied_by (phase_in w n) w n)
      ∙ ap (λ (a : Answer). cond (wrong_pages offset base count) (no 22) a)
      (supplied_answer w n (phase_in w n) ∙ row_same 22 off (λ a. row_same 77 t.placeholder (λ b. row_same 3 (ended (phase_in w n) refl (off ∙ a) (t.placeholder ∙ b)) (λ e. refl))))
    where
      t : Named (phase_in w n) (state (book h n).stage)
      t = slot_named w h inv n

      off : is_vacant (phase_in w n) || (is_waiting (phase_in w n) || is_responded (phase_in w n)) ≡ in_state 0 h n || (in_state 2 h n || in_state 3 h n)
      off = λ j. t.vacant j || (t.waiting j || t.responded j)

      ended : (p : Phase) → phase_in w n ≡ p → is_vacant p || (is_waiting p || is_responded p) ≡ false → is_placeholder p ≡ false → (slot_in w n).ended ≡ (book h n).ended
      ended Vacant e a b = absurd (true≢false a)
      ended Placeholder e a b = absurd (true≢false b)
      ended Waiting e a b = absurd (true≢false a)
      ended Responded e a b = absurd (true≢false a)
      ended Fmap e a b = ap ended_is (in_phase (shape (table_of w)) h inv n Fmap mapping e (in_stage (shape (table_of w)) h inv n Fmap e))

  read_told : (len flags : ℕ) → (step w (on (read len flags))).answer ≡ driver_answer r (read len flags)
  read_told len flags =
      let odd = odd_same (flags / 0x4_0000 % 2) (omega arith) in
      read_answer (queue_of w) len flags (eqb (queue_of w).len 0) (eqb (flags / 0x4_0000 % 2) 0) refl refl
      ∙ (λ j.
      ruled
      (row 22 ((empty_same w j && odd j) && (some_same len j && ltb len 64))
      ∷ row 11 ((empty_same w j && odd j) && not_ltb len 64 j)
      ∷ [])
      (cond (empty_same w j && eqb (flags / 0x4_0000 % 2) 0) wait (ok (min len (sym (unread_length w) j)))))

  -- the rows of a `call`, by whether its opcode is none
  call_answer :
      (c op : ℕ) (args : Args) (uid gid pid : ℕ) (ds : List ℕ) (wrong : Bool) → bad_opcode op ≡ wrong
      → (call_of w c op args uid gid pid ds).answer
      ≡ ruled (row 205 (wrong || list_lacks w ds) ∷ row 206 (long_list ds) ∷ row 202 (no_tag_vacant h) ∷ row 203 (all_128_unread w) ∷ []) (ok (next_tag h))
  call_answer c op args uid gid pid ds wrong e =
      answer_checked w (call_rows w op ds) _
      ∙ row_same 205 (ap (λ (b : Bool). b || list_lacks w ds) e) (λ a. row_same 206 {b = long_list ds} refl (λ b. give_answer _ _ begun_answer))

  driver_answer_lem : (e : DriverEvent) → (step w (on e)).answer ≡ driver_answer r e
  driver_answer_lem (host_put d k) =
      under (ok 0) (put_answer (unheld (holds_of w).holds (holds_of w).outside d || not (is_free (handles_of w) k)) _ _ _ _)
      (λ j. row 205 (lacks_same w d j || free_same w k j) ∷ [])
  driver_answer_lem (reserve c) = answer_checked w (reserve_rows w) _ ∙ give_answer (ok (table_of w).head) (ok (next_tag h)) (λ f. ap ok (next_tag_lem w h inv f))
  driver_answer_lem (submit n c op fl args pid ds) =
      under (ok n) (answer_checked w (submit_rows w n c op ds) _)
      (λ j.
      row 205 (opcode_same op j || list_lacks w ds)
      ∷ row 206 (long_list ds)
      ∷ row 201 (submit_same w h inv n c j)
      ∷ row 203 (queue_same w i j)
      ∷ [])
  driver_answer_lem (call c op args uid gid pid ds) = call_answer c op args uid gid pid ds (wrong_opcode op) (opcode_same op)
  driver_answer_lem (fdwrite c number flags ms uid gid pid ds) = call_answer c 12 (fdwrite_args number flags ms ds) uid gid pid ds false refl
  driver_answer_lem (fdread c number len flags ms uid gid pid) =
      answer_checked w (length_rows len) _ ∙ ap (ruled (length_rows len)) (call_answer c 31 (fdread_args number len flags ms) uid gid pid [] false refl)
  driver_answer_lem (generic c pid fds base len ms) = answer_checked w (generic_rows w fds) _ ∙ row_same 22 (count_same (length fds)) (λ a. give_answer _ _ begun_answer)
  driver_answer_lem (stdfs c pid fds base len ms) =
      answer_checked w (stdfs_rows w fds ms) _
      ∙ row_same 22 {b = ltb (length ms) 3} refl (λ a. row_same 95 (kind_same (kind_byte ms)) (λ b. row_same 22 (count_same (length fds)) (λ d. give_answer _ _ begun_answer)))
  driver_answer_lem (fmap c id pages flags uid gid pid) = answer_checked w (fmap_rows w) _ ∙ give_answer _ _ begun_answer
  driver_answer_lem (close id) = under (ok 0) (answer_checked w (queue_rows w) _) (λ j. row 203 (queue_same w i j) ∷ [])
  driver_answer_lem (detach id pid) = under (ok 0) (answer_checked w (queue_rows w) _) (λ j. row 203 (queue_same w i j) ∷ [])
  driver_answer_lem (wake n c killed base count) = wake_answer n c killed base count _ _ _ refl refl refl
  driver_answer_lem (read len flags) = read_told len flags
  driver_answer_lem (write words bs) =
      answer_checked w (write_rows words bs) _ ∙ ap (ruled (write_rows words bs)) (write_ok r bs i inv (length bs / 16)).answer
  driver_answer_lem (move ms ds) =
      answer_checked w (list_rows w ds) _
      ∙ ap (ruled (list_rows w ds))
      (under (ok (length ds)) (ruled_checked (λ (u : Outcome). u.answer) (refuse _) (λ k. refl) (request_rows w 1 ms) _)
      (λ j. row 22 (words_same w h inv 1 ms j) ∷ row 2 (not ((slot_named w h inv (request_of ms)).waiting j)) ∷ []))
  driver_answer_lem (obtain ms) =
      under (ok (length (numbers (slot_in w (request_of ms)).fds))) (answer_checked w (request_rows w 0 ms) _)
      (λ j. row 22 (words_same w h inv 0 ms j) ∷ row 2 (not ((slot_named w h inv (request_of ms)).waiting j)) ∷ [])
  driver_answer_lem (supply n offset base count) = supply_answer n offset base count

  event_answer : (e : Event) → (step w e).answer ≡ answer_to r e
  event_answer (host_open d) = open_answer (ltb 63 d || not (eqb (holds_in w d) 0)) _ _
  event_answer (host_copy d) =
      under (ok 0) (copy_answer (unheld (holds_of w).holds (holds_of w).outside d) (eqb (holds_in w d) 65535) _ _ _)
      (λ j. row 205 (lacks_same w d j) ∷ row 207 (eqb (holds_in w d) 65535) ∷ [])
  event_answer (host_drop d) = under (ok 0) (drop_answer (unheld (holds_of w).holds (holds_of w).outside d) _ _) (λ j. row 205 (lacks_same w d j) ∷ [])
  event_answer (host_ended c) = refl
  event_answer (on e) = driver_answer_lem e

  pub exact_at : ExactAt r
  exact_at = record { answer = event_answer; rest = λ e. (event_ok r i inv e).rest; most = write_most w i; room = write_room w i }
