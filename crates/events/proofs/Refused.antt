-- A refusal changes nothing but in the four cases that 01 names, and a read that would wait nothing at all (demand 1).
-- Assumes nothing.
use Rattle.std.specs.Prelude.{Option, Some, None, Result}
use Prim.Native.Nat.{ℕ, zero, suc, ◌+◌, ◌*◌, ◌/◌, ◌<◌}
use mathlib.Core.Path.{◌≡◌, refl, sym, ap, ◌∙◌, subst}
use mathlib.Core.Bool.{Bool, true, false, not, cond, ◌||◌}
use mathlib.Core.List.{List, [], ◌∷◌, ◌++◌}
use native.Mathlib.Omega.{arith}
use lib.Dec.{ltb, eqb}
use lib.ListN.{get_or, take, length, drop}
use borrow.Author.Tests.{eqb-true, lt-ltb, le-ltb}
use Rattle.error.specs.Errors.{demux_of}
use Rattle.answer.specs.declared.Accepted.{Accepted}
use Rattle.answer.specs.declared.Refusal.{Refusal}
use Rattle.fd_list.specs.Lists.{numbers}
use Rattle.flag.specs.Flags.{within, event_flags, fobtain_fd_flags}
use Rattle.handles.specs.declared.Handles.{Handles}
use Rattle.handles.specs.Handles.{held_at, emptied, is_free}
use Rattle.holds.specs.declared.Holds.{Holds}
use Rattle.holds.specs.Holds.{unheld}
use Rattle.host_holds.specs.declared.HoldsLeft.{HoldsLeft}
use Rattle.host_holds.specs.Host.{open_of, copy_of, drop_of}
use Rattle.host_put.specs.declared.HoldPut.{HoldPut}
use Rattle.host_put.specs.Put.{put_of}
use Rattle.parse_cqe.specs.Parsed.{event_if, obtain_if, parsed_by}
use Rattle.schemev2.specs.declared.Args.{Args}
use Rattle.schemev2.specs.declared.Cqe.{Cqe}
use Rattle.schemev2.specs.declared.CqeOpcode.{CqeOpcode}
use Rattle.schemev2.specs.declared.CqeOpcode.TheVariants.{RespondRegular, RespondWithFd, SendFevent, ObtainFd, RespondWithMultipleFds, RespondAndNotifyOnDetach}
use Rattle.schemev2.specs.Entry.{kind_of, extra_of, cqe_opcode_of}
use Rattle.slot.specs.declared.PageSpan.{PageSpan}
use Rattle.slot.specs.declared.Phase.{Phase}
use Rattle.slot.specs.declared.Phase.TheVariants.{Vacant, Placeholder, Waiting, Responded, Fmap}
use Rattle.slot.specs.Slots.{interrupted_of}
use Rattle.table.specs.Table.{put_at, vacate_at}
use Rattle.wait_queue.specs.Queue.{unread}
use Rattle.wait_queue_receive.specs.Receive.{copied, received_if}
use Rattle.events.specs.World.{World, table_of, holds_of, handles_of, queue_of, slot_in, phase_in, with_table, with_holds, with_handles, with_queue, queue_full}
use Rattle.events.specs.Outcome.{Answer, ok, no, wait, on_answer, said, Outcome, outcome, Row, checked, refuse}
use Rattle.events.specs.Submit.{reserve_rows, submit_rows, call_rows, call_entry, call_of, fdwrite_args, fdread_args, length_rows, generic_rows, stdfs_rows, fmap_rows, queue_rows}
use Rattle.events.specs.Wake.{wakeable, wake_rows, blocked_by, waited_by, woken_by}
use Rattle.events.specs.Entry.{Decision, dropped, Offer, result, one, listed, named_of, served_by, respond_by, in_handle, taken_out, by_descriptor, is_vacant, is_waiting, obtain_rows, obtained}
use Rattle.events.specs.Complete.{short_words, Entered, accepted, rejected, carried, entry_by, entry_of, world_of, cut, entries_of, stopped, on_entered, write_on}
use Rattle.events.specs.Descriptors.{request_of, wrong_words, request_rows, list_rows, brought_back, moved}
use Rattle.events.specs.Supply.{page_rows, supplied_as, supplied_by}
use Rattle.events.specs.Event.{DriverEvent, host_put, reserve, submit, call, fdwrite, fdread, generic, stdfs, fmap, close, detach, wake, read, write, move, obtain, supply, Event, host_open, host_copy, host_drop, host_ended, on, driver_step, step}
use Rattle.events.specs.History.{begins, view_of, entry_at, after_entries}
use Rattle.events.specs.Refusals.{Nothing, left_by, left_entry, left, left_after, Demand1}
use Rattle.events.proofs.Checked.{checked_cases}
use Rattle.events.proofs.Writes.{entry_at_lem, next_at}
use Rattle.events.proofs.Decided.{refused_in, carried_cases}

-- what holds of both outcomes of a test
either : {A : Type 0} (P : A → Type 0) (b : Bool) {x y : A} → P x → P y → P (cond b x y)
either P true p q = p
either P false p q = q

-- 1 for a refusal, 2 for a wait, else 0
abbrev down : Answer → ℕ
down a = on_answer a (λ v. 0) (λ k. 1) 2 0 (λ r. 0)

-- an outcome on w whose refusal with k leaves L k, and whose wait leaves w; neither makes or stores anything
record Spares (w : World) (L : ℕ → World) (o : Outcome) : Type 0 where
  refused : (k : ℕ) → o.answer ≡ no k → Nothing o × (o.world ≡ L k)
  waiting : o.answer ≡ wait → Nothing o × (o.world ≡ w)

-- the rows' numbers leave w
abbrev Kept : World → (ℕ → World) → List Row → Type 0
Kept w L [] = Unit {0}
Kept w L (r ∷ rs) = (w ≡ L r.number) × Kept w L rs

module _ {w : World} {L : ℕ → World} where
  -- nothing happened, whatever the answer; it went on; it was refused
  same : {o : Outcome} → ((k : ℕ) → w ≡ L k) → o.effects ≡ [] → o.bytes ≡ [] → o.world ≡ w → Spares w L o
  same l p q r =
      record { refused = λ k e. (record { effects = p; bytes = q }, r ∙ l k); waiting = λ e. (record { effects = p; bytes = q }, r) }

  went : {o : Outcome} → down o.answer ≡ 0 → Spares w L o
  went {o} p = record { refused = λ k e. absurd (omega (arith, p, ap down e)); waiting = λ e. absurd (omega (arith, p, ap down e)) }

  leaves : {fx : List ℕ} (j : ℕ) (u : World) → fx ≡ [] → u ≡ L j → Spares w L (outcome (no j) fx u)
  leaves j u q x =
      record {
        refused = λ k e. (record { effects = q; bytes = refl }, x ∙ ap L (let z : j ≡ k = cc in z));
        waiting = λ e. absurd (omega (arith, ap down e));
      }

  spared : (rows : List Row) (o : Outcome) → Kept w L rows → Spares w L o → Spares w L (checked (refuse w) rows o)
  spared [] o l s = s
  spared (r ∷ rs) o l s = either (Spares w L) r.due (leaves r.number w refl l.0) (spared rs o l.1 s)

-- an entry that is turned down leaves l
abbrev Turned : World → Entered → Type 0
Turned l (accepted fx u) = Unit {0}
Turned l (rejected k fx u) = (fx ≡ []) × (u ≡ l)

module _ (w : World) (e : Cqe) where
  turned_served : (l : World) (b : Bool) (n : ℕ) (o : Offer) (k : Handles) → Turned l (carried w n (served_by b (slot_in w n) n o (holds_of w) k))
  turned_served l true n o k = tt
  turned_served l false n o k = tt

  turned_respond :
      (l : World) (turn : ℕ → Decision) (n : ℕ) (o : Offer) (k : Handles) → Turned l (carried w n (turn 77)) → Turned l (carried w n (turn 22))
      → (p : Phase) → Turned l (carried w n (respond_by p turn (slot_in w n) n o (holds_of w) k))
  turned_respond l turn n o k x y Vacant = x
  turned_respond l turn n o k x y Placeholder = x
  turned_respond l turn n o k x y Waiting = turned_served l (slot_in w n).ended n o k
  turned_respond l turn n o k x y Responded = y
  turned_respond l turn n o k x y Fmap = y

  turned_event : (b : Bool) → Turned w (entry_by (event_if b e) w e.tag)
  turned_event true = tt
  turned_event false = (refl, refl)

  turned_obtain : (b : Bool) → Turned w (entry_by (obtain_if b e) w e.tag)
  turned_obtain true =
      checked_cases (λ (d : Decision). Turned w (carried w e.tag d)) (refused_in w e.tag) (obtain_rows (slot_in w e.tag))
      (obtained (slot_in w e.tag) e.result (holds_of w) (handles_of w)) (λ k. carried_cases (Turned w) w e.tag (refused_in w e.tag k) tt (refl, refl)) (λ p. tt)
  turned_obtain false = (refl, refl)

  -- with an empty handle nothing changes; else the handle is emptied and the hold dropped
  turned_descriptor :
      (b : Bool)
      → Turned (cond b w (with_handles (with_holds w (dropped (holds_of w) (numbers (named_of (in_handle (handles_of w) e.result))))) (emptied (handles_of w) e.result)))
      (carried w e.tag (cond b (refused_in w e.tag 22) (by_descriptor (slot_in w e.tag) e.tag e.result (holds_of w) (handles_of w))))
  turned_descriptor true = (refl, refl)
  turned_descriptor false =
      turned_respond (with_handles (with_holds w (dropped (holds_of w) (numbers (named_of (in_handle (handles_of w) e.result))))) (emptied (handles_of w) e.result))
      (taken_out (slot_in w e.tag) e.result (holds_of w) (handles_of w))
      e.tag (one (in_handle (handles_of w) e.result)) (emptied (handles_of w) e.result) (refl, refl) (refl, refl) (phase_in w e.tag)

  turned_by : (op : Option CqeOpcode) → Turned (left_by op w e) (entry_by (parsed_by op e) w e.tag)
  turned_by (Some RespondRegular) =
      turned_respond w (refused_in w e.tag) e.tag (result (demux_of e.result) e.extra_raw.0 false) (handles_of w) (refl, refl) (refl, refl) (phase_in w e.tag)
  turned_by (Some RespondWithFd) = turned_descriptor (eqb (held_at (handles_of w) e.result) 0)
  turned_by (Some SendFevent) = turned_event (within event_flags e.tag)
  turned_by (Some ObtainFd) = turned_obtain (within fobtain_fd_flags (extra_of e))
  turned_by (Some RespondWithMultipleFds) = turned_respond w (refused_in w e.tag) e.tag listed (handles_of w) (refl, refl) (refl, refl) (phase_in w e.tag)
  turned_by (Some RespondAndNotifyOnDetach) =
      turned_respond w (refused_in w e.tag) e.tag (result (demux_of e.result) e.extra_raw.0 true) (handles_of w) (refl, refl) (refl, refl) (phase_in w e.tag)
  turned_by None = (refl, refl)

  turned : Turned (left_entry w e) (entry_of w e)
  turned = turned_by (cqe_opcode_of (kind_of e))

turned_as : (w : World) (e : Cqe) (k : ℕ) (fx : List ℕ) (u : World) → entry_of w e ≡ rejected k fx u → (fx ≡ []) × (u ≡ left_entry w e)
turned_as w e k fx u q = subst (Turned (left_entry w e)) q (turned w e)

-- after an accepted entry a write is not refused
wrote : (es : List Cqe) (w : World) (n : ℕ) (fx : List ℕ) → down (write_on w es (suc n) fx).answer ≡ 0
wrote [] w n fx = refl
wrote (e ∷ es) w n fx = go (entry_of w e) (wrote es)
  where
    go :
        (x : Entered) → ((u : World) (n : ℕ) (fx : List ℕ) → down (write_on u es (suc n) fx).answer ≡ 0)
        → down (on_entered x (λ gx u. write_on u es (suc (suc n)) (fx ++ gx)) (λ k gx u. outcome (stopped (suc n) k) (fx ++ gx) u)).answer ≡ 0
    go (accepted gx u) more = more u (suc n) (fx ++ gx)
    go (rejected k gx u) more = refl

write_spares : (w : World) (m : ℕ) (bs : List ℕ) → Spares w (λ k. left_entry w (entry_at bs 0)) (write_on w (cut m bs) 0 [])
write_spares w zero bs = went refl
write_spares w (suc m) bs =
    subst (λ (e : Cqe). Spares w (λ k. left_entry w (entry_at bs 0)) (write_on w (e ∷ cut m (drop 16 bs)) 0 [])) (sym (entry_at_lem bs 0))
    (go (entry_of w (entry_at bs 0)) (turned w (entry_at bs 0)))
  where
    go :
        (x : Entered) → Turned (left_entry w (entry_at bs 0)) x
        → Spares w (λ k. left_entry w (entry_at bs 0)) (on_entered x (λ gx u. write_on u (cut m (drop 16 bs)) 1 ([] ++ gx)) (λ k gx u. outcome (stopped 0 k) ([] ++ gx) u))
    go (accepted gx u) t = went (wrote (cut m (drop 16 bs)) u 0 gx)
    go (rejected k gx u) t = leaves k u t.0 t.1

-- for want of words nothing is looked at
short_spares : (w : World) (m : ℕ) (bs : List ℕ) (b : Bool) → Spares w (λ k. cond b w (left_entry w (entry_at bs 0))) (cond b (refuse w 204) (write_on w (cut m bs) 0 []))
short_spares w m bs true = leaves 204 w refl refl
short_spares w m bs false = write_spares w m bs

-- where a write stops: j entries are accepted, m more stand before it
abbrev value : Answer → ℕ
value a = on_answer a (λ v. v) (λ k. 0) 0 0 (λ r. 0)

module _ (w : World) (bs : List ℕ) where
  abbrev Stops : ℕ → Outcome → Type 0
  Stops n o =
      (v : ℕ) → o.answer ≡ ok v
      → o.world ≡ cond (ltb (v / 16) n) (left_entry (after_entries bs w (v / 16)) (entry_at bs (v / 16))) (after_entries bs w (v / 16))

  -- the value of an answer that counts j entries
  counts : (j v : ℕ) → ok (16 * j) ≡ ok v → v / 16 ≡ j
  counts j v e = let z : 16 * j ≡ v = ap value e in omega (arith, z)

  stopped_at : (j n k : ℕ) (fx : List ℕ) (u : World) → j < n → u ≡ left_entry (after_entries bs w j) (entry_at bs j) → Stops n (outcome (stopped j k) fx u)
  stopped_at zero n k fx u b q v e = absurd (omega (arith, ap down e))
  stopped_at (suc j) n k fx u b q v e =
      let z = counts (suc j) v e in
      q
      ∙ sym
      (ap (λ (i : ℕ). cond (ltb i n) (left_entry (after_entries bs w i) (entry_at bs i)) (after_entries bs w i)) z
      ∙ ap (λ (b : Bool). cond b (left_entry (after_entries bs w (suc j)) (entry_at bs (suc j))) (after_entries bs w (suc j))) (lt-ltb (suc j) n b))

  write_stops : (m j n : ℕ) (fx : List ℕ) → j + m ≡ n → Stops n (write_on (after_entries bs w j) (cut m (drop (16 * j) bs)) j fx)
  write_stops zero j n fx s =
      λ v e.
      let z = counts j v e in
      sym
      (ap (λ (i : ℕ). cond (ltb i n) (left_entry (after_entries bs w i) (entry_at bs i)) (after_entries bs w i)) z
      ∙ ap (λ (b : Bool). cond b (left_entry (after_entries bs w j) (entry_at bs j)) (after_entries bs w j)) (le-ltb j n (omega (arith, s))))
  write_stops (suc m) j n fx s =
      subst (λ (c : Cqe). Stops n (write_on (after_entries bs w j) (c ∷ cut m (drop 16 (drop (16 * j) bs))) j fx)) (sym (entry_at_lem bs j))
      (subst (λ (l : List ℕ). Stops n (write_on (after_entries bs w j) (entry_at bs j ∷ cut m l) j fx)) (sym (next_at bs j))
      (go (entry_of (after_entries bs w j) (entry_at bs j)) refl (turned (after_entries bs w j) (entry_at bs j)) (λ gx. write_stops m (suc j) n (fx ++ gx) (omega (arith, s)))))
    where
      go :
          (x : Entered) → world_of x ≡ after_entries bs w (suc j) → Turned (left_entry (after_entries bs w j) (entry_at bs j)) x
          → ((gx : List ℕ) → Stops n (write_on (after_entries bs w (suc j)) (cut m (drop (16 * suc j) bs)) (suc j) (fx ++ gx)))
          → Stops n (on_entered x (λ gx u. write_on u (cut m (drop (16 * suc j) bs)) (suc j) (fx ++ gx)) (λ k gx u. outcome (stopped j k) (fx ++ gx) u))
      go (accepted gx u) p t more =
          subst (λ (u : World). Stops n (write_on u (cut m (drop (16 * suc j) bs)) (suc j) (fx ++ gx))) (sym p) (more gx)
      go (rejected k gx u) p t more = stopped_at j n k (fx ++ gx) u (omega (arith, s)) t.1

  stops_at : (words v : ℕ) → (step w (on (write words bs))).answer ≡ ok v → (step w (on (write words bs))).world ≡ left_after w bs (v / 16)
  stops_at words v = go (short_words words bs)
    where
      go :
          (b : Bool) → (cond b (refuse w 204) (write_on w (entries_of bs) 0 [])).answer ≡ ok v
          → (cond b (refuse w 204) (write_on w (entries_of bs) 0 [])).world ≡ left_after w bs (v / 16)
      go true e = absurd (omega (arith, ap down e))
      go false e = write_stops (length bs / 16) 0 (length bs / 16) [] (omega arith) v e

-- events that go by the slot's phase
module _ (w : World) (n : ℕ) where
  abbrev Supplied : ℕ → World
  Supplied k = cond (eqb k 3) (with_table w (vacate_at (table_of w) n)) w

  supply_spares : (p : Phase) → Spares w Supplied (supplied_by p w n)
  supply_spares Vacant = leaves 22 w refl refl
  supply_spares Placeholder = leaves 77 w refl refl
  supply_spares Waiting = leaves 22 w refl refl
  supply_spares Responded = leaves 22 w refl refl
  supply_spares Fmap = go (slot_in w n).ended
    where
      go : (b : Bool) → Spares w Supplied (outcome (supplied_as b) [] (with_table w (vacate_at (table_of w) n)))
      go true = leaves 3 _ refl refl
      go false = went refl

  module _ (span : PageSpan) where
    abbrev Marked : ℕ → World
    Marked k = cond (eqb k 4) (with_table w (put_at (table_of w) n (interrupted_of (slot_in w n) span))) w

    blocked_spares : (x f : Bool) → Spares w Marked (blocked_by x f w n)
    blocked_spares true f = went refl
    blocked_spares false true = leaves 203 w refl refl
    blocked_spares false false = went refl

    waited_spares : (k : Bool) → Spares w Marked (waited_by k w n span)
    waited_spares true = leaves 4 _ refl refl
    waited_spares false = blocked_spares (slot_in w n).canceling (queue_full w)

    woken_spares : (killed : ℕ) (p : Phase) → Spares w Marked (woken_by p w n killed span)
    woken_spares killed Vacant = leaves 77 w refl refl
    woken_spares killed Placeholder = leaves 77 w refl refl
    woken_spares killed Waiting = waited_spares (eqb killed 1)
    woken_spares killed Responded = went refl
    woken_spares killed Fmap = leaves 77 w refl refl

-- a move whose list is taken: refused, it drops what it brought
move_spares :
    (w : World) (ms ds : List ℕ) (a b : Bool)
    → Spares w (left w (view_of (on (move ms ds)))) (cond a (refuse (brought_back w ds) 22) (cond b (refuse (brought_back w ds) 2) (moved w (request_of ms) ds)))
move_spares w ms ds true b = leaves 22 (brought_back w ds) refl refl
move_spares w ms ds false true = leaves 2 (brought_back w ds) refl refl
move_spares w ms ds false false = went refl

-- a read, by whether the queue is empty: no byte is copied, or it goes on
abbrev read_by : Bool → World → ℕ → ℕ → Outcome
read_by b w n flags =
    record {
      answer = said (received_if b (queue_of w) n flags).answer;
      effects = [];
      bytes = take (copied (queue_of w) n) (unread (queue_of w) w.words);
      world = with_queue w (received_if b (queue_of w) n flags).queue w.words;
    }

module _ (w : World) where
  read_spares : (n flags : ℕ) (b : Bool) → eqb (queue_of w).len 0 ≡ b → Spares w (λ k. w) (read_by b w n flags)
  read_spares n flags true e =
      let z : copied (queue_of w) n ≡ 0 = omega (arith, eqb-true (queue_of w).len 0 e) in
      same (λ k. refl) refl (ap (λ (m : ℕ). take m (unread (queue_of w) w.words)) z) refl
  read_spares n flags false e = went refl

  -- the host's events
  abbrev Leaves : Result Accepted Refusal → Holds → Handles → Type 0
  Leaves a h k = Spares w (λ k. w) (outcome (said a) [] (with_handles (with_holds w h) k))

  open_spares : (d : ℕ) → Leaves (open_of (holds_of w) d).answer (open_of (holds_of w) d).holds (handles_of w)
  open_spares d =
      either (λ (o : HoldsLeft). Leaves o.answer o.holds (handles_of w))
      (ltb 63 d || not (eqb (get_or (holds_of w).holds d 0) 0)) (same (λ k. refl) refl refl refl) (went refl)

  copy_spares : (d : ℕ) → Leaves (copy_of (holds_of w) d).answer (copy_of (holds_of w) d).holds (handles_of w)
  copy_spares d =
      let P : HoldsLeft → Type 0 = λ o. Leaves o.answer o.holds (handles_of w) in
      either P (unheld (holds_of w).holds (holds_of w).outside d) (same (λ k. refl) refl refl refl)
      (either P (eqb (get_or (holds_of w).holds d 0) 65535) (same (λ k. refl) refl refl refl) (went refl))

  drop_spares : (d : ℕ) → Leaves (drop_of (holds_of w) d).answer (drop_of (holds_of w) d).holds (handles_of w)
  drop_spares d =
      either (λ (o : HoldsLeft). Leaves o.answer o.holds (handles_of w))
      (unheld (holds_of w).holds (holds_of w).outside d) (same (λ k. refl) refl refl refl) (went refl)

  put_spares : (d k : ℕ) → let o = put_of (holds_of w) (handles_of w) d k in Leaves o.answer o.holds o.handles
  put_spares d k =
      either (λ (o : HoldPut). Leaves o.answer o.holds o.handles)
      (unheld (holds_of w).holds (holds_of w).outside d || not (is_free (handles_of w) k)) (same (λ k. refl) refl refl refl) (went refl)

call_spares :
    (w : World) (c op : ℕ) (args : Args) (uid gid pid : ℕ) (ds : List ℕ)
    → Spares w (left w (begins c (call_entry op args uid gid pid))) (call_of w c op args uid gid pid ds)
call_spares w c op args uid gid pid ds = spared (call_rows w op ds) _ (refl, (refl, (refl, (refl, tt)))) (went refl)

driver_spares : (w : World) (e : DriverEvent) → Spares w (left w (view_of (on e))) (driver_step w e)
driver_spares w (host_put d k) = put_spares w d k
driver_spares w (reserve c) = spared (reserve_rows w) _ (refl, tt) (went refl)
driver_spares w (submit n c op fl args pid ds) = spared (submit_rows w n c op ds) _ (refl, (refl, (refl, (refl, tt)))) (went refl)
driver_spares w (call c op args uid gid pid ds) = call_spares w c op args uid gid pid ds
driver_spares w (fdwrite c number flags ms uid gid pid ds) = call_spares w c 12 (fdwrite_args number flags ms ds) uid gid pid ds
driver_spares w (fdread c number len flags ms uid gid pid) =
    spared (length_rows len) _ (refl, tt) (call_spares w c 31 (fdread_args number len flags ms) uid gid pid [])
driver_spares w (generic c pid fds base len ms) = spared (generic_rows w fds) _ (refl, (refl, (refl, tt))) (went refl)
driver_spares w (stdfs c pid fds base len ms) = spared (stdfs_rows w fds ms) _ (refl, (refl, (refl, (refl, (refl, tt))))) (went refl)
driver_spares w (fmap c id pages flags uid gid pid) = spared (fmap_rows w) _ (refl, (refl, tt)) (went refl)
driver_spares w (close id) = spared (queue_rows w) _ (refl, tt) (went refl)
driver_spares w (detach id pid) = spared (queue_rows w) _ (refl, tt) (went refl)
driver_spares w (wake n c killed base count) =
    spared (wake_rows (ltb 1 killed) (phase_in w n) (wakeable (slot_in w n) c)) _ (refl, (refl, (refl, tt))) (woken_spares w n _ killed (phase_in w n))
driver_spares w (read len flags) = read_spares w len flags _ refl
driver_spares w (write words bs) = short_spares w (length bs / 16) bs (short_words words bs)
driver_spares w (move ms ds) =
    spared (list_rows w ds) _ (refl, (refl, tt))
    (move_spares w ms ds (wrong_words 1 ms || is_vacant (phase_in w (request_of ms))) (not (is_waiting (phase_in w (request_of ms)))))
driver_spares w (obtain ms) = spared (request_rows w 0 ms) _ (refl, (refl, tt)) (went refl)
driver_spares w (supply n offset base count) = spared (page_rows offset base count) _ (refl, tt) (supply_spares w n (phase_in w n))

spares : (w : World) (e : Event) → Spares w (left w (view_of e)) (step w e)
spares w (host_open d) = open_spares w d
spares w (host_copy d) = copy_spares w d
spares w (host_drop d) = drop_spares w d
spares w (host_ended c) = went refl
spares w (on e) = driver_spares w e

pub demand1 : Demand1
demand1 =
    record {
      refused = λ w e. (spares w e).refused;
      waiting = λ w e. (spares w e).waiting;
      entry = turned_as;
      stops = λ w words bs. stops_at w bs words;
    }
