-- Every event keeps a state well-formed, so the state of every run is. Assumes nothing.
use Rattle.std.specs.Prelude.{Result, Ok, Err}
use Prim.Native.Nat.{ℕ, zero, suc, ◌<◌, ◌≤◌}
use mathlib.Core.Path.{◌≡◌, refl, sym, ap, ◌∙◌}
use mathlib.Core.Bool.{Bool, true, false, not, cond, ◌||◌, ◌&&◌, true≢false, false≢true}
use mathlib.Core.List.{List, [], ◌∷◌, ◌++◌, map}
use native.Mathlib.Omega.{arith}
use native.Mathlib.Decide.{dec_lt}
use lib.Dec.{leb, ltb, eqb}
use lib.ListN.{length-set, length, get_or, drop, replicate, get_or-replicate, length-map}
use lib.Seq.{sets, length-sets}
use borrow.Author.Tests.{leb-false, lt-ltb, not-false}
use Rattle.fd_list.specs.declared.List.{List as Fds}
use Rattle.fd_list.specs.Lists.{numbers, list_of}
use Rattle.fd_list.proofs.Laws.{list_of_length}
use Rattle.handles.specs.declared.Handles.{Handles}
use Rattle.handles.specs.Handles.{into, is_free, obtain_by, obtain_in, obtain_of}
use Rattle.holds.specs.declared.Holds.{Holds}
use Rattle.holds.specs.Holds.{unheld}
use Rattle.answer.specs.declared.Accepted.TheVariants.{Done}
use Rattle.answer.specs.declared.Refusal.TheVariants.{BadArgument}
use Rattle.host_put.specs.Put.{inside, put, put_of}
use Rattle.host_ended.specs.Ended.{marked_by, marked_of, ended_table}
use Rattle.parse_cqe.specs.declared.ParsedCqe.{ParsedCqe}
use Rattle.parse_cqe.specs.declared.ParsedCqe.TheVariants as parsed
use Rattle.parse_cqe.specs.declared.CqeError.{CqeError}
use Rattle.parse_cqe.specs.Parsed.{parsed_of}
use Rattle.schemev2.specs.declared.Args.{Args}
use Rattle.schemev2.specs.declared.Cqe.{Cqe}
use Rattle.schemev2.specs.declared.Sqe.{Sqe}
use Rattle.schemev2.specs.Entry.{sqe_words}
use Rattle.slot.specs.declared.PageSpan.{PageSpan}
use Rattle.slot.specs.declared.Phase.{Phase}
use Rattle.slot.specs.declared.Phase.TheVariants.{Vacant, Placeholder, Waiting, Responded, Fmap}
use Rattle.slot.specs.declared.Slot.{Slot}
use Rattle.slot.specs.Slots.{phase_of, vacant_slot, placeholder_of, waiting_of, map_request_of, canceled_of, interrupted_of, ended_of, with_fds_of}
use Rattle.table.specs.declared.Table.{Table}
use Rattle.table.specs.Table.{fresh_table, no_slot, slot_at, put_at, given_out, vacate_at}
use Rattle.table.specs.Reached.{idle, Occupied, Chain, fresh}
use Rattle.table.proofs.Access.{beyond_is, put_at_lem, give_at, vacate_at_lem, Sized, sized_put, sized_give, sized_vacate}
use Rattle.table.proofs.Chain.{occupied_within, chain_put, chain_give, chain_vacate, reached}
use Rattle.wait_queue.specs.declared.WaitQueue.{WaitQueue}
use Rattle.wait_queue.specs.Queue.{sent_if, place_of}
use Rattle.wait_queue_receive.specs.Receive.{received_if}
use Rattle.events.specs.World.{World, fresh_world, table_of, queue_of, holds_of, handles_of, slot_in, phase_in, with_table, table_with, with_holds, with_handles, with_queue, queue_full, queued}
use Rattle.events.specs.Outcome.{Outcome, outcome, Row, checked, refuse}
use Rattle.events.specs.Submit.{reserve_rows, submit_rows, call_rows, call_of, fdwrite_args, fdread_args, length_rows, generic_rows, stdfs_rows, fmap_rows, queue_rows, table_full, is_placeholder, begun, submit_entry, call_entry, generic_entry, std_meta, fmap_entry, close_entry, detach_entry}
use Rattle.events.specs.Wake.{cancel_entry, wakeable, wake_rows, blocked_by, waited_by, woken_by}
use Rattle.events.specs.Read.{read_of}
use Rattle.events.specs.Entry.{Decision, Offer, result, one, listed, kept_fds, served_by, respond_by, in_handle, handle_rows, is_waiting, obtain_rows, decision_of}
use Rattle.events.specs.Complete.{world_of, write_rows, Entered, accepted, rejected, after, entry_of, entries_of, stopped, on_entered, write_on}
use Rattle.events.specs.Descriptors.{request_of, request_rows, list_rows}
use Rattle.events.specs.Supply.{page_rows, supplied_by}
use Rattle.events.specs.Event.{DriverEvent, host_put, reserve, submit, call, fdwrite, fdread, generic, stdfs, fmap, close, detach, wake, read, write, move, obtain, supply, Event, host_open, host_copy, host_drop, host_ended, on, driver_step, step}
use Rattle.events.specs.Run.{Run, next, run_from, run}
use Rattle.events.specs.WellFormed.{WellFormed}
use Rattle.events.proofs.Checked.{Passed, checked_cases}
use Rattle.events.proofs.Decided.{refused_in, carried_cases}

-- what a well-formed state says of its table, whatever the hold counts
record Sound (t : Table) : Type 0 where
  size : Sized t
  chain : Chain t
  lists : (n : ℕ) → length (slot_at t n).fds.at ≡ 16

sound : (w : World) → WellFormed w → Sound (table_of w)
sound w i = record { size = record { slots = i.slots; next = i.next }; chain = i.chain; lists = i.lists }

abbrev Full : Slot → Type 0
Full v = length v.fds.at ≡ 16

sound_put : (t : Table) (n : ℕ) (v : Slot) → Sound t → Occupied (slot_at t n) → Occupied v → Full v → Sound (put_at t n v)
sound_put t n v s o p l =
    let b = occupied_within t n o in
    record {
      size = sized_put t n v s.size;
      chain = chain_put t s.size n v b (p ∙ sym o) s.chain;
      lists = λ m. put_at_lem Full t s.size.slots n m v b (λ e. l) (λ e. s.lists m);
    }

sound_give : (t : Table) (v : Slot) → Sound t → t.head < 64 → Occupied v → Full v → Sound (given_out t v)
sound_give t v s b p l =
    record {
      size = sized_give t v s.size;
      chain = chain_give t s.size v p b s.chain;
      lists = λ m. give_at Full t m v s.size.slots b (λ e. l) (λ e. s.lists m);
    }

sound_vacate : (t : Table) (n : ℕ) → Sound t → Occupied (slot_at t n) → Sound (vacate_at t n)
sound_vacate t n s o =
    let b = occupied_within t n o in
    record {
      size = sized_vacate t n s.size;
      chain = chain_vacate t s.size n b o s.chain;
      lists = λ m. vacate_at_lem Full t n m s.size.slots b (λ e. refl) (λ e. s.lists m);
    }

-- an ended caller's mark changes neither phase nor list
mark_cases : (P : Slot → Type 0) (b : Bool) (p : Phase) (v : Slot) → P v → P (ended_of v) → P (marked_by b p v)
mark_cases P false p v h e = h
mark_cases P true Vacant v h e = h
mark_cases P true Placeholder v h e = e
mark_cases P true Waiting v h e = e
mark_cases P true Responded v h e = e
mark_cases P true Fmap v h e = e

module _ {A : Type 0} (f : Slot → A) (c : ℕ) (same : (v : Slot) → f (ended_of v) ≡ f v) where
  map_same : (s : List Slot) (n : ℕ) → f (get_or (map (marked_of c) s) n no_slot) ≡ f (get_or s n no_slot)
  map_same [] n = refl
  map_same (v ∷ s) zero = mark_cases (λ u. f u ≡ f v) (eqb v.caller c) (phase_of v) v refl (same v)
  map_same (v ∷ s) (suc n) = map_same s n

  ended_same : (t : Table) (n : ℕ) → f (slot_at (ended_table t c) n) ≡ f (slot_at t n)
  ended_same t n = go (ltb n 64)
    where
      go : (b : Bool) → f (cond b (get_or (map (marked_of c) t.slots) n no_slot) vacant_slot) ≡ f (cond b (get_or t.slots n no_slot) vacant_slot)
      go true = map_same t.slots n
      go false = refl

sound_ended : (t : Table) (c : ℕ) → Sound t → Sound (ended_table t c)
sound_ended t c s =
    record {
      size = record { slots = length-map t.slots (marked_of c) ∙ s.size.slots; next = s.size.next };
      chain = (s.chain.0, s.chain.1, λ m b. s.chain.2 m b ∙ sym (ended_same (λ v. idle (phase_of v)) c (λ v. refl) t m));
      lists = λ n. ended_same (λ v. length v.fds.at) c (λ v. refl) t n ∙ s.lists n;
    }

-- a sound table with any counts, other handles, one entry more
module _ (w : World) (i : WellFormed w) where
  formed_table : (t : Table) (h : Holds) → Sound t → WellFormed (with_table w (table_with t h))
  formed_table t h s =
      record { slots = s.size.slots; next = s.size.next; chain = s.chain; handles = i.handles; room = i.room; words = i.words; lists = s.lists }

  formed_holds : (h : Holds) → WellFormed (with_holds w h)
  formed_holds h = formed_table (table_of w) h (sound w i)

  pub formed_handles : (k : Handles) → length k.at ≡ 64 → WellFormed (with_handles w k)
  formed_handles k l = record { slots = i.slots; next = i.next; chain = i.chain; handles = l; room = i.room; words = i.words; lists = i.lists }

  formed_queue : (q : WaitQueue) (ws : List ℕ) → q.len ≤ 128 → length ws ≡ 1024 → WellFormed (with_queue w q ws)
  formed_queue q ws r l = record { slots = i.slots; next = i.next; chain = i.chain; handles = i.handles; room = r; words = l; lists = i.lists }

  formed_queued : (e : Sqe) → WellFormed (queued w e)
  formed_queued e = go (leb 128 (queue_of w).len) refl
    where
      go : (b : Bool) → leb 128 (queue_of w).len ≡ b → WellFormed (with_queue w (sent_if b (queue_of w)).queue (cond b w.words (sets w.words (place_of (queue_of w)) (sqe_words e))))
      go true p = formed_queue (queue_of w) w.words i.room i.words
      go false p =
          formed_queue _ _ (omega (arith, leb-false 128 (queue_of w).len p))
          (length-sets w.words (place_of (queue_of w)) (sqe_words e) ∙ i.words)

-- tests that find a slot occupied
placeholder_occupied : (p : Phase) (b : Bool) → is_placeholder p && b ≡ true → idle p ≡ 0
placeholder_occupied Vacant b e = absurd (false≢true e)
placeholder_occupied Placeholder b e = refl
placeholder_occupied Waiting b e = refl
placeholder_occupied Responded b e = refl
placeholder_occupied Fmap b e = refl

waiting_occupied : (p : Phase) → not (is_waiting p) ≡ false → idle p ≡ 0
waiting_occupied Vacant e = absurd (true≢false e)
waiting_occupied Placeholder e = refl
waiting_occupied Waiting e = refl
waiting_occupied Responded e = refl
waiting_occupied Fmap e = refl

or_left : (a b : Bool) → a || b ≡ false → a ≡ false
or_left true b e = e
or_left false b e = refl

-- the list that an obtain entry leaves
obtained_full : (h : Holds) (n : Handles) (l : Fds) (k : ℕ) → length l.at ≡ 16 → length (obtain_of h n l k).list.at ≡ 16
obtained_full h n l k e = go (numbers l)
  where
    by : (b : Bool) (d : ℕ) → length (obtain_by b h n l k d).list.at ≡ 16
    by true d = list_of_length (drop 1 (numbers l))
    by false d = list_of_length (drop 1 (numbers l))

    go : (ds : List ℕ) → length (obtain_in ds h n l k).list.at ≡ 16
    go [] = e
    go (d ∷ ds) = by (is_free n k) d

-- as many handles as before
obtained_handles : (h : Holds) (n : Handles) (l : Fds) (k : ℕ) → length (obtain_of h n l k).handles.at ≡ length n.at
obtained_handles h n l k = go (numbers l)
  where
    by : (b : Bool) (d : ℕ) → length (obtain_by b h n l k d).handles.at ≡ length n.at
    by true d = length-set n.at k (suc d)
    by false d = refl

    go : (ds : List ℕ) → length (obtain_in ds h n l k).handles.at ≡ length n.at
    go [] = refl
    go (d ∷ ds) = by (is_free n k) d

put_handles : (h : Holds) (n : Handles) (d k : ℕ) → length (put_of h n d k).handles.at ≡ length n.at
put_handles h n d k = go (unheld h.holds h.outside d || not (is_free n k))
  where
    go : (b : Bool) → length (cond b (put (Err BadArgument) n h) (put (Ok Done) (into n k d) (inside h d))).handles.at ≡ length n.at
    go true = refl
    go false = length-set n.at k (suc d)

kept_full : (o : Offer) (v : Slot) → Full v → length (kept_fds o v).at ≡ 16
kept_full (result r x b) v e = refl
kept_full (one d) v e = refl
kept_full listed v e = e

module _ (w : World) (i : WellFormed w) where
  formed_put : (n : ℕ) (v : Slot) (h : Holds) → Occupied (slot_in w n) → Occupied v → Full v → WellFormed (with_table w (table_with (put_at (table_of w) n v) h))
  formed_put n v h o p l = formed_table w i (put_at (table_of w) n v) h (sound_put (table_of w) n v (sound w i) o p l)

  formed_give : (v : Slot) (h : Holds) → table_full w ≡ false → Occupied v → Full v → WellFormed (with_table w (table_with (given_out (table_of w) v) h))
  formed_give v h e p l = formed_table w i (given_out (table_of w) v) h (sound_give (table_of w) v (sound w i) (leb-false 64 (table_of w).head e) p l)

  formed_vacate : (n : ℕ) (h : Holds) → Occupied (slot_in w n) → WellFormed (with_table w (table_with (vacate_at (table_of w) n) h))
  formed_vacate n h o = formed_table w i (vacate_at (table_of w) n) h (sound_vacate (table_of w) n (sound w i) o)

  -- another list in a Waiting slot
  formed_list :
      (n : ℕ) (l : Fds) (h : Holds) → not (is_waiting (phase_in w n)) ≡ false → length l.at ≡ 16
      → WellFormed (with_table w (table_with (put_at (table_of w) n (with_fds_of (slot_in w n) l)) h))
  formed_list n l h e f = let o = waiting_occupied (phase_in w n) e in formed_put n (with_fds_of (slot_in w n) l) h o o f

  kept : (rows : List Row) (o : Outcome) → (Passed rows → WellFormed o.world) → WellFormed (checked (refuse w) rows o).world
  kept rows o good = checked_cases (λ (u : Outcome). WellFormed u.world) (refuse w) rows o (λ k. i) good

  formed_begun : (v : Slot) (h : Holds) (e : ℕ → Sqe) → Occupied v → Full v → table_full w ≡ false → WellFormed (begun w v h e).world
  formed_begun v h e p l b = formed_queued _ (formed_give v h b p l) (e (table_of w).head)

  formed_woken : (n killed : ℕ) (span : PageSpan) (p : Phase) → phase_in w n ≡ p → WellFormed (woken_by p w n killed span).world
  formed_woken n killed span Vacant e = i
  formed_woken n killed span Placeholder e = i
  formed_woken n killed span Waiting e = go (eqb killed 1)
    where
      o : Occupied (slot_in w n)
      o = ap idle e

      by : (x f : Bool) → WellFormed (blocked_by x f w n).world
      by true f = i
      by false true = i
      by false false = formed_queued _ (formed_put n (canceled_of (slot_in w n)) _ o o (i.lists n)) (cancel_entry n)

      go : (k : Bool) → WellFormed (waited_by k w n span).world
      go true = formed_put n (interrupted_of (slot_in w n) span) _ o o (i.lists n)
      go false = by (slot_in w n).canceling (queue_full w)
  formed_woken n killed span Responded e = formed_vacate n _ (ap idle e)
  formed_woken n killed span Fmap e = i

  formed_supplied : (n : ℕ) (p : Phase) → phase_in w n ≡ p → WellFormed (supplied_by p w n).world
  formed_supplied n Vacant e = i
  formed_supplied n Placeholder e = i
  formed_supplied n Waiting e = i
  formed_supplied n Responded e = i
  formed_supplied n Fmap e = formed_vacate n _ (ap idle e)

  formed_read : (len flags : ℕ) → WellFormed (read_of w len flags).world
  formed_read len flags = go (eqb (queue_of w).len 0)
    where
      go : (b : Bool) → WellFormed (with_queue w (received_if b (queue_of w) len flags).queue w.words)
      go true = i
      go false = formed_queue w i _ w.words (omega (arith, i.room)) i.words

  formed_served : (b : Bool) (n t : ℕ) (o : Offer) (k : Handles) → length k.at ≡ 64 → Occupied (slot_in w n) → WellFormed (after w n (served_by b (slot_in w n) t o (holds_of w) k))
  formed_served false n t o k l p = formed_handles _ (formed_put n _ _ p refl (kept_full o (slot_in w n) (i.lists n))) k l
  formed_served true n t o k l p = formed_handles _ (formed_vacate n _ p) k l

  formed_respond :
      (turn : ℕ → Decision) (n t : ℕ) (o : Offer) (k : Handles) → length k.at ≡ 64 → ((m : ℕ) → WellFormed (after w n (turn m)))
      → (p : Phase) → phase_in w n ≡ p → WellFormed (after w n (respond_by p turn (slot_in w n) t o (holds_of w) k))
  formed_respond turn n t o k l j Vacant e = j 77
  formed_respond turn n t o k l j Placeholder e = j 77
  formed_respond turn n t o k l j Waiting e = formed_served (slot_in w n).ended n t o k l (ap idle e)
  formed_respond turn n t o k l j Responded e = j 22
  formed_respond turn n t o k l j Fmap e = j 22

  kept_entry : (rows : List Row) (n : ℕ) (d : Decision) → (Passed rows → WellFormed (after w n d)) → WellFormed (after w n (checked (refused_in w n) rows d))
  kept_entry rows n d good = checked_cases (λ (x : Decision). WellFormed (after w n x)) (refused_in w n) rows d (λ k. i) good

formed_parsed : (w : World) (p : Result ParsedCqe CqeError) (n : ℕ) → WellFormed w → WellFormed (after w n (decision_of p (slot_in w n) (holds_of w) (handles_of w)))
formed_parsed w (Ok (parsed.TriggerFevent number flags)) n i = i
formed_parsed w (Ok (parsed.RegularResponse t r x)) n i = formed_respond w i (refused_in w n) n t.0 (result r x false) (handles_of w) i.handles (λ m. i) _ refl
formed_parsed w (Ok (parsed.ResponseWithFd t k)) n i =
    kept_entry w i (handle_rows (handles_of w) k.0) n _
    (λ p. formed_respond w i _ n t.0 (one (in_handle (handles_of w) k.0)) _ (length-set (handles_of w).at k.0 0 ∙ i.handles)
    (λ m. formed_handles _ (formed_holds w i _) _ (length-set (handles_of w).at k.0 0 ∙ i.handles)) _ refl)
formed_parsed w (Ok (parsed.ResponseWithMultipleFds t c)) n i = formed_respond w i (refused_in w n) n t.0 listed (handles_of w) i.handles (λ m. i) _ refl
formed_parsed w (Ok (parsed.ObtainFd t flags k)) n i =
    kept_entry w i (obtain_rows (slot_in w n)) n _
    (λ p.
    formed_handles _
    (formed_list w i n _ _ (or_left _ _ p.1.0) (obtained_full (holds_of w) (handles_of w) (slot_in w n).fds k.0 (i.lists n))) _
    (obtained_handles (holds_of w) (handles_of w) (slot_in w n).fds k.0 ∙ i.handles))
formed_parsed w (Ok (parsed.RespondAndNotifyOnDetach t r x)) n i = formed_respond w i (refused_in w n) n t.0 (result r x true) (handles_of w) i.handles (λ m. i) _ refl
formed_parsed w (Err e) n i = i

pub formed_entry : (w : World) (e : Cqe) → WellFormed w → WellFormed (world_of (entry_of w e))
formed_entry w e i = let j = formed_parsed w (parsed_of e) e.tag i in carried_cases (λ (x : Entered). WellFormed (world_of x)) w e.tag (decision_of (parsed_of e) (slot_in w e.tag) (holds_of w) (handles_of w)) j j

formed_write : (es : List Cqe) (w : World) → WellFormed w → (n : ℕ) (fx : List ℕ) → WellFormed (write_on w es n fx).world
formed_write [] w i n fx = i
formed_write (e ∷ es) w i n fx = go (entry_of w e) (formed_entry w e i) (formed_write es)
  where
    go :
        (x : Entered) → WellFormed (world_of x) → ((u : World) → WellFormed u → (n : ℕ) (fx : List ℕ) → WellFormed (write_on u es n fx).world)
        → WellFormed (on_entered x (λ gx u. write_on u es (suc n) (fx ++ gx)) (λ k gx u. outcome (stopped n k) (fx ++ gx) u)).world
    go (accepted gx u) j more = more u j (suc n) (fx ++ gx)
    go (rejected k gx u) j more = j

formed_call : (w : World) → WellFormed w → (c op : ℕ) (args : Args) (uid gid pid : ℕ) (ds : List ℕ) → WellFormed (call_of w c op args uid gid pid ds).world
formed_call w i c op args uid gid pid ds =
    kept w i (call_rows w op ds) _ (λ p. formed_begun w i (waiting_of c (list_of ds)) _ (call_entry op args uid gid pid) refl (list_of_length ds) p.1.1.0)

formed_driver : (w : World) (e : DriverEvent) → WellFormed w → WellFormed (driver_step w e).world
formed_driver w (host_put d k) i = formed_handles _ (formed_holds w i _) _ (put_handles (holds_of w) (handles_of w) d k ∙ i.handles)
formed_driver w (reserve c) i = kept w i (reserve_rows w) _ (λ p. formed_give w i (placeholder_of c) (holds_of w) p.0 refl refl)
formed_driver w (submit n c op fl args pid ds) i =
    checked_cases (λ (u : Outcome). WellFormed u.world) (refuse _) (submit_rows w n c op ds) _ (λ k. formed_holds w i _)
    (λ p.
    formed_queued _
    (formed_put w i n (waiting_of c (list_of ds)) _ (placeholder_occupied (phase_in w n) _ (not-false _ p.1.1.0)) refl (list_of_length ds))
    (submit_entry n op fl args pid))
formed_driver w (call c op args uid gid pid ds) i = formed_call w i c op args uid gid pid ds
formed_driver w (fdwrite c number flags ms uid gid pid ds) i = formed_call w i c 12 (fdwrite_args number flags ms ds) uid gid pid ds
formed_driver w (fdread c number len flags ms uid gid pid) i =
    kept w i (length_rows len) _ (λ p. formed_call w i c 31 (fdread_args number len flags ms) uid gid pid [])
formed_driver w (generic c pid fds base len ms) i =
    kept w i (generic_rows w fds) _ (λ p. formed_begun w i (waiting_of c (list_of [])) _ (generic_entry 28 pid fds base len ms) refl refl p.1.0)
formed_driver w (stdfs c pid fds base len ms) i =
    kept w i (stdfs_rows w fds ms) _ (λ p. formed_begun w i (waiting_of c (list_of [])) _ (generic_entry 33 pid fds base len (std_meta ms)) refl refl p.1.1.1.0)
formed_driver w (fmap c id pages flags uid gid pid) i =
    kept w i (fmap_rows w) _ (λ p. formed_begun w i (map_request_of c) _ (fmap_entry id pages flags uid gid pid) refl refl p.0)
formed_driver w (close id) i = kept w i (queue_rows w) _ (λ p. formed_queued w i (close_entry id))
formed_driver w (detach id pid) i = kept w i (queue_rows w) _ (λ p. formed_queued w i (detach_entry id pid))
formed_driver w (wake n c killed base count) i = kept w i (wake_rows (ltb 1 killed) (phase_in w n) (wakeable (slot_in w n) c)) _ (λ p. formed_woken w i n killed _ _ refl)
formed_driver w (read len flags) i = formed_read w i len flags
formed_driver w (write words bs) i = kept w i (write_rows words bs) _ (λ p. formed_write (entries_of bs) w i 0 [])
formed_driver w (move ms ds) i =
    kept w i (list_rows w ds) _
    (λ p.
    checked_cases (λ (u : Outcome). WellFormed u.world) (refuse (with_holds w _)) (request_rows w 1 ms) _ (λ k. formed_holds w i _)
    (λ q. formed_list w i (request_of ms) _ _ q.1.0 (list_of_length ds)))
formed_driver w (obtain ms) i = kept w i (request_rows w 0 ms) _ (λ p. formed_list w i (request_of ms) _ _ p.1.0 refl)
formed_driver w (supply n offset base count) i = kept w i (page_rows offset base count) _ (λ p. formed_supplied w i n _ refl)

pub formed_step : (w : World) (e : Event) → WellFormed w → WellFormed (step w e).world
formed_step w (host_open d) i = formed_holds w i _
formed_step w (host_copy d) i = formed_holds w i _
formed_step w (host_drop d) i = formed_holds w i _
formed_step w (host_ended c) i = formed_table w i (ended_table (table_of w) c) (holds_of w) (sound_ended (table_of w) c (sound w i))
formed_step w (on e) i = formed_driver w e i

-- the fresh state, and the run from it
fresh_lists : (n : ℕ) → Full (slot_at fresh_table n)
fresh_lists n = go (dec_lt n 64)
  where
    go : Dec (n < 64) → Full (slot_at fresh_table n)
    go (yes b) =
        ap (λ (x : Bool). length (cond x (get_or (replicate 64 vacant_slot) n no_slot) vacant_slot).fds.at) (lt-ltb n 64 b)
        ∙ ap (λ (v : Slot). length v.fds.at) (get_or-replicate 64 n vacant_slot no_slot b)
    go (no b) = ap (λ (v : Slot). length v.fds.at) (beyond_is fresh_table n (omega arith))

pub formed_fresh : (scheme : ℕ) (words : List ℕ) → length words ≡ 1024 → WellFormed (fresh_world scheme words)
formed_fresh scheme words e =
    record { slots = refl; next = refl; chain = (reached fresh).1; handles = refl; room = omega arith; words = e; lists = fresh_lists }

pub formed_from : (r : Run) (es : List Event) → WellFormed r.world → WellFormed (run_from r es).world
formed_from r [] i = i
formed_from r (e ∷ es) i = formed_from (next r e) es (formed_step r.world e i)

pub formed_run : (scheme : ℕ) (words : List ℕ) → length words ≡ 1024 → (es : List Event) → WellFormed (run scheme words es).world
formed_run scheme words e es = formed_from _ es (formed_fresh scheme words e)
