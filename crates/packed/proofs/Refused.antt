-- A refusal leaves every word as it was, but for the four cases that 01 names. Assumes nothing.
use Rattle.std.specs.Prelude.{Option, Some, None, Ok, Err}
use Prim.Native.Nat.{ℕ, zero, suc, ◌+◌, ◌*◌, ◌/◌}
use mathlib.Core.Path.{◌≡◌, refl, sym, ap, ap₂, ◌∙◌}
use mathlib.Core.Bool.{Bool, true, false, not, cond, ◌||◌}
use mathlib.Core.List.{List, [], ◌∷◌, ◌++◌, append-nil}
use native.Mathlib.Omega.{arith}
use lib.Dec.{eqb, ltb}
use lib.ListN.{get_or, set, length, drop}
use lib.Seq.{set-get_or}
use borrow.Author.Tests.{eqb-false}
use Rattle.answer.specs.declared.Accepted.TheVariants.{Done}
use Rattle.answer.specs.declared.Refusal.TheVariants.{BadArgument, TooManyHolds}
use Rattle.error.specs.Errors.{demux_of}
use Rattle.fd_list.specs.Lists.{numbers, list_of}
use Rattle.flag.specs.Flags.{within, event_read, event_hup, event_flags, fobtain_fd_flags}
use Rattle.handles.specs.declared.Handles.{Handles}
use Rattle.handles.specs.Handles.{held_at, is_free, into, emptied}
use Rattle.holds.specs.declared.Holds.{Holds}
use Rattle.holds.specs.Holds.{unheld, outside_of}
use Rattle.host_holds.specs.Host.{one_more, one_fewer, left_as}
use Rattle.host_put.specs.declared.HoldPut.{HoldPut}
use Rattle.host_put.specs.Put.{inside, put as put-hold}
use Rattle.opcode.specs.Opcodes as opcode
use Rattle.parse_cqe.specs.Parsed.{event_if, obtain_if, parsed_by, parsed_of}
use Rattle.schemev2.specs.declared.Args.{Args}
use Rattle.schemev2.specs.declared.Cqe.{Cqe}
use Rattle.schemev2.specs.declared.CqeOpcode.{CqeOpcode}
use Rattle.schemev2.specs.declared.CqeOpcode.TheVariants.{RespondRegular, RespondWithFd, SendFevent, ObtainFd, RespondWithMultipleFds, RespondAndNotifyOnDetach}
use Rattle.schemev2.specs.declared.Sqe.{Sqe}
use Rattle.schemev2.specs.Entry.{kind_of, extra_of, cqe_of, cqe_opcode_of}
use Rattle.slot.specs.declared.PageSpan.{PageSpan}
use Rattle.slot.specs.declared.Phase.{Phase}
use Rattle.slot.specs.declared.Phase.TheVariants.{Vacant, Placeholder, Waiting, Responded, Fmap}
use Rattle.slot.specs.declared.Slot.{Slot}
use Rattle.slot.specs.Slots.{phase_of, no_fds, placeholder_of, waiting_of, map_request_of, interrupted_of, with_fds_of}
use Rattle.wait_queue_receive.specs.Receive.{received_if}
use Rattle.events.specs.World.{World, table_of, holds_of, handles_of, queue_of, slot_in, phase_in, queue_full}
use Rattle.events.specs.Outcome.{Answer, ok, no, wait, on_answer, said, Outcome, outcome, Row, checked, refuse}
use Rattle.events.specs.Submit.{taken_holds, reserve_rows, reserved, submit_rows, submit_entry, submitted, call_rows, call_of, fdwrite_args, fdread_args, length_rows, call_entry, generic_rows, generic_entry, stdfs_rows, std_meta, fmap_rows, fmap_entry, queue_rows, close_entry, detach_entry, notified, begun}
use Rattle.events.specs.Wake.{wakeable, wake_rows, blocked_by, waited_by, woken_by}
use Rattle.events.specs.Entry.{Decision, dropped, Offer, result, one, listed, named_of, refused_of, served_by, respond_by, in_handle, taken_out, by_descriptor, obtain_rows, obtained, decision_of}
use Rattle.events.specs.Complete.{Entered, accepted, rejected, after, entry_of, cut, entries_of, stopped, on_entered, write_on}
use Rattle.events.specs.Descriptors.{request_of, request_rows, list_rows, brought_back, moved, given_up}
use Rattle.events.specs.Supply.{page_rows, supplied_as, supplied_by}
use Rattle.events.specs.Event.{DriverEvent, host_put, reserve, submit, call, fdwrite, fdread, generic, stdfs, fmap, close, detach, wake, read, write, move, obtain, supply, Event, host_open, host_copy, host_drop, host_ended, on, driver_step, step}
use Rattle.events.specs.History.{view_of}
use Rattle.events.proofs.Checked.{Passed, checked_cases}
use Rattle.layout.specs.Layout.{plain_of}
use Rattle.layout.specs.Store.{Store, put, give, vacate, send, queue, outside, all, handles, stored, stored_all}
use Rattle.layout.proofs.Regions.{same_part}
use Rattle.layout.proofs.Worlds.{all_is, outside_is, handles_is, first_is, unread_is}
use Rattle.packed.specs.Stores.{call_stores, counts, taken, blocked_stores, waited_stores, woken_stores, decided_stores, entry_stores, gone_on, write_stores, supplied_stores, driver_stores, stores_of}
use Rattle.packed.specs.Refusals.{left_by, left_stores, WordsStay}

-- 1 for a refusal, 2 for a wait, else 0; the number of a refusal
abbrev down : Answer → ℕ
down a = on_answer a (λ v. 0) (λ k. 1) 2 0 (λ r. 0)

abbrev which : Answer → ℕ
which a = on_answer a (λ v. 0) (λ k. k) 0 0 (λ r. 0)

module _ (ws : List ℕ) (size : length ws ≡ 2060) where
  abbrev w : World
  w = plain_of ws

  -- an answer's stores: refused with k they leave L k, and where it would wait the words
  record Leaves (L : ℕ → List Store) (a : Answer) (ss : List Store) : Type 0 where
    refused : (k : ℕ) → a ≡ no k → stored_all ws ss ≡ stored_all ws (L k)
    waiting : a ≡ wait → stored_all ws ss ≡ ws

  went : (L : ℕ → List Store) (a : Answer) (ss : List Store) → down a ≡ 0 → Leaves L a ss
  went L a ss p = record { refused = λ k e. absurd (omega (arith, p, ap down e)); waiting = λ e. absurd (omega (arith, p, ap down e)) }

  turned_at : (L : ℕ → List Store) (j : ℕ) (ss : List Store) → stored_all ws ss ≡ stored_all ws (L j) → Leaves L (no j) ss
  turned_at L j ss q =
      record { refused = λ k e. q ∙ ap (λ (i : ℕ). stored_all ws (L i)) (ap which e); waiting = λ e. absurd (omega (arith, ap down e)) }

  same : (a : Answer) (ss : List Store) → stored_all ws ss ≡ ws → Leaves (λ k. []) a ss
  same a ss q = record { refused = λ k e. q; waiting = λ e. q }

  -- rows, each of which leaves what its number says
  abbrev Each : (ℕ → List Store) → (ℕ → List Store) → List Row → Type 0
  Each g L [] = Unit {0}
  Each g L (r ∷ rs) = (stored_all ws (g r.number) ≡ stored_all ws (L r.number)) × Each g L rs

  rowed :
      (L : ℕ → List Store) (u : World) (g : ℕ → List Store) (rows : List Row) (o : Outcome) (ss : List Store) → Each g L rows → (Passed rows → Leaves L o.answer ss)
      → Leaves L (checked (refuse u) rows o).answer (checked g rows ss)
  rowed L u g [] o ss p f = f tt
  rowed L u g (r ∷ rs) o ss p f = go r.due refl (rowed L u g rs o ss p.1)
    where
      go :
          (b : Bool) → r.due ≡ b → ((Passed rs → Leaves L o.answer ss) → Leaves L (checked (refuse u) rs o).answer (checked g rs ss))
          → Leaves L (cond b (refuse u r.number) (checked (refuse u) rs o)).answer (cond b (g r.number) (checked g rs ss))
      go true e more = turned_at L r.number (g r.number) p.0
      go false e more = more (λ q. f (e, q))

  abbrev none : ℕ → List Store
  none k = []

  -- what is stored again as it is
  same_counts : stored_all ws (counts (holds_of w)) ≡ ws
  same_counts =
      ap (λ (l : List ℕ). stored l (all (holds_of w).holds)) (ap (λ (o : List ℕ). stored ws (outside o)) (sym (outside_is ws)) ∙ same_part ws 904 64 (omega (arith, size)))
      ∙ ap (λ (a : List ℕ). stored ws (all a)) (sym (all_is ws)) ∙ same_part ws 840 64 (omega (arith, size))

  same_handles : stored ws (handles (handles_of w).at) ≡ ws
  same_handles = ap (λ (k : List ℕ). stored ws (handles k)) (sym (handles_is ws)) ∙ same_part ws 972 64 (omega (arith, size))

  same_queue : stored ws (queue (queue_of w)) ≡ ws
  same_queue =
      ap₂ (λ (x y : ℕ). set (set ws 969 x) 970 y) (sym (first_is ws)) (sym (unread_is ws))
      ∙ ap (λ (l : List ℕ). set l 970 (get_or ws 970 0)) (set-get_or ws 969 0) ∙ set-get_or ws 970 0

  -- the host's events on counts
  counted : (b : Bool) (h : Holds) → Leaves none (said (cond b (Err BadArgument) (Ok Done))) (counts (cond b (holds_of w) h))
  counted true h = same (no 205) (counts (holds_of w)) same_counts
  counted false h = went none (ok 0) (counts h) refl

  open_left : (d : ℕ) → Leaves none (step w (host_open d)).answer (stores_of w (host_open d))
  open_left d = go (ltb 63 d || not (eqb (get_or (holds_of w).holds d 0) 0))
    where
      go : (b : Bool) → Leaves none (said (cond b (left_as (Err BadArgument) (holds_of w)) (left_as (Ok Done) (one_more (holds_of w) d))).answer) (counts (cond b (left_as (Err BadArgument) (holds_of w)) (left_as (Ok Done) (one_more (holds_of w) d))).holds)
      go true = counted true (holds_of w)
      go false = counted false (one_more (holds_of w) d)

  copy_left : (d : ℕ) → Leaves none (step w (host_copy d)).answer (stores_of w (host_copy d))
  copy_left d = go (unheld (holds_of w).holds (holds_of w).outside d) (eqb (get_or (holds_of w).holds d 0) 65535)
    where
      go :
          (a b : Bool)
          → Leaves none (said (cond a (left_as (Err BadArgument) (holds_of w)) (cond b (left_as (Err TooManyHolds) (holds_of w)) (left_as (Ok Done) (one_more (holds_of w) d)))).answer)
          (counts (cond a (left_as (Err BadArgument) (holds_of w)) (cond b (left_as (Err TooManyHolds) (holds_of w)) (left_as (Ok Done) (one_more (holds_of w) d)))).holds)
      go true b = counted true (holds_of w)
      go false true = same (no 207) (counts (holds_of w)) same_counts
      go false false = counted false (one_more (holds_of w) d)

  drop_left : (d : ℕ) → Leaves none (step w (host_drop d)).answer (stores_of w (host_drop d))
  drop_left d = go (unheld (holds_of w).holds (holds_of w).outside d)
    where
      go : (b : Bool) → Leaves none (said (cond b (left_as (Err BadArgument) (holds_of w)) (left_as (Ok Done) (one_fewer (holds_of w) d))).answer) (counts (cond b (left_as (Err BadArgument) (holds_of w)) (left_as (Ok Done) (one_fewer (holds_of w) d))).holds)
      go true = counted true (holds_of w)
      go false = counted false (one_fewer (holds_of w) d)

  all_same : stored_all ws (counts (holds_of w) ++ handles (handles_of w).at ∷ []) ≡ ws
  all_same = ap (λ (l : List ℕ). stored l (handles (handles_of w).at)) same_counts ∙ same_handles

  put_left : (d k : ℕ) → Leaves none (driver_step w (host_put d k)).answer (driver_stores w (host_put d k))
  put_left d k = go (unheld (holds_of w).holds (holds_of w).outside d || not (is_free (handles_of w) k))
    where
      go :
          (b : Bool)
          → let r : HoldPut = cond b (put-hold (Err BadArgument) (handles_of w) (holds_of w)) (put-hold (Ok Done) (into (handles_of w) k d) (inside (holds_of w) d)) in
          Leaves none (said r.answer) (counts r.holds ++ handles r.handles.at ∷ [])
      go true = same (no 205) (counts (holds_of w) ++ handles (handles_of w).at ∷ []) all_same
      go false = went none (ok 0) (counts (inside (holds_of w) d) ++ handles (into (handles_of w) k d).at ∷ []) refl

  -- a wake
  module _ (n : ℕ) (span : PageSpan) where
    abbrev killed_as : ℕ → List Store
    killed_as k = cond (eqb k 4) (put n (interrupted_of (slot_in w n) span) ∷ []) []

    blocked_left : (a b : Bool) → Leaves killed_as (blocked_by a b w n).answer (blocked_stores a b w n)
    blocked_left true b = went killed_as _ [] refl
    blocked_left false true = turned_at killed_as 203 [] refl
    blocked_left false false = went killed_as _ _ refl

    waited_left : (b : Bool) → Leaves killed_as (waited_by b w n span).answer (waited_stores b w n span)
    waited_left true = turned_at killed_as 4 (put n (interrupted_of (slot_in w n) span) ∷ []) refl
    waited_left false = blocked_left (slot_in w n).canceling (queue_full w)

    woken_left : (p : Phase) (killed : ℕ) → Leaves killed_as (woken_by p w n killed span).answer (woken_stores p w n killed span)
    woken_left Vacant killed = turned_at killed_as 77 [] refl
    woken_left Placeholder killed = turned_at killed_as 77 [] refl
    woken_left Waiting killed = waited_left (eqb killed 1)
    woken_left Responded killed = went killed_as _ (woken_stores Responded w n killed span) refl
    woken_left Fmap killed = turned_at killed_as 77 [] refl

  -- a map supply
  module _ (n : ℕ) where
    abbrev vacated_as : ℕ → List Store
    vacated_as k = cond (eqb k 3) (vacate n ∷ []) []

    supplied_left : (p : Phase) → Leaves vacated_as (supplied_by p w n).answer (supplied_stores p n)
    supplied_left Vacant = turned_at vacated_as 22 [] refl
    supplied_left Placeholder = turned_at vacated_as 77 [] refl
    supplied_left Waiting = turned_at vacated_as 22 [] refl
    supplied_left Responded = turned_at vacated_as 22 [] refl
    supplied_left Fmap = go (slot_in w n).ended
      where
        go : (b : Bool) → Leaves vacated_as (supplied_as b) (vacate n ∷ [])
        go true = turned_at vacated_as 3 (vacate n ∷ []) refl
        go false = went vacated_as (ok 0) (vacate n ∷ []) refl

  -- a read
  read_left : (len flags : ℕ) → Leaves none (driver_step w (read len flags)).answer (driver_stores w (read len flags))
  read_left len flags = go (eqb (queue_of w).len 0)
    where
      go : (b : Bool) → Leaves none (said (received_if b (queue_of w) len flags).answer) (queue (received_if b (queue_of w) len flags).queue ∷ [])
      go true = same _ (queue (queue_of w) ∷ []) same_queue
      go false = went none _ (queue (received_if false (queue_of w) len flags).queue ∷ []) refl

  -- a refused entry
  module _ (e : Cqe) where
    abbrev At : List Store → Decision → Type 0
    At L d = (d.number ≡ 0 → ⊥) → stored_all ws (decided_stores e.tag d) ≡ stored_all ws L

    abbrev at : Slot
    at = slot_in w e.tag

    refused_at : (k : ℕ) → At [] (refused_of at (holds_of w) (handles_of w) k)
    refused_at k z = all_same

    served_at : (L : List Store) (b : Bool) (t : ℕ) (o : Offer) (n : Handles) → At L (served_by b at t o (holds_of w) n)
    served_at L true t o n z = absurd (z refl)
    served_at L false t o n z = absurd (z refl)

    respond_at : (L : List Store) (turn : ℕ → Decision) (t : ℕ) (o : Offer) (n : Handles) → At L (turn 77) → At L (turn 22) → (p : Phase) → At L (respond_by p turn at t o (holds_of w) n)
    respond_at L turn t o n x y Vacant = x
    respond_at L turn t o n x y Placeholder = x
    respond_at L turn t o n x y Waiting = served_at L at.ended t o n
    respond_at L turn t o n x y Responded = y
    respond_at L turn t o n x y Fmap = y

    event_at_lem : (b : Bool) → At [] (decision_of (event_if b e) at (holds_of w) (handles_of w))
    event_at_lem true z = absurd (z refl)
    event_at_lem false z = refused_at 22 z

    obtain_at : (b : Bool) → At [] (decision_of (obtain_if b e) at (holds_of w) (handles_of w))
    obtain_at true =
        checked_cases (At []) (refused_of at (holds_of w) (handles_of w)) (obtain_rows at) (obtained at e.result (holds_of w) (handles_of w)) refused_at (λ p z. absurd (z refl))
    obtain_at false = refused_at 22

    abbrev out : List Store
    out = all (dropped (holds_of w) (numbers (named_of (in_handle (handles_of w) e.result)))).holds ∷ handles (emptied (handles_of w) e.result).at ∷ []

    out_at : (m : ℕ) → At out (taken_out at e.result (holds_of w) (handles_of w) m)
    out_at m z = ap (λ (l : List ℕ). stored_all l out) (ap (λ (o : List ℕ). stored ws (outside o)) (sym (outside_is ws)) ∙ same_part ws 904 64 (omega (arith, size)))

    descriptor_at :
        (b : Bool)
        → At (cond b [] out) (cond b (refused_of at (holds_of w) (handles_of w) 22) (by_descriptor at e.tag e.result (holds_of w) (handles_of w)))
    descriptor_at true = refused_at 22
    descriptor_at false =
        respond_at out (taken_out at e.result (holds_of w) (handles_of w)) e.tag (one (in_handle (handles_of w) e.result)) (emptied (handles_of w) e.result) (out_at 77) (out_at 22) (phase_of at)

    entry_at_lem : (op : Option CqeOpcode) → At (left_by op w e) (decision_of (parsed_by op e) at (holds_of w) (handles_of w))
    entry_at_lem (Some RespondRegular) = respond_at [] (refused_of at (holds_of w) (handles_of w)) e.tag (result (demux_of e.result) e.extra_raw.0 false) (handles_of w) (refused_at 77) (refused_at 22) (phase_of at)
    entry_at_lem (Some RespondWithFd) = descriptor_at (eqb (held_at (handles_of w) e.result) 0)
    entry_at_lem (Some SendFevent) = event_at_lem (within event_flags e.tag)
    entry_at_lem (Some ObtainFd) = obtain_at (within fobtain_fd_flags (extra_of e))
    entry_at_lem (Some RespondWithMultipleFds) = respond_at [] (refused_of at (holds_of w) (handles_of w)) e.tag listed (handles_of w) (refused_at 77) (refused_at 22) (phase_of at)
    entry_at_lem (Some RespondAndNotifyOnDetach) = respond_at [] (refused_of at (holds_of w) (handles_of w)) e.tag (result (demux_of e.result) e.extra_raw.0 true) (handles_of w) (refused_at 77) (refused_at 22) (phase_of at)
    entry_at_lem None = refused_at 22

  -- after an accepted entry a write is not refused, nor does it wait
  wrote : (es : List Cqe) (u : World) (n : ℕ) (fx : List ℕ) → down (write_on u es (suc n) fx).answer ≡ 0
  wrote [] u n fx = refl
  wrote (e ∷ es) u n fx = go (entry_of u e) (wrote es)
    where
      go :
          (x : Entered) → ((y : World) (n : ℕ) (fx : List ℕ) → down (write_on y es (suc n) fx).answer ≡ 0)
          → down (on_entered x (λ gx y. write_on y es (suc (suc n)) (fx ++ gx)) (λ k gx y. outcome (stopped (suc n) k) (fx ++ gx) y)).answer ≡ 0
      go (accepted gx y) more = more y (suc n) (fx ++ gx)
      go (rejected k gx y) more = refl

  module _ (bs : List ℕ) where
    abbrev first : Cqe
    first = cqe_of bs

    abbrev decided : Decision
    decided = decision_of (parsed_of first) (slot_in w first.tag) (holds_of w) (handles_of w)

    abbrev lb : ℕ → List Store
    lb k = left_by (cqe_opcode_of (kind_of first)) w first

    by_first :
        (es : List Cqe) (b : Bool) → eqb decided.number 0 ≡ b
        → let x : Entered = cond b (accepted decided.effects (after w first.tag decided)) (rejected decided.number decided.effects (after w first.tag decided)) in
        Leaves lb (on_entered x (λ gx u. write_on u es 1 gx) (λ k gx u. outcome (stopped 0 k) gx u)).answer (entry_stores w first ++ gone_on x (λ u. write_stores u es))
    by_first es true q = went lb _ _ (wrote es (after w first.tag decided) 0 decided.effects)
    by_first es false q =
        turned_at lb decided.number (entry_stores w first ++ [])
        (ap (stored_all ws) (append-nil (entry_stores w first)) ∙ entry_at_lem first (cqe_opcode_of (kind_of first)) (eqb-false decided.number 0 q))

    entries_left : (m : ℕ) → Leaves lb (write_on w (cut m bs) 0 []).answer (write_stores w (cut m bs))
    entries_left zero = went lb _ [] refl
    entries_left (suc m) = by_first (cut m (drop 16 bs)) (eqb decided.number 0) refl

    write_left : (b : Bool) → Leaves (λ k. cond b [] (lb k)) (cond b (refuse w 204) (write_on w (entries_of bs) 0 [])).answer (cond b [] (write_stores w (entries_of bs)))
    write_left true = turned_at (λ k. []) 204 [] refl
    write_left false = entries_left (length bs / 16)

  call_left : (c op : ℕ) (args : Args) (uid gid pid : ℕ) (ds : List ℕ) → Leaves none (call_of w c op args uid gid pid ds).answer (call_stores w c op args uid gid pid ds)
  call_left c op args uid gid pid ds =
      let v : Slot = waiting_of c (list_of ds) in
      let e : (ℕ → Sqe) = call_entry op args uid gid pid in
      rowed none w none (call_rows w op ds) (begun w v (taken_holds w ds) e) (taken w ds ∷ give v ∷ send (e (table_of w).head) ∷ []) (refl, (refl, (refl, (refl, tt)))) (λ p. went none _ _ refl)

  driver_left : (e : DriverEvent) → Leaves (left_stores w (view_of (on e))) (driver_step w e).answer (driver_stores w e)
  driver_left (host_put d k) = put_left d k
  driver_left (reserve c) = rowed none w none (reserve_rows w) (reserved w c) (give (placeholder_of c) ∷ []) (refl, tt) (λ p. went none _ _ refl)
  driver_left (submit n c op fl args pid ds) =
      let e : Sqe = submit_entry n op fl args pid in
      rowed none w none (submit_rows w n c op ds) (submitted w n c ds e) (taken w ds ∷ put n (waiting_of c (list_of ds)) ∷ send e ∷ []) (refl, (refl, (refl, (refl, tt)))) (λ p. went none _ _ refl)
  driver_left (call c op args uid gid pid ds) = call_left c op args uid gid pid ds
  driver_left (fdwrite c number flags ms uid gid pid ds) = call_left c opcode.sendfd (fdwrite_args number flags ms ds) uid gid pid ds
  driver_left (fdread c number len flags ms uid gid pid) =
      let args : Args = fdread_args number len flags ms in
      rowed none w none (length_rows len) (call_of w c opcode.recvfd args uid gid pid []) (call_stores w c opcode.recvfd args uid gid pid []) (refl, tt) (λ p. call_left c opcode.recvfd args uid gid pid [])
  driver_left (generic c pid fds base len ms) =
      let v : Slot = waiting_of c no_fds in
      let e : (ℕ → Sqe) = generic_entry opcode.call pid fds base len ms in
      rowed none w none (generic_rows w fds) (begun w v (holds_of w) e) (give v ∷ send (e (table_of w).head) ∷ []) (refl, (refl, (refl, tt))) (λ p. went none _ _ refl)
  driver_left (stdfs c pid fds base len ms) =
      let v : Slot = waiting_of c no_fds in
      let e : (ℕ → Sqe) = generic_entry opcode.std_fs_call pid fds base len (std_meta ms) in
      rowed none w none (stdfs_rows w fds ms) (begun w v (holds_of w) e) (give v ∷ send (e (table_of w).head) ∷ []) (refl, (refl, (refl, (refl, (refl, tt))))) (λ p. went none _ _ refl)
  driver_left (fmap c id pages flags uid gid pid) =
      let e : (ℕ → Sqe) = fmap_entry id pages flags uid gid pid in
      rowed none w none (fmap_rows w) (begun w (map_request_of c) (holds_of w) e) (give (map_request_of c) ∷ send (e (table_of w).head) ∷ []) (refl, (refl, tt)) (λ p. went none _ _ refl)
  driver_left (close id) = rowed none w none (queue_rows w) (notified w (event_read + event_hup) (close_entry id)) (send (close_entry id) ∷ []) (refl, tt) (λ p. went none _ _ refl)
  driver_left (detach id pid) = rowed none w none (queue_rows w) (notified w event_read (detach_entry id pid)) (send (detach_entry id pid) ∷ []) (refl, tt) (λ p. went none _ _ refl)
  driver_left (wake n c killed base count) =
      let span : PageSpan = record { base = base; count = count } in
      rowed (killed_as n span) w none (wake_rows (ltb 1 killed) (phase_in w n) (wakeable (slot_in w n) c)) (woken_by (phase_in w n) w n killed span) (woken_stores (phase_in w n) w n killed span) (refl, (refl, (refl, tt)))
      (λ p. woken_left n span (phase_in w n) killed)
  driver_left (read len flags) = read_left len flags
  driver_left (write words bs) = write_left bs (ltb words (54 * (length bs / 16)))
  driver_left (move ms ds) =
      let L : (ℕ → List Store) = λ k. cond (eqb k 22 || eqb k 2) (counts (dropped (taken_holds w ds) ds)) [] in
      rowed L w none (list_rows w ds) (checked (refuse (brought_back w ds)) (request_rows w 1 ms) (moved w (request_of ms) ds)) _ (refl, (refl, tt))
      (λ p. rowed L (brought_back w ds) (λ k. counts (dropped (taken_holds w ds) ds)) (request_rows w 1 ms) (moved w (request_of ms) ds) _ (refl, (refl, tt)) (λ q. went L _ _ refl))
  driver_left (obtain ms) =
      let v : Slot = slot_in w (request_of ms) in
      rowed none w none (request_rows w 0 ms) (given_up w (request_of ms)) (outside (outside_of (holds_of w) (numbers v.fds)).outside ∷ put (request_of ms) (with_fds_of v no_fds) ∷ []) (refl, (refl, tt)) (λ p. went none _ _ refl)
  driver_left (supply n offset base count) =
      rowed (vacated_as n) w none (page_rows offset base count) (supplied_by (phase_in w n) w n) (supplied_stores (phase_in w n) n) (refl, tt) (λ p. supplied_left n (phase_in w n))

  event_left : (e : Event) → Leaves (left_stores w (view_of e)) (step w e).answer (stores_of w e)
  event_left (host_open d) = open_left d
  event_left (host_copy d) = copy_left d
  event_left (host_drop d) = drop_left d
  event_left (host_ended c) = went none (ok 0) _ refl
  event_left (on e) = driver_left e

pub words_stay : WordsStay
words_stay = record { refused = λ ws size e k q. (event_left ws size e).refused k q; waiting = λ ws size e q. (event_left ws size e).waiting q }
