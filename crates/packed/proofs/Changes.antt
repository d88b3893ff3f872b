-- On the plain state, what an event stores is what it changes. Assumes nothing.
use Prim.Native.Nat.{ℕ, zero, suc, ◌+◌, ◌<◌}
use mathlib.Core.Path.{◌≡◌, refl, sym, ap, ◌∙◌}
use mathlib.Core.Bool.{Bool, true, false, not, cond, ◌&&◌}
use mathlib.Core.List.{List, [], ◌∷◌, ◌++◌}
use native.Mathlib.Omega.{arith}
use lib.Dec.{ltb, eqb}
use lib.ListN.{get_or, set, length}
use native.Mathlib.Numerals.{add-one}
use lib.Seq.{set-get_or}
use borrow.Author.Tests.{lt-ltb}
use Rattle.counts.specs.Counts.{any, less_all}
use Rattle.fd_list.specs.Lists.{numbers, list_of}
use Rattle.flag.specs.Flags.{event_read, event_hup}
use Rattle.holds.specs.declared.Holds.{Holds}
use Rattle.holds.specs.Holds.{holds_with, outside_of}
use Rattle.host_ended.specs.Ended.{marked_by, marked_of}
use Rattle.host_ended.proofs.Marks.{map_to, more, all as all-mapped}
use Rattle.opcode.specs.Opcodes as opcode
use Rattle.parse_cqe.specs.Parsed.{parsed_of}
use Rattle.schemev2.specs.declared.Args.{Args}
use Rattle.schemev2.specs.declared.Cqe.{Cqe}
use Rattle.schemev2.specs.declared.Sqe.{Sqe}
use Rattle.slot.specs.declared.Act.{Act}
use Rattle.slot.specs.declared.Act.TheVariants as act
use Rattle.slot.specs.declared.PageSpan.{PageSpan}
use Rattle.slot.specs.declared.Phase.{Phase}
use Rattle.slot.specs.declared.Phase.TheVariants.{Vacant, Placeholder, Waiting, Responded, Fmap}
use Rattle.slot.specs.declared.Slot.{Slot}
use Rattle.slot.specs.Slots.{phase_of, no_fds, vacant_slot, placeholder_of, waiting_of, map_request_of, ended_of, with_fds_of}
use Rattle.table.specs.declared.Table.{Table}
use Rattle.table.specs.Table.{no_slot, put_at, given_out, vacate_at, stored, vacated}
use Rattle.std.specs.Prelude.{Ok, Err}
use Rattle.answer.specs.declared.Refusal.TheVariants.{BadArgument, TooManyFds}
use Rattle.take_holds.specs.Take.{taken_as, bad}
use Rattle.events.specs.World.{World, table_of, holds_of, handles_of, slot_in, phase_in, with_table, with_handles, table_with, queue_full, queued}
use Rattle.events.specs.Outcome.{Outcome, outcome, Row, checked, refuse}
use Rattle.events.specs.Submit.{taken_holds, table_full, reserve_rows, submit_rows, call_rows, call_of, fdwrite_args, fdread_args, length_rows, generic_rows, stdfs_rows, fmap_rows, queue_rows, reserved, submit_entry, submitted, call_entry, generic_entry, std_meta, fmap_entry, close_entry, detach_entry, notified, begun}
use Rattle.events.specs.Wake.{response_of, held_in, wakeable, wake_rows, blocked_by, waited_by, woken_by}
use Rattle.events.specs.Entry.{Decision, decision_of, dropped, is_vacant}
use Rattle.events.specs.Complete.{Entered, accepted, rejected, after, entries_of, stopped, on_entered, write_on, write_rows}
use Rattle.events.specs.Descriptors.{request_of, request_rows, list_rows, brought_back, moved, given_up}
use Rattle.events.specs.Supply.{page_rows, supplied_by}
use Rattle.events.specs.Event.{DriverEvent, host_put, reserve, submit, call, fdwrite, fdread, generic, stdfs, fmap, close, detach, wake, read, write, move, obtain, supply, Event, host_open, host_copy, host_drop, host_ended, on, driver_step, step}
use Rattle.events.proofs.Checked.{Passed}
use Rattle.layout.specs.Store.{Store, put, give, send, outside, handles, changed, changed_all}
use Rattle.packed.specs.Stores.{call_stores, unless, counts, taken, has, marks, blocked_stores, waited_stores, woken_stores, decided_stores, entry_stores, gone_on, write_stores, supplied_stores, driver_stores, stores_of}

-- two refusal tables with the same rows
pub both_checked :
    {A B : Type 0} (P : A → B → Type 0) (f : ℕ → A) (g : ℕ → B) (rows : List Row) (x : A) (y : B)
    → ((k : ℕ) → P (f k) (g k)) → (Passed rows → P x y) → P (checked f rows x) (checked g rows y)
both_checked P f g [] x y bad good = good tt
both_checked P f g (r ∷ rs) x y bad good = go r.due refl (both_checked P f g rs x y bad)
  where
    go :
        (b : Bool) → r.due ≡ b → ((Passed rs → P x y) → P (checked f rs x) (checked g rs y))
        → P (cond b (f r.number) (checked f rs x)) (cond b (g r.number) (checked g rs y))
    go true e more = bad r.number
    go false e more = more (λ p. good (e, p))

changed_append : (ss : List Store) (w : World) (ts : List Store) → changed_all w (ss ++ ts) ≡ changed_all (changed_all w ss) ts
changed_append [] w ts = refl
changed_append (s ∷ ss) w ts = changed_append ss (changed w s) ts

-- an outcome leaves what is stored
abbrev Leaves : World → Outcome → List Store → Type 0
Leaves w o ss = o.world ≡ changed_all w ss

turned : (w : World) (rows : List Row) (o : Outcome) (ss : List Store) → (Passed rows → Leaves w o ss) → Leaves w (checked (refuse w) rows o) (unless rows ss)
turned w rows o ss f = both_checked (Leaves w) (refuse w) (λ k. []) rows o ss (λ k. refl) f

-- counts and slots of a table change in either order
put_with : (t : Table) (h : Holds) (n : ℕ) (v : Slot) → table_with (put_at t n v) h ≡ put_at (table_with t h) n v
put_with t h n v = go (ltb n 64)
  where
    go : (b : Bool) → table_with (cond b (stored t n v) t) h ≡ cond b (stored (table_with t h) n v) (table_with t h)
    go true = refl
    go false = refl

vacate_with : (t : Table) (h : Holds) (n : ℕ) → table_with (vacate_at t n) h ≡ vacate_at (table_with t h) n
vacate_with t h n = go (ltb n 64)
  where
    go : (b : Bool) → table_with (cond b (vacated t n) t) h ≡ cond b (vacated (table_with t h) n) (table_with t h)
    go true = refl
    go false = refl

-- a list is taken from the outside holds alone
pub taken_all : (w : World) (ds : List ℕ) → taken_holds w ds ≡ holds_with (holds_of w).holds (taken_holds w ds).outside
taken_all w ds = go (any (bad (holds_of w) ds) ds) (ltb 16 (length ds))
  where
    go :
        (a b : Bool)
        → let h : Holds = (cond a (taken_as (Err BadArgument) (holds_of w)) (cond b (taken_as (Err TooManyFds) (holds_of w)) (taken_as (Ok (list_of ds)) (holds_with (holds_of w).holds (less_all (holds_of w).outside ds))))).holds in
        h ≡ holds_with (holds_of w).holds h.outside
    go true b = refl
    go false true = refl
    go false false = refl

module _ (w : World) where
  begun_leaves : (v : Slot) (e : ℕ → Sqe) → table_full w ≡ false → Leaves w (begun w v (holds_of w) e) (give v ∷ send (e (table_of w).head) ∷ [])
  begun_leaves v e q = rw q refl

  blocked_leaves : (a b : Bool) (n : ℕ) → Leaves w (blocked_by a b w n) (blocked_stores a b w n)
  blocked_leaves true b n = refl
  blocked_leaves false true n = refl
  blocked_leaves false false n = refl

  waited_leaves : (b : Bool) (n : ℕ) (span : PageSpan) → Leaves w (waited_by b w n span) (waited_stores b w n span)
  waited_leaves true n span = refl
  waited_leaves false n span = blocked_leaves (slot_in w n).canceling (queue_full w) n

  woken_leaves : (p : Phase) (n killed : ℕ) (span : PageSpan) → Leaves w (woken_by p w n killed span) (woken_stores p w n killed span)
  woken_leaves Vacant n killed span = refl
  woken_leaves Placeholder n killed span = refl
  woken_leaves Waiting n killed span = waited_leaves (eqb killed 1) n span
  woken_leaves Responded n killed span =
      ap (with_table w) (vacate_with (table_of w) (outside_of (holds_of w) (held_in (response_of (slot_in w n)))) n)
  woken_leaves Fmap n killed span = refl

  supplied_leaves : (p : Phase) (n : ℕ) → Leaves w (supplied_by p w n) (supplied_stores p n)
  supplied_leaves Vacant n = refl
  supplied_leaves Placeholder n = refl
  supplied_leaves Waiting n = refl
  supplied_leaves Responded n = refl
  supplied_leaves Fmap n = refl

  pub after_is : (n : ℕ) (d : Decision) → after w n d ≡ changed_all w (decided_stores n d)
  after_is n d = go d.act
    where
      go : (a : Act) → after w n (record { number = d.number; act = a; slot = d.slot; holds = d.holds; handles = d.handles; effects = d.effects }) ≡ changed_all w (decided_stores n (record { number = d.number; act = a; slot = d.slot; holds = d.holds; handles = d.handles; effects = d.effects }))
      go act.Leave = refl
      go act.Store = ap (λ (t : Table). with_handles (with_table w t) d.handles) (put_with (table_of w) d.holds n d.slot)
      go act.Vacate = ap (λ (t : Table). with_handles (with_table w t) d.handles) (vacate_with (table_of w) d.holds n)

module _ (w : World) (e : Cqe) where
  abbrev pub decided : Decision
  decided = decision_of (parsed_of e) (slot_in w e.tag) (holds_of w) (handles_of w)

  abbrev pub left : World
  left = after w e.tag decided

  abbrev pub entered : Bool → Entered
  entered b = cond b (accepted decided.effects left) (rejected decided.number decided.effects left)

write_leaves : (es : List Cqe) (w : World) (n : ℕ) (fx : List ℕ) → Leaves w (write_on w es n fx) (write_stores w es)
write_leaves [] w n fx = refl
write_leaves (e ∷ es) w n fx = go (eqb (decided w e).number 0) (write_leaves es (left w e) (suc n) (fx ++ (decided w e).effects))
  where
    go :
        (b : Bool) → Leaves (left w e) (write_on (left w e) es (suc n) (fx ++ (decided w e).effects)) (write_stores (left w e) es)
        → Leaves w (on_entered (entered w e b) (λ gx x. write_on x es (suc n) (fx ++ gx)) (λ k gx x. outcome (stopped n k) (fx ++ gx) x)) (entry_stores w e ++ gone_on (entered w e b) (λ x. write_stores x es))
    go true more =
        more
        ∙ ap (λ (x : World). changed_all x (write_stores (left w e) es)) (after_is w e.tag (decided w e))
        ∙ sym (changed_append (entry_stores w e) w (write_stores (left w e) es))
    go false more = after_is w e.tag (decided w e) ∙ sym (changed_append (entry_stores w e) w [])

-- an ended caller's slots, one after the other
marked_by_lem : (b : Bool) (p : Phase) (v : Slot) → marked_by b p v ≡ cond (b && not (is_vacant p)) (ended_of v) v
marked_by_lem false p v = refl
marked_by_lem true Vacant v = refl
marked_by_lem true Placeholder v = refl
marked_by_lem true Waiting v = refl
marked_by_lem true Responded v = refl
marked_by_lem true Fmap v = refl

mapped_at : (f : Slot → Slot) (i : ℕ) (s : List Slot) (d : Slot) → get_or (map_to f i s) i d ≡ get_or s i d
mapped_at f zero s d = refl
mapped_at f (suc i) [] d = refl
mapped_at f (suc i) (x ∷ s) d = mapped_at f i s d

module _ (w : World) (c : ℕ) (long : length (table_of w).slots ≡ 64) where
  abbrev marked : ℕ → World
  marked n = with_table w (record { slots = map_to (marked_of c) n (table_of w).slots; next = (table_of w).next; head = (table_of w).head; holds = (table_of w).holds })

  -- slot n is marked, or needs no mark
  one_more : (n : ℕ) → n < 64 → (v : Slot) → v ≡ slot_in w n → changed_all (marked n) (cond (has c v) (put n (ended_of v) ∷ []) []) ≡ marked (suc n)
  one_more n h v e = go (has c v) refl
    where
      at : slot_in w n ≡ get_or (table_of w).slots n no_slot
      at = ap (λ (b : Bool). cond b (get_or (table_of w).slots n no_slot) vacant_slot) (lt-ltb n 64 h)

      is : (b : Bool) → has c v ≡ b → cond b (ended_of v) v ≡ marked_of c (get_or (map_to (marked_of c) n (table_of w).slots) n no_slot)
      is b q =
          ap (λ (x : Bool). cond x (ended_of v) v) (sym q)
          ∙ sym (marked_by_lem (eqb v.caller c) (phase_of v) v)
          ∙ ap (marked_of c) (e ∙ at ∙ sym (mapped_at (marked_of c) n (table_of w).slots no_slot))

      next : (x : Slot) → x ≡ marked_of c (get_or (map_to (marked_of c) n (table_of w).slots) n no_slot) → set (map_to (marked_of c) n (table_of w).slots) n x ≡ map_to (marked_of c) (suc n) (table_of w).slots
      next x q = more (marked_of c) (table_of w).slots (map_to (marked_of c) n (table_of w).slots) n no_slot x (omega (arith, h, long)) refl q ∙ ap (λ (j : ℕ). map_to (marked_of c) j (table_of w).slots) (add-one n)

      table : List Slot → World
      table l = with_table w (record { slots = l; next = (table_of w).next; head = (table_of w).head; holds = (table_of w).holds })

      go : (b : Bool) → has c v ≡ b → changed_all (marked n) (cond b (put n (ended_of v) ∷ []) []) ≡ marked (suc n)
      go true q = ap (λ (b : Bool). with_table (marked n) (cond b (stored (table_of (marked n)) n (ended_of v)) (table_of (marked n)))) (lt-ltb n 64 h) ∙ ap table (next (ended_of v) (is true q))
      go false q =
          ap table (sym (set-get_or (map_to (marked_of c) n (table_of w).slots) n no_slot))
          ∙ ap (λ (x : Slot). table (set (map_to (marked_of c) n (table_of w).slots) n x)) (mapped_at (marked_of c) n (table_of w).slots no_slot ∙ sym at ∙ sym e)
          ∙ ap table (next v (is false q))

  marks_leave : (k n : ℕ) → n + k ≡ 64 → changed_all (marked n) (marks k n w c) ≡ marked 64
  marks_leave zero n e = let q : n ≡ 64 = omega (arith, e) in ap marked q
  marks_leave (suc k) n e = go (has c (slot_in w n)) ∙ ap (λ (x : World). changed_all x (marks k (suc n) w c)) (one_more n (omega (arith, e)) (slot_in w n) refl) ∙ marks_leave k (suc n) (omega (arith, e))
    where
      go : (b : Bool) → changed_all (marked n) (cond b (put n (ended_of (slot_in w n)) ∷ marks k (suc n) w c) (marks k (suc n) w c)) ≡ changed_all (changed_all (marked n) (cond b (put n (ended_of (slot_in w n)) ∷ []) [])) (marks k (suc n) w c)
      go true = refl
      go false = refl

  ended_leaves : Leaves w (step w (host_ended c)) (marks 64 0 w c)
  ended_leaves =
      ap (λ (l : List Slot). with_table w (record { slots = l; next = (table_of w).next; head = (table_of w).head; holds = (table_of w).holds })) (sym (all-mapped (marked_of c) (table_of w).slots (map_to (marked_of c) 64 (table_of w).slots) 64 (sym long) refl))
      ∙ sym (marks_leave 64 0 refl)

module _ (w : World) where
  -- the counts of a list, and a slot
  placed : (n : ℕ) (v : Slot) (h : Holds) → h ≡ holds_with (holds_of w).holds h.outside → with_table w (table_with (put_at (table_of w) n v) h) ≡ changed_all w (outside h.outside ∷ put n v ∷ [])
  placed n v h e = ap (with_table w) (put_with (table_of w) h n v ∙ ap (λ (x : Holds). put_at (table_with (table_of w) x) n v) e)

  submit_leaves : (n c : ℕ) (ds : List ℕ) (e : Sqe) → Leaves w (submitted w n c ds e) (taken w ds ∷ put n (waiting_of c (list_of ds)) ∷ send e ∷ [])
  submit_leaves n c ds e = ap (λ (x : World). queued x e) (placed n (waiting_of c (list_of ds)) (taken_holds w ds) (taken_all w ds))

  call_leaves :
      (v : Slot) (ds : List ℕ) (e : ℕ → Sqe) → table_full w ≡ false
      → Leaves w (begun w v (taken_holds w ds) e) (taken w ds ∷ give v ∷ send (e (table_of w).head) ∷ [])
  call_leaves v ds e q =
      ap (λ (h : Holds). queued (with_table w (given_out (table_with (table_of w) h) v)) (e (table_of w).head)) (taken_all w ds)
      ∙ ap (λ (b : Bool). queued (cond b (changed w (taken w ds)) (with_table w (given_out (table_of (changed w (taken w ds))) v))) (e (table_of w).head)) (sym q)

  move_leaves :
      (ms ds : List ℕ)
      → Leaves w (checked (refuse (brought_back w ds)) (request_rows w 1 ms) (moved w (request_of ms) ds))
      (checked (λ k. counts (dropped (taken_holds w ds) ds)) (request_rows w 1 ms)
      (counts (dropped (taken_holds w ds) (numbers (slot_in w (request_of ms)).fds)) ++ put (request_of ms) (with_fds_of (slot_in w (request_of ms)) (list_of ds)) ∷ []))
  move_leaves ms ds =
      both_checked (Leaves w) (refuse (brought_back w ds)) (λ k. counts (dropped (taken_holds w ds) ds)) (request_rows w 1 ms) (moved w (request_of ms) ds)
      (counts (dropped (taken_holds w ds) (numbers (slot_in w (request_of ms)).fds)) ++ put (request_of ms) (with_fds_of (slot_in w (request_of ms)) (list_of ds)) ∷ [])
      (λ k. refl) (λ p. ap (with_table w) (put_with (table_of w) (dropped (taken_holds w ds) (numbers (slot_in w (request_of ms)).fds)) (request_of ms) (with_fds_of (slot_in w (request_of ms)) (list_of ds))))

  one_call : (c op : ℕ) (args : Args) (uid gid pid : ℕ) (ds : List ℕ) → Leaves w (call_of w c op args uid gid pid ds) (call_stores w c op args uid gid pid ds)
  one_call c op args uid gid pid ds =
      let v : Slot = waiting_of c (list_of ds) in
      let e : (ℕ → Sqe) = call_entry op args uid gid pid in
      turned w (call_rows w op ds) (begun w v (taken_holds w ds) e) (taken w ds ∷ give v ∷ send (e (table_of w).head) ∷ []) (λ p. call_leaves v ds e p.1.1.0)

  driver_leaves : (e : DriverEvent) → Leaves w (driver_step w e) (driver_stores w e)
  driver_leaves (host_put d k) = refl
  driver_leaves (reserve c) = turned w (reserve_rows w) (reserved w c) (give (placeholder_of c) ∷ []) (λ p. rw p.0 refl)
  driver_leaves (submit n c op fl args pid ds) =
      let e : Sqe = submit_entry n op fl args pid in
      turned w (submit_rows w n c op ds) (submitted w n c ds e) (taken w ds ∷ put n (waiting_of c (list_of ds)) ∷ send e ∷ []) (λ p. submit_leaves n c ds e)
  driver_leaves (call c op args uid gid pid ds) = one_call c op args uid gid pid ds
  driver_leaves (fdwrite c number flags ms uid gid pid ds) = one_call c opcode.sendfd (fdwrite_args number flags ms ds) uid gid pid ds
  driver_leaves (fdread c number len flags ms uid gid pid) =
      let args : Args = fdread_args number len flags ms in
      turned w (length_rows len) (call_of w c opcode.recvfd args uid gid pid []) (call_stores w c opcode.recvfd args uid gid pid []) (λ p. one_call c opcode.recvfd args uid gid pid [])
  driver_leaves (generic c pid fds base len ms) =
      let v : Slot = waiting_of c no_fds in
      let e : (ℕ → Sqe) = generic_entry opcode.call pid fds base len ms in
      turned w (generic_rows w fds) (begun w v (holds_of w) e) (give v ∷ send (e (table_of w).head) ∷ []) (λ p. begun_leaves w v e p.1.0)
  driver_leaves (stdfs c pid fds base len ms) =
      let v : Slot = waiting_of c no_fds in
      let e : (ℕ → Sqe) = generic_entry opcode.std_fs_call pid fds base len (std_meta ms) in
      turned w (stdfs_rows w fds ms) (begun w v (holds_of w) e) (give v ∷ send (e (table_of w).head) ∷ []) (λ p. begun_leaves w v e p.1.1.1.0)
  driver_leaves (fmap c id pages flags uid gid pid) =
      let e : (ℕ → Sqe) = fmap_entry id pages flags uid gid pid in
      turned w (fmap_rows w) (begun w (map_request_of c) (holds_of w) e) (give (map_request_of c) ∷ send (e (table_of w).head) ∷ []) (λ p. begun_leaves w (map_request_of c) e p.0)
  driver_leaves (close id) =
      turned w (queue_rows w) (notified w (event_read + event_hup) (close_entry id)) (send (close_entry id) ∷ []) (λ p. refl)
  driver_leaves (detach id pid) = turned w (queue_rows w) (notified w event_read (detach_entry id pid)) (send (detach_entry id pid) ∷ []) (λ p. refl)
  driver_leaves (wake n c killed base count) =
      let span : PageSpan = record { base = base; count = count } in
      turned w (wake_rows (ltb 1 killed) (phase_in w n) (wakeable (slot_in w n) c)) (woken_by (phase_in w n) w n killed span) (woken_stores (phase_in w n) w n killed span)
      (λ p. woken_leaves w (phase_in w n) n killed span)
  driver_leaves (read len flags) = refl
  driver_leaves (write words bs) =
      turned w (write_rows words bs) (write_on w (entries_of bs) 0 []) (write_stores w (entries_of bs)) (λ p. write_leaves (entries_of bs) w 0 [])
  driver_leaves (move ms ds) =
      turned w (list_rows w ds) (checked (refuse (brought_back w ds)) (request_rows w 1 ms) (moved w (request_of ms) ds)) _ (λ p. move_leaves ms ds)
  driver_leaves (obtain ms) =
      let v : Slot = slot_in w (request_of ms) in
      turned w (request_rows w 0 ms) (given_up w (request_of ms)) (outside (outside_of (holds_of w) (numbers v.fds)).outside ∷ put (request_of ms) (with_fds_of v no_fds) ∷ [])
      (λ p. placed (request_of ms) (with_fds_of v no_fds) (outside_of (holds_of w) (numbers v.fds)) refl)
  driver_leaves (supply n offset base count) =
      turned w (page_rows offset base count) (supplied_by (phase_in w n) w n) (supplied_stores (phase_in w n) n) (λ p. supplied_leaves w (phase_in w n) n)

pub event_leaves : (w : World) → length (table_of w).slots ≡ 64 → (e : Event) → (step w e).world ≡ changed_all w (stores_of w e)
event_leaves w long (host_open d) = refl
event_leaves w long (host_copy d) = refl
event_leaves w long (host_drop d) = refl
event_leaves w long (host_ended c) = ended_leaves w c long
event_leaves w long (on e) = driver_leaves w e
