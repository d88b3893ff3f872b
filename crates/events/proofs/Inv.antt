-- The invariant: what the slots have to do with what happened, and that each thing that happens keeps it. Assumes nothing.
use Prim.Native.Nat.{ℕ, ◌+◌}
use mathlib.Core.Path.{◌≡◌, refl, sym, ap, ◌∙◌, subst}
use mathlib.Core.Bool.{Bool, true, false, cond, ◌||◌}
use mathlib.Core.List.{List, [], ◌∷◌, map}
use native.Mathlib.Omega.{arith}
use native.Mathlib.Decide.{ℕ_discrete}
use lib.Dec.{eqb, ltb}
use lib.ListN.{get_or, drop, get_or-map}
use borrow.Author.Tests.{eq-eqb, ne_eqb}
use Rattle.fd_list.specs.declared.List.{List as Fds}
use Rattle.host_ended.specs.Ended.{marked_by, marked_of, ended_table}
use Rattle.slot.specs.declared.PageSpan.{PageSpan}
use Rattle.slot.specs.declared.Phase.{Phase}
use Rattle.slot.specs.declared.Phase.TheVariants.{Vacant, Placeholder, Waiting, Responded, Fmap}
use Rattle.slot.specs.declared.Reply.{Reply}
use Rattle.slot.specs.declared.Slot.{Slot}
use Rattle.slot.specs.Slots.{phase_of, vacant_slot, placeholder_of, waiting_of, map_request_of, canceled_of, interrupted_of, responded_of}
use Rattle.status.specs.Status.{bit, count_of}
use Rattle.table.specs.declared.Table.{Table}
use Rattle.table.specs.Reached.{Linked}
use Rattle.table.specs.Table.{no_slot, slot_at}
use Rattle.events.specs.Outcome.{Response}
use Rattle.events.specs.Wake.{response_of}
use Rattle.events.specs.History.{What, Fact, to, end, gave, took, serve, block, interrupt, pass, filled, Stage, free, reserved, waits, replied, mapping, Call, change, marked, onto, book}
use Rattle.events.specs.Demand3.{Every, needs, fair, sum}
use Rattle.events.specs.Exactly.{relisted, vacant_tags}
use Rattle.events.proofs.Sane.{unwoken}
use Rattle.events.proofs.Stage.{Core, vacant, placeholder, waiting, responded, mapped, core_by, core, phase_is, caller_is, ended_is, returned_is, reads_is, dress, wanted, phase_at, core_phase, dress_phase, StageIn, stage_in}
use Rattle.events.proofs.Stored.{Shape, shape, Stored, holding, held_is}

abbrev pub Balance : ℕ → List Fact → Type 0
Balance held h = sum (λ k. 1) 0 h ≡ sum (λ k. 0) 1 h + (held + sum (λ k. cond k.ended 1 0) 0 h)

-- every tag's slot is the one that its history calls for; the chain is that of the vacant tags; the replies balance; what happened
-- was fair
pub record Inv (s : Shape) (h : List Fact) : Type 0 where
  pub fits : (n : ℕ) → core (s.look n) ≡ wanted (book h n)
  pub chain : Linked s.next s.head (vacant_tags h)
  pub balance : Balance s.held h
  pub every : Every fair h

or_true : (b : Bool) → b || true ≡ true
or_true true = refl
or_true false = refl

-- the slot changes in what no history tells
pub inv_same : (s s' : Shape) (h : List Fact) (n : ℕ) (v : Slot) → Inv s h → Stored s n v (λ l. l) s' → (p : Phase) → phase_of (s.look n) ≡ p → phase_of v ≡ p → core v ≡ core (s.look n) → Inv s' h
inv_same s s' h n v i t p a b c =
    record {
      fits = λ m. go m (ℕ_discrete n m);
      chain = t.chain (vacant_tags h) i.chain;
      balance = omega (arith, i.balance, t.sum, held_is (s.look n) p a, held_is v p b);
      every = i.every;
    }
  where
    go : (m : ℕ) → Dec (n ≡ m) → core (s'.look m) ≡ wanted (book h m)
    go m (yes e) = subst (λ (j : ℕ). core (s'.look j) ≡ wanted (book h j)) e (ap core t.here ∙ c ∙ i.fits n)
    go m (no ne) = ap core (t.there m ne) ∙ i.fits m

module _ (s : Shape) (h : List Fact) (i : Inv s h) (n : ℕ) where
  abbrev call : Call
  call = book h n

  -- the slot's phase is that of the call's stage; by the phase, the stage and the slot that it calls for
  pub phase_is_lem : phase_of (s.look n) ≡ phase_at call.stage
  phase_is_lem = sym (core_phase (phase_of (s.look n)) (s.look n)) ∙ ap phase_is (i.fits n) ∙ dress_phase call.stage call

  pub in_stage : (p : Phase) → phase_of (s.look n) ≡ p → StageIn p call.stage
  in_stage p e = stage_in call.stage p (sym phase_is_lem ∙ e)

  pub in_phase : (p : Phase) (g : Stage) → phase_of (s.look n) ≡ p → call.stage ≡ g → core_by p (s.look n) ≡ dress g call
  in_phase p g e q = ap (λ (j : Phase). core_by j (s.look n)) (sym e) ∙ i.fits n ∙ ap (λ (j : Stage). dress j call) q

  -- something happens to tag n, and its slot changes to v
  happened :
      (x : What) (v : Slot) (s' : Shape) → Stored s n v (relisted x n call.ended) s' → core v ≡ wanted (change x call)
      → Balance s'.held (to n x ∷ h) → call.stage ≡ needs x → Inv s' (to n x ∷ h)
  happened x v s' t c b f =
      record { fits = λ m. go m (ℕ_discrete n m); chain = t.chain (vacant_tags h) i.chain; balance = b; every = (f, i.every) }
    where
      go : (m : ℕ) → Dec (n ≡ m) → core (s'.look m) ≡ wanted (book (to n x ∷ h) m)
      go m (yes e) =
          subst (λ (j : ℕ). core (s'.look j) ≡ wanted (book (to n x ∷ h) j)) e
          (ap core t.here ∙ c ∙ sym (ap (λ (b : Bool). wanted (cond b (change x call) call)) (eq-eqb n n refl)))
      go m (no ne) =
          ap core (t.there m ne) ∙ i.fits m ∙ sym (ap (λ (b : Bool). wanted (cond b (change x (book h m)) (book h m))) (ne_eqb n m ne))

  -- given out for a call, for a map request
  pub inv_gave : (c : ℕ) (s' : Shape) → Stored s n (placeholder_of c) (λ l. drop 1 l) s' → phase_of (s.look n) ≡ Vacant → Inv s' (to n (gave false c) ∷ h)
  inv_gave c s' t p =
      happened (gave false c) (placeholder_of c) s' t refl (omega (arith, i.balance, t.sum, held_is (s.look n) Vacant p)) (in_stage Vacant p)

  pub inv_asked : (c : ℕ) (s' : Shape) → Stored s n (map_request_of c) (λ l. drop 1 l) s' → phase_of (s.look n) ≡ Vacant → Inv s' (to n (gave true c) ∷ h)
  inv_asked c s' t p =
      happened (gave true c) (map_request_of c) s' t refl (omega (arith, i.balance, t.sum, held_is (s.look n) Vacant p)) (in_stage Vacant p)

  -- its submit is accepted
  pub inv_took :
      (c : ℕ) (fds : Fds) (s' : Shape) → Stored s n (waiting_of c fds) (λ l. l) s'
      → phase_of (s.look n) ≡ Placeholder → (s.look n).caller ≡ c → (s.look n).ended ≡ false → Inv s' (to n took ∷ h)
  inv_took c fds s' t p qc qe =
      let g = in_stage Placeholder p in
      let d = in_phase Placeholder reserved p g in
      let u = unwoken h i.every n g in
      let kc : call.caller ≡ c = ap caller_is (sym d) ∙ qc in
      let ke : call.ended ≡ false = ap ended_is (sym d) ∙ qe in
      let w : dress waits call ≡ waiting c false false false = simp (kc, ke, u.0, u.1) in
      happened took (waiting_of c fds) s' t (sym w) (omega (arith, i.balance, t.sum, held_is (s.look n) Placeholder p)) g

  -- a wake of it is answered still blocked; it may be cancelling already
  pub inv_block : (s' : Shape) → Stored s n (canceled_of (s.look n)) (λ l. l) s' → phase_of (s.look n) ≡ Waiting → Inv s' (to n block ∷ h)
  inv_block s' t p =
      let g = in_stage Waiting p in
      happened block (canceled_of (s.look n)) s' t
      (ap (λ (q : Phase). core_by q (canceled_of (s.look n))) p ∙ ap (λ (k : Core). waiting (caller_is k) true (ended_is k) (returned_is k)) (in_phase Waiting waits p g)
      ∙ sym (ap (λ (j : Stage). dress j (marked true false false call)) g))
      (omega (arith, i.balance, t.sum, held_is (s.look n) Waiting p, held_is (canceled_of (s.look n)) Waiting p)) g

  -- a wake of it is refused with EINTR
  pub inv_break :
      (span : PageSpan) (s' : Shape) → Stored s n (interrupted_of (s.look n) span) (λ l. l) s' → phase_of (s.look n) ≡ Waiting → Inv s' (to n interrupt ∷ h)
  inv_break span s' t p =
      let g = in_stage Waiting p in
      happened interrupt (interrupted_of (s.look n) span) s' t
      (ap (λ (q : Phase). core_by q (interrupted_of (s.look n) span)) p ∙ ap (λ (k : Core). waiting (caller_is k) true (ended_is k) true) (in_phase Waiting waits p g)
      ∙ ap (λ (b : Bool). waiting call.caller b call.ended true) (sym (or_true call.was_blocked))
      ∙ sym (ap (λ (j : Stage). dress j (marked false true false call)) g))
      (omega (arith, i.balance, t.sum, held_is (s.look n) Waiting p, held_is (interrupted_of (s.look n) span) Waiting p)) g

  -- its reply is handed over
  pub replied_is : phase_of (s.look n) ≡ Responded → call.stage ≡ replied (response_of (s.look n))
  replied_is p =
      let g = in_stage Responded p in g.1 ∙ ap replied (sym (ap reads_is (in_phase Responded (replied g.0) p g.1)))

  pub inv_pass : (s' : Shape) → Stored s n vacant_slot (λ l. n ∷ l) s' → phase_of (s.look n) ≡ Responded → Inv s' (to n (pass (response_of (s.look n))) ∷ h)
  inv_pass s' t p =
      happened (pass (response_of (s.look n))) vacant_slot s' t refl (omega (arith, i.balance, t.sum, held_is (s.look n) Responded p)) (replied_is p)

  -- a reply entry to it is accepted, its caller not ended: the reply is stored
  pub inv_serve :
      (e j : ℕ) (r : Response) (a : Reply) (fds : Fds) (s' : Shape) → Stored s n (responded_of (s.look n) a fds) (λ l. l) s'
      → phase_of (s.look n) ≡ Waiting → (s.look n).ended ≡ false → response_of (responded_of (s.look n) a fds) ≡ r → Inv s' (to n (serve e j r) ∷ h)
  inv_serve e j r a fds s' t p qe qr =
      let g = in_stage Waiting p in
      let d = in_phase Waiting waits p g in
      let ke : call.ended ≡ false = ap ended_is (sym d) ∙ qe in
      happened (serve e j r) (responded_of (s.look n) a fds) s'
      (subst (λ (b : Bool). Stored s n (responded_of (s.look n) a fds) (λ l. cond b (n ∷ l) l) s') (sym ke) t)
      (ap (λ (k : Core). responded (caller_is k) false (returned_is k) (response_of (responded_of (s.look n) a fds))) d
      ∙ ap (λ (v : Response). responded call.caller false call.returned v) qr
      ∙ ap (λ (b : Bool). responded call.caller b call.returned r) (sym ke)
      ∙ sym (ap (λ (b : Bool). wanted (onto (cond b free (replied r)) call)) ke))
      (rw ke (omega (arith, i.balance, t.sum, held_is (s.look n) Waiting p))) g

  -- a reply entry to it is accepted, its caller ended: the reply is dropped
  pub inv_lose :
      (e j : ℕ) (r : Response) (s' : Shape) → Stored s n vacant_slot (λ l. n ∷ l) s'
      → phase_of (s.look n) ≡ Waiting → (s.look n).ended ≡ true → Inv s' (to n (serve e j r) ∷ h)
  inv_lose e j r s' t p qe =
      let g = in_stage Waiting p in
      let ke : call.ended ≡ true = ap ended_is (sym (in_phase Waiting waits p g)) ∙ qe in
      happened (serve e j r) vacant_slot s' (subst (λ (b : Bool). Stored s n vacant_slot (λ l. cond b (n ∷ l) l) s') (sym ke) t)
      (sym (ap (λ (b : Bool). wanted (onto (cond b free (replied r)) call)) ke))
      (rw ke (omega (arith, i.balance, t.sum, held_is (s.look n) Waiting p))) g

  -- map supply vacates its slot
  pub inv_filled : (s' : Shape) → Stored s n vacant_slot (λ l. n ∷ l) s' → phase_of (s.look n) ≡ Fmap → Inv s' (to n filled ∷ h)
  inv_filled s' t p = happened filled vacant_slot s' t refl (omega (arith, i.balance, t.sum, held_is (s.look n) Fmap p)) (in_stage Fmap p)

-- a caller is reported ended: its slots are marked
module _ (c : ℕ) where
  abbrev end_core : Core → Core
  end_core vacant = vacant
  end_core (placeholder k e) = placeholder k (eqb k c || e)
  end_core (waiting k x e r) = waiting k x (eqb k c || e) r
  end_core (responded k e r v) = responded k (eqb k c || e) r v
  end_core (mapped k e) = mapped k (eqb k c || e)

  -- a slot of this caller's, and one of another's
  mine : (v : Slot) (p : Phase) → phase_of v ≡ p → eqb v.caller c || v.ended ≡ true → core (marked_by true p v) ≡ end_core (core_by p v)
  mine v Vacant e q = ap (λ (p : Phase). core_by p v) e
  mine v Placeholder e q = rw (e, q)
  mine v Waiting e q = rw (e, q)
  mine v Responded e q = rw (e, q)
  mine v Fmap e q = rw (e, q)

  others : (v : Slot) (p : Phase) → phase_of v ≡ p → eqb v.caller c || v.ended ≡ v.ended → core v ≡ end_core (core_by p v)
  others v Vacant e q = ap (λ (p : Phase). core_by p v) e
  others v Placeholder e q = rw (e, q)
  others v Waiting e q = rw (e, q)
  others v Responded e q = rw (e, q)
  others v Fmap e q = rw (e, q)

  mark_core : (v : Slot) → core (marked_of c v) ≡ end_core (core v)
  mark_core v = go (eqb v.caller c) refl
    where
      go : (b : Bool) → eqb v.caller c ≡ b → core (marked_by b (phase_of v) v) ≡ end_core (core v)
      go true q = mine v (phase_of v) refl (ap (λ (b : Bool). b || v.ended) q)
      go false q = others v (phase_of v) refl (ap (λ (b : Bool). b || v.ended) q)

  mark_state : (b : Bool) (p : Phase) (v : Slot) → (marked_by b p v).state ≡ v.state
  mark_state false p v = refl
  mark_state true Vacant v = refl
  mark_state true Placeholder v = refl
  mark_state true Waiting v = refl
  mark_state true Responded v = refl
  mark_state true Fmap v = refl

  held_mark : (s : List Slot) → count_of holding (map (marked_of c) s) ≡ count_of holding s
  held_mark [] = refl
  held_mark (v ∷ s) = omega (arith, ap (λ (n : ℕ). bit (eqb n 3)) (mark_state (eqb v.caller c) (phase_of v) v), held_mark s)

  -- nobody's slot stays as it is
  mark_nobody : (v : Slot) → phase_of v ≡ Vacant → marked_of c v ≡ v
  mark_nobody v e = ap (λ (p : Phase). marked_by (eqb v.caller c) p v) e ∙ go (eqb v.caller c)
    where
      go : (b : Bool) → marked_by b Vacant v ≡ v
      go true = refl
      go false = refl

  mark_at : (t : Table) (n : ℕ) → slot_at (ended_table t c) n ≡ marked_of c (slot_at t n)
  mark_at t n = go (ltb n 64)
    where
      go : (b : Bool) → cond b (get_or (map (marked_of c) t.slots) n no_slot) vacant_slot ≡ marked_of c (cond b (get_or t.slots n no_slot) vacant_slot)
      go true =
          ap (λ (d : Slot). get_or (map (marked_of c) t.slots) n d) (sym (mark_nobody no_slot refl)) ∙ get_or-map (marked_of c) t.slots n no_slot
      go false = sym (mark_nobody vacant_slot refl)

  end_dress : (g : Stage) (k : Call) → end_core (dress g k) ≡ dress g (marked false false (eqb k.caller c) k)
  end_dress free k = refl
  end_dress reserved k = refl
  end_dress waits k = refl
  end_dress (replied r) k = refl
  end_dress mapping k = refl

  pub inv_end : (t : Table) (h : List Fact) → Inv (shape t) h → Inv (shape (ended_table t c)) (end c ∷ h)
  inv_end t h i =
      record {
        fits = λ n. ap core (mark_at t n) ∙ mark_core (slot_at t n) ∙ ap end_core (i.fits n) ∙ end_dress (book h n).stage (book h n);
        chain = i.chain;
        balance = omega (arith, i.balance, held_mark t.slots);
        every = (tt, i.every);
      }
