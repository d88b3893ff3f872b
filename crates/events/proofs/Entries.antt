-- Each completion entry keeps the invariant, leaves the queue alone and wakes whom it has to. Assumes nothing.
use Rattle.std.specs.Prelude.{Option, Some, None, Ok, Err}
use Prim.Native.Nat.{ℕ, ◌<◌}
use mathlib.Core.Path.{◌≡◌, refl, sym, ap, ◌∙◌}
use mathlib.Core.Bool.{Bool, true, false, not, cond, ◌||◌}
use mathlib.Core.List.{List, [], ◌∷◌, ◌++◌, map}
use native.Mathlib.Omega.{arith}
use lib.Dec.{eqb}
use lib.ListN.{length}
use Rattle.closes.specs.Closes.{closing, only}
use Rattle.closes.specs.declared.Reason.TheVariants.{Replied, Ended, Refused}
use Rattle.counts.specs.Counts.{lasts}
use Rattle.fd_list.specs.declared.List.{List as Fds}
use Rattle.fd_list.specs.Lists.{numbers}
use Rattle.flag.specs.Flags.{within, event_flags, fobtain_fd_flags}
use Rattle.handles.specs.declared.Handles.{Handles}
use Rattle.handles.specs.Handles.{held_at, emptied, obtain_of, obtain_lasts}
use Rattle.parse_cqe.specs.Parsed.{parsed_by, event_if, obtain_if}
use Rattle.schemev2.specs.declared.Cqe.{Cqe}
use Rattle.schemev2.specs.declared.CqeOpcode.{CqeOpcode}
use Rattle.schemev2.specs.declared.CqeOpcode.TheVariants.{RespondRegular, RespondWithFd, SendFevent, ObtainFd, RespondWithMultipleFds, RespondAndNotifyOnDetach}
use Rattle.schemev2.specs.Entry.{kind_of, extra_of, cqe_opcode_of}
use Rattle.slot.specs.declared.PageSpan.{PageSpan}
use Rattle.slot.specs.declared.Phase.{Phase}
use Rattle.slot.specs.declared.Phase.TheVariants.{Vacant, Placeholder, Waiting, Responded, Fmap}
use Rattle.slot.specs.declared.Slot.{Slot}
use Rattle.slot.specs.Slots.{phase_of, responded_of, with_fds_of}
use Rattle.table.specs.Reached.{idle}
use Rattle.table.specs.Table.{put_at, vacate_at}
use Rattle.table.proofs.Chain.{occupied_within}
use Rattle.events.specs.World.{World, table_of, scheme_of, holds_of, handles_of, slot_in, phase_in, unread_in}
use Rattle.events.specs.Wake.{response_of}
use Rattle.events.specs.Entry.{Decision, closes_of, Offer, result, one, listed, response_to, stored_as, kept_fds, gone_fds, own_fds, named_of, dropped, unmap_of, release_of, served_by, respond_by, in_handle, taken_out, by_descriptor, is_waiting, obtain_rows, obtained, obtain_entry_of}
use Rattle.events.specs.Complete.{Entered, accepted, rejected, carried, entry_by, entry_of}
use Rattle.events.specs.History.{Fact, to, serve, waits, book, offers, served}
use Rattle.events.specs.Effects.{wakes_for, wakes_in}
use Rattle.events.specs.WellFormed.{WellFormed}
use Rattle.events.proofs.Checked.{checked_cases}
use Rattle.events.proofs.Decided.{refused_in, carried_cases}
use Rattle.events.proofs.Effects.{Triples, Silent, triples_append, silent_none, silent_append, silent_closes}
use Rattle.events.proofs.Inv.{Inv, in_stage, in_phase, inv_same, inv_serve, inv_lose}
use Rattle.events.proofs.Stage.{core, core_by, caller_is, ended_is}
use Rattle.events.proofs.Stored.{shape, put_stored, vacate_stored}

abbrev pub InvOf : World → List Fact → Type 0
InvOf w h = Inv (shape (table_of w)) h

-- an occupied slot's tag is in range
pub in_range : (w : World) (n : ℕ) (p : Phase) → phase_in w n ≡ p → idle p ≡ 0 → n < 64
in_range w n p e z = occupied_within (table_of w) n (ap idle e ∙ z)

-- a stored reply reads as it was
pub reads_back : (v : Slot) (o : Offer) → response_of (responded_of v (stored_as (response_to v o)) (kept_fds o v)) ≡ response_to v o
reads_back v (result (Ok w) x b) = refl
reads_back v (result (Err e) x b) = refl
reads_back v (one d) = refl
reads_back v listed = refl

-- the list of a Waiting slot is told by no history
pub same_core : (v : Slot) (fds : Fds) (p : Phase) → phase_of v ≡ p → p ≡ Waiting → core (with_fds_of v fds) ≡ core v
same_core v fds p e q = ap (λ (j : Phase). core_by j (with_fds_of v fds)) (e ∙ q) ∙ sym (ap (λ (j : Phase). core_by j v) (e ∙ q))

pub waiting_is : (p : Phase) → is_waiting p ≡ true → p ≡ Waiting
waiting_is Vacant e = absurd (let z : ◌≡◌ {A = ℕ} 0 1 = cc in omega arith)
waiting_is Placeholder e = absurd (let z : ◌≡◌ {A = ℕ} 0 1 = cc in omega arith)
waiting_is Waiting e = refl
waiting_is Responded e = absurd (let z : ◌≡◌ {A = ℕ} 0 1 = cc in omega arith)
waiting_is Fmap e = absurd (let z : ◌≡◌ {A = ℕ} 0 1 = cc in omega arith)

-- queue and scheme number stay
pub record Same (w u : World) : Type 0 where
  pub queue : unread_in u ≡ unread_in w
  pub scheme : scheme_of u ≡ scheme_of w

pub same : {w : World} → Same w w
same = record { queue = refl; scheme = refl }

-- what an entry leaves: the history with what it tells if it is accepted, else as it was; and whom it wakes
abbrev pub Entered-ok : World → List Fact → List Fact → Entered → Type 0
Entered-ok w h told (accepted fx u) = InvOf u (told ++ h) × Same w u × Triples fx × (wakes_in fx ≡ wakes_for h told)
Entered-ok w h told (rejected k fx u) = InvOf u h × Same w u × Silent fx

unmap_silent : (b : Bool) (s : PageSpan) → Silent (unmap_of b s)
unmap_silent true s = silent_none
unmap_silent false s = record { whole = (1, refl); none = refl }

module _ (w : World) (h : List Fact) (whole : WellFormed w) (i : InvOf w h) where
  -- a reply entry, with handles k where it is accepted
  module _ (e j n : ℕ) (o : Offer) (k : Handles) where
    abbrev told : List Fact
    told = to n (serve e j (response_to (slot_in w n) o)) ∷ []

    abbrev Answered : Decision → Type 0
    Answered d = Entered-ok w h told (carried w n d)

    abbrev gone : List ℕ
    gone = numbers (gone_fds o (slot_in w n))

    release_silent : Silent (release_of (slot_in w n) gone (holds_of w))
    release_silent =
        silent_append (unmap_of (eqb (slot_in w n).span.count 0) (slot_in w n).span) (closes_of Replied (holds_of w) gone)
        (unmap_silent (eqb (slot_in w n).span.count 0) (slot_in w n).span) (silent_closes (only (closing Replied) (lasts (holds_of w).holds gone)))

    serve_go : (b : Bool) → phase_in w n ≡ Waiting → (slot_in w n).ended ≡ b → Answered (served_by b (slot_in w n) n o (holds_of w) k)
    serve_go false p q =
        let m = in_range w n Waiting p refl in
        let c = in_phase (shape (table_of w)) h i n Waiting waits p (in_stage (shape (table_of w)) h i n Waiting p) in
        let v = responded_of (slot_in w n) (stored_as (response_to (slot_in w n) o)) (kept_fds o (slot_in w n)) in
        let ke : (book h n).ended ≡ false = ap ended_is (sym c) ∙ q in (
          inv_serve (shape (table_of w)) h i n e j (response_to (slot_in w n) o) (stored_as (response_to (slot_in w n) o)) (kept_fds o (slot_in w n)) (shape (put_at (table_of w) n v))
              (put_stored (table_of w) whole.slots n v m) p q (reads_back (slot_in w n) o),
          record { queue = refl; scheme = refl },
          triples_append (1 ∷ (slot_in w n).caller ∷ n ∷ []) (release_of (slot_in w n) gone (holds_of w)) (1, refl) release_silent.whole,
          ap (λ (l : List ℕ). 1 ∷ (slot_in w n).caller ∷ n ∷ l) release_silent.none ∙ ap (λ (x : ℕ). 1 ∷ x ∷ n ∷ []) (ap caller_is c)
              ∙ sym (ap (λ (b : Bool). cond b [] (1 ∷ (book h n).caller ∷ n ∷ [])) ke),
        )
    serve_go true p q =
        let m = in_range w n Waiting p refl in
        let c = in_phase (shape (table_of w)) h i n Waiting waits p (in_stage (shape (table_of w)) h i n Waiting p) in
        let ke : (book h n).ended ≡ true = ap ended_is (sym c) ∙ q in
        let own = numbers (own_fds o (slot_in w n)) in
        let s =
        silent_append (release_of (slot_in w n) gone (holds_of w)) (closes_of Ended (dropped (holds_of w) gone) own) release_silent
        (silent_closes (only (closing Ended) (lasts (dropped (holds_of w) gone).holds own))) in (
          inv_lose (shape (table_of w)) h i n e j (response_to (slot_in w n) o) (shape (vacate_at (table_of w) n))
              (vacate_stored (table_of w) whole.slots n m whole.next whole.chain (ap idle p)) p q,
          record { queue = refl; scheme = refl },
          s.whole,
          s.none ∙ sym (ap (λ (b : Bool). cond b [] (1 ∷ (book h n).caller ∷ n ∷ [])) ke),
        )

    respond_go :
        (turn : ℕ → Decision) → Answered (turn 77) → Answered (turn 22) → (p : Phase) → phase_in w n ≡ p
        → Answered (respond_by p turn (slot_in w n) n o (holds_of w) k)
    respond_go turn x y Vacant q = x
    respond_go turn x y Placeholder q = x
    respond_go turn x y Waiting q = serve_go (slot_in w n).ended q refl
    respond_go turn x y Responded q = y
    respond_go turn x y Fmap q = y

  obtain_ok : (n k : ℕ) → Entered-ok w h [] (carried w n (obtain_entry_of (slot_in w n) k (holds_of w) (handles_of w)))
  obtain_ok n k =
      checked_cases (λ (d : Decision). Entered-ok w h [] (carried w n d)) (refused_in w n) (obtain_rows (slot_in w n)) (obtained (slot_in w n) k (holds_of w) (handles_of w))
      (λ m. carried_cases (Entered-ok w h []) w n (refused_in w n m) (i, same, (0, refl), refl) (i, same, silent_none))
      (λ f. go (waiting_is (phase_in w n) (waiting (is_waiting (phase_in w n)) (eqb (length (numbers (slot_in w n).fds)) 0) f.1.0)))
    where
      waiting : (a b : Bool) → not a || b ≡ false → a ≡ true
      waiting true b e = refl
      waiting false b e = absurd (let z : ◌≡◌ {A = ℕ} 0 1 = cc in omega arith)

      go : phase_in w n ≡ Waiting → Entered-ok w h [] (carried w n (obtained (slot_in w n) k (holds_of w) (handles_of w)))
      go p =
          let v = with_fds_of (slot_in w n) (obtain_of (holds_of w) (handles_of w) (slot_in w n).fds k).list in
          let s = silent_closes (obtain_lasts (numbers (slot_in w n).fds) (holds_of w) (handles_of w) k) in (
            inv_same (shape (table_of w)) (shape (put_at (table_of w) n v)) h n v i (put_stored (table_of w) whole.slots n v (in_range w n Waiting p refl)) Waiting p p
                (same_core (slot_in w n) v.fds Waiting p refl),
            record { queue = refl; scheme = refl },
            s.whole,
            s.none,
          )

  module _ (e j : ℕ) (c : Cqe) where
    -- told of an entry of this kind
    abbrev told_by : Option CqeOpcode → List Fact
    told_by k = map (λ o. to c.tag (serve e j (response_to (slot_in w c.tag) o))) (offers k w c)

    event_go : (b : Bool) → Entered-ok w h [] (entry_by (event_if b c) w c.tag)
    event_go true = (i, same, (1, refl), refl)
    event_go false = (i, same, silent_none)

    obtain_go : (b : Bool) → Entered-ok w h [] (entry_by (obtain_if b c) w c.tag)
    obtain_go true = obtain_ok c.tag c.result
    obtain_go false = (i, same, silent_none)

    regular_go :
        (o : Offer)
        → Entered-ok w h (to c.tag (serve e j (response_to (slot_in w c.tag) o)) ∷ [])
        (carried w c.tag (respond_by (phase_in w c.tag) (refused_in w c.tag) (slot_in w c.tag) c.tag o (holds_of w) (handles_of w)))
    regular_go o =
        respond_go e j c.tag o (handles_of w) (refused_in w c.tag) (i, same, silent_none) (i, same, silent_none) (phase_in w c.tag) refl

    -- is the handle empty
    handle_go :
        (b : Bool)
        → Entered-ok w h (told_by (Some RespondWithFd))
        (carried w c.tag (cond b (refused_in w c.tag 22) (by_descriptor (slot_in w c.tag) c.tag c.result (holds_of w) (handles_of w))))
    handle_go true = (i, same, silent_none)
    handle_go false =
        let s = silent_closes (only (closing Refused) (lasts (holds_of w).holds (numbers (named_of (in_handle (handles_of w) c.result))))) in
        respond_go e j c.tag (one (in_handle (handles_of w) c.result)) (emptied (handles_of w) c.result)
        (taken_out (slot_in w c.tag) c.result (holds_of w) (handles_of w)) (i, record { queue = refl; scheme = refl }, s) (i, record { queue = refl; scheme = refl }, s)
        (phase_in w c.tag) refl

    kind_go : (k : Option CqeOpcode) → Entered-ok w h (told_by k) (entry_by (parsed_by k c) w c.tag)
    kind_go (Some RespondRegular) = regular_go _
    kind_go (Some RespondWithFd) = handle_go (eqb (held_at (handles_of w) c.result) 0)
    kind_go (Some SendFevent) = event_go (within event_flags c.tag)
    kind_go (Some ObtainFd) = obtain_go (within fobtain_fd_flags (extra_of c))
    kind_go (Some RespondWithMultipleFds) = regular_go listed
    kind_go (Some RespondAndNotifyOnDetach) = regular_go _
    kind_go None = (i, same, silent_none)

    pub entry_ok : Entered-ok w h (served e j w c) (entry_of w c)
    entry_ok = kind_go (cqe_opcode_of (kind_of c))
