-- A wake by its tests; k is the slot number of the tag n. Assumes nothing.
use Prim.Native.Nat.{ℕ, zero, suc, min, ◌<◌, ◌≤◌}
use mathlib.Core.Path.{◌≡◌, refl, sym, ap, ap₂, ◌∙◌, subst}
use mathlib.Core.Bool.{Bool, true, false, cond}
use mathlib.Core.List.{List, [], ◌∷◌}
use native.Mathlib.Omega.{arith}
use lib.Dec.{eqb, leb, ltb}
use lib.ListN.{get_or}
use borrow.Author.Tests.{lt-ltb, le-ltb, ltb-true}
use Rattle.std.specs.Prelude.{Result}
use Rattle.answer.specs.declared.Accepted.{Accepted}
use Rattle.answer.specs.declared.Refusal.{Refusal}
use Rattle.counts.specs.Counts.{more_all}
use Rattle.fd_list.specs.declared.List.{List as Fds}
use Rattle.fd_list.specs.Lists.{numbers, list_of}
use Rattle.holds.specs.declared.Holds.{Holds}
use Rattle.holds.specs.Holds.{outside_of}
use Rattle.ids.specs.declared.SlotNo.{SlotNo}
use Rattle.ids.specs.declared.Tag.{Tag}
use Rattle.ids.specs.Ids.{slot_of}
use Rattle.schemev2.specs.declared.Sqe.{Sqe}
use Rattle.slot.specs.declared.PageSpan.{PageSpan}
use Rattle.slot.specs.declared.Phase.{Phase}
use Rattle.slot.specs.declared.Phase.TheVariants.{Vacant, Placeholder, Waiting, Responded, Fmap}
use Rattle.slot.specs.declared.Slot.{Slot}
use Rattle.slot.specs.Slots.{phase_of, vacant_slot, canceled_of, interrupted_of}
use Rattle.table.specs.Table.{no_slot}
use Rattle.events.specs.World.{World, table_of, holds_of, queue_of, slot_in, phase_in, queue_full}
use Rattle.events.specs.Outcome.{Answer, Response, Outcome, outcome, said_with, no, blocked, reply, refuse, checked, readable}
use Rattle.events.specs.Wake.{response_by, response_from, response_of, held_in, cancel_entry, handed_over, interrupted, blocked_by, waited_by, woken_by, wakeable, wake_rows}
use Rattle.events.specs.Event.{Event, on, wake, step}
use Rattle.layout.specs.Layout.{plain_of}
use Rattle.layout.specs.Store.{Store, put, vacate, send, outside, stored, stored_all}
use Rattle.packed.specs.Stores.{unless, blocked_stores, waited_stores, woken_stores, stores_of}
use Rattle.step.specs.declared.Step.{Step}
use Rattle.step.specs.Does.{answer_with, Does}
use Rattle.step.proofs.Rows.{turned}
use Rattle.step.proofs.Tests.{slot_of_in}
use Rattle.wake_decision.specs.declared.Decided.{Decided}
use Rattle.wake_decision.specs.declared.Turn.{Turn}
use Rattle.wake_decision.specs.declared.Turn.TheVariants.{Stay, Interrupt, Cancel, HandOver}
use Rattle.wake_decision.specs.Wake.{decided_of}
use Rattle.call_inner.specs.declared.Stored.{Stored}
use Rattle.call_inner.specs.Stored.{list_beside, kept_in}

-- what each turn comes to, and what it stores
abbrev said : Turn → Result Accepted Refusal → World → ℕ → PageSpan → Response → Outcome
said Stay a w n span r = outcome (said_with r a) [] w
said Interrupt a w n span r = interrupted w n span
said Cancel a w n span r = blocked_by false false w n
said HandOver a w n span r = handed_over w n

abbrev stores : Turn → World → ℕ → PageSpan → List Store
stores Stay w n span = []
stores Interrupt w n span = put n (interrupted_of (slot_in w n) span) ∷ []
stores Cancel w n span = put n (canceled_of (slot_in w n)) ∷ send (cancel_entry n) ∷ []
stores HandOver w n span = outside (outside_of (holds_of w) (held_in (response_of (slot_in w n)))).outside ∷ vacate n ∷ []

-- the definitions, by the tests that the decision makes
abbrev waited_as : Bool → Bool → Bool → World → ℕ → PageSpan → Outcome
waited_as true c f w n span = interrupted w n span
waited_as false c f w n span = blocked_by c f w n

abbrev woken_as : Phase → Bool → Bool → Bool → World → ℕ → PageSpan → Outcome
woken_as Vacant k c f w n span = refuse w 77
woken_as Placeholder k c f w n span = refuse w 77
woken_as Waiting k c f w n span = waited_as k c f w n span
woken_as Responded k c f w n span = handed_over w n
woken_as Fmap k c f w n span = refuse w 77

abbrev waited_ss : Bool → Bool → Bool → World → ℕ → PageSpan → List Store
waited_ss true c f w n span = put n (interrupted_of (slot_in w n) span) ∷ []
waited_ss false c f w n span = blocked_stores c f w n

abbrev woken_ss : Phase → Bool → Bool → Bool → World → ℕ → PageSpan → List Store
woken_ss Vacant k c f w n span = []
woken_ss Placeholder k c f w n span = []
woken_ss Waiting k c f w n span = waited_ss k c f w n span
woken_ss Responded k c f w n span = outside (outside_of (holds_of w) (held_in (response_of (slot_in w n)))).outside ∷ vacate n ∷ []
woken_ss Fmap k c f w n span = []

module _ (w : World) (n : ℕ) (span : PageSpan) (r : Response) where
  record Same (d : Decided) (o : Outcome) (ss : List Store) : Type 0 where
    outcome : said d.turn d.answer w n span r ≡ o
    stored : stores d.turn w n span ≡ ss

  both : (d : Decided) → Same d (said d.turn d.answer w n span r) (stores d.turn w n span)
  both d = record { outcome = refl; stored = refl }

  decided_is :
      (p : Phase) (y k c f : Bool)
      → Same (decided_of p y k c f) (checked (refuse w) (wake_rows false p y) (woken_as p k c f w n span)) (unless (wake_rows false p y) (woken_ss p k c f w n span))
  decided_is Vacant y k c f = both (decided_of Vacant y k c f)
  decided_is Placeholder y k c f = both (decided_of Placeholder y k c f)
  decided_is Fmap y k c f = both (decided_of Fmap y k c f)
  decided_is Waiting false k c f = both (decided_of Waiting false k c f)
  decided_is Waiting true true c f = both (decided_of Waiting true true c f)
  decided_is Waiting true false true f = both (decided_of Waiting true false true f)
  decided_is Waiting true false false true = both (decided_of Waiting true false false true)
  decided_is Waiting true false false false = both (decided_of Waiting true false false false)
  decided_is Responded false k c f = both (decided_of Responded false k c f)
  decided_is Responded true k c f = both (decided_of Responded true k c f)

module _ (w : World) (n killed : ℕ) (span : PageSpan) where
  waited_is : (k : Bool) → waited_as k (slot_in w n).canceling (queue_full w) w n span ≡ waited_by k w n span
  waited_is true = refl
  waited_is false = refl

  woken_is : (p : Phase) → woken_as p (eqb killed 1) (slot_in w n).canceling (queue_full w) w n span ≡ woken_by p w n killed span
  woken_is Vacant = refl
  woken_is Placeholder = refl
  woken_is Waiting = waited_is (eqb killed 1)
  woken_is Responded = refl
  woken_is Fmap = refl

  waited_ss_lem : (k : Bool) → waited_ss k (slot_in w n).canceling (queue_full w) w n span ≡ waited_stores k w n span
  waited_ss_lem true = refl
  waited_ss_lem false = refl

  woken_ss_lem : (p : Phase) → woken_ss p (eqb killed 1) (slot_in w n).canceling (queue_full w) w n span ≡ woken_stores p w n killed span
  woken_ss_lem Vacant = refl
  woken_ss_lem Placeholder = refl
  woken_ss_lem Waiting = waited_ss_lem (eqb killed 1)
  woken_ss_lem Responded = refl
  woken_ss_lem Fmap = refl

-- a tag over 63 names no slot: its slot is vacant, and nothing is done there
low : (w : World) (n : ℕ) → (phase_in w n ≡ Vacant → ⊥) → min n 64 ≡ n
low w n z = go (ltb n 64) refl z
  where
    go : (b : Bool) → ltb n 64 ≡ b → (phase_of (cond b (get_or (table_of w).slots n no_slot) vacant_slot) ≡ Vacant → ⊥) → min n 64 ≡ n
    go true e z = omega (arith, ltb-true n 64 e)
    go false e z = absurd (z refl)

abbrev stays : Turn → ℕ
stays Stay = 0
stays Interrupt = 1
stays Cancel = 2
stays HandOver = 3

module _ (ws : List ℕ) (n : Tag) (c killed base count : ℕ) where
  abbrev span : PageSpan
  span = record { base = base; count = count }

  abbrev w : World
  w = plain_of ws

  abbrev e : Event
  e = on (wake n.0 c killed base count)

  pub bad_killed : 1 < killed → (a : Answer) (fx : List ℕ) → a ≡ no 205 → fx ≡ [] → Does ws ws e a fx
  bad_killed q =
      let b = lt-ltb 1 killed q in
      turned ws e (wake_rows (ltb 1 killed) (phase_in w n.0) (wakeable (slot_in w n.0) c)) (woken_by (phase_in w n.0) w n.0 killed span) (woken_stores (phase_in w n.0) w n.0 killed span) refl refl 205
      (rw b refl)

  module _ (x : killed ≤ 1) (k : SlotNo) (is : k ≡ slot_of n) (v : Slot) (at : v ≡ slot_in w k.0) (unread : ℕ) (ul : unread ≡ (queue_of w).len) (d : Decided) (ed : d ≡ decided_of (phase_of v) (wakeable v c) (eqb killed 1) v.canceling (leb 128 unread)) where
    here : v ≡ slot_in w n.0
    here = at ∙ ap (λ (y : SlotNo). slot_in w y.0) is ∙ slot_of_in w n.0

    abbrev told : Decided
    told = decided_of (phase_in w n.0) (wakeable (slot_in w n.0) c) (eqb killed 1) (slot_in w n.0).canceling (queue_full w)

    told_is : d ≡ told
    told_is = ed ∙ λ i. decided_of (phase_of (here i)) (wakeable (here i) c) (eqb killed 1) (here i).canceling (leb 128 (ul i))

    module _ (r : Response) where
      abbrev Rows : Outcome → List Store → Type 0
      Rows o ss = Same w n.0 span r told o ss

      same :
          Rows (checked (refuse w) (wake_rows false (phase_in w n.0) (wakeable (slot_in w n.0) c)) (woken_as (phase_in w n.0) (eqb killed 1) (slot_in w n.0).canceling (queue_full w) w n.0 span))
          (unless (wake_rows false (phase_in w n.0) (wakeable (slot_in w n.0) c)) (woken_ss (phase_in w n.0) (eqb killed 1) (slot_in w n.0).canceling (queue_full w) w n.0 span))
      same = decided_is w n.0 span r (phase_in w n.0) (wakeable (slot_in w n.0) c) (eqb killed 1) (slot_in w n.0).canceling (queue_full w)

      whole : said told.turn told.answer w n.0 span r ≡ step w e
      whole =
          same.outcome
          ∙ ap₂ (λ (b : Bool) (o : Outcome). checked (refuse w) (wake_rows b (phase_in w n.0) (wakeable (slot_in w n.0) c)) o) (sym (le-ltb 1 killed x)) (woken_is w n.0 killed span (phase_in w n.0))

      all_stores : stores told.turn w n.0 span ≡ stores_of w e
      all_stores =
          same.stored
          ∙ ap₂ (λ (b : Bool) (ss : List Store). unless (wake_rows b (phase_in w n.0) (wakeable (slot_in w n.0) c)) ss) (sym (le-ltb 1 killed x)) (woken_ss_lem w n.0 killed span (phase_in w n.0))

      does : (t : Turn) → d.turn ≡ t → (xs : List ℕ) (a : Answer) (fx : List ℕ) → a ≡ (said t d.answer w n.0 span r).answer → fx ≡ (said t d.answer w n.0 span r).effects → xs ≡ stored_all ws (stores t w n.0 span) → Does ws xs e a fx
      does t et xs a fx ea ef ex =
          let q : said t d.answer w n.0 span r ≡ step w e = ap (λ (u : Turn). said u d.answer w n.0 span r) (sym et) ∙ ap (λ (u : Decided). said u.turn u.answer w n.0 span r) told_is ∙ whole in
          let z : stores t w n.0 span ≡ stores_of w e = ap (λ (u : Turn). stores u w n.0 span) (sym et) ∙ ap (λ (u : Decided). stores u.turn w n.0 span) told_is ∙ all_stores in
          record { answer = ea ∙ ap (λ (o : Outcome). o.answer) q; effects = ef ∙ ap (λ (o : Outcome). o.effects) q; words = ex ∙ ap (stored_all ws) z }

    pub stay : (r : Response) (a : Answer) (fx : List ℕ) → d.turn ≡ Stay → a ≡ said_with r d.answer → fx ≡ [] → Does ws ws e a fx
    stay r a fx et ea ef = does r Stay et ws a fx ea ef refl

    -- a slot that something is done to is within the 64
    not_vacant : (t : Turn) → d.turn ≡ t → (stays t ≡ 0 → ⊥) → k.0 ≡ n.0
    not_vacant t et z =
        ap (λ (y : SlotNo). y.0) is
        ∙ low w n.0
        (λ q. z (ap stays (sym et ∙ ap (λ (u : Decided). u.turn) told_is ∙ ap (λ (p : Phase). (decided_of p (wakeable (slot_in w n.0) c) (eqb killed 1) (slot_in w n.0).canceling (queue_full w)).turn) q)))

    pub killed_now :
        (r : Response) (a : Answer) (fx : List ℕ) (u : Slot) (xs : List ℕ) → d.turn ≡ Interrupt → a ≡ no 4 → fx ≡ [] → u ≡ interrupted_of v span → xs ≡ stored ws (put k.0 u)
        → Does ws xs e a fx
    killed_now r a fx u xs et ea ef eu ex =
        let j = not_vacant Interrupt et (λ q. omega (arith, q)) in
        does r Interrupt et xs a fx ea ef (ex ∙ ap₂ (λ (m : ℕ) (y : Slot). stored ws (put m y)) j (eu ∙ ap (λ (y : Slot). interrupted_of y span) here))

    pub blocked_now :
        (r : Response) (a : Answer) (fx : List ℕ) (u : Slot) (g : Sqe) (xs : List ℕ) → d.turn ≡ Cancel → a ≡ blocked → fx ≡ readable w → u ≡ canceled_of v → g ≡ cancel_entry k.0
        → xs ≡ stored_all ws (put k.0 u ∷ send g ∷ []) → Does ws xs e a fx
    blocked_now r a fx u g xs et ea ef eu eg ex =
        let j = not_vacant Cancel et (λ q. omega (arith, q)) in
        does r Cancel et xs a fx ea ef (ex ∙ λ i. stored_all ws (put (j i) ((eu ∙ ap canceled_of here) i) ∷ send ((eg ∙ ap cancel_entry j) i) ∷ []))

    pub handed :
        (a : Answer) (fx : List ℕ) (o : Fds) (xs ys : List ℕ) → d.turn ≡ HandOver → a ≡ reply (response_of (slot_in w n.0)) → fx ≡ [] → outside_of (holds_of w) (numbers o) ≡ outside_of (holds_of w) (held_in (response_of v))
        → xs ≡ stored ws (outside (more_all (holds_of w).outside (numbers o))) → ys ≡ stored xs (vacate k.0) → Does ws ys e a fx
    handed a fx o xs ys et ea ef eo ex ey =
        let j = not_vacant HandOver et (λ q. omega (arith, q)) in
        let h : more_all (holds_of w).outside (numbers o) ≡ (outside_of (holds_of w) (held_in (response_of (slot_in w n.0)))).outside = ap (λ (z : Holds). z.outside) eo ∙ ap (λ (y : Slot). (outside_of (holds_of w) (held_in (response_of y))).outside) here in
        does (response_of v) HandOver et ys a fx ea ef
        (ey ∙ λ i. stored ((ex ∙ ap (λ (z : List ℕ). stored ws (outside z)) h) i) (vacate (j i)))

-- a slot's reply, by its kind
pub kept_alone : (v : Slot) → v.reply.kind < 3 → record { reply = v.reply; fds = list_of [] } ≡ kept_in v
kept_alone v h = ap (λ (l : Fds). record { reply = v.reply; fds = l }) (go v.reply.kind h)
  where
    go : (k : ℕ) → k < 3 → list_of [] ≡ list_beside k v.fds
    go zero h = refl
    go (suc zero) h = refl
    go (suc (suc zero)) h = refl
    go (suc (suc (suc k))) h = absurd (omega (arith, h))

pub kept_many : (v : Slot) → 3 ≤ v.reply.kind → record { reply = v.reply; fds = v.fds } ≡ kept_in v
kept_many v h = ap (λ (l : Fds). record { reply = v.reply; fds = l }) (go v.reply.kind h)
  where
    go : (k : ℕ) → 3 ≤ k → v.fds ≡ list_beside k v.fds
    go zero h = absurd (omega (arith, h))
    go (suc zero) h = absurd (omega (arith, h))
    go (suc (suc zero)) h = absurd (omega (arith, h))
    go (suc (suc (suc k))) h = refl

kept_response : (v : Slot) → response_from (kept_in v).reply (kept_in v).fds ≡ response_of v
kept_response v = go v.reply.kind
  where
    go : (k : ℕ) → response_by k v.reply (list_beside k v.fds) ≡ response_by k v.reply v.fds
    go zero = refl
    go (suc zero) = refl
    go (suc (suc zero)) = refl
    go (suc (suc (suc k))) = refl

-- a reply that was looked at before the wake is the one that it hands over
pub looked_before : (ws xs : List ℕ) (v : Event) (fx : List ℕ) (a : Result Step Refusal) (r : Stored) (s : Slot) → r ≡ kept_in s → Does ws xs v (answer_with (response_of s) a) fx → Does ws xs v (answer_with (response_from r.reply r.fds) a) fx
looked_before ws xs v fx a r s q d = subst (λ (x : Response). Does ws xs v (answer_with x a) fx) (sym (ap (λ (x : Stored). response_from x.reply x.fds) q ∙ kept_response s)) d
