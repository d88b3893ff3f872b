-- Plans by their cases. Assumes nothing.
use Rattle.std.specs.Prelude.{Option, Some, None, Result, Ok, Err, set}
use Prim.Native.Nat.{ℕ, suc, ◌+◌, ◌-◌}
use mathlib.Core.Path.{◌≡◌, refl, sym, ap, ap₂, subst, ◌∙◌}
use mathlib.Core.Bool.{Bool, true, false, not, cond, ◌||◌, ◌&&◌}
use mathlib.Core.List.{List, [], ◌∷◌, ◌++◌, append-nil, append_assoc}
use native.Mathlib.Omega.{arith}
use native.Mathlib.Numerals.{add-one}
use lib.Dec.{leb, eqb}
use lib.ListN.{get_or, drop, length}
use borrow.Author.Tests.{eq-eqb, ne_eqb, eqb-false}
use Rattle.answer.specs.declared.Refusal.{Refusal}
use Rattle.answer.specs.declared.Refusal.TheVariants.{NotFound, NoCaller, Interrupted, Again, Invalid, BadDescriptor, NotSupported, NotYours, Full, QueueFull, ShortWords, BadArgument, TooManyFds, TooManyHolds}
use Rattle.answer.specs.Numbered.{refusal_number}
use Rattle.closes.specs.declared.Reason.TheVariants.{Replied, Ended, Refused, Unusable}
use Rattle.closes.specs.Closes.{closing, only, closes}
use Rattle.counts.specs.Counts.{lasts}
use Rattle.effect.specs.declared.EffectWords.{EffectWords}
use Rattle.fd_list.specs.declared.List.{List as Fds}
use Rattle.fd_list.specs.Lists.{desc, named, numbers, list_of, rest_of}
use Rattle.fd_list.proofs.Laws.{picked}
use Rattle.handles.specs.declared.Handles.{Handles}
use Rattle.handles.specs.Handles.{handles_with, held_at, is_free, emptied, obtain_by, obtain_in, obtain_lasts}
use Rattle.holds.specs.declared.Holds.{Holds}
use Rattle.ids.specs.declared.Description.{Description}
use Rattle.ids.specs.declared.Handle.{Handle}
use Rattle.parse_cqe.specs.declared.ParsedCqe.{ParsedCqe}
use Rattle.parse_cqe.specs.declared.ParsedCqe.TheVariants as parsed
use Rattle.parse_cqe.specs.declared.CqeError.{CqeError}
use Rattle.reply_parts.specs.declared.Offer.{Offer}
use Rattle.reply_parts.specs.declared.Offer.TheVariants as offer
use Rattle.reply_parts.specs.declared.Parts.{Parts}
use Rattle.reply_parts.specs.Parts.{offered, parts_of}
use Rattle.slot.specs.declared.Act.TheVariants.{Leave, Store, Vacate}
use Rattle.slot.specs.declared.Phase.{Phase}
use Rattle.slot.specs.declared.Phase.TheVariants.{Vacant, Placeholder, Waiting, Responded, Fmap}
use Rattle.slot.specs.declared.Slot.{Slot}
use Rattle.slot.specs.Slots.{phase_of, no_fds, no_span, vacant_slot, responded_of, with_fds_of}
use Rattle.events.specs.Outcome.{event_effect}
use Rattle.events.specs.Entry.{Decision, decided, dropped, closes_of, unmap_of, refused_of, Offer as EntryOffer, one, named_of, stored_of, lost_of, served_by, respond_by, respond_of, in_handle, taken_out, by_descriptor, descriptor_of, is_vacant, is_waiting, obtained_as, obtained, obtain_entry_of, decision_of}
use Rattle.plan.specs.declared.Change.{Change}
use Rattle.plan.specs.declared.Plan.{Plan}
use Rattle.wish.specs.declared.Wish.{Wish}
use Rattle.wish.specs.declared.Wish.TheVariants as wish
use Rattle.wish.specs.Wishes.{handle_in, wish_of}
use Rattle.plan.specs.Plans.{Holding, replied_of, effects_by, number_by, nothing_of, decision_by, Plans}

-- no refusal has number 0
pub above_zero : (e : Refusal) → refusal_number e ≡ 0 → ⊥
above_zero NotFound q = omega (arith, q)
above_zero NoCaller q = omega (arith, q)
above_zero Interrupted q = omega (arith, q)
above_zero Again q = omega (arith, q)
above_zero Invalid q = omega (arith, q)
above_zero BadDescriptor q = omega (arith, q)
above_zero NotSupported q = omega (arith, q)
above_zero NotYours q = omega (arith, q)
above_zero Full q = omega (arith, q)
above_zero QueueFull q = omega (arith, q)
above_zero ShortWords q = omega (arith, q)
above_zero BadArgument q = omega (arith, q)
above_zero TooManyFds q = omega (arith, q)
above_zero TooManyHolds q = omega (arith, q)

-- a reply to a waiting slot
module _ (v : Slot) (t : ℕ) (o : Offer) (p : Parts) (is : p ≡ parts_of v (offered o)) where
  abbrev gone : List ℕ
  gone = numbers p.gone

  abbrev lost : Slot → Bool → Plan
  lost u f = record { refusal = None; act = Vacate; slot = u; first = record { kind = 0; a = 0; b = 0 }; span = v.span; gone = p.gone; own = p.own; closing = f; change = None }

  lost_fx : (h : Holds) (f : Bool) → f ≡ closing Ended → effects_by (lost vacant_slot f) h ≡ (unmap_of (eqb v.span.count 0) v.span ++ closes_of Replied h gone) ++ closes_of Ended (dropped h gone) (numbers p.own)
  lost_fx h f r =
      ap (λ (b : Bool). unmap_of (eqb v.span.count 0) v.span ++ (closes_of Replied h gone ++ closes (only b (lasts (dropped h gone).holds (numbers p.own))))) r
      ∙ sym (append_assoc (unmap_of (eqb v.span.count 0) v.span) (closes_of Replied h gone) (closes_of Ended (dropped h gone) (numbers p.own)))

  pub lost_is :
      (u : Slot) (f : Bool) → u ≡ vacant_slot → f ≡ closing Ended → (h : Holds) (n : Handles)
      → decision_by (lost u f) h n ≡ served_by true v t (offered o) h n
  lost_is u f eu r h n =
      (λ i. decided 0 Vacate (eu i) (dropped (dropped h gone) (numbers p.own)) n (lost_fx h f r i))
      ∙ ap (λ (x : Parts). lost_of v (numbers x.gone) (numbers x.own) h n) is

  abbrev kept : Slot → EffectWords → Plan
  kept u f = record { refusal = None; act = Store; slot = u; first = f; span = v.span; gone = p.gone; own = no_fds; closing = false; change = None }

  pub stored_is :
      (u : Slot) (f : EffectWords) → u ≡ responded_of v p.reply p.kept → f ≡ record { kind = 1; a = v.caller; b = t } → (h : Holds) (n : Handles)
      → decision_by (kept u f) h n ≡ served_by false v t (offered o) h n
  stored_is u f eu ef h n =
      ap₂ (λ (x : Slot) (y : EffectWords). decision_by (kept x y) h n) eu ef
      ∙ ap (λ (x : List ℕ). decided 0 Store (responded_of v p.reply p.kept) (dropped h gone) n (1 ∷ v.caller ∷ t ∷ (unmap_of (eqb v.span.count 0) v.span ++ x))) (append-nil (closes_of Replied h gone))
      ∙ ap (λ (x : Parts). stored_of v t x.reply x.kept (numbers x.gone) h n) is

-- by the slot's phase
module _ (v : Slot) (t : ℕ) (o : Offer) where
  pub in_phase :
      (r : Plan) (p : Phase) → phase_of v ≡ p → ((h : Holds) (n : Handles) → decision_by r h n ≡ respond_by p (refused_of v h n) v t (offered o) h n)
      → (k x : ℕ) → Plans r k x (λ h n. respond_of v t (offered o) h n)
  in_phase r p e f k x h n z = f h n ∙ ap (λ (y : Phase). respond_by y (refused_of v h n) v t (offered o) h n) (sym e)

  pub in_waiting :
      (r : Plan) (b : Bool) → phase_of v ≡ Waiting → v.ended ≡ b → ((h : Holds) (n : Handles) → decision_by r h n ≡ served_by b v t (offered o) h n)
      → (k x : ℕ) → Plans r k x (λ h n. respond_of v t (offered o) h n)
  in_waiting r b e q f = in_phase r Waiting e (λ h n. f h n ∙ ap (λ (y : Bool). served_by y v t (offered o) h n) (sym q))

-- a reply out of a handle: accepted it is what it is whatever a refusal leaves, and refused it is the refusal
module _ (turn : ℕ → Decision) (v : Slot) (t : ℕ) (o : EntryOffer) (h : Holds) (n : Handles) where
  served_zero : (b : Bool) → (served_by b v t o h n).number ≡ 0
  served_zero true = refl
  served_zero false = refl

  accepted : (p : Phase) → (respond_by p (refused_of v h n) v t o h n).number ≡ 0 → respond_by p (refused_of v h n) v t o h n ≡ respond_by p turn v t o h n
  accepted Vacant e = absurd (omega (arith, e))
  accepted Placeholder e = absurd (omega (arith, e))
  accepted Waiting e = refl
  accepted Responded e = absurd (omega (arith, e))
  accepted Fmap e = absurd (omega (arith, e))

  refused_by : (p : Phase) → ((respond_by p (refused_of v h n) v t o h n).number ≡ 0 → ⊥) → turn (respond_by p (refused_of v h n) v t o h n).number ≡ respond_by p turn v t o h n
  refused_by Vacant z = refl
  refused_by Placeholder z = refl
  refused_by Waiting z = absurd (z (served_zero v.ended))
  refused_by Responded z = refl
  refused_by Fmap z = refl

  served_handles : (b : Bool) → (served_by b v t o h n).handles ≡ n
  served_handles true = refl
  served_handles false = refl

  respond_handles : (p : Phase) → (respond_by p (refused_of v h n) v t o h n).handles ≡ n
  respond_handles Vacant = refl
  respond_handles Placeholder = refl
  respond_handles Waiting = served_handles v.ended
  respond_handles Responded = refl
  respond_handles Fmap = refl

module _ (v : Slot) (t : ℕ) (k : Handle) (m x : ℕ) (is : x ≡ suc m) where
  abbrev From : Plan → Type 0
  From r = Plans r k.0 x (λ h n. by_descriptor v t k.0 h n)

  module _ (r : Plan) (f : (j y : ℕ) → Plans r j y (λ h n. respond_of v t (one m) h n)) where
    in_it : (n : Handles) → held_at n k.0 ≡ x → m ≡ in_handle n k.0
    in_it n e = omega (arith, e, is)

    -- what respond comes to, the handle emptied
    answered : (h : Holds) (n : Handles) → held_at n k.0 ≡ x → decision_by r h (emptied n k.0) ≡ respond_of v t (one (in_handle n k.0)) h (emptied n k.0)
    answered h n e = f 0 (held_at (emptied n k.0) 0) h (emptied n k.0) refl ∙ ap (λ (y : ℕ). respond_of v t (one y) h (emptied n k.0)) (in_it n e)

    pub given_over :
        number_by r.refusal ≡ 0
        → From (record { refusal = r.refusal; act = r.act; slot = r.slot; first = r.first; span = r.span; gone = r.gone; own = r.own; closing = r.closing; change = Some (record { handle = k; held = 0 }) })
    given_over q h n e =
        let E = answered h n e in
        (λ i. decided (E i).number (E i).act (E i).slot (E i).holds (sym (respond_handles (taken_out v k.0 h n) v t (one (in_handle n k.0)) h (emptied n k.0) (phase_of v)) i) (E i).effects)
        ∙ accepted (taken_out v k.0 h n) v t (one (in_handle n k.0)) h (emptied n k.0) (phase_of v) (sym (ap (λ (d : Decision). d.number) E) ∙ q)

    -- refused, with the description's hold dropped: built on a plan of nothing
    abbrev out : Refusal → Plan → Fds → Bool → Plan
    out j p own g = record { refusal = Some j; act = p.act; slot = p.slot; first = p.first; span = p.span; gone = p.gone; own = own; closing = g; change = Some (record { handle = k; held = 0 }) }

    pub turned_out : (j : Refusal) → r.refusal ≡ Some j → (p : Plan) → p ≡ nothing_of v → (own : Fds) (g : Bool) → own ≡ named_of m → g ≡ closing Refused → From (out j p own g)
    turned_out j ej p ep own g eo eg h n eh =
        let E = answered h n eh in
        let N : refusal_number j ≡ (respond_of v t (one (in_handle n k.0)) h (emptied n k.0)).number = ap number_by (sym ej) ∙ ap (λ (d : Decision). d.number) E in
        (λ i. decision_by (out j (ep i) ((eo ∙ ap named_of (in_it n eh)) i) (eg i)) h n)
        ∙ ap (λ (l : ℕ). decided l Leave v (dropped h (numbers (named_of (in_handle n k.0)))) (emptied n k.0) (closes_of Refused h (numbers (named_of (in_handle n k.0))))) N
        ∙ refused_by (taken_out v k.0 h n) v t (one (in_handle n k.0)) h (emptied n k.0) (phase_of v) (λ y. above_zero j (N ∙ y))

-- a reply, by what it offers
module _ (v : Slot) (t : ℕ) (k x : ℕ) where
  abbrev Replies : Offer → Plan → Type 0
  Replies o r = Plans r k x (λ h n. replied_of o v t k h n)

  pub offered_is : (o q : Offer) (r : Plan) → o ≡ q → Replies q r → Replies o r
  offered_is o q r e f = subst (λ (y : Offer). Replies y r) (sym e) f

  -- what it responds, with the same offer
  pub responds : (o q : Offer) (r : Plan) → o ≡ q → ((j y : ℕ) → Plans r j y (λ h n. respond_of v t (offered o) h n)) → (j y : ℕ) → Plans r j y (λ h n. respond_of v t (offered q) h n)
  responds o q r e f = subst (λ (u : Offer). (j y : ℕ) → Plans r j y (λ h n. respond_of v t (offered u) h n)) e f

  pub held_by : (o q : Offer) → o ≡ q → Holding o x → Holding q x
  held_by o q e h = subst (λ (y : Offer). Holding y x) e h

-- an obtain entry
head_of : (ns : List ℕ) → (length ns ≡ 0 → ⊥) → ns ≡ get_or ns 0 0 ∷ drop 1 ns
head_of [] z = absurd (z refl)
head_of (d ∷ ds) z = refl

module _ (v : Slot) (k : Handle) (x : ℕ) where
  abbrev Ob : Plan → Type 0
  Ob r = Plans r k.0 x (λ h n. obtain_entry_of v k.0 h n)

  pub obtain_vacant : (r : Plan) → phase_of v ≡ Vacant → ((j y : ℕ) → Plans r j y (λ h n. refused_of v h n 22)) → Ob r
  obtain_vacant r e f h n z = let q : is_vacant (phase_of v) ≡ true = ap is_vacant e in f k.0 x h n z ∙ sym (rw q refl)

  pub obtain_other : (r : Plan) → is_vacant (phase_of v) ≡ false → is_waiting (phase_of v) ≡ false → ((j y : ℕ) → Plans r j y (λ h n. refused_of v h n 2)) → Ob r
  obtain_other r a b f h n z = f k.0 x h n z ∙ sym (rw (a, b) refl)

  module _ (e : phase_of v ≡ Waiting) where
    a : is_vacant (phase_of v) ≡ false
    a = ap is_vacant e

    b : is_waiting (phase_of v) ≡ true
    b = ap is_waiting e

    pub obtain_none : (r : Plan) → length (numbers v.fds) ≡ 0 → ((j y : ℕ) → Plans r j y (λ h n. refused_of v h n 2)) → Ob r
    obtain_none r q f h n z = let c = eq-eqb (length (numbers v.fds)) 0 q in f k.0 x h n z ∙ sym (rw (a, b, c) refl)

    module _ (q : length (numbers v.fds) ≡ 0 → ⊥) (d : Description) (is : d ≡ get_or (named v.fds) 0 (desc 0)) (l : Fds) (el : l ≡ rest_of v.fds) (u : Slot) (eu : u ≡ with_fds_of v l) where
      abbrev by : Bool → Holds → Handles → ℕ → Decision
      by f h n y = obtained_as v (obtain_by f h n v.fds k.0 y) (closes (cond f [] (only (closing Unusable) (lasts h.holds (y ∷ [])))))

      obtained_by : (f : Bool) (h : Holds) (n : Handles) → is_free n k.0 ≡ f → by f h n d.0 ≡ obtain_entry_of v k.0 h n
      obtained_by f h n w =
          let c = ne_eqb (length (numbers v.fds)) 0 q in
          let y : numbers v.fds ≡ d.0 ∷ drop 1 (numbers v.fds) = head_of (numbers v.fds) q ∙ ap (λ (m : ℕ). m ∷ drop 1 (numbers v.fds)) (sym (picked v.fds 0 d is)) in
          sym
          (ap₂ (λ (s t : Bool). cond s (refused_of v h n 22) (cond t (refused_of v h n 2) (obtained v k.0 h n))) a (ap₂ (λ (s t : Bool). not s || t) b c)
          ∙ ap (λ (ns : List ℕ). obtained_as v (obtain_in ns h n v.fds k.0) (closes (obtain_lasts ns h n k.0))) y
          ∙ ap (λ (s : Bool). by s h n d.0) w)

      free_is : (f : Bool) → leb k.0 63 && eqb x 0 ≡ f → (n : Handles) → held_at n k.0 ≡ x → is_free n k.0 ≡ f
      free_is f w n z = ap (λ (y : ℕ). leb k.0 63 && eqb y 0) z ∙ w

      left : u ≡ with_fds_of v (rest_of v.fds)
      left = eu ∙ ap (with_fds_of v) el

      abbrev gained : Fds → Bool → Option Change → Plan
      gained own g c = record { refusal = None; act = Store; slot = u; first = record { kind = 0; a = 0; b = 0 }; span = no_span; gone = no_fds; own = own; closing = g; change = c }

      pub obtain_free : leb k.0 63 && eqb x 0 ≡ true → Ob (gained no_fds false (Some (record { handle = k; held = d.0 + 1 })))
      obtain_free w h n z =
          (λ i. decided 0 Store (left i) h (handles_with (set n.at k.0 (add-one d.0 i))) [])
          ∙ obtained_by true h n (free_is true w n z)

      pub obtain_dropped : (own : Fds) (g : Bool) → leb k.0 63 && eqb x 0 ≡ false → own ≡ list_of (d.0 ∷ []) → g ≡ closing Unusable → Ob (gained own g None)
      obtain_dropped own g w en eg h n z =
          (λ i. decided 0 Store (left i) (dropped h (numbers (en i))) n (closes (only (eg i) (lasts h.holds (numbers (en i))))))
          ∙ obtained_by false h n (free_is false w n z)

-- an entry by what it wishes
abbrev wished_of : Option Wish → Slot → ℕ → Holds → Handles → Decision
wished_of (Some (wish.Event number flags)) v k h n = decided 0 Leave v h n (event_effect number flags)
wished_of (Some (wish.Reply t o)) v k h n = replied_of o v t k h n
wished_of (Some wish.Obtain) v k h n = obtain_entry_of v k h n
wished_of None v k h n = refused_of v h n 22

abbrev Wishing : Option Wish → ℕ → Type 0
Wishing (Some (wish.Event number flags)) x = Unit {0}
Wishing (Some (wish.Reply t o)) x = Holding o x
Wishing (Some wish.Obtain) x = Unit {0}
Wishing None x = Unit {0}

wishes : (p : Result ParsedCqe CqeError) (x : ℕ) → Wishing (wish_of p x) x
wishes (Ok (parsed.TriggerFevent number flags)) x = tt
wishes (Ok (parsed.RegularResponse t r e)) x = tt
wishes (Ok (parsed.ResponseWithFd t k)) x = go (eqb x 0) refl
  where
    go : (b : Bool) → eqb x 0 ≡ b → Wishing (cond b None (Some (wish.Reply t.0 (offer.Fd (x - 1))))) x
    go true q = tt
    go false q = let z = eqb-false x 0 q in omega (arith, z)
wishes (Ok (parsed.ResponseWithMultipleFds t c)) x = tt
wishes (Ok (parsed.ObtainFd t flags k)) x = tt
wishes (Ok (parsed.RespondAndNotifyOnDetach t r e)) x = tt
wishes (Err e) x = tt

wished_is : (p : Result ParsedCqe CqeError) (v : Slot) (x : ℕ) (h : Holds) (n : Handles) → held_at n (handle_in p) ≡ x → wished_of (wish_of p x) v (handle_in p) h n ≡ decision_of p v h n
wished_is (Ok (parsed.TriggerFevent number flags)) v x h n e = refl
wished_is (Ok (parsed.RegularResponse t r y)) v x h n e = refl
wished_is (Ok (parsed.ResponseWithFd t k)) v x h n e = go (eqb x 0) refl
  where
    full : (b : Bool) → eqb x 0 ≡ b → cond b (refused_of v h n 22) (by_descriptor v t.0 k.0 h n) ≡ descriptor_of v t.0 k.0 h n
    full b q = sym (ap (λ (y : Bool). cond y (refused_of v h n 22) (by_descriptor v t.0 k.0 h n)) (ap (λ (y : ℕ). eqb y 0) e ∙ q))

    go : (b : Bool) → eqb x 0 ≡ b → wished_of (cond b None (Some (wish.Reply t.0 (offer.Fd (x - 1))))) v k.0 h n ≡ descriptor_of v t.0 k.0 h n
    go true q = full true q
    go false q = full false q
wished_is (Ok (parsed.ResponseWithMultipleFds t c)) v x h n e = refl
wished_is (Ok (parsed.ObtainFd t flags k)) v x h n e = refl
wished_is (Ok (parsed.RespondAndNotifyOnDetach t r y)) v x h n e = refl
wished_is (Err k) v x h n e = refl

module _ (p : Result ParsedCqe CqeError) (v : Slot) (x : ℕ) (k : Handle) (ek : k.0 ≡ handle_in p) (w : Option Wish) (ew : w ≡ wish_of p x) where
  abbrev Asks : Plan → Type 0
  Asks r = Plans r (handle_in p) x (λ h n. decision_of p v h n)

  -- a plan of what is wished
  pub asked : (u : Option Wish) → w ≡ u → (r : Plan) → (Wishing u x → Plans r k.0 x (λ h n. wished_of u v k.0 h n)) → Asks r
  asked u eu r f h n e =
      let q : wish_of p x ≡ u = sym ew ∙ eu in
      f (subst (λ (y : Option Wish). Wishing y x) q (wishes p x)) h n (ap (held_at n) ek ∙ e)
      ∙ ap₂ (λ (y : Option Wish) (j : ℕ). wished_of y v j h n) (sym q) ek
      ∙ wished_is p v x h n e
