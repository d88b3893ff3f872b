-- The numbers that can refuse an entry: 77, 22 and 2. Assumes nothing.
use Prim.Native.Nat.{ℕ}
use mathlib.Core.Path.{◌≡◌, refl, sym, subst}
use mathlib.Core.Logic.{◌⊎◌, inl, inr}
use mathlib.Core.Bool.{Bool, true, false, not, cond, ◌||◌}
use mathlib.Core.List.{List}
use lib.Dec.{eqb}
use lib.ListN.{length}
use Rattle.std.specs.Prelude.{Option, Some, None, Result, Ok, Err, IfSome}
use Rattle.answer.specs.declared.Refusal.{Refusal}
use Rattle.answer.specs.Numbered.{refusal_number}
use Rattle.fd_list.specs.Lists.{numbers}
use Rattle.handles.specs.declared.Handles.{Handles}
use Rattle.handles.specs.Handles.{held_at, emptied}
use Rattle.holds.specs.declared.Holds.{Holds}
use Rattle.parse_cqe.specs.declared.ParsedCqe.{ParsedCqe}
use Rattle.parse_cqe.specs.declared.ParsedCqe.TheVariants as parsed
use Rattle.parse_cqe.specs.declared.CqeError.{CqeError}
use Rattle.parse_cqe.specs.Parsed.{parsed_of}
use Rattle.plan.specs.Plans.{number_by}
use Rattle.plan.proofs.Laws.{above_zero}
use Rattle.schemev2.specs.declared.Cqe.{Cqe}
use Rattle.slot.specs.declared.Phase.{Phase}
use Rattle.slot.specs.declared.Phase.TheVariants.{Vacant, Placeholder, Waiting, Responded, Fmap}
use Rattle.slot.specs.declared.Slot.{Slot}
use Rattle.slot.specs.Slots.{phase_of}
use Rattle.events.specs.World.{holds_of, handles_of, slot_in}
use Rattle.events.specs.Entry.{Decision, refused_of, Offer, one, served_by, respond_by, in_handle, by_descriptor, is_vacant, is_waiting, obtained, decision_of}
use Rattle.layout.specs.Layout.{plain_of}
use Rattle.write.specs.Writing.{is_refusal, Enters}

-- a decision's number is 0 or a refusal's
abbrev Fits : Decision → Type 0
Fits d = (d.number ≡ 0) ⊎ (is_refusal d.number ≡ true)

served_fits : (b : Bool) (v : Slot) (t : ℕ) (o : Offer) (h : Holds) (n : Handles) → Fits (served_by b v t o h n)
served_fits true v t o h n = inl refl
served_fits false v t o h n = inl refl

respond_fits :
    (p : Phase) (turn : ℕ → Decision) (v : Slot) (t : ℕ) (o : Offer) (h : Holds) (n : Handles) → Fits (turn 77) → Fits (turn 22) → Fits (respond_by p turn v t o h n)
respond_fits Vacant turn v t o h n x y = x
respond_fits Placeholder turn v t o h n x y = x
respond_fits Waiting turn v t o h n x y = served_fits v.ended v t o h n
respond_fits Responded turn v t o h n x y = y
respond_fits Fmap turn v t o h n x y = y

-- the first row that is due, or what has passed
handle_fits : (b : Bool) (v : Slot) (t k : ℕ) (h : Holds) (n : Handles) → Fits (cond b (refused_of v h n 22) (by_descriptor v t k h n))
handle_fits true v t k h n = inr refl
handle_fits false v t k h n = respond_fits (phase_of v) _ v t (one (in_handle n k)) h (emptied n k) (inr refl) (inr refl)

obtain_fits : (a b : Bool) (v : Slot) (k : ℕ) (h : Holds) (n : Handles) → Fits (cond a (refused_of v h n 22) (cond b (refused_of v h n 2) (obtained v k h n)))
obtain_fits true b v k h n = inr refl
obtain_fits false true v k h n = inr refl
obtain_fits false false v k h n = inl refl

fits : (p : Result ParsedCqe CqeError) (v : Slot) (h : Holds) (n : Handles) → Fits (decision_of p v h n)
fits (Ok (parsed.TriggerFevent number flags)) v h n = inl refl
fits (Ok (parsed.RegularResponse t r x)) v h n = respond_fits (phase_of v) (refused_of v h n) v t.0 _ h n (inr refl) (inr refl)
fits (Ok (parsed.ResponseWithFd t k)) v h n = handle_fits (eqb (held_at n k.0) 0) v t.0 k.0 h n
fits (Ok (parsed.ResponseWithMultipleFds t c)) v h n = respond_fits (phase_of v) (refused_of v h n) v t.0 _ h n (inr refl) (inr refl)
fits (Ok (parsed.ObtainFd t flags k)) v h n =
    obtain_fits (is_vacant (phase_of v)) (not (is_waiting (phase_of v)) || eqb (length (numbers v.fds)) 0) v k.0 h n
fits (Ok (parsed.RespondAndNotifyOnDetach t r x)) v h n = respond_fits (phase_of v) (refused_of v h n) v t.0 _ h n (inr refl) (inr refl)
fits (Err e) v h n = inr refl

-- a number that is not 0 refuses
pub refused_by : (ws xs fx gx : List ℕ) (at : ℕ) (e : Cqe) (k j : ℕ) → Enters ws xs fx gx at e k j → (k ≡ 0 → ⊥) → is_refusal k ≡ true
refused_by ws xs fx gx at e k j a z =
    go (subst (λ (y : ℕ). (y ≡ 0) ⊎ (is_refusal y ≡ true)) (sym a.number) (fits (parsed_of e) (slot_in (plain_of ws) e.tag) (holds_of (plain_of ws)) (handles_of (plain_of ws))))
  where
    go : (k ≡ 0) ⊎ (is_refusal k ≡ true) → is_refusal k ≡ true
    go (inl y) = absurd (z y)
    go (inr y) = y

pub told_refusal : (o : Option Refusal) → ((number_by o ≡ 0 → ⊥) → is_refusal (number_by o) ≡ true) → IfSome o (λ r. is_refusal (refusal_number r) ≡ true)
told_refusal None f = tt
told_refusal (Some r) f = f (above_zero r)
