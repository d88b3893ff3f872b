-- The slot that a history calls for, and what its phase says of the tag's call. Assumes nothing.
use Prim.Native.Nat.{ℕ}
use mathlib.Core.Path.{◌≡◌, refl, subst}
use mathlib.Core.Bool.{Bool, true, false, ◌||◌}
use native.Mathlib.Omega.{arith}
use Rattle.slot.specs.declared.Phase.{Phase}
use Rattle.slot.specs.declared.Phase.TheVariants.{Vacant, Placeholder, Waiting, Responded, Fmap}
use Rattle.slot.specs.declared.Slot.{Slot}
use Rattle.slot.specs.Slots.{phase_of}
use Rattle.events.specs.Outcome.{Response, success}
use Rattle.events.specs.Wake.{response_of}
use Rattle.events.specs.History.{Stage, free, reserved, waits, replied, mapping, Call}

pub clash : {A : Type 0} (b : Bool) → b ≡ true → b ≡ false → A
clash b p q = absurd (let z : ◌≡◌ {A = ℕ} 0 1 = cc in omega arith)

-- what a history tells of a slot: caller; cancelling; ended; returned; the reply that it holds
pub data Core : Type 0 where
  vacant : Core
  placeholder : (c : ℕ) (e : Bool) → Core
  waiting : (c : ℕ) (x e r : Bool) → Core
  responded : (c : ℕ) (e r : Bool) (v : Response) → Core
  mapped : (c : ℕ) (e : Bool) → Core

abbrev pub core_by : Phase → Slot → Core
core_by Vacant v = vacant
core_by Placeholder v = placeholder v.caller v.ended
core_by Waiting v = waiting v.caller v.canceling v.ended v.returned
core_by Responded v = responded v.caller v.ended v.returned (response_of v)
core_by Fmap v = mapped v.caller v.ended

abbrev pub core : Slot → Core
core v = core_by (phase_of v) v

abbrev pub phase_is : Core → Phase
phase_is vacant = Vacant
phase_is (placeholder c e) = Placeholder
phase_is (waiting c x e r) = Waiting
phase_is (responded c e r v) = Responded
phase_is (mapped c e) = Fmap

abbrev pub caller_is : Core → ℕ
caller_is vacant = 0
caller_is (placeholder c e) = c
caller_is (waiting c x e r) = c
caller_is (responded c e r v) = c
caller_is (mapped c e) = c

abbrev pub canceling_is : Core → Bool
canceling_is vacant = false
canceling_is (placeholder c e) = false
canceling_is (waiting c x e r) = x
canceling_is (responded c e r v) = false
canceling_is (mapped c e) = false

abbrev pub ended_is : Core → Bool
ended_is vacant = false
ended_is (placeholder c e) = e
ended_is (waiting c x e r) = e
ended_is (responded c e r v) = e
ended_is (mapped c e) = e

abbrev pub returned_is : Core → Bool
returned_is vacant = false
returned_is (placeholder c e) = false
returned_is (waiting c x e r) = r
returned_is (responded c e r v) = r
returned_is (mapped c e) = false

abbrev pub reads_is : Core → Response
reads_is vacant = success 0 0 false
reads_is (placeholder c e) = success 0 0 false
reads_is (waiting c x e r) = success 0 0 false
reads_is (responded c e r v) = v
reads_is (mapped c e) = success 0 0 false

abbrev pub dress : Stage → Call → Core
dress free k = vacant
dress reserved k = placeholder k.caller k.ended
dress waits k = waiting k.caller (k.was_blocked || k.returned) k.ended k.returned
dress (replied r) k = responded k.caller k.ended k.returned r
dress mapping k = mapped k.caller k.ended

abbrev pub wanted : Call → Core
wanted k = dress k.stage k

abbrev pub phase_at : Stage → Phase
phase_at free = Vacant
phase_at reserved = Placeholder
phase_at waits = Waiting
phase_at (replied r) = Responded
phase_at mapping = Fmap

pub core_phase : (p : Phase) (v : Slot) → phase_is (core_by p v) ≡ p
core_phase Vacant v = refl
core_phase Placeholder v = refl
core_phase Waiting v = refl
core_phase Responded v = refl
core_phase Fmap v = refl

pub dress_phase : (s : Stage) (k : Call) → phase_is (dress s k) ≡ phase_at s
dress_phase free k = refl
dress_phase reserved k = refl
dress_phase waits k = refl
dress_phase (replied r) k = refl
dress_phase mapping k = refl

-- the stage that a phase tells
abbrev pub StageIn : Phase → Stage → Type 0
StageIn Vacant s = s ≡ free
StageIn Placeholder s = s ≡ reserved
StageIn Waiting s = s ≡ waits
StageIn Responded s = (r : Response) × (s ≡ replied r)
StageIn Fmap s = s ≡ mapping

stage_at : (s : Stage) → StageIn (phase_at s) s
stage_at free = refl
stage_at reserved = refl
stage_at waits = refl
stage_at (replied r) = (r, refl)
stage_at mapping = refl

pub stage_in : (s : Stage) (p : Phase) → phase_at s ≡ p → StageIn p s
stage_in s p e = subst (λ (q : Phase). StageIn q s) e (stage_at s)

-- stages told apart by a number
abbrev pub num : Stage → ℕ
num free = 0
num reserved = 1
num waits = 2
num (replied r) = 3
num mapping = 4
