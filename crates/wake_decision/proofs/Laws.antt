-- The decision by its tests, and what a reply holds. Assumes nothing.
use Prim.Native.Nat.{ℕ, zero, suc, ◌<◌, ◌≤◌}
use mathlib.Core.Path.{◌≡◌, refl, sym, ap, ◌∙◌}
use mathlib.Core.Bool.{Bool, not, ◌&&◌}
use mathlib.Core.List.{[], ◌∷◌}
use native.Mathlib.Omega.{arith}
use lib.Dec.{eqb}
use lib.ListN.{length}
use Rattle.ids.specs.declared.Description.{Description}
use Rattle.ids.specs.Ids.{description_in}
use Rattle.counts.proofs.Steps.{more_out}
use Rattle.fd_list.specs.declared.List.{List as Fds}
use Rattle.fd_list.specs.Lists.{numbers, list_of}
use Rattle.holds.specs.declared.Holds.{Holds}
use Rattle.holds.specs.Holds.{holds_with, outside_of}
use Rattle.slot.specs.declared.Phase.{Phase}
use Rattle.slot.specs.declared.Reply.{Reply}
use Rattle.slot.specs.declared.Slot.{Slot}
use Rattle.events.specs.Wake.{response_by, response_from, held_in, wakeable}
use Rattle.wake_decision.specs.Wake.{decided_of}

-- the decision on a slot
pub wakeable_is :
    (v : Slot) (c : ℕ) (o e r : Bool) → eqb v.caller c ≡ o → v.ended ≡ e → v.returned ≡ r → o && (not e && not r) ≡ wakeable v c
wakeable_is v c o e r qo qe qr = rw (← qo, ← qe, ← qr)

-- what a reply holds: by its stored kind
module _ (h : Holds) (r : Reply) (l : Fds) where
  abbrev Out : ℕ → Holds → Type 0
  Out k o = o ≡ outside_of h (held_in (response_by k r l))

  none_held : (k : ℕ) → k < 2 → Out k h
  none_held zero q = refl
  none_held (suc zero) q = refl
  none_held (suc (suc k)) q = absurd (omega arith)

  pub holds_none : r.kind < 2 → h ≡ outside_of h (held_in (response_from r l))
  holds_none q = none_held r.kind q

  all_held : (k : ℕ) (o : Holds) → 2 < k → o ≡ outside_of h (numbers l) → Out k o
  all_held zero o q e = absurd (omega arith)
  all_held (suc zero) o q e = absurd (omega arith)
  all_held (suc (suc zero)) o q e = absurd (omega arith)
  all_held (suc (suc (suc k))) o q e = e

  pub holds_list : (o : Holds) → 2 < r.kind → o ≡ outside_of h (numbers l) → o ≡ outside_of h (held_in (response_from r l))
  holds_list o q e = all_held r.kind o q e

  one_held : (k : ℕ) (o : Holds) → 2 ≤ k → k ≤ 2 → o ≡ outside_of h (r.word ∷ []) → Out k o
  one_held zero o p q e = absurd (omega arith)
  one_held (suc zero) o p q e = absurd (omega arith)
  one_held (suc (suc zero)) o p q e = e
  one_held (suc (suc (suc k))) o p q e = absurd (omega arith)

  -- a word that names no description has no holds
  pub holds_nothing : 2 ≤ r.kind → r.kind ≤ 2 → length h.outside ≤ r.word → h ≡ outside_of h (held_in (response_from r l))
  holds_nothing p q b = one_held r.kind h p q (ap (holds_with h.holds) (more_out h.outside r.word r.word refl b))

  pub holds_one :
      (o : Holds) (m : Fds) → 2 ≤ r.kind → r.kind ≤ 2 → (d : Description) → d ≡ description_in r.word → m ≡ list_of (d.0 ∷ []) → o ≡ outside_of h (numbers m)
      → o ≡ outside_of h (held_in (response_from r l))
  holds_one o m p q d n e f = one_held r.kind o p q (f ∙ ap (λ (x : Fds). outside_of h (numbers x)) (e ∙ ap (λ (x : Description). list_of (x.0 ∷ [])) n))

-- the decision by its tests
pub decided_as :
    {p p' : Phase} {y y' k k' c c' f f' : Bool} → p ≡ p' → y ≡ y' → k ≡ k' → c ≡ c' → f ≡ f' → decided_of p' y' k' c' f' ≡ decided_of p y k c f
decided_as ep ey ek ec ef = sym (λ i. decided_of (ep i) (ey i) (ek i) (ec i) (ef i))
