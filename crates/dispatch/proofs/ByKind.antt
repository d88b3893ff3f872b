-- The event of a record, by its kind. Assumes nothing.
use Prim.Native.Nat.{ℕ, zero, suc, ◌<◌, ◌≤◌}
use mathlib.Core.Path.{◌≡◌, refl, sym, ap, ◌∙◌, subst}
use mathlib.Core.Bool.{Bool, true, false, ◌||◌, true≢false}
use mathlib.Core.List.{List, [], ◌∷◌}
use native.Mathlib.Omega.{arith}
use native.Mathlib.Decide.{dec_lt}
use lib.ListN.{get_or}
use lib.Dec.{eqb, ltb}
use Rattle.events.specs.Outcome.{Answer}
use Rattle.events.specs.Event.{Event}
use Rattle.std.proofs.Common.{Option, Some, None, IfSome, IsSome, unwrap_or, ◌↔◌}
use Rattle.std.proofs.lemmas.Bool.Decides.{nat_tests}
use Rattle.record.specs.Kinds.{number_of}
use Rattle.record.specs.declared.EventKind.{EventKind}
use Rattle.record.specs.declared.EventKind.TheVariants.{Supply}
use Rattle.record.specs.declared.Record.{Record}
use Rattle.record.specs.Record.{supply_of, event_table, event_named}
use Rattle.step.specs.Does.{Does}
use Rattle.dispatch.specs.Dispatch.{tells_more, Dispatched}

infixr 20 ◌&◌
-- rows one after the other
pub ◌&◌ : {P Q : Type 0} → P → Q → P × Q
◌&◌ p q = (p, q)

-- what holds of each of a list and of the event beyond it, holds of the event that is looked up
abbrev pub Each : (ℕ → Event → Type 0) → List Event → Type 0
Each P [] = Unit {0}
Each P (e ∷ es) = P 0 e × Each (λ n. P (suc n)) es

pub looked_up : (P : ℕ → Event → Type 0) (es : List Event) (d : Event) → Each P es → ((n : ℕ) → P n d) → (n : ℕ) → P n (get_or es n d)
looked_up P [] d p f n = f n
looked_up P (e ∷ es) d p f zero = p.0
looked_up P (e ∷ es) d p f (suc n) = looked_up (λ k. P (suc k)) es d p.1 (λ k. f (suc k)) n

-- a kind that is taken as a supply
abbrev pub is_other : ℕ → Bool
is_other k = eqb k 0 || eqb k 19 || ltb 21 k

module _ (r : Record) (xs ys bs : List ℕ) (lent : ℕ) where
  abbrev named : ℕ → Event
  named k = event_named k r xs ys bs lent

  -- a kind that is none of the others: a supply
  abbrev Last : ℕ → Event → Type 0
  Last k e = is_other k ≡ true → e ≡ supply_of r.words

  never : {e : Event} → false ≡ true → e ≡ supply_of r.words
  never z = absurd (true≢false (sym z))

  last : (k : ℕ) → Last k (named k)
  last k =
      looked_up Last (event_table r xs ys bs lent) (supply_of r.words)
      ((λ z. refl) & never & never & never & never & never & never & never & never & never & never & never & never & never & never & never & never & never & never & (λ z. refl) & never & never & tt) (λ k z. refl) k

  module _ (ws vs : List ℕ) (a : Answer) (fx : List ℕ) where
    pub as_supply : (n : ℕ) → (is_other n ≡ true) × (tells_more n ≡ false) → Does ws vs (supply_of r.words) a fx → Dispatched (tells_more n) ws vs (named n) a fx
    as_supply n h d =
        subst (λ (b : Bool). Dispatched b ws vs (named n) a fx) (sym h.1) (subst (λ (e : Event). Does ws vs e a fx) (sym (last n h.0)) d)

-- a number that names no kind, or a supply's
pub supply_or_none : (k : Option EventKind) (n : ℕ) → IfSome k (λ kind. n ≡ number_of kind) → (IsSome k ↔ (1 ≤ n) × (n ≤ 21)) → unwrap_or k Supply ≡ Supply → (is_other n ≡ true) × (tells_more n ≡ false)
supply_or_none (Some kind) n e b s =
    subst (λ (m : ℕ). (is_other m ≡ true) × (tells_more m ≡ false)) (sym (e ∙ ap number_of s)) (refl, refl)
supply_or_none None n e b s = by (dec_lt 0 n) (dec_lt 21 n)
  where
    by : Dec (0 < n) → Dec (21 < n) → (is_other n ≡ true) × (tells_more n ≡ false)
    by (no z) d = subst (λ (m : ℕ). (is_other m ≡ true) × (tells_more m ≡ false)) (let q : 0 ≡ n = omega (arith, z) in q) (refl, refl)
    by (yes l) (no m) = absurd (true≢false (sym (b.1 (omega (arith, l), omega (arith, m)))))
    by (yes l) (yes m) = (grind (arith, nat_tests), grind (arith, nat_tests))
