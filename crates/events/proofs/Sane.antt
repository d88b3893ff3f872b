-- What a history alone says of a call. Assumes nothing.
use Prim.Native.Nat.{ℕ}
use mathlib.Core.Path.{◌≡◌, refl, sym, ap, ◌∙◌}
use mathlib.Core.Bool.{Bool, true, false, cond}
use mathlib.Core.List.{List, [], ◌∷◌}
use native.Mathlib.Omega.{arith}
use lib.Dec.{eqb}
use borrow.Author.Tests.{eqb-true}
use Rattle.events.specs.History.{What, Fact, to, end, gave, took, serve, block, interrupt, pass, filled, free, reserved, replied, Call, change, book}
use Rattle.events.specs.Demand3.{needs, fair, Every}
use Rattle.events.proofs.Stage.{num}

-- one of two calls, by a test: what holds of both holds of it
pub either : (P : Call → Type 0) (b : Bool) (x y : Call) → (b ≡ true → P x) → P y → P (cond b x y)
either P true x y p q = p refl
either P false x y p q = q

-- a fact about tag t, where that is n
pub at_tag : {A : Type 0} (h : List Fact) (t n : ℕ) (f : Call → A) → eqb t n ≡ true → f (book h t) ≡ f (book h n)
at_tag h t n f b = ap (λ (m : ℕ). f (book h m)) (eqb-true t n b)

-- what is not submitted was not woken either
abbrev Unwoken : Call → Type 0
Unwoken k = k.stage ≡ reserved → (k.was_blocked ≡ false) × (k.returned ≡ false)

unwoken_by : (x : What) (k : Call) → k.stage ≡ needs x → Unwoken k → Unwoken (change x k)
unwoken_by (gave m c) k q u = λ e. (refl, refl)
unwoken_by took k q u = λ e. absurd (omega (arith, ap num e))
unwoken_by (serve i j r) k q u = go k.ended
  where
    go : (b : Bool) → cond b free (replied r) ≡ reserved → (k.was_blocked ≡ false) × (k.returned ≡ false)
    go true e = absurd (omega (arith, ap num e))
    go false e = absurd (omega (arith, ap num e))
unwoken_by block k q u = λ e. absurd (omega (arith, ap num (sym q ∙ e)))
unwoken_by interrupt k q u = λ e. absurd (omega (arith, ap num (sym q ∙ e)))
unwoken_by (pass r) k q u = λ e. absurd (omega (arith, ap num e))
unwoken_by filled k q u = λ e. absurd (omega (arith, ap num e))

pub unwoken : (h : List Fact) → Every fair h → (n : ℕ) → Unwoken (book h n)
unwoken [] e n = λ q. (refl, refl)
unwoken (to t x ∷ h) e n =
    either Unwoken (eqb t n) _ _ (λ b. unwoken_by x (book h n) (sym (at_tag h t n (λ (k : Call). k.stage) b) ∙ e.0) (unwoken h e.1 n)) (unwoken h e.1 n)
unwoken (end c ∷ h) e n = unwoken h e.1 n
