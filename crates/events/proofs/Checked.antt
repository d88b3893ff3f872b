-- A refusal table: what holds of every refusal, and of the outcome where no row is due, holds of the whole. Assumes nothing.
use Prim.Native.Nat.{ℕ}
use mathlib.Core.Path.{◌≡◌, refl}
use mathlib.Core.Bool.{Bool, true, false, cond}
use mathlib.Core.List.{List, [], ◌∷◌}
use Rattle.events.specs.Outcome.{Row, checked}

-- none of the rows is due
abbrev pub Passed : List Row → Type 0
Passed [] = Unit {0}
Passed (r ∷ rs) = (r.due ≡ false) × Passed rs

pub checked_cases :
    {A : Type 0} (P : A → Type 0) (turn : ℕ → A) (rows : List Row) (o : A)
    → ((k : ℕ) → P (turn k)) → (Passed rows → P o) → P (checked turn rows o)
checked_cases P turn [] o bad good = good tt
checked_cases P turn (r ∷ rs) o bad good = go r.due refl (checked_cases P turn rs o bad)
  where
    go : (b : Bool) → r.due ≡ b → ((Passed rs → P o) → P (checked turn rs o)) → P (cond b (turn r.number) (checked turn rs o))
    go true e more = bad r.number
    go false e more = more (λ p. good (e, p))
