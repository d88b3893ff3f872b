-- Where a write stops. Assumes nothing.
use Prim.Native.Nat.{ℕ, zero, suc, ◌*◌, ◌<◌, ◌≤◌}
use mathlib.Core.Path.{◌≡◌, refl, sym, ◌∙◌}
use mathlib.Core.Bool.{Bool, true, false, true≢false, ◌||◌}
use lib.Dec.{eqb}
use borrow.Author.Tests.{eqb-true, ne_eqb}
use native.Mathlib.Omega.{arith}
use Rattle.events.specs.Outcome.{ok, no}
use Rattle.events.specs.Complete.{stopped}
use Rattle.write.specs.Writing.{is_refusal}

pub some_done : (n k : ℕ) → 0 < n → ok (16 * n) ≡ stopped n k
some_done zero k q = absurd (omega arith)
some_done (suc n) k q = refl

pub none_done : (n k : ℕ) → n ≤ 0 → no k ≡ stopped n k
none_done zero k q = refl
none_done (suc n) k q = absurd (omega arith)

pub the_last : (k : ℕ) → is_refusal k ≡ true → (k ≡ 77 → ⊥) → (k ≡ 22 → ⊥) → k ≡ 2
the_last k e p q = go (eqb k 2) refl (sym (λ i. ne_eqb k 77 p i || (ne_eqb k 22 q i || (eqb k 2 || false))) ∙ e)
  where
    go : (b : Bool) → eqb k 2 ≡ b → b || false ≡ true → k ≡ 2
    go true t z = eqb-true k 2 t
    go false t z = absurd (true≢false (sym z))
