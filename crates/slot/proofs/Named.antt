-- A number that names no phase reads as Vacant. Assumes nothing.
use mathlib.Core.Path.{◌≡◌, refl, sym}
use mathlib.Core.Logic.{◌≢◌}
use mathlib.Core.List.{[], ◌∷◌}
use Prim.Native.Nat.{ℕ, zero, suc}
use native.Mathlib.Omega.{arith}
use lib.ListN.{get_or-eq_default}
use Rattle.slot.specs.Slots.{phase_named}
use Rattle.slot.specs.declared.Phase.TheVariants.{Vacant, Placeholder, Waiting, Responded, Fmap}

pub other : (n : ℕ) → n ≢ 1 → n ≢ 2 → n ≢ 3 → n ≢ 4 → Vacant ≡ phase_named n
other zero h₁ h₂ h₃ h₄ = refl
other (suc k) h₁ h₂ h₃ h₄ = sym (get_or-eq_default (Placeholder ∷ Waiting ∷ Responded ∷ Fmap ∷ []) Vacant {n = k} (omega arith))
