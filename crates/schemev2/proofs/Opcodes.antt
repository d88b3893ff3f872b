-- The completion kinds end at 5. Assumes nothing.
use mathlib.Core.Path.{◌≡◌, refl}
use mathlib.Core.Logic.{◌≢◌}
use Prim.Native.Nat.{ℕ, zero, suc}
use Rattle.std.specs.Prelude.{None}
use Rattle.schemev2.specs.Entry.{cqe_opcode_of}

pub beyond : (n : ℕ) → n ≢ 0 → n ≢ 1 → n ≢ 2 → n ≢ 3 → n ≢ 4 → n ≢ 5 → None ≡ cqe_opcode_of n
beyond zero h₀ h₁ h₂ h₃ h₄ h₅ = absurd (h₀ refl)
beyond (suc zero) h₀ h₁ h₂ h₃ h₄ h₅ = absurd (h₁ refl)
beyond (suc (suc zero)) h₀ h₁ h₂ h₃ h₄ h₅ = absurd (h₂ refl)
beyond (suc (suc (suc zero))) h₀ h₁ h₂ h₃ h₄ h₅ = absurd (h₃ refl)
beyond (suc (suc (suc (suc zero)))) h₀ h₁ h₂ h₃ h₄ h₅ = absurd (h₄ refl)
beyond (suc (suc (suc (suc (suc zero))))) h₀ h₁ h₂ h₃ h₄ h₅ = absurd (h₅ refl)
beyond (suc (suc (suc (suc (suc (suc n)))))) h₀ h₁ h₂ h₃ h₄ h₅ = refl
