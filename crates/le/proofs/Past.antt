-- Past the end of the bytes every number is 0. Assumes nothing.
use mathlib.Core.Path.{◌≡◌, sym}
use mathlib.Core.List.{List}
use Prim.Native.Nat.{ℕ, ◌+◌, ◌≤◌}
use native.Mathlib.Omega.{arith}
use lib.ListN.{length, get_or-eq_default}
use Rattle.le.specs.Le.{byte, half, word}

module _ (l : List ℕ) where
  pub byte_past : (k : ℕ) → length l ≤ k → byte l k ≡ 0
  byte_past k h = get_or-eq_default l 0 h

  pub half_past : (k : ℕ) → length l ≤ k → half l k ≡ 0
  half_past k h =
      omega (arith, byte_past k h, byte_past (k + 1) (omega arith), byte_past (k + 2) (omega arith), byte_past (k + 3) (omega arith))

  pub word_past : (k : ℕ) → length l ≤ k → word l k ≡ 0
  word_past k h = omega (arith, half_past k h, half_past (k + 4) (omega arith))
