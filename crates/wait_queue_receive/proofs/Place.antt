-- The oldest entry's place, with a sum that fits a word. Assumes nothing.
use mathlib.Core.Path.{◌≡◌}
use Prim.Native.Nat.{ℕ, ◌+◌, ◌%◌}
use native.Mathlib.Omega.{arith}
use native.Mathlib.Nat.{div-add-mod'}

pub first_fits : (f k : ℕ) → (f % 128 + k) % 128 ≡ (f + k) % 128
first_fits f k = omega (arith, div-add-mod' f 128, div-add-mod' (f % 128 + k) 128, div-add-mod' (f + k) 128)
