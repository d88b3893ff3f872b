-- What Rust's casts and negation mean, as the Rust Reference has them ("Numeric cast", "Overflow").
-- A signed number is an integer, an unsigned one the number of its bits.
use Rattle.std.specs.Prelude.{cond, ℕ, suc, ◌%◌, eqb, ℤ, pos, negsuc, neg_ℤ}
use Rattle.std.specs.Int.{w32, w64}
use Rattle.std.proofs.Common.{to_z, of_z}

-- `w as i32`: the low 32 bits, read in two's complement
abbrev pub as_i32 : ℕ → ℤ
as_i32 w = to_z w32 (w % 0x1_0000_0000)

-- `n as usize` of a signed n: the sign is extended to 64 bits
abbrev pub as_usize : ℤ → ℕ
as_usize n = of_z w64 n

-- `-n` of an i32: the lowest value, -2^31, has no counterpart and wraps to itself. (`negsuc k` is -1 - k.)
abbrev pub neg_i32 : ℤ → ℤ
neg_i32 (pos n) = neg_ℤ (pos n)
neg_i32 (negsuc k) = cond (eqb k 0x7fff_ffff) (negsuc k) (pos (suc k))
