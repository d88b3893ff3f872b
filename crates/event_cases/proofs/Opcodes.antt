-- What a number names, and when an opcode is refused. Assumes nothing.
use Prim.Native.Nat.{ℕ}
use mathlib.Core.Path.{◌≡◌, refl, sym, ap, ◌∙◌}
use mathlib.Core.Bool.{Bool, true, false, not, ◌&&◌}
use native.Mathlib.Omega.{arith}
use lib.Dec.{leb}
use Rattle.std.specs.Prelude.{Option, Some, None}
use Rattle.opcode.specs.declared.Opcode.{Opcode}
use Rattle.opcode.specs.Opcodes.{opcode_if, opcode_of, raw_of, raw_in}
use Rattle.events.specs.Submit.{bad_opcode}

module _ (n : ℕ) (r : Option Opcode) (is : raw_in r ≡ opcode_of n) where
  pub unknown_bad : r ≡ None → bad_opcode n ≡ true
  unknown_bad e = go (leb 3 n && leb n 34) (ap raw_in (sym e) ∙ is)
    where
      go : (b : Bool) → None ≡ opcode_if b n → not b ≡ true
      go true e = absurd (let z : ◌≡◌ {A = ℕ} 0 1 = cc in omega arith)
      go false e = refl

  pub known_good : (o : Opcode) → r ≡ Some o → (bad_opcode n ≡ false) × (raw_of o ≡ n)
  known_good o e = go (leb 3 n && leb n 34) (ap raw_in (sym e) ∙ is)
    where
      go : (b : Bool) → Some (raw_of o) ≡ opcode_if b n → (not b ≡ false) × (raw_of o ≡ n)
      go true e = (refl, cc)
      go false e = absurd (let z : ◌≡◌ {A = ℕ} 0 1 = cc in omega arith)
