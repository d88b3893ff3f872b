-- The table's rule, by one test that is computed over the whole table: each entry is one more than the one before it.
-- Assumes nothing.
use mathlib.Core.Path.{◌≡◌, refl, sym, ap, ◌∙◌}
use mathlib.Core.Bool.{Bool, true, false, ◌&&◌}
use mathlib.Core.List.{List, [], ◌∷◌}
use Prim.Native.Nat.{ℕ, zero, suc, ◌+◌, ◌-◌, ◌<◌, ◌≤◌}
use native.Mathlib.Nat.{add-zero, suc-add, add-suc, le_of_suc-le-suc, not-suc-le-zero}
use native.Mathlib.Omega.{arith}
use lib.Dec.{eqb, leb}
use lib.ListN.{length, get_or}
use borrow.Author.Tests.{eqb-true, le-leb, lt-leb}
use Rattle.opcode.specs.Opcodes.{opcode_if, opcode_of, opcodes, raw_of}
use Rattle.std.specs.Prelude.{Some, None}
use Rattle.std.proofs.lemmas.List.{get_or-map}
use Rattle.opcode.specs.declared.Opcode.{Opcode}
use Rattle.opcode.specs.declared.Opcode.TheVariants as variant

abbrev rising : ℕ → List ℕ → Bool
rising k [] = true
rising k (x ∷ xs) = eqb x k && rising (suc k) xs

left : (a b : Bool) → (a && b) ≡ true → a ≡ true
left true b t = refl
left false b t = t

right : (a b : Bool) → (a && b) ≡ true → b ≡ true
right true b t = t
right false b t = absurd (let z : ◌≡◌ {A = Bool} true false = sym t in let y : ◌≡◌ {A = ℕ} 0 1 = cc in omega arith)

rising_at : (l : List ℕ) (k n : ℕ) → rising k l ≡ true → n < length l → get_or l n 0 ≡ k + n
rising_at [] k n t h = absurd (not-suc-le-zero h)
rising_at (x ∷ xs) k zero t h = eqb-true x k (left (eqb x k) (rising (suc k) xs) t) ∙ sym (add-zero k)
rising_at (x ∷ xs) k (suc n) t h =
    rising_at xs (suc k) n (right (eqb x k) (rising (suc k) xs) t) (le_of_suc-le-suc h) ∙ suc-add k n ∙ sym (add-suc k n)

-- the opcodes are 3 to 34
pub under : (n : ℕ) → n < 3 → None ≡ opcode_of n
under n h = sym (ap (λ (b : Bool). opcode_if (b && leb n 34) n) (lt-leb 3 n h))

module _ (n : ℕ) (low : 3 ≤ n) where
  chosen : (b : Bool) → leb n 34 ≡ b → opcode_if b n ≡ opcode_of n
  chosen b e = ap (λ (t : Bool). opcode_if t n) (sym e) ∙ ap (λ (t : Bool). opcode_if (t && leb n 34) n) (sym (le-leb 3 n low))

  pub over : 32 ≤ n - 3 → None ≡ opcode_of n
  over h = chosen false (lt-leb n 34 (omega (arith, low, h)))

  -- what stands at a number's place is that number
  named : n - 3 < 32 → get_or opcodes (n - 3) 0 ≡ n
  named h = rising_at opcodes 3 (n - 3) refl h ∙ omega (arith, low)

  pub inside : n - 3 < 32 → Some (get_or opcodes (n - 3) 0) ≡ opcode_of n
  inside h = ap Some (named h) ∙ chosen true (le-leb n 34 (omega (arith, h)))

  pub never : n - 3 < 32 → (get_or opcodes (n - 3) 0 ≡ n → ⊥) → None ≡ opcode_of n
  never h z = absurd (z (named h))

  pub small : n - 3 < 32 → get_or opcodes (n - 3) 0 < 0x1_0000_0000_0000_0000
  small h = let e = named h in omega (arith, e, h)

-- the code's table
abbrev pub table : List Opcode
table =
    variant.Close ∷ variant.Dup ∷ variant.Read ∷ variant.Write ∷ variant.Fsize ∷ variant.Fchmod ∷ variant.Fchown ∷ variant.Fcntl ∷ variant.Fevent ∷ variant.Sendfd ∷ variant.Fpath ∷ variant.Frename ∷ variant.Fstat ∷ variant.Fstatvfs ∷ variant.Fsync ∷ variant.Ftruncate ∷ variant.Futimens ∷ variant.MmapPrep ∷ variant.RequestMmap ∷ variant.Mremap ∷ variant.Munmap ∷ variant.Msync ∷ variant.Cancel ∷ variant.Getdents ∷ variant.CloseMsg ∷ variant.Call ∷ variant.OpenAt ∷ variant.Flink ∷ variant.Recvfd ∷ variant.UnlinkAt ∷ variant.StdFsCall ∷ variant.Detach ∷ []

-- what stands in it at a number's place is the opcode of that number
pub looked_up : (d : Opcode) (raw n : ℕ) → 3 ≤ raw → n ≡ raw - 3 → n < 32 → Some (raw_of (get_or table n d)) ≡ opcode_of raw
looked_up d raw n low is h =
    ap Some (sym (get_or-map raw_of table n d 0 (omega (arith, h))))
    ∙ ap (λ (k : ℕ). Some (get_or opcodes k 0)) is
    ∙ inside raw low (omega (arith, is, h))
