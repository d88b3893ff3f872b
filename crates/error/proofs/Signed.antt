-- Laws of a signed number of 32 bits: its reading, its negation and its extension to 64 bits. Assumes nothing.
use mathlib.Core.Path.{◌≡◌, refl, sym, ap, ◌∙◌, subst}
use mathlib.Core.Bool.{Bool, true, false, not, cond}
use Prim.Native.Nat.{ℕ, zero, suc, ◌-◌, zero-le}
use native.Mathlib.Omega.{arith}
use lib.IntN.{ℤ, pos, negsuc, neg_ℤ, nat_abs, ◌-ℤ◌, +ℤ_comm, +ℤ_idl, -ℤ_one}
use lib.Signed.{non_neg, le_z}
use lib.Dec.{T, leb, eqb}
use borrow.Author.Tests.{le-leb, eq-eqb, ne_eqb, eqb-false}
use mir.Syntax.{w32, w64}
use mir.Val.{Fits, SFits, to_z, of_z}
use mir.Facts.{to_z-of_z}
use Rattle.error.specs.Reference.{neg_i32}

-- what is to be shown of a signed number of 32 bits is shown of its reading from its bits, and back
pub back : {e : ℤ} (P : ℤ → Type 0) → SFits w32 e → P e → P (to_z w32 (of_z w32 e))
back P f p = subst P (sym (to_z-of_z f)) p

pub forth : {e : ℤ} (P : ℤ → Type 0) → SFits w32 e → P (to_z w32 (of_z w32 e)) → P e
forth P f p = subst P (to_z-of_z f) p

-- the negation, the lowest value apart
pub lowest : (n : ℤ) → SFits w32 n → of_z w32 n ≡ 2147483648 → n ≡ neg_i32 n
lowest (pos k) f e = absurd (omega (arith, e, f.sfits))
lowest (negsuc k) f e = sym (ap (λ (b : Bool). cond b (negsuc k) (pos (suc k))) (eq-eqb k 2147483647 (omega (arith, e, f.sfits))))

neg_is : (n : ℤ) → SFits w32 n → (of_z w32 n ≡ 2147483648 → ⊥) → neg_ℤ n ≡ neg_i32 n
neg_is (pos k) f ne = refl
neg_is (negsuc k) f ne =
    sym (ap (λ (b : Bool). cond b (negsuc k) (pos (suc k))) (ne_eqb k 2147483647 (λ (q : k ≡ 2147483647). ne (omega (arith, q)))))

pub neg_fits : (n : ℤ) → SFits w32 n → SFits w32 (neg_i32 n)
neg_fits (pos zero) f = record { sfits = omega arith }
neg_fits (pos (suc k)) f = record { sfits = omega (arith, f.sfits) }
neg_fits (negsuc k) f = pick (eqb k 2147483647) refl
  where
    pick : (b : Bool) → eqb k 2147483647 ≡ b → SFits w32 (cond b (negsuc k) (pos (suc k)))
    pick true q = f
    pick false q = record { sfits = omega (arith, f.sfits, eqb-false k 2147483647 q) }

pub sub_fits : (n : ℤ) → SFits w32 n → (of_z w32 n ≡ 2147483648 → ⊥) → SFits w32 (pos 0 -ℤ n)
sub_fits n f ne = subst (SFits w32) (sym (+ℤ_idl (neg_ℤ n) ∙ neg_is n f ne)) (neg_fits n f)

pub sub_is : (n : ℤ) → SFits w32 n → (of_z w32 n ≡ 2147483648 → ⊥) → to_z w32 (of_z w32 (pos 0 -ℤ n)) ≡ neg_i32 n
sub_is n f ne = to_z-of_z (sub_fits n f ne) ∙ +ℤ_idl (neg_ℤ n) ∙ neg_is n f ne

-- the two signs, for the extension to 64 bits
clash : false ≡ true → ⊥
clash q = subst (λ (b : Bool). T (not b)) q tt

never : (n : ℕ) → leb 0 n ≡ false → ⊥
never n t = clash (sym t ∙ le-leb 0 n zero-le)

pub up_fits : (e : ℤ) → SFits w32 e → le_z (pos 0) e ≡ true → T (non_neg e) × Fits w64 (nat_abs e)
up_fits (pos n) f t = (tt, record { fits = omega (arith, f.sfits) })
up_fits (negsuc n) f t = absurd (clash t)

pub up_is : (e : ℤ) → le_z (pos 0) e ≡ true → nat_abs e ≡ of_z w64 e
up_is (pos n) t = refl
up_is (negsuc n) t = absurd (clash t)

rest : (n : ℕ) → negsuc 0 -ℤ negsuc n ≡ pos n
rest n = +ℤ_comm (negsuc 0) (pos (suc n)) ∙ -ℤ_one (pos (suc n))

pub low_fits : (e : ℤ) → SFits w32 e → le_z (pos 0) e ≡ false → SFits w32 (negsuc 0 -ℤ e)
low_fits (pos n) f t = absurd (never n t)
low_fits (negsuc n) f t = subst (SFits w32) (sym (rest n)) (record { sfits = f.sfits })

pub low_cast : (e : ℤ) → SFits w32 e → le_z (pos 0) e ≡ false → T (non_neg (negsuc 0 -ℤ e)) × Fits w64 (nat_abs (negsuc 0 -ℤ e))
low_cast (pos n) f t = absurd (never n t)
low_cast (negsuc n) f t = subst (λ (z : ℤ). T (non_neg z) × Fits w64 (nat_abs z)) (sym (rest n)) (tt, record { fits = omega (arith, f.sfits) })

pub low_is : (e : ℤ) → SFits w32 e → le_z (pos 0) e ≡ false → 18446744073709551615 - nat_abs (negsuc 0 -ℤ e) ≡ of_z w64 e
low_is (pos n) f t = absurd (never n t)
low_is (negsuc n) f t = ap (λ (z : ℤ). 18446744073709551615 - nat_abs z) (rest n) ∙ omega (arith, f.sfits)
