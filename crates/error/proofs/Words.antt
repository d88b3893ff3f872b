-- Laws of error words: which words they are, and that `demux` and `mux` undo one another. Assumes nothing.
use mathlib.Core.Path.{◌≡◌, refl, sym, ap, ◌∙◌}
use mathlib.Core.Bool.{Bool, true, false, cond, ◌&&◌}
use Prim.Native.Nat.{ℕ, zero, suc, ◌+◌, ◌-◌, ◌%◌, ◌<◌, ◌≤◌}
use native.Mathlib.Omega.{arith}
use lib.IntN.{ℤ, pos, negsuc}
use lib.Dec.{leb, ltb, eqb}
use borrow.Author.Tests.{ltb-true, ltb-false, leb-true, leb-false, le-leb, lt-ltb, le-ltb, ne_eqb}
use mir.Syntax.{w32}
use mir.Val.{SFits, to_z, of_z}
use mir.Facts.{to_z_pos, to_z-neg, to_z-of_z}
use Rattle.error.specs.Reference.{as_i32, as_usize, neg_i32}
use Rattle.error.specs.Errors.{is_errno, err_if, demux_of, mux_of}
use Rattle.std.specs.Prelude.{Ok, Err}
use Rattle.error.proofs.Signed.{neg_fits}

-- in the upper half of the 32 bits a word reads as negative,
upper : (w k : ℕ) → w % 0x1_0000_0000 + suc k ≡ 0x1_0000_0000 → k < 0x8000_0000 → as_i32 w ≡ negsuc k
upper w k s h = ap (to_z w32) low ∙ to_z-neg w32 k h
  where
    low : w % 0x1_0000_0000 ≡ 0x1_0000_0000 - suc k
    low = omega (arith, s)

-- and a positive number is an errno up to 132
up_to : (k : ℕ) → is_errno (pos (suc k)) ≡ ltb (suc k) 133
up_to k = ap (λ (b : Bool). b && ltb (suc k) 133) (le-leb 1 (suc k) (omega arith))

-- `demux` by cases of the low 32 bits: with an errno from 1 to 132 they add up to 2^32,
pub error_word : (w e : ℕ) → 1 ≤ e → e ≤ 132 → w % 0x1_0000_0000 + e ≡ 0x1_0000_0000 → demux_of w ≡ Err (record { errno = pos e })
error_word w zero l u s = absurd (omega (arith, l))
error_word w (suc k) l u s =
    ap (λ (z : ℤ). err_if (is_errno z) z w) negated ∙ ap (λ (b : Bool). err_if b (pos (suc k)) w) (up_to k ∙ lt-ltb (suc k) 133 (omega (arith, u)))
  where
    negated : neg_i32 (as_i32 w) ≡ pos (suc k)
    negated =
        ap neg_i32 (upper w k s (omega (arith, u)))
        ∙ ap (λ (b : Bool). cond b (negsuc k) (pos (suc k))) (ne_eqb k 0x7fff_ffff (λ (q : k ≡ 0x7fff_ffff). omega (arith, q, u)))

-- or the whole word is a success
pub success_word : (w : ℕ) → w % 0x1_0000_0000 + 132 < 0x1_0000_0000 → demux_of w ≡ Ok w
success_word w h = ap (λ (b : Bool). err_if b (neg_i32 (as_i32 w)) w) (by_half (ltb (w % 0x1_0000_0000) 0x8000_0000) refl)
  where
    k : ℕ
    k = 0xffff_ffff - w % 0x1_0000_0000

    not_positive : (n : ℕ) → is_errno (neg_i32 (pos n)) ≡ false
    not_positive zero = refl
    not_positive (suc n) = refl

    -- the lowest value stays negative, every other is negated to over 132
    lowest_or_over : (b : Bool) → is_errno (cond b (negsuc k) (pos (suc k))) ≡ false
    lowest_or_over true = refl
    lowest_or_over false = up_to k ∙ le-ltb (suc k) 133 (omega (arith, h))

    by_half : (b : Bool) → ltb (w % 0x1_0000_0000) 0x8000_0000 ≡ b → is_errno (neg_i32 (as_i32 w)) ≡ false
    by_half true q =
        ap (λ (z : ℤ). is_errno (neg_i32 z)) (to_z_pos w32 (ltb-true (w % 0x1_0000_0000) 0x8000_0000 q)) ∙ not_positive (w % 0x1_0000_0000)
    by_half false q =
        ap (λ (z : ℤ). is_errno (neg_i32 z)) (upper w k (omega arith) (omega (arith, ltb-false (w % 0x1_0000_0000) 0x8000_0000 q)))
        ∙ lowest_or_over (eqb k 0x7fff_ffff)

-- `demux` and `mux` undo one another: an errno from 1 to 132 comes back,
pub demux_mux : (e : ℕ) → 1 ≤ e → e ≤ 132 → demux_of (mux_of (Err (record { errno = pos e }))) ≡ Err (record { errno = pos e })
demux_mux zero l u = absurd (omega (arith, l))
demux_mux (suc k) l u = error_word (0x1_0000_0000_0000_0000 - suc k) (suc k) l u (omega (arith, u))

-- and a word comes back as it was, an error word with its upper half all ones
pub mux_demux : (w : ℕ) → mux_of (demux_of w) ≡ cond (leb 0xffff_ff7c (w % 0x1_0000_0000)) (0xffff_ffff_0000_0000 + w % 0x1_0000_0000) w
mux_demux w = go (leb 0xffff_ff7c (w % 0x1_0000_0000)) refl
  where
    k : ℕ
    k = 0xffff_ffff - w % 0x1_0000_0000

    go : (b : Bool) → leb 0xffff_ff7c (w % 0x1_0000_0000) ≡ b → mux_of (demux_of w) ≡ cond b (0xffff_ffff_0000_0000 + w % 0x1_0000_0000) w
    go true q =
        ap mux_of (error_word w (suc k) (omega arith) (omega (arith, leb-true 0xffff_ff7c (w % 0x1_0000_0000) q)) (omega arith))
        ∙ omega arith
    go false q = ap mux_of (success_word w (omega (arith, leb-false 0xffff_ff7c (w % 0x1_0000_0000) q)))

-- what the code makes of an error word is its error
pub error_made : (w e : ℕ) → 1 ≤ e → e ≤ 132 → w % 0x1_0000_0000 + e ≡ 0x1_0000_0000 → Err (record { errno = to_z w32 e }) ≡ demux_of w
error_made w e l u s = ap (λ (n : ℤ). Err (record { errno = n })) (to_z_pos w32 (omega (arith, u))) ∙ sym (error_word w e l u s)

-- what the code computes for an error is its number and its word
pub number_is : (n : ℤ) (x : ℕ) → SFits w32 n → x ≡ as_usize (to_z w32 (of_z w32 n)) → x ≡ as_usize n
number_is n x f q = q ∙ ap as_usize (to_z-of_z f)

pub word_is : (n a : ℤ) (x : ℕ) → SFits w32 n → a ≡ neg_i32 (to_z w32 (of_z w32 n)) → x ≡ as_usize (to_z w32 (of_z w32 a)) → x ≡ as_usize (neg_i32 n)
word_is n a x f p q = number_is (neg_i32 n) x (neg_fits n f) (q ∙ ap (λ (z : ℤ). as_usize (to_z w32 (of_z w32 z))) (p ∙ ap neg_i32 (to_z-of_z f)))
