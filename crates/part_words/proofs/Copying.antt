-- Words copied one after the other: what is left to copy from here gives the whole; and a part copied out. Assumes nothing.
use Prim.Native.Nat.{ℕ, suc, ◌+◌, ◌<◌, ◌≤◌}
use mathlib.Core.Path.{◌≡◌, refl, sym, ap, ap₂, ◌∙◌}
use mathlib.Core.List.{List}
use native.Mathlib.Omega.{arith}
use native.Mathlib.Nat.{add-zero}
use lib.ListN.{get_or, set, take, drop, length, drop_of_length-le}
use lib.Seq.{sets, drop-cons}
use Rattle.events.specs.World.{table_of}
use Rattle.layout.specs.Layout.{part, plain_of}
use Rattle.layout.proofs.Worlds.{sets_all}
use Rattle.layout.proofs.Regions.{part_length}

module _ (at : ℕ) (b : List ℕ) where
  pub copy_start : (l : List ℕ) → sets l (at + 0) (drop 0 b) ≡ sets l at b
  copy_start l = ap (λ (k : ℕ). sets l k b) (add-zero at)

  pub copy_more : (l : List ℕ) (i : ℕ) → i < length b → sets (set l (at + i) (get_or b i 0)) (at + (i + 1)) (drop (i + 1) b) ≡ sets l (at + i) (drop i b)
  copy_more l i h =
      ap₂ (λ (p j : ℕ). sets (set l (at + i) (get_or b i 0)) p (drop j b)) place one ∙ sym (ap (sets l (at + i)) (drop-cons b i 0 h))
    where
      place : at + (i + 1) ≡ suc (at + i)
      place = omega arith

      one : i + 1 ≡ suc i
      one = omega arith

  pub copy_end : (l : List ℕ) (i : ℕ) → length b ≤ i → sets l (at + i) (drop i b) ≡ l
  copy_end l i h = ap (sets l (at + i)) (drop_of_length-le b h)

-- a part copied out, into as many words
module _ (ws : List ℕ) (size : length ws ≡ 2060) where
  pub part_out : (at n k : ℕ) (a r : List ℕ) → at + n ≤ 2060 → k ≡ n → length a ≡ n → r ≡ sets a 0 (take k (drop at ws)) → r ≡ part at n ws
  unfolding part
  part_out at n k a r h e q p =
      p ∙ ap (λ (j : ℕ). sets a 0 (take j (drop at ws))) e ∙ sets_all a (part at n ws) (q ∙ sym (part_length at n ws (omega (arith, h, size))))

-- a part of the plain state
module _ (ws : List ℕ) where
  pub chain_part : part 768 64 ws ≡ (table_of (plain_of ws)).next
  unfolding plain_of
  chain_part = refl
