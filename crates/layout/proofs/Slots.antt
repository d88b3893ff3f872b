-- A slot stored among words is the slot stored among those that are read from them. Assumes nothing.
use Prim.Native.Nat.{ℕ, zero, suc, ◌+◌, ◌*◌, ◌<◌, ◌≤◌}
use mathlib.Core.Path.{◌≡◌, refl, ap, ap₂, ◌∙◌}
use mathlib.Core.List.{List, ◌∷◌}
use native.Mathlib.Omega.{arith}
use native.Mathlib.Nat.{not-suc-le-zero, le_of_suc-le-suc}
use lib.ListN.{get_or, set, length}
use lib.Seq.{sets}
use Rattle.slot.specs.declared.Slot.{Slot}
use Rattle.wait_queue.proofs.Unread.{get_or_sets_before, get_or_sets_after, get_or_sets_in}
use Rattle.layout.specs.Layout.{slot_from, slot_of, slots_from, slot_words}
use Rattle.layout.specs.Fits.{SlotFits}
use Rattle.layout.proofs.Back.{slot_back}

-- slots are read from their own words alone
module _ (ws xs : List ℕ) where
  abbrev Same : ℕ → ℕ → Type 0
  Same at n = (j : ℕ) → at ≤ j → j < at + n → get_or xs j 0 ≡ get_or ws j 0

  pub slot_same : (at : ℕ) → Same at 12 → slot_of xs at ≡ slot_of ws at
  unfolding slot_of
  slot_same at f =
      λ i. slot_from (f at (omega arith) (omega arith) i) (f (at + 1) (omega arith) (omega arith) i) (f (at + 4) (omega arith) (omega arith) i) (f (at + 5) (omega arith) (omega arith) i) (f (at + 6) (omega arith) (omega arith) i) (f (at + 7) (omega arith) (omega arith) i) (f (at + 9) (omega arith) (omega arith) i) (f (at + 10) (omega arith) (omega arith) i) (f (at + 11) (omega arith) (omega arith) i)

  pub slots_same : (k at : ℕ) → Same at (12 * k) → slots_from k at xs ≡ slots_from k at ws
  unfolding slots_from
  slots_same zero at f = refl
  slots_same (suc k) at f =
      ap₂ {C = List Slot} (λ (v : Slot) (l : List Slot). v ∷ l)
      (slot_same at (λ j p q. f j p (omega (arith, q))))
      (slots_same k (12 + at) (λ j p q. f j (omega (arith, p)) (omega (arith, q))))

pub slot_here : (ws : List ℕ) (at : ℕ) (v : Slot) → SlotFits v → at + 12 ≤ length ws → slot_of (sets ws at (slot_words v)) at ≡ v
unfolding slot_of
slot_here ws at v r b =
    (λ i. slot_from (first i) (f 1 (omega arith) i) (f 4 (omega arith) i) (f 5 (omega arith) i) (f 6 (omega arith) i) (f 7 (omega arith) i) (f 9 (omega arith) i) (f 10 (omega arith) i) (f 11 (omega arith) i))
    ∙ slot_back v r
  where
    f : (i : ℕ) → i < 12 → get_or (sets ws at (slot_words v)) (at + i) 0 ≡ get_or (slot_words v) i 0
    f i q = get_or_sets_in (slot_words v) ws at i q b

    first : get_or (sets ws at (slot_words v)) at 0 ≡ get_or (slot_words v) 0 0
    first = ap (λ (j : ℕ). get_or (sets ws at (slot_words v)) j 0) (plain at) ∙ f 0 (omega arith)
      where
        plain : (x : ℕ) → x ≡ x + 0
        plain x = omega arith

pub slots_store :
    (k n at : ℕ) (ws : List ℕ) (v : Slot) → SlotFits v → n < k → at + 12 * k ≤ length ws
    → slots_from k at (sets ws (at + 12 * n) (slot_words v)) ≡ set (slots_from k at ws) n v
unfolding slots_from
slots_store zero n at ws v r a b = absurd (not-suc-le-zero a)
slots_store (suc k) zero at ws v r a b =
    ap (λ (j : ℕ). slots_from (suc k) at (sets ws j (slot_words v))) (plain at)
    ∙ ap₂ {C = List Slot} (λ (x : Slot) (l : List Slot). x ∷ l) (slot_here ws at v r (omega (arith, b)))
    (slots_same ws (sets ws at (slot_words v)) k (12 + at) (λ j p q. get_or_sets_after (slot_words v) ws at j (omega (arith, p))))
  where
    plain : (x : ℕ) → x + 12 * 0 ≡ x
    plain x = omega arith
slots_store (suc k) (suc n) at ws v r a b =
    ap (λ (j : ℕ). slots_from (suc k) at (sets ws j (slot_words v))) (next at n)
    ∙ ap₂ {C = List Slot} (λ (x : Slot) (l : List Slot). x ∷ l)
    (slot_same ws (sets ws (12 + at + 12 * n) (slot_words v)) at (λ j p q. get_or_sets_before (slot_words v) ws (12 + at + 12 * n) j (omega (arith, q))))
    (slots_store k n (12 + at) ws v r (le_of_suc-le-suc a) (omega (arith, b)))
  where
    next : (x m : ℕ) → x + 12 * suc m ≡ 12 + x + 12 * m
    next x m = omega arith

pub slots_at : (k n at : ℕ) (ws : List ℕ) (d : Slot) → n < k → get_or (slots_from k at ws) n d ≡ slot_of ws (at + 12 * n)
unfolding slots_from
slots_at zero n at ws d a = absurd (not-suc-le-zero a)
slots_at (suc k) zero at ws d a = ap (slot_of ws) (plain at)
  where
    plain : (x : ℕ) → x ≡ x + 12 * 0
    plain x = omega arith
slots_at (suc k) (suc n) at ws d a = slots_at k n (12 + at) ws d (le_of_suc-le-suc a) ∙ ap (slot_of ws) (next at n)
  where
    next : (x m : ℕ) → 12 + x + 12 * m ≡ x + 12 * suc m
    next x m = omega arith
