-- Slots read from the words one after the other, and stored so; and a state stored part by part. Assumes nothing.
use Prim.Native.Nat.{ℕ, suc, min, ◌+◌, ◌*◌, ◌<◌, ◌≤◌}
use mathlib.Core.Path.{◌≡◌, refl, sym, ap, ap₂, ◌∙◌}
use mathlib.Core.Bool.{Bool, cond}
use mathlib.Core.List.{List, [], ◌∷◌, append-nil}
use native.Mathlib.Omega.{arith}
use lib.ListN.{get_or, take, drop, length, replicate}
use lib.Seq.{sets, length-sets, drop-cons, take_all}
use borrow.Author.Tests.{lt-ltb}
use Rattle.ids.specs.declared.SlotNo.{SlotNo}
use Rattle.ids.specs.Ids.{slot_of}
use Rattle.slot.specs.declared.Slot.{Slot}
use Rattle.table.specs.Table.{no_slot}
use Rattle.events.specs.World.{World, table_of, holds_of, handles_of, queue_of, scheme_of}
use Rattle.layout.specs.Layout.{slots_from, slots_words, laid, plain_of, packed_of}
use Rattle.layout.specs.Store.{put_words, stored, put}
use Rattle.layout.proofs.Worlds.{sets_all}
use Rattle.word_put.proofs.Stores.{two_runs}
use Rattle.layout.proofs.Packs.{Long, slots_long, packed_long}

-- the slot with a number below 64
pub slot_no : (i : ℕ) (n : SlotNo) → i < 64 → n ≡ slot_of (record { 0 = i }) → n.0 ≡ i
slot_no i n b e = ap (λ (x : SlotNo). x.0) e ∙ least
  where
    least : min i 64 ≡ i
    least = omega (arith, b)

module _ (ws : List ℕ) where
  abbrev all : List Slot
  all = (table_of (plain_of ws)).slots

  all_long : length all ≡ 64
  unfolding plain_of slots_from
  all_long = refl

  pub read_end : (a : List Slot) (i : ℕ) → 64 ≤ i → length a ≡ 64 → take i a ≡ take i all → a ≡ all
  read_end a i b h e = sym (take_all i a (omega (arith, h))) ∙ e ∙ take_all i all (omega (arith, all_long))

-- what is left to store from here gives the whole
module _ (vs : List Slot) (long : length vs ≡ 64) where
  pub put_more :
      (l xs : List ℕ) (i : ℕ) → i < 64 → xs ≡ stored l (put i (get_or vs i no_slot)) → sets xs (12 * (i + 1)) (slots_words (drop (i + 1) vs)) ≡ sets l (12 * i) (slots_words (drop i vs))
  put_more l xs i b e =
      ap (λ (m : List ℕ). sets m (12 * (i + 1)) (slots_words (drop (i + 1) vs))) (e ∙ ap (λ (x : Bool). cond x (put_words l i (get_or vs i no_slot)) l) (lt-ltb i 64 b))
      ∙ ap₂ (λ (p j : ℕ). sets (put_words l i (get_or vs i no_slot)) p (slots_words (drop j vs))) place one
      ∙ sym (ap (λ (m : List Slot). sets l (12 * i) (slots_words m)) (drop-cons vs i no_slot (omega (arith, b, long))))
    where
      place : 12 * (i + 1) ≡ suc (suc (suc (suc (suc (suc (suc (suc (suc (suc (suc (suc (12 * i))))))))))))
      place = omega arith

      one : i + 1 ≡ suc i
      one = omega arith

-- all parts stored, from the first word to the last
module _ (w : World) where
  abbrev p8 : List (List ℕ)
  p8 = w.words ∷ []

  abbrev p7 : List (List ℕ)
  p7 = (handles_of w).at ∷ p8

  abbrev p6 : List (List ℕ)
  p6 = (scheme_of w ∷ (queue_of w).first ∷ (queue_of w).len ∷ 0 ∷ []) ∷ p7

  abbrev p5 : List (List ℕ)
  p5 = (holds_of w).outside ∷ p6

  abbrev p4 : List (List ℕ)
  p4 = (holds_of w).holds ∷ p5

  abbrev p3 : List (List ℕ)
  p3 = ((table_of w).head ∷ replicate 7 0) ∷ p4

  abbrev p2 : List (List ℕ)
  p2 = (table_of w).next ∷ p3

  abbrev p1 : List (List ℕ)
  p1 = slots_words (table_of w).slots ∷ p2

  pub all_stored :
      Long w → (ws a b c d e f g xs : List ℕ) → a ≡ sets ws 0 (slots_words (table_of w).slots) → b ≡ sets a 768 (table_of w).next
      → c ≡ sets b 832 ((table_of w).head ∷ replicate 7 0) → d ≡ sets c 840 (holds_of w).holds → e ≡ sets d 904 (holds_of w).outside
      → f ≡ sets e 968 (scheme_of w ∷ (queue_of w).first ∷ (queue_of w).len ∷ 0 ∷ []) → g ≡ sets f 972 (handles_of w).at → xs ≡ sets g 1036 w.words → length g ≡ 2060
      → xs ≡ packed_of w
  unfolding packed_of
  all_stored r ws a b c d e f g xs ea eb ec ed ee ef eg ex size =
      whole ∙ sets_all ws (laid p1) (sym (length-sets ws 0 (laid p1)) ∙ ap length (sym whole) ∙ ap length ex ∙ length-sets g 1036 w.words ∙ size ∙ sym (packed_long w r))
    where
      whole : xs ≡ sets ws 0 (laid p1)
      whole =
          ex ∙ ap (sets g 1036) (sym (append-nil w.words))
          ∙ two_runs f g _ (handles_of w).at (laid p8) 972 1036 eg (omega (arith, r.handles)) refl
          ∙ two_runs e f _ (scheme_of w ∷ (queue_of w).first ∷ (queue_of w).len ∷ 0 ∷ []) (laid p7) 968 972 ef (omega arith) refl
          ∙ two_runs d e _ (holds_of w).outside (laid p6) 904 968 ee (omega (arith, r.outside)) refl
          ∙ two_runs c d _ (holds_of w).holds (laid p5) 840 904 ed (omega (arith, r.all)) refl
          ∙ two_runs b c _ ((table_of w).head ∷ replicate 7 0) (laid p4) 832 840 ec (omega arith) refl
          ∙ two_runs a b _ (table_of w).next (laid p3) 768 832 eb (omega (arith, r.next)) refl
          ∙ two_runs ws a _ (slots_words (table_of w).slots) (laid p2) 0 768 ea (omega (arith, r.slots, slots_long (table_of w).slots)) refl
