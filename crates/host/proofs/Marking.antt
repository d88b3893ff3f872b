-- An ended caller's slots marked one after the other. Assumes nothing.
use Prim.Native.Nat.{ℕ, suc, min, ◌+◌, ◌-◌, ◌*◌, ◌<◌, ◌≤◌}
use mathlib.Core.Path.{◌≡◌, refl, sym, ap, ap₂, ◌∙◌}
use mathlib.Core.Bool.{Bool, true, false, not, cond, ◌&&◌}
use mathlib.Core.List.{List, [], ◌∷◌}
use native.Mathlib.Omega.{arith}
use lib.Dec.{ltb, eqb}
use lib.ListN.{get_or}
use borrow.Author.Tests.{ltb-true}
use Rattle.slot.specs.declared.Phase.{Phase}
use Rattle.slot.specs.declared.Slot.{Slot}
use Rattle.slot.specs.Slots.{phase_of, vacant_slot, ended_of}
use Rattle.table.specs.Table.{no_slot}
use Rattle.wait_queue.proofs.Unread.{get_or_sets_after}
use Rattle.events.specs.World.{World, table_of, slot_in}
use Rattle.events.specs.Outcome.{Answer, ok}
use Rattle.events.specs.Entry.{is_vacant}
use Rattle.events.specs.Event.{host_ended}
use Rattle.layout.specs.Layout.{slot_words, plain_of}
use Rattle.layout.specs.Store.{Store, put, put_words, stored, stored_all}
use Rattle.layout.proofs.Slots.{slot_same}
use Rattle.layout.proofs.Worlds.{load_is}
use Rattle.packed.specs.Stores.{has, marks}
use Rattle.step.specs.Does.{Does}
use Rattle.step.proofs.Tests.{slot_of_in, put_of}

-- the tests that the code makes
module _ (c : ℕ) (v : Slot) where
  pub of_another : eqb v.caller c ≡ false → false ≡ has c v
  of_another q = sym (ap (λ (b : Bool). b && not (is_vacant (phase_of v))) q)

  pub of_this : (p : Phase) → eqb v.caller c ≡ true → phase_of v ≡ p → not (is_vacant p) ≡ has c v
  of_this p q r = sym (ap₂ (λ (b : Bool) (x : Phase). b && not (is_vacant x)) q r)

-- slot i, marked or not
abbrev mark_if : Bool → ℕ → Slot → List Store
mark_if b i v = cond b (put i (ended_of v) ∷ []) []

module _ (ws : List ℕ) (c i n : ℕ) (v : Slot) (b : Bool) (g : n ≡ min i 64) (l : v ≡ slot_in (plain_of ws) n) (t : b ≡ has c v) where
  here : v ≡ slot_in (plain_of ws) i
  here = l ∙ ap (slot_in (plain_of ws)) g ∙ slot_of_in (plain_of ws) i

  one_is : (x : Bool) → b ≡ x → stored_all ws (mark_if x i (slot_in (plain_of ws) i)) ≡ stored_all ws (marks 1 i (plain_of ws) c)
  one_is x q = ap (λ (y : Bool). stored_all ws (mark_if y i (slot_in (plain_of ws) i))) (sym q ∙ t ∙ ap (has c) here)

  pub marked : b ≡ true → (u : Slot) (xs : List ℕ) → u ≡ ended_of v → xs ≡ stored ws (put n u) → xs ≡ stored_all ws (marks 1 i (plain_of ws) c)
  marked q u xs eu ex = ex ∙ (λ j. stored ws (put (g j) ((eu ∙ ap ended_of here) j))) ∙ put_of ws i (ended_of (slot_in (plain_of ws) i)) ∙ one_is true q

  pub unmarked : b ≡ false → ws ≡ stored_all ws (marks 1 i (plain_of ws) c)
  unmarked q = one_is false q

-- a store to one slot leaves those behind it
put_other : (ws : List ℕ) (i j : ℕ) (v : Slot) → i < j → slot_in (plain_of (stored ws (put i v))) j ≡ slot_in (plain_of ws) j
put_other ws i j v h = go (ltb i 64)
  where
    there : (b : Bool) → ltb j 64 ≡ b → cond b (get_or (table_of (plain_of (put_words ws i v))).slots j no_slot) vacant_slot ≡ cond b (get_or (table_of (plain_of ws)).slots j no_slot) vacant_slot
    there true q =
        sym (load_is (put_words ws i v) j (ltb-true j 64 q))
        ∙ slot_same ws (put_words ws i v) (12 * j) (λ k p r. get_or_sets_after (slot_words v) ws (12 * i) k (omega (arith, p, h)))
        ∙ load_is ws j (ltb-true j 64 q)
    there false q = refl

    go : (b : Bool) → slot_in (plain_of (cond b (put_words ws i v) ws)) j ≡ slot_in (plain_of ws) j
    go true = there (ltb j 64) refl
    go false = refl

-- one slot more: what is still to be stored gives the same words, and the slots behind are as they were
module _ (w : World) (c : ℕ) (ws xs : List ℕ) (i : ℕ) (h : i < 64) (same : (j : ℕ) → i ≤ j → slot_in (plain_of ws) j ≡ slot_in w j) (ex : xs ≡ stored_all ws (marks 1 i (plain_of ws) c)) where
  pub marked_more : stored_all xs (marks (64 - (i + 1)) (i + 1) w c) ≡ stored_all ws (marks (64 - i) i w c)
  marked_more =
      ap (λ (l : List ℕ). stored_all l (marks (64 - (i + 1)) (i + 1) w c)) (ex ∙ ap (λ (v : Slot). stored_all ws (mark_if (has c v) i v)) (same i (omega arith)))
      ∙ ap (λ (n : ℕ). stored_all (stored_all ws (mark_if (has c (slot_in w i)) i (slot_in w i))) (marks (64 - (i + 1)) n w c)) next
      ∙ go (has c (slot_in w i)) (marks (64 - (i + 1)) (suc i) w c)
      ∙ ap (λ (n : ℕ). stored_all ws (marks n i w c)) count
    where
      next : i + 1 ≡ suc i
      next = omega arith

      count : suc (64 - (i + 1)) ≡ 64 - i
      count = omega (arith, h)

      go : (b : Bool) (ss : List Store) → stored_all (stored_all ws (mark_if b i (slot_in w i))) ss ≡ stored_all ws (cond b (put i (ended_of (slot_in w i)) ∷ ss) ss)
      go true ss = refl
      go false ss = refl

  pub same_behind : (j : ℕ) → i + 1 ≤ j → slot_in (plain_of xs) j ≡ slot_in w j
  same_behind j b = ap (λ (l : List ℕ). slot_in (plain_of l) j) ex ∙ go (has c (slot_in (plain_of ws) i)) ∙ same j (omega (arith, b))
    where
      go : (x : Bool) → slot_in (plain_of (stored_all ws (mark_if x i (slot_in (plain_of ws) i)))) j ≡ slot_in (plain_of ws) j
      go true = put_other ws i j (ended_of (slot_in (plain_of ws) i)) (omega (arith, b))
      go false = refl

pub all_marked :
    (c : ℕ) (ws xs : List ℕ) (i : ℕ) (a : Answer) (fx : List ℕ) → i ≡ 64 → stored_all xs (marks (64 - i) i (plain_of ws) c) ≡ stored_all ws (marks 64 0 (plain_of ws) c) → a ≡ ok 0 → fx ≡ []
    → Does ws xs (host_ended c) a fx
all_marked c ws xs i a fx q e ea ef =
    record { answer = ea; effects = ef; words = sym (ap (λ (n : ℕ). stored_all xs (marks (64 - n) n (plain_of ws) c)) q) ∙ e }
