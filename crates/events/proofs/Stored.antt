-- What a store at one tag leaves: that slot, all others, the count of slots that hold a reply, and the chain of vacant ones. All
-- that the invariant needs of the table. Assumes nothing.
use Prim.Native.Nat.{ℕ, zero, suc, ◌+◌, ◌<◌}
use mathlib.Core.Path.{◌≡◌, refl, sym, ap, ◌∙◌, subst}
use mathlib.Core.Bool.{Bool, cond}
use mathlib.Core.List.{List, [], ◌∷◌}
use native.Mathlib.Omega.{arith}
use native.Mathlib.Nat.{not-suc-le-zero, le_of_suc-le-suc}
use lib.Dec.{eqb}
use lib.ListN.{get_or, set, length, drop}
use lib.Seq.{get_or-set_same}
use borrow.Author.Tests.{lt-ltb, ne_eqb}
use Rattle.slot.specs.declared.Phase.{Phase}
use Rattle.slot.specs.declared.Phase.TheVariants.{Vacant, Placeholder, Waiting, Responded, Fmap}
use Rattle.slot.specs.declared.Slot.{Slot}
use Rattle.slot.specs.Slots.{phase_of, phase_named, vacant_slot}
use Rattle.status.specs.declared.Status.TheVariants as status
use Rattle.status.specs.Status.{bit, is_in, count_of}
use Rattle.table.specs.declared.Table.{Table}
use Rattle.table.specs.Reached.{times, Linked, Chain, Occupied}
use Rattle.table.specs.Table.{no_slot, slot_at, put_at, given_out, vacate_at}
use Rattle.table.proofs.Access.{put_at_lem, put_within, give_at, vacate_at_lem, vacate_within}
use Rattle.table.proofs.Chain.{linked_set}

-- 1 for a slot that holds a reply
abbrev pub holding : Slot → ℕ
holding v = is_in status.Responded v

-- a slot's number, where it is not 0, is its phase's
abbrev pub number_of : Phase → ℕ
number_of Vacant = 0
number_of Placeholder = 1
number_of Waiting = 2
number_of Responded = 3
number_of Fmap = 4

number_named : (n k : ℕ) → k < 4 → eqb n (suc k) ≡ eqb (number_of (phase_named n)) (suc k)
number_named zero k b = refl
number_named (suc zero) k b = refl
number_named (suc (suc zero)) k b = refl
number_named (suc (suc (suc zero))) k b = refl
number_named (suc (suc (suc (suc zero)))) k b = refl
number_named (suc (suc (suc (suc (suc n))))) k b =
    ne_eqb (suc (suc (suc (suc (suc n))))) (suc k) (λ e. omega (arith, b, e)) ∙ sym (ne_eqb 0 (suc k) (λ e. omega (arith, e)))

pub number_is : (v : Slot) (p : Phase) (k : ℕ) → k < 4 → phase_of v ≡ p → eqb v.state (suc k) ≡ eqb (number_of p) (suc k)
number_is v p k b e = number_named v.state k b ∙ ap (λ (q : Phase). eqb (number_of q) (suc k)) e

abbrev pub held_by : Phase → ℕ
held_by p = bit (eqb (number_of p) 3)

pub held_is : (v : Slot) (p : Phase) → phase_of v ≡ p → holding v ≡ held_by p
held_is v p e = ap bit (number_is v p 2 (omega arith) e)

-- the slots by tag, how many hold a reply, and the chain of vacant ones
pub record Shape : Type 0 where
  pub look : ℕ → Slot
  pub held : ℕ
  pub next : List ℕ
  pub head : ℕ

abbrev pub held_of : Table → ℕ
held_of t = count_of holding t.slots

abbrev pub shape : Table → Shape
shape t = record { look = slot_at t; held = held_of t; next = t.next; head = t.head }

-- v at tag n, and of a chain l the chain f l
pub record Stored (s : Shape) (n : ℕ) (v : Slot) (f : List ℕ → List ℕ) (s' : Shape) : Type 0 where
  pub here : s'.look n ≡ v
  pub there : (m : ℕ) → (n ≡ m → ⊥) → s'.look m ≡ s.look m
  pub sum : s'.held + holding (s.look n) ≡ s.held + holding v
  pub chain : (l : List ℕ) → Linked s.next s.head l → Linked s'.next s'.head (f l)

-- one store after the other at one tag
pub stored_over :
    {s s₁ s₂ : Shape} {n : ℕ} {u v : Slot} {f : List ℕ → List ℕ} → Stored s n u f s₁ → Stored s n v f s₂
    → ((l : List ℕ) → Linked s₁.next s₁.head l → Linked s₂.next s₂.head l) → Stored s₁ n v (λ l. l) s₂
stored_over {s} {s₁} {s₂} {n} {u} {v} a b c =
    record {
      here = b.here;
      there = λ m ne. b.there m ne ∙ sym (a.there m ne);
      sum = omega (arith, a.sum, b.sum, ap holding a.here);
      chain = c;
    }

count_set : (f : Slot → ℕ) (s : List Slot) (n : ℕ) (v d : Slot) → n < length s → count_of f (set s n v) + f (get_or s n d) ≡ count_of f s + f v
count_set f [] n v d b = absurd (not-suc-le-zero b)
count_set f (x ∷ s) zero v d b = omega arith
count_set f (x ∷ s) (suc n) v d b = omega (arith, count_set f s n v d (le_of_suc-le-suc b))

-- a table has one chain
linked_same : (next : List ℕ) (head : ℕ) (c d : List ℕ) → Linked next head c → Linked next head d → c ≡ d
linked_same next head [] [] p q = refl
linked_same next head [] (x ∷ d) p q = absurd (omega (arith, q.0, q.1))
linked_same next head (x ∷ c) [] p q = absurd (omega (arith, p.0, p.1))
linked_same next head (x ∷ c) (y ∷ d) p q =
    let e : x ≡ y = sym p.0 ∙ q.0 in
    let r = linked_same next (get_or next y 0) c d (subst (λ (z : ℕ). Linked next (get_or next z 0) c) e p.2) q.2 in
    λ i. e i ∷ r i

linked_rest : (next : List ℕ) (head : ℕ) (l : List ℕ) → head < 64 → Linked next head l → Linked next (get_or next head 0) (drop 1 l)
linked_rest next head [] b p = absurd (omega (arith, p))
linked_rest next head (x ∷ l) b p = rw p.0 p.2

module _ (t : Table) (size : length t.slots ≡ 64) where
  slot_in_lem : (n : ℕ) → n < 64 → slot_at t n ≡ get_or t.slots n no_slot
  slot_in_lem n b = ap (λ (x : Bool). cond x (get_or t.slots n no_slot) vacant_slot) (lt-ltb n 64 b)

  summed : (n : ℕ) (v : Slot) → n < 64 → count_of holding (set t.slots n v) + holding (slot_at t n) ≡ held_of t + holding v
  summed n v b =
      ap (λ (x : Slot). count_of holding (set t.slots n v) + holding x) (slot_in_lem n b) ∙ count_set holding t.slots n v no_slot (omega (arith, size, b))

  pub put_stored : (n : ℕ) (v : Slot) → n < 64 → Stored (shape t) n v (λ l. l) (shape (put_at t n v))
  put_stored n v b =
      record {
        here = put_at_lem (λ x. x ≡ v) t size n n v b (λ e. refl) (λ ne. absurd (ne refl));
        there = λ m ne. put_at_lem (λ x. x ≡ slot_at t m) t size n m v b (λ e. absurd (ne (sym e))) (λ e. refl);
        sum = ap (λ (u : Table). held_of u + holding (slot_at t n)) (put_within t n v b) ∙ summed n v b;
        chain = λ l p. subst (λ (u : Table). Linked u.next u.head l) (sym (put_within t n v b)) p;
      }

  pub vacate_stored :
      (n : ℕ) → n < 64 → length t.next ≡ 64 → Chain t → Occupied (slot_at t n) → Stored (shape t) n vacant_slot (λ l. n ∷ l) (shape (vacate_at t n))
  vacate_stored n b more c o =
      record {
        here = vacate_at_lem (λ x. x ≡ vacant_slot) t n n size b (λ e. refl) (λ ne. absurd (ne refl));
        there = λ m ne. vacate_at_lem (λ x. x ≡ slot_at t m) t n m size b (λ e. absurd (ne (sym e))) (λ e. refl);
        sum = ap (λ (u : Table). held_of u + holding (slot_at t n)) (vacate_within t n b) ∙ summed n vacant_slot b;
        chain = λ l p.
            subst (λ (u : Table). Linked u.next u.head (n ∷ l)) (sym (vacate_within t n b))
            (refl, b, rw (get_or-set_same t.next n t.head 0 (omega (arith, more, b))) (linked_set t.next t.head l n t.head (unlisted l p) p));
      }
    where
      -- an occupied slot is not in the chain
      unlisted : (l : List ℕ) → Linked t.next t.head l → times n l ≡ 0
      unlisted l p = ap (times n) (linked_same t.next t.head l c.0 p c.1) ∙ c.2 n b ∙ o

  pub give_stored : (v : Slot) → t.head < 64 → Stored (shape t) t.head v (λ l. drop 1 l) (shape (given_out t v))
  give_stored v b =
      record {
        here = give_at (λ x. x ≡ v) t t.head v size b (λ e. refl) (λ ne. absurd (ne refl));
        there = λ m ne. give_at (λ x. x ≡ slot_at t m) t m v size b (λ e. absurd (ne (sym e))) (λ e. refl);
        sum = summed t.head v b;
        chain = λ l p. linked_rest t.next t.head l b p;
      }
