-- The chain of a table that came from the fresh one holds exactly the vacant slots, each once. Assumes nothing.
use mathlib.Core.Path.{◌≡◌, refl, sym, ap, ◌∙◌, subst}
use mathlib.Core.Logic.{◌≢◌}
use mathlib.Core.Bool.{Bool, cond}
use mathlib.Core.List.{List, [], ◌∷◌}
use Prim.Native.Nat.{ℕ, zero, suc, ◌+◌, ◌≤◌, ◌<◌}
use native.Mathlib.Omega.{arith}
use native.Mathlib.Nat.{not-suc-le-zero, le_of_suc-le-suc}
use native.Mathlib.Decide.{dec_lt}
use lib.Dec.{eqb}
use lib.ListN.{get_or, set, get_or-replicate, replicate}
use lib.Seq.{get_or-set_same, get_or-set_other}
use borrow.Author.Tests.{eq-eqb, ne_eqb, lt-ltb}
use Rattle.slot.specs.declared.Phase.{Phase}
use Rattle.slot.specs.declared.Phase.TheVariants.{Vacant, Placeholder, Waiting, Responded, Fmap}
use Rattle.slot.specs.declared.Slot.{Slot}
use Rattle.slot.specs.Slots.{phase_of, vacant_slot}
use Rattle.table.specs.declared.Table.{Table}
use Rattle.table.specs.Table.{rising, fresh_table, no_slot, slot_at, put_at, given_out, vacate_at}
use Rattle.table.specs.Reached.{idle, Occupied, one, times, Linked, Chain, Reached, fresh, gave, put, gone}
use Rattle.table.proofs.Access.{beyond_is, put_within, vacate_within, put_at_lem, give_at, vacate_at_lem, Sized, sized_put, sized_give, sized_vacate}

idle_le : (p : Phase) → idle p ≤ 1
idle_le Vacant = omega arith
idle_le Placeholder = omega arith
idle_le Waiting = omega arith
idle_le Responded = omega arith
idle_le Fmap = omega arith

idle_vacant : (p : Phase) → 1 ≤ idle p → p ≡ Vacant
idle_vacant Vacant h = refl
idle_vacant Placeholder h = absurd (omega arith)
idle_vacant Waiting h = absurd (omega arith)
idle_vacant Responded h = absurd (omega arith)
idle_vacant Fmap h = absurd (omega arith)

one_if : (x m : ℕ) → x ≡ m → one (eqb x m) ≡ 1
one_if x m e = ap one (eq-eqb x m e)

none_if : (x m : ℕ) → (x ≡ m → ⊥) → one (eqb x m) ≡ 0
none_if x m e = ap one (ne_eqb x m e)

pub linked_set : (l : List ℕ) (hd : ℕ) (c : List ℕ) (n v : ℕ) → times n c ≡ 0 → Linked l hd c → Linked (set l n v) hd c
linked_set l hd [] n v z p = p
linked_set l hd (x ∷ c) n v z p =
    let ne : x ≢ n = λ e. omega (arith, one_if x n e) in
    (p.0, p.1, rw (get_or-set_other l n x v 0 ne) (linked_set l (get_or l x 0) c n v (omega arith) p.2))

-- an occupied slot's tag is in range
pub occupied_within : (t : Table) (n : ℕ) → Occupied (slot_at t n) → n < 64
occupied_within t n o = go (dec_lt n 64)
  where
    go : Dec (n < 64) → n < 64
    go (yes h) = h
    go (no h) = absurd (omega (arith, o, ap (λ (v : Slot). idle (phase_of v)) (beyond_is t n (omega (arith, h)))))

module _ (t : Table) (size : Sized t) where
  pub chain_put : (n : ℕ) (v : Slot) → n < 64 → idle (phase_of v) ≡ idle (phase_of (slot_at t n)) → Chain t → Chain (put_at t n v)
  chain_put n v h e c = (
    c.0,
    subst (λ (u : Table). Linked u.next u.head c.0) (sym (put_within t n v h)) c.1,
    λ m b. put_at_lem (λ w. times m c.0 ≡ idle (phase_of w)) t size.slots n m v h (λ q. c.2 m b ∙ rw q (sym e)) (λ q. c.2 m b),
  )

  -- the first of the chain is vacant
  pub head_vacant : t.head < 64 → Chain t → phase_of (slot_at t t.head) ≡ Vacant
  head_vacant b c = go c.0 c.1 c.2
    where
      go : (l : List ℕ) → Linked t.next t.head l → ((m : ℕ) → m < 64 → times m l ≡ idle (phase_of (slot_at t m))) → phase_of (slot_at t t.head) ≡ Vacant
      go [] p q = absurd (omega arith)
      go (x ∷ l) p q = idle_vacant _ (omega (arith, q t.head b, one_if x t.head (sym p.0)))

  pub chain_give : (v : Slot) → Occupied v → t.head < 64 → Chain t → Chain (given_out t v)
  chain_give v o b c = go c.0 c.1 c.2
    where
      go : (l : List ℕ) → Linked t.next t.head l → ((m : ℕ) → m < 64 → times m l ≡ idle (phase_of (slot_at t m))) → Chain (given_out t v)
      go [] p q = absurd (omega arith)
      go (x ∷ l) p q = (
        l,
        rw p.0 p.2,
        λ m w. give_at (λ u. times m l ≡ idle (phase_of u)) t m v size.slots b
            (λ e. omega (arith, o, q m w, one_if x m (sym p.0 ∙ sym e), idle_le (phase_of (slot_at t m))))
            (λ e. omega (arith, q m w, none_if x m (λ z. e (sym z ∙ sym p.0)))),
      )

  pub chain_vacate : (n : ℕ) → n < 64 → Occupied (slot_at t n) → Chain t → Chain (vacate_at t n)
  chain_vacate n h o c = (
    n ∷ c.0,
    subst (λ (u : Table). Linked u.next u.head (n ∷ c.0)) (sym (vacate_within t n h))
        (refl, h, rw (get_or-set_same t.next n t.head 0 (rw size.next h)) (linked_set t.next t.head c.0 n t.head (c.2 n h ∙ o) c.1)),
    λ m b. vacate_at_lem (λ w. times m (n ∷ c.0) ≡ idle (phase_of w)) t n m size.slots h
        (λ e. omega (arith, c.2 n h, o, one_if n m (sym e), ap (λ (j : ℕ). times j c.0) e))
        (λ e. omega (arith, c.2 m b, none_if n m (λ q. e (sym q)))),
  )

-- the fresh table: every slot vacant, its next one more
get_or_rising : (n k i : ℕ) → i < n → get_or (rising k n) i 0 ≡ k + i
get_or_rising zero k i h = absurd (not-suc-le-zero h)
get_or_rising (suc n) k zero h = omega arith
get_or_rising (suc n) k (suc i) h = get_or_rising n (suc k) i (le_of_suc-le-suc h) ∙ omega arith

pub linked_rising : (n k : ℕ) → k + n ≡ 64 → Linked (rising 1 64) k (rising k n)
linked_rising zero k e = omega arith
linked_rising (suc n) k e =
    (refl, omega arith, subst (λ (j : ℕ). Linked (rising 1 64) j (rising (suc k) n)) (sym (get_or_rising 64 1 k (omega arith) ∙ step)) (linked_rising n (suc k) (omega arith)))
  where
    step : 1 + k ≡ suc k
    step = omega arith

times_none : (n k m : ℕ) → m < k → times m (rising k n) ≡ 0
times_none zero k m h = refl
times_none (suc n) k m h = omega (arith, none_if k m (λ e. omega arith), times_none n (suc k) m (omega arith))

times_rising : (n k m : ℕ) → k ≤ m → m < k + n → times m (rising k n) ≡ 1
times_rising zero k m h g = absurd (omega arith)
times_rising (suc n) k m h g = go (dec_lt k m) (λ l. times_rising n (suc k) m l (omega arith))
  where
    go : Dec (k < m) → (k < m → times m (rising (suc k) n) ≡ 1) → one (eqb k m) + times m (rising (suc k) n) ≡ 1
    go (yes l) more = omega (arith, none_if k m (λ e. omega arith), more l)
    go (no l) more = omega (arith, one_if k m (omega (arith, l)), times_none n (suc k) m (omega (arith, l)))

fresh_at : (m : ℕ) → m < 64 → slot_at fresh_table m ≡ vacant_slot
fresh_at m h = ap (λ (b : Bool). cond b (get_or (replicate 64 vacant_slot) m no_slot) vacant_slot) (lt-ltb m 64 h) ∙ get_or-replicate 64 m vacant_slot no_slot h

chain_fresh : Chain fresh_table
chain_fresh = (rising 0 64, linked_rising 64 0 refl, λ m h. times_rising 64 0 m (omega arith) (omega arith) ∙ sym (ap (λ (v : Slot). idle (phase_of v)) (fresh_at m h)))

-- every table that came from the fresh one
pub reached : {t : Table} → Reached t → Sized t × Chain t
reached fresh = (record { slots = refl; next = refl }, chain_fresh)
reached (gave t v r h o) = let i = reached r in (sized_give t v i.0, chain_give t i.0 v o h i.1)
reached (put t n v r p o) =
    let i = reached r in (sized_put t n v i.0, chain_put t i.0 n v (occupied_within t n p) (o ∙ sym p) i.1)
reached (gone t n r p) = let i = reached r in (sized_vacate t n i.0, chain_vacate t i.0 n (occupied_within t n p) p i.1)
