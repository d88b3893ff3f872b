-- What the tests of events' functions say of the plain state. Assumes nothing.
use Prim.Native.Nat.{ℕ, min, ◌<◌}
use mathlib.Core.Path.{◌≡◌, refl, sym, ap, ◌∙◌}
use mathlib.Core.Bool.{Bool, true, false, cond}
use mathlib.Core.List.{List}
use native.Mathlib.Omega.{arith}
use lib.Dec.{ltb}
use Rattle.std.specs.Prelude.{Option, Some, None, Result, Ok, Err}
use Rattle.std.specs.Option.{ok_or}
use lib.ListN.{get_or}
use borrow.Author.Tests.{ltb-true, ltb-false, leb-false}
use Rattle.slot.specs.declared.Slot.{Slot}
use Rattle.slot.specs.Slots.{vacant_slot}
use Rattle.table.specs.Table.{no_slot}
use Rattle.events.specs.World.{World, table_of, slot_in}
use Rattle.events.specs.Submit.{table_full}
use Rattle.layout.specs.Store.{put_words, vacate_words, stored, put, vacate}

-- what a function told of a test
pub is : {b c x : Bool} → b ≡ c → b ≡ x → c ≡ x
is e q = sym e ∙ q

-- what `ok_or` and `?` found
pub found : {A E : Type 0} (o : Option A) (k : E) (r : Result A E) (x : A) → r ≡ ok_or o k → r ≡ Ok x → o ≡ Some x
found None k r x p q = absurd (let z : ◌≡◌ {A = ℕ} 0 1 = cc in omega (arith, z))
found (Some y) k r x p q = cc

pub missed : {A E : Type 0} (o : Option A) (k : E) (r : Result A E) (x : E) → r ≡ ok_or o k → r ≡ Err x → (o ≡ None) × (x ≡ k)
missed None k r x p q = (refl, cc)
missed (Some y) k r x p q = absurd (let z : ◌≡◌ {A = ℕ} 0 1 = cc in omega (arith, z))

-- the slot that is given out
pub first_vacant : (w : World) (n : ℕ) → table_full w ≡ false → n ≡ min (table_of w).head 64 → n ≡ (table_of w).head
first_vacant w n q e = e ∙ least (table_of w).head (leb-false 64 (table_of w).head q)
  where
    least : (x : ℕ) → x < 64 → min x 64 ≡ x
    least x h = omega arith

-- the slot that a tag names, for one over 63 none: nothing tells the two numbers apart
named : {A : Type 0} (f : ℕ → A) (x : A) (t : ℕ) → cond (ltb (min t 64) 64) (f (min t 64)) x ≡ cond (ltb t 64) (f t) x
named f x t = go (ltb t 64) refl
  where
    go : (b : Bool) → ltb t 64 ≡ b → cond (ltb (min t 64) 64) (f (min t 64)) x ≡ cond (ltb t 64) (f t) x
    go true e = ap (λ (n : ℕ). cond (ltb n 64) (f n) x) least
      where
        least : min t 64 ≡ t
        least = omega (arith, ltb-true t 64 e)
    go false e = ap (λ (n : ℕ). cond (ltb n 64) (f n) x) most ∙ sym (ap (λ (b : Bool). cond b (f t) x) e)
      where
        most : min t 64 ≡ 64
        most = omega (arith, ltb-false t 64 e)

pub slot_of_in : (w : World) (t : ℕ) → slot_in w (min t 64) ≡ slot_in w t
slot_of_in w t = named (λ (n : ℕ). get_or (table_of w).slots n no_slot) vacant_slot t

pub put_of : (ws : List ℕ) (t : ℕ) (v : Slot) → stored ws (put (min t 64) v) ≡ stored ws (put t v)
put_of ws t v = named (λ (n : ℕ). put_words ws n v) ws t

pub vacate_of : (ws : List ℕ) (t : ℕ) → stored ws (vacate (min t 64)) ≡ stored ws (vacate t)
vacate_of ws t = named (λ (n : ℕ). vacate_words ws n) ws t
