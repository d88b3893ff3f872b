-- Map supply by its tests and by the slot's phase. Assumes nothing.
use Prim.Native.Nat.{ℕ, min, ◌%◌}
use mathlib.Core.Path.{◌≡◌, refl, sym, ap, ◌∙◌}
use mathlib.Core.Bool.{Bool, true, false}
use mathlib.Core.List.{List, []}
use lib.Dec.{eqb}
use Rattle.slot.specs.declared.Phase.{Phase}
use Rattle.slot.specs.declared.Phase.TheVariants.{Fmap}
use Rattle.slot.specs.declared.Slot.{Slot}
use Rattle.slot.specs.Slots.{phase_of}
use Rattle.events.specs.World.{World, slot_in, phase_in}
use Rattle.events.specs.Outcome.{Answer, no}
use Rattle.events.specs.Supply.{supplied_as, supplied_by, page_rows}
use Rattle.events.specs.Event.{Event, on, supply}
use Rattle.layout.specs.Layout.{plain_of}
use Rattle.layout.specs.Store.{stored, stored_all, vacate}
use Rattle.packed.specs.Stores.{supplied_stores}
use Rattle.step.specs.Does.{Due, Does}
use Rattle.step.proofs.Rows.{turned, carried}
use Rattle.step.proofs.Tests.{slot_of_in, vacate_of}

module _ (ws : List ℕ) (t offset base count : ℕ) (a : Answer) (fx : List ℕ) where
  abbrev w : World
  w = plain_of ws

  abbrev e : Event
  e = on (supply t offset base count)

  wrong : Due (page_rows offset base count) 22 → a ≡ no 22 → fx ≡ [] → Does ws ws e a fx
  wrong d = turned ws e (page_rows offset base count) (supplied_by (phase_in w t) w t) (supplied_stores (phase_in w t) t) refl refl 22 d a fx

  pub wrong_offset : eqb (offset % 4096) 0 ≡ false → a ≡ no 22 → fx ≡ [] → Does ws ws e a fx
  wrong_offset q = wrong (rw q refl)

  pub wrong_base : eqb (offset % 4096) 0 ≡ true → eqb (base % 4096) 0 ≡ false → a ≡ no 22 → fx ≡ [] → Does ws ws e a fx
  wrong_base o q = wrong (rw (o, q) refl)

  pub wrong_count : eqb (offset % 4096) 0 ≡ true → eqb (base % 4096) 0 ≡ true → eqb count 1 ≡ false → a ≡ no 22 → fx ≡ [] → Does ws ws e a fx
  wrong_count o b q = wrong (rw (o, b, q) refl)

  module _ (o : eqb (offset % 4096) 0 ≡ true) (b : eqb (base % 4096) 0 ≡ true) (k : eqb count 1 ≡ true) where
    module _ (n : ℕ) (g : n ≡ min t 64) (v : Slot) (l : v ≡ slot_in w n) (p : Phase) (f : p ≡ phase_of v) where
      here : v ≡ slot_in w t
      here = l ∙ ap (slot_in w) g ∙ slot_of_in w t

      pub in_phase :
          (x : Phase) → p ≡ x → (xs : List ℕ) → a ≡ (supplied_by x w t).answer → fx ≡ (supplied_by x w t).effects → xs ≡ stored_all ws (supplied_stores x t) → Does ws xs e a fx
      in_phase x q xs ea ef ex =
          let y : phase_in w t ≡ x = sym (f ∙ ap phase_of here) ∙ q in
          carried ws e (page_rows offset base count) (supplied_by x w t) (supplied_stores x t) (rw (y, o, b, k) refl) (rw (y, o, b, k) refl) (rw (o, b, k) refl, tt) xs a fx ea ef ex

      pub supplied : p ≡ Fmap → (xs : List ℕ) → xs ≡ stored ws (vacate n) → (d : Bool) → v.ended ≡ d → a ≡ supplied_as d → fx ≡ [] → Does ws xs e a fx
      supplied q xs ex d r ea ef =
          in_phase Fmap q xs (ea ∙ ap supplied_as (sym r ∙ ap (λ (u : Slot). u.ended) here)) ef (ex ∙ ap (λ (m : ℕ). stored ws (vacate m)) g ∙ vacate_of ws t)
