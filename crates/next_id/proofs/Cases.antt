-- A reserve by its test. Assumes nothing.
use Prim.Native.Nat.{ℕ, min}
use mathlib.Core.Path.{◌≡◌, refl, ap, ◌∙◌}
use mathlib.Core.Bool.{true, false}
use mathlib.Core.List.{List, [], ◌∷◌}
use Rattle.slot.specs.declared.Slot.{Slot}
use Rattle.slot.specs.Slots.{placeholder_of}
use Rattle.events.specs.World.{World, table_of}
use Rattle.events.specs.Outcome.{Answer, ok, no}
use Rattle.events.specs.Submit.{table_full, reserve_rows, reserved}
use Rattle.events.specs.Event.{Event, on, reserve}
use Rattle.layout.specs.Layout.{plain_of}
use Rattle.layout.specs.Store.{stored, give}
use Rattle.step.specs.Does.{Does}
use Rattle.step.proofs.Rows.{turned, carried}
use Rattle.step.proofs.Tests.{first_vacant}

module _ (ws : List ℕ) (c : ℕ) where
  abbrev w : World
  w = plain_of ws

  abbrev e : Event
  e = on (reserve c)

  pub full : table_full w ≡ true → (a : Answer) (fx : List ℕ) → a ≡ no 202 → fx ≡ [] → Does ws ws e a fx
  full q = turned ws e (reserve_rows w) (reserved w c) (give (placeholder_of c) ∷ []) refl refl 202 (rw q refl)

  pub given :
      (n : ℕ) (v : Slot) (xs fx : List ℕ) → table_full w ≡ false → n ≡ min (table_of w).head 64 → v ≡ placeholder_of c → xs ≡ stored ws (give v) → fx ≡ []
      → Does ws xs e (ok n) fx
  given n v xs fx q h is x f =
      carried ws e (reserve_rows w) (reserved w c) (give (placeholder_of c) ∷ []) refl refl (q, tt) xs (ok n) fx (ap ok (first_vacant w n q h)) f
      (x ∙ ap (λ (u : Slot). stored ws (give u)) is)
