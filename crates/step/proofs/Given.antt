-- Events that give a slot out and queue its entry, by their rows. Assumes nothing.
use Prim.Native.Nat.{ℕ, min}
use mathlib.Core.Path.{◌≡◌, sym, ap, ap₂, ◌∙◌}
use mathlib.Core.Bool.{false}
use mathlib.Core.List.{List, [], ◌∷◌}
use Rattle.schemev2.specs.declared.Sqe.{Sqe}
use Rattle.slot.specs.declared.Slot.{Slot}
use Rattle.events.specs.World.{table_of, holds_of}
use Rattle.events.specs.Outcome.{Answer, ok, Row, readable, checked, refuse}
use Rattle.events.specs.Submit.{table_full, begun}
use Rattle.events.specs.Event.{Event, step}
use Rattle.events.proofs.Checked.{Passed}
use Rattle.layout.specs.Layout.{plain_of}
use Rattle.layout.specs.Store.{stored_all, give, send}
use Rattle.packed.specs.Stores.{unless, stores_of}
use Rattle.step.specs.Does.{Does}
use Rattle.step.proofs.Rows.{carried}
use Rattle.step.proofs.Tests.{first_vacant}

module _
    (ws : List ℕ) (e : Event) (rows : List Row) (v : Slot) (f : ℕ → Sqe)
    (is : step (plain_of ws) e ≡ checked (refuse (plain_of ws)) rows (begun (plain_of ws) v (holds_of (plain_of ws)) f))
    (stores : stores_of (plain_of ws) e ≡ unless rows (give v ∷ send (f (table_of (plain_of ws)).head) ∷ []))
  where
    pub does :
        (n : ℕ) (u : Slot) (g : Sqe) (xs fx : List ℕ) (a : Answer) → Passed rows → table_full (plain_of ws) ≡ false → n ≡ min (table_of (plain_of ws)).head 64
        → u ≡ v → g ≡ f n → a ≡ ok (min (table_of (plain_of ws)).head 64) → fx ≡ readable (plain_of ws) → xs ≡ stored_all ws (give u ∷ send g ∷ []) → Does ws xs e a fx
    does n u g xs fx a p q h eu eg ea ef ex =
        let m = first_vacant (plain_of ws) n q h in
        carried ws e rows (begun (plain_of ws) v (holds_of (plain_of ws)) f) (give v ∷ send (f (table_of (plain_of ws)).head) ∷ []) is stores p xs a fx
        (ea ∙ ap ok (sym h ∙ m)) ef (ex ∙ ap₂ (λ (x : Slot) (y : Sqe). stored_all ws (give x ∷ send y ∷ [])) eu (eg ∙ ap f m))
