-- `close` and `detach` by their test. Assumes nothing.
use Prim.Native.Nat.{ℕ}
use mathlib.Core.Path.{◌≡◌, refl, ap, ◌∙◌}
use mathlib.Core.Bool.{true, false}
use mathlib.Core.List.{List, [], ◌∷◌}
use Rattle.schemev2.specs.declared.Sqe.{Sqe}
use Rattle.events.specs.World.{World, queue_full}
use Rattle.events.specs.Outcome.{Answer, ok, no, root_effect, checked, refuse}
use Rattle.events.specs.Submit.{queue_rows, notified}
use Rattle.events.specs.Event.{Event, step}
use Rattle.layout.specs.Layout.{plain_of}
use Rattle.layout.specs.Store.{stored_all, send}
use Rattle.packed.specs.Stores.{unless, stores_of}
use Rattle.step.specs.Does.{Does}
use Rattle.step.proofs.Rows.{turned, carried}

-- an event that queues the entry f, with the root's event and these flags
module _
    (ws : List ℕ) (e : Event) (flags : ℕ) (f : Sqe)
    (is : step (plain_of ws) e ≡ checked (refuse (plain_of ws)) (queue_rows (plain_of ws)) (notified (plain_of ws) flags f))
    (stores : stores_of (plain_of ws) e ≡ unless (queue_rows (plain_of ws)) (send f ∷ []))
  where
    abbrev w : World
    w = plain_of ws

    pub full : queue_full w ≡ true → (a : Answer) (fx : List ℕ) → a ≡ no 203 → fx ≡ [] → Does ws ws e a fx
    full q = turned ws e (queue_rows w) (notified w flags f) (send f ∷ []) is stores 203 (rw q refl)

    pub queued :
        (bits : ℕ) (g : Sqe) (xs fx : List ℕ) (a : Answer) → queue_full w ≡ false → bits ≡ flags → g ≡ f → a ≡ ok 0 → fx ≡ root_effect w bits → xs ≡ stored_all ws (send g ∷ [])
        → Does ws xs e a fx
    queued bits g xs fx a q b h p r x =
        carried ws e (queue_rows w) (notified w flags f) (send f ∷ []) is stores (q, tt) xs a fx p (r ∙ ap (root_effect w) b) (x ∙ ap (λ (y : Sqe). stored_all ws (send y ∷ [])) h)
