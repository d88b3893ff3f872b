-- `call_generic` with any opcode: whichever event comes to it, its own rows passed, is done.
use Rattle.std.specs.Prelude.{ℕ, ◌≡◌, List, [], ◌∷◌}
use Rattle.slot.specs.Slots.{no_fds, waiting_of}
use Rattle.events.specs.World.{World, table_of, holds_of}
use Rattle.events.specs.Outcome.{Answer, Outcome, refuse, checked}
use Rattle.events.specs.Submit.{generic_rows, generic_entry, begun}
use Rattle.events.specs.Event.{Event, step}
use Rattle.layout.specs.Layout.{plain_of}
use Rattle.layout.specs.Store.{Store, give, send}
use Rattle.packed.specs.Stores.{unless, stores_of}
use Rattle.step.specs.Does.{Does}

abbrev pub generic_with : ℕ → World → ℕ → ℕ → List ℕ → ℕ → ℕ → List ℕ → Outcome
generic_with op w c pid fds base len ms =
    checked (refuse w) (generic_rows w fds) (begun w (waiting_of c no_fds) (holds_of w) (generic_entry op pid fds base len ms))

abbrev pub stores_with : ℕ → World → ℕ → ℕ → List ℕ → ℕ → ℕ → List ℕ → List Store
stores_with op w c pid fds base len ms =
    unless (generic_rows w fds) (give (waiting_of c no_fds) ∷ send (generic_entry op pid fds base len ms (table_of w).head) ∷ [])

-- from the words ws to the words xs, with answer a and effects fx
abbrev pub DoesWith : ℕ → List ℕ → List ℕ → ℕ → ℕ → List ℕ → ℕ → ℕ → List ℕ → Answer → List ℕ → Type 0
DoesWith op ws xs c pid fds base len ms a fx =
    (e : Event) → step (plain_of ws) e ≡ generic_with op (plain_of ws) c pid fds base len ms
    → stores_of (plain_of ws) e ≡ stores_with op (plain_of ws) c pid fds base len ms → Does ws xs e a fx
