-- What the dispatch by kind promises: the event's own step, but for the kinds that tell more, which are refused.
use Rattle.std.specs.Prelude.{ℕ, ◌≡◌, Bool, true, false, ◌||◌, List, [], eqb}
use Rattle.events.specs.Outcome.{Answer, no}
use Rattle.events.specs.Event.{Event}
use Rattle.step.specs.Does.{Does}

-- a wake, a read, a write
abbrev pub tells_more : ℕ → Bool
tells_more kind = eqb kind 14 || eqb kind 15 || eqb kind 16

-- from the words ws to the words xs, with answer a and effects fx
abbrev pub Dispatched : Bool → List ℕ → List ℕ → Event → Answer → List ℕ → Type 0
Dispatched true ws xs e a fx = (a ≡ no 205) × (fx ≡ []) × (xs ≡ ws)
Dispatched false ws xs e a fx = Does ws xs e a fx
