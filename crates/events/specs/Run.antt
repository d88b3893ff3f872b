-- A run: any list of events from a fresh state, each on the state that the last one left; and its trace. A host's own steps, each
-- on the state that the step before returned, come to the same.
use Rattle.std.specs.Prelude.{ℕ, suc, ◌≡◌, List, [], ◌∷◌, ◌++◌, length}
use Rattle.events.specs.World.{World, fresh_world}
use Rattle.events.specs.Outcome.{Outcome}
use Rattle.events.specs.Event.{Event, step}
use Rattle.events.specs.History.{Fact, view_of, news}

-- one event of a run: its number from 0, what had happened, the state before it, the event and its outcome
pub record Turn : Type 0 where
  pub number : ℕ
  pub past : List Fact
  pub before : World
  pub event : Event
  pub outcome : Outcome

-- a run so far: its state, how many events it had, what happened and every turn, newest first
pub record Run : Type 0 where
  pub world : World
  pub number : ℕ
  pub facts : List Fact
  pub turns : List Turn

abbrev pub begin : ℕ → List ℕ → Run
begin scheme words = record { world = fresh_world scheme words; number = 0; facts = []; turns = [] }

-- one event more, with the outcome that its step returned
abbrev pub told : Run → Event → Outcome → Run
told r e o =
    record {
      world = o.world;
      number = suc r.number;
      facts = news r.number r.world (view_of e) o.answer ++ r.facts;
      turns = record { number = r.number; past = r.facts; before = r.world; event = e; outcome = o } ∷ r.turns;
    }

abbrev pub turn_of : Run → Event → Turn
turn_of r e = record { number = r.number; past = r.facts; before = r.world; event = e; outcome = step r.world e }

abbrev pub next : Run → Event → Run
next r e = told r e (step r.world e)

abbrev pub run_from : Run → List Event → Run
run_from r [] = r
run_from r (e ∷ es) = run_from (next r e) es

-- from a fresh state, given its scheme number and the words lent for its queue
abbrev pub run : ℕ → List ℕ → List Event → Run
run scheme words es = run_from (begin scheme words) es

-- a host's own steps: each on the state that the step before returned, its outcome the one that the step promises
pub data Steps : Run → Type 0 where
  fresh : (scheme : ℕ) (words : List ℕ) → length words ≡ 1024 → Steps (begin scheme words)
  then : (r : Run) (e : Event) (o : Outcome) → Steps r → o ≡ step r.world e → Steps (told r e o)
