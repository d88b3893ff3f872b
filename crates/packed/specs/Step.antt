-- The step on words, and a run of such steps: what the code of every event does, each word of the state settled.
use Rattle.std.specs.Prelude.{ℕ, List, [], ◌∷◌}
use Rattle.events.specs.World.{World, fresh_world, unread_in}
use Rattle.events.specs.Outcome.{Answer, Outcome}
use Rattle.events.specs.Event.{Event, step}
use Rattle.layout.specs.Layout.{plain_of, packed_of}
use Rattle.layout.specs.Store.{stored_all}
use Rattle.packed.specs.Stores.{stores_of}

-- the words after an event
abbrev pub words_after : List ℕ → Event → List ℕ
words_after ws e = stored_all ws (stores_of (plain_of ws) e)

-- what a host sees of an event: its answer, its effects, the bytes that it stored, and the bytes unread afterwards
pub record Seen : Type 0 where
  pub answer : Answer
  pub effects : List ℕ
  pub bytes : List ℕ
  pub unread : List ℕ

abbrev pub seen : Outcome → World → Seen
seen o w = record { answer = o.answer; effects = o.effects; bytes = o.bytes; unread = unread_in w }

-- on words
abbrev pub packed_run : List ℕ → List Event → List Seen
packed_run ws [] = []
packed_run ws (e ∷ es) = seen (step (plain_of ws) e) (plain_of (words_after ws e)) ∷ packed_run (words_after ws e) es

-- on the plain state
abbrev pub plain_run : World → List Event → List Seen
plain_run w [] = []
plain_run w (e ∷ es) = seen (step w e) (step w e).world ∷ plain_run (step w e).world es

-- every slot vacant, queue and handles empty, no description open; scheme number and the queue's words as given
abbrev pub fresh_words : ℕ → List ℕ → List ℕ
fresh_words scheme words = packed_of (fresh_world scheme words)

-- the words that a run leaves
abbrev pub words_run : List ℕ → List Event → List ℕ
words_run ws [] = ws
words_run ws (e ∷ es) = words_run (words_after ws e) es
