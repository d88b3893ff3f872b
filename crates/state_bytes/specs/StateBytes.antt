-- What a run writes of the state at its end. Numbers are words of eight bytes, little-endian.
use Rattle.std.specs.Prelude.{ℕ, List, [], ◌∷◌, ◌++◌}
use Rattle.std.specs.Int.Count.{ones}
use Rattle.le.specs.Le.{bytes_of}
use Rattle.status.specs.declared.Status.{Status}
use Rattle.status.specs.declared.Status.TheVariants.{Placeholder, Outstanding, Responded, Fmap, Orphans}
use Rattle.status.specs.Status.{is_in, word_of}
use Rattle.table.specs.declared.Table.{Table}
use Rattle.events.specs.World.{World, table_of, holds_of, handles_of, queue_of}

-- a status word and its count of ones
abbrev pub status_pair : Table → Status → List ℕ
status_pair t k = word_of (is_in k) t.slots ∷ ones (word_of (is_in k) t.slots) ∷ []

abbrev pub status_words : Table → List ℕ
status_words t = status_pair t Placeholder ++ status_pair t Outstanding ++ status_pair t Responded ++ status_pair t Fmap ++ status_pair t Orphans

-- unread entries; all holds of each description, its outside holds; each handle, 0 for an empty one and else the description and
-- one; the status words, whose bits say the state of each slot
abbrev pub state_bytes : World → List ℕ
state_bytes w = bytes_of ((queue_of w).len ∷ []) ++ bytes_of (holds_of w).holds ++ bytes_of (holds_of w).outside ++ bytes_of (handles_of w).at ++ bytes_of (status_words (table_of w))

-- how many there are
abbrev pub state_size : ℕ
state_size = 1624
