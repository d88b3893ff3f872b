-- What a reading of a reply or of an error word is told as: from the reading to all of its words.
use Rattle.std.specs.Prelude.{[], ◌∷◌}
use Rattle.answer.specs.Numbered.{Numbered, success, refused}
use Rattle.events.specs.Outcome.{Answer, ok, no}
use Rattle.events.specs.Replies.{Opened, scheme_local, external, failed}
use Rattle.reading_step.specs.declared.OpenedWords.{OpenedWords}

-- what an open or a dup got: 0 a number of the scheme's own with its flags, 1 a description, 2 refused with a number
abbrev pub opened_words : Opened → OpenedWords
opened_words (scheme_local w x) = record { kind = 0; value = w; flags = x }
opened_words (external d) = record { kind = 1; value = d; flags = 0 }
opened_words (failed e) = record { kind = 2; value = e; flags = 0 }

-- an error word: its value or its number
abbrev pub read_as : Numbered → Answer
read_as (success []) = ok 0
read_as (success (v ∷ vs)) = ok v
read_as (refused k) = no k
