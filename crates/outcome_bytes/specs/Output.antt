-- What a run writes of an event. Numbers are words of eight bytes, little-endian.
use Rattle.std.specs.Prelude.{ℕ, List, [], ◌∷◌, ◌++◌, length}
use Rattle.le.specs.Le.{bytes_of}
use Rattle.status.specs.Status.{bit}
use Rattle.events.specs.Outcome.{Answer, ok, no, wait, blocked, reply, success, error, descriptor, many, Outcome}

-- kind and value; a regular reply's extra0 and notice; how many descriptions, then each
abbrev pub answer_words : Answer → List ℕ
answer_words (ok v) = 0 ∷ v ∷ []
answer_words (no k) = 1 ∷ k ∷ []
answer_words wait = 2 ∷ 0 ∷ []
answer_words blocked = 3 ∷ 0 ∷ []
answer_words (reply (success v x n)) = 4 ∷ v ∷ x ∷ bit n ∷ []
answer_words (reply (error e x n)) = 5 ∷ e ∷ x ∷ bit n ∷ []
answer_words (reply (descriptor d)) = 6 ∷ d ∷ []
answer_words (reply (many ds)) = 7 ∷ length ds ∷ ds

-- the answer; how many words of effects, and these; how many bytes were read, and these
abbrev pub told : Answer → List ℕ → List ℕ → List ℕ
told a fx bs = bytes_of (answer_words a) ++ bytes_of (length fx ∷ fx) ++ bytes_of (length bs ∷ []) ++ bs

abbrev pub outcome_bytes : Outcome → List ℕ
outcome_bytes o = told o.answer o.effects o.bytes
