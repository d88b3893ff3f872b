-- 01's number of each refusal; and the number and values of what is read from a word, an opcode or an entry: a success has its values,
-- a refusal its number.
use Rattle.std.specs.Prelude.{List, [], ℕ}
use Rattle.answer.specs.declared.Refusal.{Refusal}
use Rattle.answer.specs.declared.Refusal.TheVariants.{NotFound, NoCaller, Interrupted, Again, Invalid, BadDescriptor, NotSupported, NotYours, Full, QueueFull, ShortWords, BadArgument, TooManyFds, TooManyHolds}

-- those of the Rust's own, then the layer's
abbrev pub refusal_number : Refusal → ℕ
refusal_number NotFound = 2
refusal_number NoCaller = 3
refusal_number Interrupted = 4
refusal_number Again = 11
refusal_number Invalid = 22
refusal_number BadDescriptor = 77
refusal_number NotSupported = 95
refusal_number NotYours = 201
refusal_number Full = 202
refusal_number QueueFull = 203
refusal_number ShortWords = 204
refusal_number BadArgument = 205
refusal_number TooManyFds = 206
refusal_number TooManyHolds = 207

pub data Numbered : Type 0 where
  success : List ℕ → Numbered
  refused : ℕ → Numbered

-- the refusal's number, 0 for a success
abbrev pub number_of : Numbered → ℕ
number_of (success vs) = 0
number_of (refused n) = n

abbrev pub values_of : Numbered → List ℕ
values_of (success vs) = vs
values_of (refused n) = []
