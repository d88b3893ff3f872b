-- The room that a run's output needs, and where its events end.
use Rattle.std.specs.Prelude.{ℕ, ◌+◌, ◌-◌, ◌*◌, min, cond, List, eqb, leb, length}
use Rattle.record.specs.declared.Record.{Record}
use Rattle.record.specs.Record.{record_of, tail_by, walk}
use Rattle.state_bytes.specs.StateBytes.{state_size}
use Rattle.run_room.specs.declared.Walked.{Walked}

-- the room that an event's bytes may take: a reply of 16 descriptions, the bytes of a read, 18 effects for each 16 bytes of a write
abbrev pub room_by : ℕ → ℕ → ℕ → ℕ
room_by kind number word = 192 + cond (eqb kind 15) (min word 8192) 0 + 27 * tail_by kind number

abbrev pub room_of : Record → ℕ
room_of r = room_by r.kind r.number r.words.0

abbrev pub needed : List ℕ → ℕ
needed bs = walk (λ rest. state_size) (λ rest n. room_of (record_of rest) + n) (length bs) bs

-- how many bytes are left from the first record on that is no event, and where it begins
abbrev pub left_of : List ℕ → ℕ
left_of bs = walk (λ rest. length rest) (λ rest n. n) (length bs) bs

abbrev pub walked_of : List ℕ → ℕ → Walked
walked_of bs most = record { fits = leb (needed bs) most; end = length bs - left_of bs }
