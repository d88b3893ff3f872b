-- A run as bytes: decoded to events (crate record), run as `Run` of crate events has it, and told in bytes (crate outcome_bytes).
use Rattle.std.specs.Prelude.{ℕ, ◌-◌, ◌≤◌, min, ◌≡◌, Bool, cond, ◌&&◌, List, [], ◌∷◌, ◌++◌, eqb, leb, length, take, drop, replicate}
use Rattle.std.proofs.lemmas.List.Edits.{sets}
use Rattle.events.specs.World.{World}
use Rattle.events.specs.Event.{wake, read, write, Event, on, step}
use Rattle.events.specs.History.{view_of}
use Rattle.events.specs.Run.{Turn, Run, run}
use Rattle.events.specs.Effects.{is_write}
use Rattle.layout.specs.Layout.{plain_of}
use Rattle.outcome_bytes.specs.Output.{outcome_bytes}
use Rattle.state_bytes.specs.StateBytes.{state_bytes}
use Rattle.record.specs.declared.Record.{Record}
use Rattle.record.specs.Record.{record_of, tail_at, tail_of, event_at, decoded}
use Rattle.run_room.specs.Room.{room_of, needed, left_of}
use Rattle.run.specs.declared.RunEnd.{RunEnd}

-- the run of the events that bytes hold, from a fresh state with its queue's words 0; `lent` words are there for writes
abbrev pub run_of : ℕ → ℕ → List ℕ → Run
run_of scheme lent bs = run scheme (replicate 1024 0) (decoded lent bs).events

-- what an event stores in the words that writes are lent
abbrev pub stored_by : World → Event → List ℕ
stored_by w e = cond (is_write (view_of e)) (step w e).effects []

-- the event of a record by its kind: a wake, a read, a write
abbrev pub wake_in : Record → Event
wake_in r = on (wake r.words.0 r.number r.words.1 r.words.2 r.words.3)

abbrev pub read_in : Record → Event
read_in r = on (read r.words.0 r.number)

abbrev pub write_in : Record → List ℕ → ℕ → Event
write_in r bs lent = on (write (min r.words.0 lent) (take (tail_of r) (drop (tail_at r) bs)))

-- what a turn leaves, told of the world that it found: the world, the output from its start on, and how much of it was used
abbrev pub Told : World → World → Event → List ℕ → List ℕ → ℕ → Type 0
Told w u e out out' used = (u ≡ (step w e).world) × ((out' ≡ sets out 0 (outcome_bytes (step w e))) × (used ≡ length (outcome_bytes (step w e))))

-- a turn of the event that a record holds, from the words ws to xs: what it tells, what it stores in the words that writes are lent,
-- and that it keeps to its room
pub record Turned (ws xs rec fx fx' out out' : List ℕ) (used : ℕ) : Type 0 where
  pub told : Told (plain_of ws) (plain_of xs) (event_at (length fx) rec) out out' used
  pub lent : fx' ≡ sets fx 0 (stored_by (plain_of ws) (event_at (length fx) rec))
  pub room : used ≤ room_of (record_of rec)

-- turns stand newest first
abbrev pub told_of : List Turn → List ℕ
told_of [] = []
told_of (t ∷ ts) = told_of ts ++ outcome_bytes t.outcome

abbrev pub lent_after : List ℕ → List Turn → List ℕ
lent_after fx [] = fx
lent_after fx (t ∷ ts) = sets (lent_after fx ts) 0 (stored_by t.before t.event)

-- each event's bytes, and after the last the state's
abbrev pub output_of : Run → List ℕ
output_of r = told_of r.turns ++ state_bytes r.world

-- all were run
abbrev pub whole_end : ℕ → ℕ → List ℕ → RunEnd
whole_end scheme lent bs = record { number = 0; place = length bs; written = length (output_of (run_of scheme lent bs)) }

-- turned down before the first event: 205, the record at `place` is no event; then 204, the output is too short
abbrev pub end_of : ℕ → ℕ → ℕ → List ℕ → RunEnd
end_of scheme lent most bs =
    cond (eqb (left_of bs) 0)
    (cond (leb (needed bs) most) (whole_end scheme lent bs) (record { number = 204; place = 0; written = 0 }))
    (record { number = 205; place = length bs - left_of bs; written = 0 })

-- neither, and then nothing that is lent changes but by the run
abbrev pub is_run : ℕ → List ℕ → Bool
is_run most bs = eqb (left_of bs) 0 && leb (needed bs) most

abbrev pub out_after : ℕ → ℕ → List ℕ → List ℕ → List ℕ
out_after scheme lent out bs = cond (is_run (length out) bs) (sets out 0 (output_of (run_of scheme lent bs))) out

abbrev pub fx_after : ℕ → ℕ → List ℕ → List ℕ → List ℕ
fx_after scheme most fx bs = cond (is_run most bs) (lent_after fx (run_of scheme (length fx) bs).turns) fx
