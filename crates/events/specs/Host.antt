-- The host's five events (01, "Slots and holds"; the first row of the refusal table): open, copy, drop, put, ended.
-- A description over 63, not open, already open or short of outside holds, a handle over 63 or full: 205; 65,535 holds: 207.
use Rattle.std.specs.Prelude.{ℕ, []}
use Rattle.host_ended.specs.Ended.{ended_table}
use Rattle.host_holds.specs.Host.{open_of, copy_of, drop_of}
use Rattle.host_put.specs.Put.{put_of}
use Rattle.events.specs.World.{World, table_of, holds_of, handles_of, with_table, with_holds, with_handles}
use Rattle.events.specs.Outcome.{Outcome, outcome, said, ok}

abbrev pub host_open_of : World → ℕ → Outcome
host_open_of w d = outcome (said (open_of (holds_of w) d).answer) [] (with_holds w (open_of (holds_of w) d).holds)

abbrev pub host_copy_of : World → ℕ → Outcome
host_copy_of w d = outcome (said (copy_of (holds_of w) d).answer) [] (with_holds w (copy_of (holds_of w) d).holds)

-- an outside drop makes no effect, also of the last hold
abbrev pub host_drop_of : World → ℕ → Outcome
host_drop_of w d = outcome (said (drop_of (holds_of w) d).answer) [] (with_holds w (drop_of (holds_of w) d).holds)

abbrev pub host_put_of : World → ℕ → ℕ → Outcome
host_put_of w d k =
    outcome (said (put_of (holds_of w) (handles_of w) d k).answer) []
    (with_handles (with_holds w (put_of (holds_of w) (handles_of w) d k).holds) (put_of (holds_of w) (handles_of w) d k).handles)

-- the slots that this caller has are marked
abbrev pub host_ended_of : World → ℕ → Outcome
host_ended_of w c = outcome (ok 0) [] (with_table w (ended_table (table_of w) c))
