-- A well-formed state: what holds of the state of every run, whatever happened.
use Rattle.std.specs.Prelude.{ℕ, ◌≤◌, ◌≡◌, length}
use Rattle.table.specs.Reached.{Chain}
use Rattle.events.specs.World.{World, table_of, handles_of, queue_of, slot_in}

pub record WellFormed (w : World) : Type 0 where
  pub slots : length (table_of w).slots ≡ 64
  pub next : length (table_of w).next ≡ 64
  pub chain : Chain (table_of w)  -- the chain is exactly the vacant slots, each once
  pub handles : length (handles_of w).at ≡ 64
  pub room : (queue_of w).len ≤ 128
  pub words : length w.words ≡ 1024
  pub lists : (n : ℕ) → length (slot_in w n).fds.at ≡ 16
