-- Those so far and those from here on are all.
use Rattle.std.proofs.Common.{◌≡◌, ℕ, ◌+◌, ◌-◌, ◌≤◌, length, drop}
use Rattle.record.specs.Record.{decoded}
use Rattle.recorded.proofs.count_events.Given as goal

abbrev pub invariant-loop-size : goal.invariant-loop-size
invariant-loop-size l = record {
  at_within : l.at ≤ length l.events;
  n_within : l.n ≤ l.at;
  counted : (lent : ℕ) → l.n + length (decoded lent (drop l.at l.events)).events ≡ length (decoded lent l.events).events;
}

abbrev pub decreases-loop-size : goal.decreases-loop-size
decreases-loop-size l = length l.events - l.at
