-- The slots from here on are as they were, and marking them gives the whole.
use Rattle.std.proofs.Common.{◌≡◌, ℕ, ◌-◌, ◌≤◌}
use Rattle.events.specs.World.{slot_in}
use Rattle.layout.specs.Layout.{plain_of}
use Rattle.layout.specs.Store.{stored_all}
use Rattle.packed.specs.Stores.{marks}
use Rattle.host.proofs.ended.Given as goal

abbrev pub invariant-loop-i : goal.invariant-loop-i
invariant-loop-i l = record {
  rest : stored_all l.s (marks (64 - l.i) l.i (plain_of l.initial.s) l.caller) ≡ stored_all l.initial.s (marks 64 0 (plain_of l.initial.s) l.caller);
  behind : (j : ℕ) → l.i ≤ j → slot_in (plain_of l.s) j ≡ slot_in (plain_of l.initial.s) j;
}
