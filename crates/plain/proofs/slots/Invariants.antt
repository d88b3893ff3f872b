-- The slots so far are read.
use Rattle.std.proofs.Common.{◌≡◌, length, take}
use Rattle.events.specs.World.{table_of}
use Rattle.layout.specs.Layout.{plain_of}
use Rattle.plain.proofs.slots.Given as goal

abbrev pub invariant-loop-i : goal.invariant-loop-i
invariant-loop-i l = record {
  long : length l.a ≡ 64;
  read : take l.i l.a ≡ take l.i (table_of (plain_of l.s)).slots;
}
