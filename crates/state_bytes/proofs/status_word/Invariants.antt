-- The slots from here on.
use Rattle.std.proofs.Common.{◌≡◌, drop}
use Rattle.status.specs.Status.{is_in, word_of}
use Rattle.events.specs.World.{table_of}
use Rattle.layout.specs.Layout.{plain_of}
use Rattle.state_bytes.proofs.status_word.Given as goal

abbrev pub invariant-loop-i : goal.invariant-loop-i
invariant-loop-i l = l.w ≡ word_of (is_in l.which) (drop l.i (table_of (plain_of l.s)).slots)
