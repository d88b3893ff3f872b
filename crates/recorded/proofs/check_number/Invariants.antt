-- What is left to do from here is the whole.
use Rattle.std.proofs.Common.{◌≡◌, ◌<◌, ◌%◌, drop}
use Rattle.recorded.specs.Recorded.{check_of}
use Rattle.recorded.proofs.check_number.Given as goal

abbrev pub invariant-loop-b : goal.invariant-loop-b
invariant-loop-b l = record {
  in_range : l.check < 4_294_967_291;
  rest : check_of l.check (drop l.b-index l.bytes) ≡ check_of (l.before % 4_294_967_291) l.bytes;
}
