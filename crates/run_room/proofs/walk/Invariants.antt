-- What is left to spend, and to walk, decides as the whole does.
use Rattle.std.proofs.Common.{◌≡◌, ◌-◌, ◌≤◌, length, drop}
use Rattle.run_room.specs.Room.{left_of}
use Rattle.run_room.proofs.Rooms.{Spent}
use Rattle.run_room.proofs.walk.Given as goal

abbrev pub invariant-loop-size : goal.invariant-loop-size
invariant-loop-size l = record {
  in_range : l.at ≤ length l.events;
  spent : Spent l.events l.most l.left l.at;
  same_end : left_of (drop l.at l.events) ≡ left_of l.events;
}

abbrev pub decreases-loop-size : goal.decreases-loop-size
decreases-loop-size l = length l.events - l.at
