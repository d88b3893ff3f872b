-- The words before number i are copied; what is left to copy, from here, gives the whole.
use Rattle.std.proofs.Common.{◌≡◌, ◌-◌, ◌*◌, ◌/◌, ◌≤◌, take}
use Rattle.std.proofs.lemmas.List.Edits.{sets}
use Rattle.wait_queue.specs.Queue.{unread}
use Rattle.queue_words.proofs.Copying.{left}
use Rattle.queue_words.proofs.copy.Given as goal

abbrev pub invariant-loop-i : goal.invariant-loop-i
invariant-loop-i l = record {
  within : l.i ≤ l.n / 8;
  rest : sets l.out (l.i * 8) (left l.q l.ring (l.q.len * 8) l.n l.i) ≡ sets l.initial.out 0 (take l.n (unread l.q l.ring));
}

abbrev pub decreases-loop-i : goal.decreases-loop-i
decreases-loop-i l = l.n / 8 - l.i
