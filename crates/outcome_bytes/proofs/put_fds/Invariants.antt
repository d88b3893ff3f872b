-- What is left to store, from here, is the whole.
use Rattle.std.proofs.Common.{◌≡◌, ◌+◌, ◌*◌, drop}
use Rattle.std.proofs.lemmas.List.Edits.{sets}
use Rattle.fd_list.specs.Lists.{numbers}
use Rattle.le.specs.Le.{bytes_of}
use Rattle.outcome_bytes.proofs.put_fds.Given as goal

abbrev pub invariant-loop-i : goal.invariant-loop-i
invariant-loop-i l = sets l.out (l.at + 8 * l.i) (bytes_of (drop l.i (numbers l.l))) ≡ sets l.initial.out l.at (bytes_of (numbers l.l))
