-- What is left to copy, from here, is the whole.
use Rattle.std.proofs.Common.{◌≡◌, ◌+◌, ◌*◌, drop}
use Rattle.std.proofs.lemmas.List.Edits.{sets}
use Rattle.le.specs.Le.{bytes_of}
use Rattle.queue_words.proofs.copy_run.Given as goal

abbrev pub invariant-loop-j : goal.invariant-loop-j
invariant-loop-j l = sets l.out (l.at + l.j * 8) (bytes_of (drop l.j l.from)) ≡ sets l.initial.out l.at (bytes_of l.from)
