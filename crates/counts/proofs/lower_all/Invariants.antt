-- What is left of the list, done to the counts as they are, gives the whole.
use Rattle.std.proofs.Common.{◌≡◌, map, drop}
use Rattle.fd_list.specs.Lists.{num}
use Rattle.counts.specs.Counts.{less_all}
use Rattle.counts.proofs.lower_all.Given as goal

abbrev pub invariant-loop-d : goal.invariant-loop-d
invariant-loop-d l = less_all l.a (map num (drop l.d-index l.d-items)) ≡ less_all l.initial.a (map num l.d-items)
