-- What is left of the list, dropped from the counts as they are, gives the whole: the counts, how many closes, and their words.
use Rattle.std.proofs.Common.{◌≡◌, ◌+◌, ◌*◌, ◌≤◌, length, map, drop}
use Rattle.std.proofs.lemmas.List.Edits.{sets}
use Rattle.fd_list.specs.Lists.{num}
use Rattle.counts.specs.Counts.{less_all, lasts}
use Rattle.closes.specs.Closes.{only, closes}
use Rattle.closes.proofs.drop_all.Given as goal

abbrev pub invariant-loop-d : goal.invariant-loop-d
invariant-loop-d l = record {
  few : l.k ≤ l.d-index;
  a_rest : less_all l.a (map num (drop l.d-index l.d-items)) ≡ less_all l.initial.a (map num l.d-items);
  number : l.k + length (only l.follows (lasts l.a (map num (drop l.d-index l.d-items)))) ≡ length (only l.follows (lasts l.initial.a (map num l.d-items)));
  words : sets l.fx (l.at + 3 * l.k) (closes (only l.follows (lasts l.a (map num (drop l.d-index l.d-items))))) ≡ sets l.initial.fx l.at (closes (only l.follows (lasts l.initial.a (map num l.d-items))));
}
