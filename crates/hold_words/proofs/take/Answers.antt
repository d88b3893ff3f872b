-- What `hold_words::take` leaves open. Assumes nothing.
use Rattle.hold_words.proofs.Parts.{outside_back}
use Rattle.fd_list.specs.Lists.{numbers}
use Rattle.counts.proofs.Laws.{less_all_length}
use Rattle.counts.specs.Counts.{less_all}
use mathlib.Core.List.{List}
use Prim.Native.Nat.{ℕ}
use Rattle.hold_words.proofs.take.Goals as goal

pub returns : goal.returns
returns c = let a = c.args in outside_back a.s.now c.told-s (λ (l : List ℕ). less_all l (numbers a.l)) (less_all_length (numbers a.l)) _ c.lower_all.ensures
