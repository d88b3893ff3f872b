-- What `hold_words::to_outside` leaves open. Assumes nothing.
use Rattle.hold_words.proofs.Parts.{outside_back}
use Rattle.fd_list.specs.Lists.{numbers}
use Rattle.counts.proofs.Laws.{more_all_length}
use Rattle.counts.specs.Counts.{more_all}
use mathlib.Core.List.{List}
use Prim.Native.Nat.{ℕ}
use Rattle.hold_words.proofs.to_outside.Goals as goal

pub returns : goal.returns
returns c = let a = c.args in outside_back a.s.now c.told-s (λ (l : List ℕ). more_all l (numbers a.l)) (more_all_length (numbers a.l)) _ c.raise_all.ensures
