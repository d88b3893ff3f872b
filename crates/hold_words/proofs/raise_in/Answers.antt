-- What `hold_words::raise_in` leaves open. Assumes nothing.
use Prim.Native.Nat.{ℕ}
use mathlib.Core.List.{List}
use Rattle.counts.specs.Counts.{more}
use Rattle.counts.proofs.Laws.{more_length}
use Rattle.hold_words.proofs.Parts.{counts_back}
use Rattle.hold_words.proofs.raise_in.Goals as goal

pub returns : goal.returns
returns c = let a = c.args in
    let p = c.counts_at-at in
    counts_back a.s.now c.told-s a.outer p.result p.ensures.value (λ (l : List ℕ). more l a.d.0) (λ (l : List ℕ). more_length l a.d.0) _ c.higher.ensures
