-- What `hold_words::held` leaves open. Assumes nothing.
use Rattle.holds.specs.Holds.{held_of}
use Prim.Native.Nat.{ℕ}
use mathlib.Core.List.{List}
use mathlib.Core.Path.{ap₂, ◌∙◌}
use Rattle.hold_words.proofs.Parts.{all_lent, outside_lent}
use Rattle.hold_words.proofs.held.Goals as goal

pub returns : goal.returns
returns c = let a = c.args in c.held_outside.ensures ∙ ap₂ (λ (x y : List ℕ). held_of x y a.word) (all_lent a.s.now) (outside_lent a.s.now)
