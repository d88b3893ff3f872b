-- What `hold_words::holds_of` leaves open. Assumes nothing.
use lib.ListN.{get_or}
use Prim.Native.Nat.{ℕ}
use mathlib.Core.List.{List}
use mathlib.Core.Path.{ap, ◌∙◌}
use Rattle.hold_words.proofs.Parts.{all_lent}
use Rattle.hold_words.proofs.holds_of.Goals as goal

pub returns : goal.returns
returns c = let a = c.args in c.count_at.ensures ∙ ap (λ (l : List ℕ). get_or l a.d.0 0) (all_lent a.s.now)
