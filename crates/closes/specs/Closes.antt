-- The close effects that follow a drop.
use Rattle.std.specs.Prelude.{ℕ, Bool, true, false, List, [], ◌∷◌}
use Rattle.closes.specs.declared.Reason.{Reason}
use Rattle.closes.specs.declared.Reason.TheVariants.{Replied, Ended, Refused, Replaced, Unusable}

-- a close effect follows: request T-06 turns the last four
abbrev pub closing : Reason → Bool
closing Replied = true
closing Ended = false
closing Refused = false
closing Replaced = false
closing Unusable = false

-- the list where the test holds, else none
abbrev pub only : Bool → List ℕ → List ℕ
only true ds = ds
only false ds = []

-- the close effects, three words each
abbrev pub close : ℕ → List ℕ
close d = 3 ∷ (d ∷ (0 ∷ []))

abbrev pub closes : List ℕ → List ℕ
closes [] = []
closes (d ∷ ds) = 3 ∷ (d ∷ (0 ∷ closes ds))
