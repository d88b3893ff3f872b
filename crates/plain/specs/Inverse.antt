-- The two ways between the layouts, one after the other.
use Rattle.std.specs.Prelude.{ℕ, ◌≡◌, List, length}
use Rattle.events.specs.World.{World}
use Rattle.layout.specs.Layout.{size, plain_of, packed_of}
use Rattle.layout.specs.Fits.{Fits}
use Rattle.packed.specs.Agree.{WordsReturn}

-- `packed`, then `plain`: the state comes back. Its numbers fit their types, as those of every state in code do
abbrev pub StateReturns : Type 0
StateReturns = (w : World) → Fits w → plain_of (packed_of w) ≡ w

-- and so do those of what is read from any words: read, stored and read again it is the same
abbrev pub ReadAgain : Type 0
ReadAgain = (ws : List ℕ) → length ws ≡ size → Fits (plain_of ws) × (plain_of (packed_of (plain_of ws)) ≡ plain_of ws)

-- `plain`, then `packed`: the words of every run from a fresh state come back. Of other words those that have no meaning, and
-- those out of their range, are not kept
abbrev pub RunReturns : Type 0
RunReturns = WordsReturn
