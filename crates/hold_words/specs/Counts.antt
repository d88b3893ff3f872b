-- The counts of outside holds, or those of all, and the store of them.
use Rattle.std.specs.Prelude.{ℕ, Bool, cond, List}
use Rattle.events.specs.World.{World, holds_of}
use Rattle.layout.specs.Store.{Store, outside, all}

abbrev pub counts_of : Bool → World → List ℕ
counts_of outer w = cond outer (holds_of w).outside (holds_of w).holds

abbrev pub counts_store : Bool → List ℕ → Store
counts_store outer l = cond outer (outside l) (all l)
