-- Holds dropped and given back, and the description that a word names if it has an outside hold.
use Rattle.std.specs.Prelude.{ℕ, Bool, true, false, ◌||◌, Option, Some, None, List, ltb, eqb, get_or}
use Rattle.ids.specs.declared.Description.{Description}
use Rattle.fd_list.specs.Lists.{desc}
use Rattle.counts.specs.Counts.{less_all, more_all}
use Rattle.holds.specs.declared.Holds.{Holds}

abbrev pub holds_with : List ℕ → List ℕ → Holds
holds_with a o = record { holds = a; outside = o }

abbrev pub discarded_of : Holds → List ℕ → Holds
discarded_of h ds = holds_with (less_all h.holds ds) h.outside

abbrev pub outside_of : Holds → List ℕ → Holds
outside_of h ds = holds_with h.holds (more_all h.outside ds)

-- over 63, not open, or without an outside hold
abbrev pub unheld : List ℕ → List ℕ → ℕ → Bool
unheld all out d = ltb 63 d || (eqb (get_or all d 0) 0 || eqb (get_or out d 0) 0)

abbrev pub held_if : Bool → ℕ → Option Description
held_if true d = None
held_if false d = Some (desc d)

abbrev pub held_of : List ℕ → List ℕ → ℕ → Option Description
held_of all out d = held_if (unheld all out d) d
