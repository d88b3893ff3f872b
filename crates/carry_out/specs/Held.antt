-- What a decision stores beside its slot.
use Rattle.std.specs.Prelude.{List, [], ◌∷◌}
use Rattle.events.specs.Entry.{Decision}
use Rattle.layout.specs.Store.{Store, outside, all, handles}

abbrev pub held_stores : Decision → List Store
held_stores d = outside d.holds.outside ∷ all d.holds.holds ∷ handles d.handles.at ∷ []
