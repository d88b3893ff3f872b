-- 01's marked values hold of the definitions, one statement. Assumes nothing.
use mathlib.Core.Path.{◌≡◌, refl}
use Rattle.marked.specs.Marked.{defined, paper}

pub held : defined ≡ paper
unfolding defined paper
held = refl
