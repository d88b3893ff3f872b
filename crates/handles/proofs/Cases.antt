-- What the definitions say under each set of tests. Assumes nothing.
use Prim.Native.Nat.{ℕ, ◌≤◌, ◌<◌}
use mathlib.Core.Path.{◌≡◌, refl}
use mathlib.Core.Bool.{false}
use lib.Dec.{eqb}
use borrow.Author.Tests.{lt-leb, le-leb}
use Rattle.handles.specs.declared.Handles.{Handles}
use Rattle.handles.specs.Handles.{held_at, is_free}

module _ (n : Handles) (k : ℕ) where
  pub free_over : 63 < k → false ≡ is_free n k
  free_over b = rw (lt-leb k 63 b) refl

  pub free_in : (r : ℕ) → k ≤ 63 → r ≡ held_at n k → eqb r 0 ≡ is_free n k
  free_in r b q = rw (le-leb k 63 b, q) refl
