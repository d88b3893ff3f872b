-- Handles among the words: one of them read, and stored. Assumes nothing.
use Prim.Native.Nat.{ℕ, ◌+◌, ◌<◌, ◌≤◌}
use mathlib.Core.Path.{◌≡◌, sym, ap, ◌∙◌}
use mathlib.Core.List.{List}
use native.Mathlib.Omega.{arith}
use lib.ListN.{get_or, set, length, get_or-eq_default}
use lib.Seq.{sets, set_out}
use Rattle.handles.specs.Handles.{held_at}
use Rattle.events.specs.World.{handles_of}
use Rattle.layout.specs.Layout.{plain_of}
use Rattle.layout.specs.Store.{stored, handles}
use Rattle.layout.proofs.Regions.{part_at, part_length, same_part, one_part}
use Rattle.layout.proofs.Worlds.{handles_is}

module _ (ws : List ℕ) (size : length ws ≡ 2060) where
  -- one handle
  handles_long : length (handles_of (plain_of ws)).at ≡ 64
  handles_long = ap length (sym (handles_is ws)) ∙ part_length 972 64 ws (omega (arith, size))

  pub handle_in_lem : (k : ℕ) → k < 64 → get_or ws (972 + k) 0 ≡ held_at (handles_of (plain_of ws)) k
  handle_in_lem k b = sym (part_at 972 64 ws k b) ∙ ap (λ (l : List ℕ). get_or l k 0) (handles_is ws)

  pub handle_none : (k : ℕ) → 64 ≤ k → 0 ≡ held_at (handles_of (plain_of ws)) k
  handle_none k b = let h : length (handles_of (plain_of ws)).at ≤ k = omega (arith, b, handles_long) in sym (get_or-eq_default (handles_of (plain_of ws)).at 0 h)

  pub handle_set : (k v : ℕ) → k < 64 → set ws (972 + k) v ≡ stored ws (handles (set (handles_of (plain_of ws)).at k v))
  handle_set k v b = one_part ws 972 64 k v b (omega (arith, size)) ∙ ap (λ (l : List ℕ). sets ws 972 (set l k v)) (handles_is ws)

  pub handle_kept : (k v : ℕ) → 64 ≤ k → ws ≡ stored ws (handles (set (handles_of (plain_of ws)).at k v))
  handle_kept k v b =
      sym (same_part ws 972 64 (omega (arith, size)))
      ∙ ap (sets ws 972) (handles_is ws ∙ sym (set_out (handles_of (plain_of ws)).at k v (omega (arith, b, handles_long))))
