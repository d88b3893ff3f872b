-- What a store of counts or handles leaves of the rest. Assumes nothing.
use Prim.Native.Nat.{ℕ, min, ◌≤◌}
use mathlib.Core.Path.{◌≡◌, sym, ap, ◌∙◌}
use mathlib.Core.List.{List}
use native.Mathlib.Omega.{arith}
use lib.ListN.{take, drop, length, length-take}
use lib.Seq.{sets}
use Rattle.wait_queue.proofs.Unread.{get_or_sets_before, get_or_sets_after}
use Rattle.events.specs.World.{table_of, holds_of, handles_of, scheme_of}
use Rattle.events.specs.Outcome.{root_words, readable}
use Rattle.flag.specs.Flags.{event_read}
use Rattle.layout.specs.Layout.{part, plain_of}
use Rattle.layout.specs.Store.{stored, outside, all}
use Rattle.layout.proofs.Regions.{part_before, part_after}
use Rattle.layout.proofs.Worlds.{head_is, scheme_is, all_is, outside_is, handles_is}

part_short : (a n : ℕ) (ws : List ℕ) → length (part a n ws) ≤ n
unfolding part
part_short a n ws = least n (length (drop a ws)) (length (take n (drop a ws))) (length-take n (drop a ws))
  where
    least : (x y z : ℕ) → z ≡ min x y → z ≤ x
    least x y z e = omega (arith, e)

module _ (ws : List ℕ) where
  pub outside_short : length (holds_of (plain_of ws)).outside ≤ 64
  outside_short = rw (← outside_is ws) (part_short 904 64 ws)

  -- behind a store of the outside counts
  module _ (o : List ℕ) where
    pub head_outside : (table_of (plain_of (stored ws (outside o)))).head ≡ (table_of (plain_of ws)).head
    head_outside = sym (head_is (sets ws 904 o)) ∙ get_or_sets_before o ws 904 832 (omega arith) ∙ head_is ws

    pub all_outside : (holds_of (plain_of (stored ws (outside o)))).holds ≡ (holds_of (plain_of ws)).holds
    all_outside = sym (all_is (sets ws 904 o)) ∙ part_before 840 64 ws 904 o (omega arith) ∙ all_is ws

    module _ (h : length o ≤ 64) where
      pub scheme_outside : scheme_of (plain_of (stored ws (outside o))) ≡ scheme_of (plain_of ws)
      scheme_outside = sym (scheme_is (sets ws 904 o)) ∙ get_or_sets_after o ws 904 968 (omega (arith, h)) ∙ scheme_is ws

      pub readable_outside : readable (plain_of (stored ws (outside o))) ≡ readable (plain_of ws)
      readable_outside = ap (λ (x : ℕ). root_words x event_read) scheme_outside

      pub handles_outside : (handles_of (plain_of (stored ws (outside o)))).at ≡ (handles_of (plain_of ws)).at
      handles_outside = sym (handles_is (sets ws 904 o)) ∙ part_after 972 64 ws 904 o (omega (arith, h)) ∙ handles_is ws

  -- behind one of all counts
  module _ (a : List ℕ) (h : length a ≤ 64) where
    pub handles_all : (handles_of (plain_of (stored ws (all a)))).at ≡ (handles_of (plain_of ws)).at
    handles_all = sym (handles_is (sets ws 840 a)) ∙ part_after 972 64 ws 840 a (omega (arith, h)) ∙ handles_is ws
