-- Counts among the words: a part that was lent and came back. Assumes nothing.
use Prim.Native.Nat.{ℕ, ◌+◌, ◌-◌, ◌≤◌}
use mathlib.Core.Path.{◌≡◌, refl, ap, ◌∙◌}
use mathlib.Core.Bool.{Bool, true, false, cond}
use mathlib.Core.List.{List, [], ◌∷◌, ◌++◌}
use native.Mathlib.Omega.{arith}
use lib.ListN.{take, drop, length}
use lib.Seq.{sets}
use Rattle.std.specs.Prelude.{Result}
use Rattle.answer.specs.declared.Refusal.{Refusal}
use Rattle.fd_list.specs.declared.List.{List as Fds}
use Rattle.holds.specs.Holds.{holds_with}
use Rattle.take_holds.specs.Take.{take_of}
use Rattle.events.specs.World.{holds_of}
use Rattle.layout.specs.Layout.{part, plain_of}
use Rattle.layout.specs.Store.{stored, outside, all}
use Rattle.hold_words.specs.Counts.{counts_of, counts_store}
use Rattle.layout.proofs.Regions.{part_length, relent}

module _ (ws : List ℕ) where
  pub all_lent : take 64 (drop 840 ws) ≡ (holds_of (plain_of ws)).holds
  unfolding plain_of part
  all_lent = refl

  pub outside_lent : take 64 (drop 904 ws) ≡ (holds_of (plain_of ws)).outside
  unfolding plain_of part
  outside_lent = refl

  pub looked :
      (ds xs ys : List ℕ) (l : Result Fds Refusal) → xs ≡ (holds_of (plain_of ws)).holds → ys ≡ (holds_of (plain_of ws)).outside
      → l ≡ (take_of (holds_with xs ys) ds).list → l ≡ (take_of (holds_of (plain_of ws)) ds).list
  looked ds xs ys l ea eo e = e ∙ λ i. (take_of (holds_with (ea i) (eo i)) ds).list

  module _ (size : length ws ≡ 2060) where
    part_long : (a : ℕ) → a + 64 ≤ 2060 → length (take 64 (drop a ws)) ≡ 64
    unfolding part
    part_long a h = part_length a 64 ws (omega (arith, h, size))

    -- changed by f, which keeps its length
    pub outside_back :
        (f : List ℕ → List ℕ) → ((l : List ℕ) → length (f l) ≡ length l) → (ys : List ℕ) → ys ≡ f (take 64 (drop 904 ws))
        → take 904 ws ++ (ys ++ drop 64 (drop 904 ws)) ≡ stored ws (outside (f (holds_of (plain_of ws)).outside))
    outside_back f k ys e =
        relent ws 904 64 ys (omega (arith, size)) (ap length e ∙ k (take 64 (drop 904 ws)) ∙ part_long 904 (omega arith)) ∙ ap (sets ws 904) (e ∙ ap f outside_lent)

    pub all_back :
        (f : List ℕ → List ℕ) → ((l : List ℕ) → length (f l) ≡ length l) → (ys : List ℕ) → ys ≡ f (take 64 (drop 840 ws))
        → take 840 ws ++ (ys ++ drop 64 (drop 840 ws)) ≡ stored ws (all (f (holds_of (plain_of ws)).holds))
    all_back f k ys e =
        relent ws 840 64 ys (omega (arith, size)) (ap length e ∙ k (take 64 (drop 840 ws)) ∙ part_long 840 (omega arith)) ∙ ap (sets ws 840) (e ∙ ap f all_lent)

    pub counts_back :
        (outer : Bool) (a : ℕ) → a ≡ cond outer 904 840 → (f : List ℕ → List ℕ) → ((l : List ℕ) → length (f l) ≡ length l) → (ys : List ℕ) → ys ≡ f (take (a + 64 - a) (drop a ws))
        → take a ws ++ (ys ++ drop (a + 64 - a) (drop a ws)) ≡ stored ws (counts_store outer (f (counts_of outer (plain_of ws))))
    counts_back outer a q f k ys e = (λ i. take (q i) ws ++ (ys ++ drop (z i) (drop (q i) ws))) ∙ back outer (e ∙ λ i. f (take (z i) (drop (q i) ws)))
      where
        z : a + 64 - a ≡ 64
        z = omega arith

        back : (o : Bool) → let b : ℕ = cond o 904 840 in ys ≡ f (take 64 (drop b ws)) → take b ws ++ (ys ++ drop 64 (drop b ws)) ≡ stored ws (counts_store o (f (counts_of o (plain_of ws))))
        back true d = outside_back f k ys d
        back false d = all_back f k ys d
