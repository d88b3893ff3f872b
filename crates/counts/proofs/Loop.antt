-- A list that changes the counts for each of its entries, whatever the change is: a turn, and nothing left. Assumes nothing.
use Prim.Native.Nat.{ℕ, ◌+◌, ◌≤◌, ◌<◌}
use mathlib.Core.Path.{◌≡◌, sym, ap, ◌∙◌}
use mathlib.Core.List.{List, [], ◌∷◌}
use native.Mathlib.Omega.{arith}
use native.Mathlib.Numerals.{add-one}
use lib.ListN.{get_or, length, drop, drop_of_length-le}
use lib.Seq.{drop-cons}
use Rattle.ids.specs.declared.Description.{Description}
use Rattle.fd_list.specs.declared.List.{List as Fds}
use Rattle.fd_list.specs.Lists.{desc, named, numbers}
use Rattle.fd_list.proofs.Laws.{picked}

-- a turn at place i of ds
module _ (ds : List ℕ) (i : ℕ) where
  pub next_is : i < length ds → drop i ds ≡ get_or ds i 0 ∷ drop (i + 1) ds
  next_is b = rw (add-one i) (drop-cons ds i 0 b)

  pub none_left : length ds ≤ i → drop i ds ≡ []
  none_left b = drop_of_length-le ds b

  module _ (d : ℕ) (b : i < length ds) (q : d ≡ get_or ds i 0) where
    pub first : drop i ds ≡ d ∷ drop (i + 1) ds
    first = next_is b ∙ ap (λ (x : ℕ). x ∷ drop (i + 1) ds) (sym q)

-- counts that change by `one` for each entry of ds: a turn at place i, and nothing left
module _ (one : List ℕ → ℕ → List ℕ) (each : List ℕ → List ℕ → List ℕ) (ds : List ℕ) (i : ℕ) (a : List ℕ) where
  pub each_more :
      ((es : List ℕ) (d : ℕ) → each (one a d) es ≡ each a (d ∷ es)) → (d : ℕ) → i < length ds → d ≡ get_or ds i 0 → (u W : List ℕ) → u ≡ one a d → each a (drop i ds) ≡ W
      → each u (drop (i + 1) ds) ≡ W
  each_more s d b q u W e w = ap (λ (x : List ℕ). each x (drop (i + 1) ds)) e ∙ s (drop (i + 1) ds) d ∙ ap (each a) (sym (first ds i d b q)) ∙ w

  pub each_end : each a [] ≡ a → length ds ≤ i → (W : List ℕ) → each a (drop i ds) ≡ W → a ≡ W
  each_end s b W w = sym s ∙ ap (each a) (sym (none_left ds i b)) ∙ w

-- at place i of l, which has n entries: what is left to do to the counts a gives the whole
abbrev pub Going : (List ℕ → List ℕ → List ℕ) → Fds → ℕ → List ℕ → List ℕ → ℕ → Type 0
Going each l n a₀ a i = (i ≤ n) × (length a ≡ length a₀) × (each a (drop i (numbers l)) ≡ each a₀ (numbers l))

module _ (one : List ℕ → ℕ → List ℕ) (each : List ℕ → List ℕ → List ℕ) (l : Fds) (n : ℕ) (size : n ≡ length (numbers l)) (a₀ a : List ℕ) (i : ℕ) (g : Going each l n a₀ a i) where
  pub turn :
      ((es : List ℕ) (d : ℕ) → each (one a d) es ≡ each a (d ∷ es)) → ((d : ℕ) → length (one a d) ≡ length a) → i < n → (d : Description) → d ≡ get_or (named l) i (desc 0)
      → (u : List ℕ) → u ≡ one a d.0 → Going each l n a₀ u (i + 1)
  turn s long b d q u e =
      (omega (arith, b), ap length e ∙ long d.0 ∙ g.1, each_more one each (numbers l) i a s d.0 (omega (arith, b, size)) (picked l i d q) u _ e g.2)

  pub ended : each a [] ≡ a → n ≤ i → a ≡ each a₀ (numbers l)
  ended s b = each_end one each (numbers l) i a s (omega (arith, b, size)) _ g.2
