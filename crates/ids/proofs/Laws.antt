-- What the description found for a word says of the word. Assumes nothing.
use Prim.Native.Nat.{ℕ, ◌<◌}
use mathlib.Core.Path.{◌≡◌, sym, ap, ◌∙◌}
use mathlib.Core.Bool.{Bool, true, false}
use Rattle.std.specs.Prelude.{Option, Some, None}
use native.Mathlib.Omega.{arith}
use native.Mathlib.Decide.{dec_lt}
use borrow.Author.Tests.{lt-ltb, le-ltb}
use Rattle.ids.specs.declared.Description.{Description}
use Rattle.ids.specs.Ids.{description_if, description_of, description_in}

module _ (w : ℕ) (f : Option Description) (q : f ≡ description_of w) where
  pub over_named : f ≡ None → 63 < w
  over_named e = go (dec_lt w 64)
    where
      go : Dec (w < 64) → 63 < w
      go (yes b) = absurd (let z : description_if true w ≡ None = ap (λ (x : Bool). description_if x w) (sym (lt-ltb w 64 b)) ∙ (sym q ∙ e) in let y : ◌≡◌ {A = ℕ} 0 1 = cc in omega arith)
      go (no b) = omega arith

  pub named : (d : Description) → f ≡ Some d → (w < 64) × (d ≡ description_in w)
  named d e = go (dec_lt w 64)
    where
      go : Dec (w < 64) → (w < 64) × (d ≡ description_in w)
      go (yes b) = (b, let z : description_if true w ≡ Some d = ap (λ (x : Bool). description_if x w) (sym (lt-ltb w 64 b)) ∙ (sym q ∙ e) in cc)
      go (no b) = absurd (let z : description_if false w ≡ Some d = ap (λ (x : Bool). description_if x w) (sym (le-ltb w 64 (omega arith))) ∙ (sym q ∙ e) in let y : ◌≡◌ {A = ℕ} 0 1 = cc in omega arith)
