-- What the parts of an answer come to, and what a word names. Assumes nothing.
use Rattle.std.specs.Prelude.{Option, Some, None}
use Prim.Native.Nat.{ℕ, ◌<◌}
use mathlib.Core.Path.{◌≡◌, refl, sym, ap, ◌∙◌}
use mathlib.Core.Bool.{Bool, true, false}
use mathlib.Core.List.{List}
use native.Mathlib.Omega.{arith}
use lib.ListN.{get_or}
use borrow.Author.Tests.{lt-ltb, le-ltb, eq-eqb, ne_eqb}
use Rattle.ids.specs.declared.Description.{Description}
use Rattle.ids.specs.Ids.{description_of}
use Rattle.ids.proofs.Laws.{over_named, named}
use Rattle.fd_list.specs.Lists.{desc}
use Rattle.counts.specs.Counts.{less_all, more_all}
use Rattle.holds.specs.declared.Holds.{Holds}
use Rattle.holds.specs.Holds.{holds_with, discarded_of, outside_of, unheld, held_if, held_of}

module _ (h : Holds) where
  pub discarded_is : (ds a : List ℕ) → a ≡ less_all h.holds ds → holds_with a h.outside ≡ discarded_of h ds
  discarded_is ds a e = rw e refl

  pub outside_is : (ds o : List ℕ) → o ≡ more_all h.outside ds → holds_with h.holds o ≡ outside_of h ds
  outside_is ds o e = rw e refl

-- the description that a word names, if it has an outside hold
module _ (all left : List ℕ) (w : ℕ) where
  module _ (f : Option Description) (q : f ≡ description_of w) where
    pub held_over : f ≡ None → None ≡ held_of all left w
    held_over e = rw (lt-ltb 63 w (over_named w f q e)) refl

    module _ (d : Description) (e : f ≡ Some d) where
      held_named : (w < 64) × (d ≡ desc w)
      held_named = named w f q d e

      at_word : (a : List ℕ) (n : ℕ) → n ≡ get_or a d.0 0 → n ≡ get_or a w 0
      at_word a n p = p ∙ ap (λ (x : Description). get_or a x.0 0) held_named.1

      pub held_shut : (n : ℕ) → n ≡ get_or all d.0 0 → n ≡ 0 → None ≡ held_of all left w
      held_shut n p z = rw (le-ltb 63 w (omega (arith, held_named.0)), eq-eqb (get_or all w 0) 0 (sym (at_word all n p) ∙ z)) refl

      module _ (n m : ℕ) (p : n ≡ get_or all d.0 0) (z : n ≡ 0 → ⊥) (r : m ≡ get_or left d.0 0) where
        pub held_none : m ≡ 0 → None ≡ held_of all left w
        held_none y = rw (le-ltb 63 w (omega (arith, held_named.0)), ne_eqb (get_or all w 0) 0 (λ x. z (at_word all n p ∙ x)), eq-eqb (get_or left w 0) 0 (sym (at_word left m r) ∙ y)) refl

        pub held_in : (m ≡ 0 → ⊥) → Some d ≡ held_of all left w
        held_in y = rw (le-ltb 63 w (omega (arith, held_named.0)), ne_eqb (get_or all w 0) 0 (λ x. z (at_word all n p ∙ x)), ne_eqb (get_or left w 0) 0 (λ x. y (at_word left m r ∙ x))) (ap Some held_named.1)

  module _ (f : Option Description) (q : f ≡ held_of all left w) where
    pub held_not : f ≡ None → unheld all left w ≡ true
    held_not e = go (unheld all left w) (sym q ∙ e)
      where
        go : (b : Bool) → held_if b w ≡ None → b ≡ true
        go true z = refl
        go false z = absurd (let y : ◌≡◌ {A = ℕ} 0 1 = cc in omega arith)

    pub held_is : (d : Description) → f ≡ Some d → (unheld all left w ≡ false) × (d ≡ desc w)
    held_is d e = go (unheld all left w) (sym q ∙ e)
      where
        go : (b : Bool) → held_if b w ≡ Some d → (b ≡ false) × (d ≡ desc w)
        go true z = absurd (let y : ◌≡◌ {A = ℕ} 0 1 = cc in omega arith)
        go false z = (refl, cc)
