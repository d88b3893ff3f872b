-- Each way through an event's code gives the definition's case. Assumes nothing.
use Rattle.std.specs.Prelude.{Option, Some, None, Ok, Err}
use Prim.Native.Nat.{ℕ, ◌<◌}
use mathlib.Core.Path.{◌≡◌, refl, sym, ap, ◌∙◌}
use mathlib.Core.Bool.{true, false}
use mathlib.Core.List.{List}
use native.Mathlib.Omega.{arith}
use lib.ListN.{get_or}
use borrow.Author.Tests.{lt-ltb, le-ltb, eq-eqb, ne_eqb}
use Rattle.ids.specs.declared.Description.{Description}
use Rattle.ids.specs.Ids.{description_of}
use Rattle.fd_list.specs.Lists.{desc}
use Rattle.holds.specs.declared.Holds.{Holds}
use Rattle.holds.specs.Holds.{unheld, held_of}
use Rattle.ids.proofs.Laws.{over_named, named as Named-by}
use Rattle.holds.proofs.Laws.{held_not, held_is}
use Rattle.answer.specs.declared.Accepted.TheVariants.{Done}
use Rattle.answer.specs.declared.Refusal.TheVariants.{BadArgument, TooManyHolds}
use Rattle.host_holds.specs.Host.{one_more, one_fewer, left_as, open_of, copy_of, drop_of}

-- a count read at the description that a word names
at_word : (a : List ℕ) (d : Description) (w r : ℕ) → d ≡ desc w → r ≡ get_or a d.0 0 → r ≡ get_or a w 0
at_word a d w r e q = q ∙ ap (λ (x : Description). get_or a x.0 0) e

module _ (h : Holds) (w : ℕ) (f : Option Description) where
  module _ (q : f ≡ description_of w) where
    pub open_over : f ≡ None → left_as (Err BadArgument) h ≡ open_of h w
    open_over e = rw (lt-ltb 63 w (over_named w f q e)) refl

    module _ (d : Description) (e : f ≡ Some d) (r : ℕ) (c : r ≡ get_or h.holds d.0 0) where
      named : (w < 64) × (d ≡ desc w)
      named = Named-by w f q d e

      pub open_shut : (r ≡ 0 → ⊥) → left_as (Err BadArgument) h ≡ open_of h w
      open_shut z = rw (le-ltb 63 w (omega (arith, named.0)), ne_eqb (get_or h.holds w 0) 0 (λ y. z (at_word h.holds d w r named.1 c ∙ y))) refl

      pub open_in : r ≡ 0 → (t : Holds) → t ≡ one_more h d.0 → left_as (Ok Done) t ≡ open_of h w
      open_in z t p = rw (le-ltb 63 w (omega (arith, named.0)), eq-eqb (get_or h.holds w 0) 0 (sym (at_word h.holds d w r named.1 c) ∙ z), p, named.1) refl

  module _ (q : f ≡ held_of h.holds h.outside w) where
    module _ (e : f ≡ None) where
      bad : unheld h.holds h.outside w ≡ true
      bad = held_not h.holds h.outside w f q e

      pub copy_bad : left_as (Err BadArgument) h ≡ copy_of h w
      copy_bad = rw bad refl

      pub drop_bad : left_as (Err BadArgument) h ≡ drop_of h w
      drop_bad = rw bad refl

    module _ (d : Description) (e : f ≡ Some d) where
      good : (unheld h.holds h.outside w ≡ false) × (d ≡ desc w)
      good = held_is h.holds h.outside w f q d e

      pub copy_full : (r : ℕ) → r ≡ get_or h.holds d.0 0 → r ≡ 65535 → left_as (Err TooManyHolds) h ≡ copy_of h w
      copy_full r c z = rw (good.0, eq-eqb (get_or h.holds w 0) 65535 (sym (at_word h.holds d w r good.1 c) ∙ z)) refl

      pub copy_in : (r : ℕ) → r ≡ get_or h.holds d.0 0 → (r ≡ 65535 → ⊥) → (t : Holds) → t ≡ one_more h d.0 → left_as (Ok Done) t ≡ copy_of h w
      copy_in r c z t p = rw (good.0, ne_eqb (get_or h.holds w 0) 65535 (λ y. z (at_word h.holds d w r good.1 c ∙ y)), p, good.1) refl

      pub drop_in : (t : Holds) → t ≡ one_fewer h d.0 → left_as (Ok Done) t ≡ drop_of h w
      drop_in t p = rw (good.0, p, good.1) refl
