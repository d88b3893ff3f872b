-- One word against the counts: how often a list names it, how often it may, and whether a hold is left for it. Assumes nothing.
use Rattle.std.specs.Prelude.{Option, Some, None}
use Prim.Native.Nat.{ℕ, suc, ◌+◌, ◌≤◌, ◌<◌}
use mathlib.Core.Path.{◌≡◌, refl, sym, ap, ◌∙◌}
use mathlib.Core.Bool.{Bool, true, false, cond, ◌||◌}
use mathlib.Core.List.{List}
use native.Mathlib.Omega.{arith}
use native.Mathlib.Numerals.{add-one}
use lib.Dec.{ltb, eqb}
use lib.ListN.{get_or, length, drop, drop_of_length-le}
use lib.Seq.{drop-cons}
use borrow.Author.Tests.{lt-ltb, le-ltb, eq-eqb, ne_eqb, ltb-false}
use Rattle.ids.specs.declared.Description.{Description}
use Rattle.ids.specs.Ids.{description_of}
use Rattle.ids.proofs.Laws.{over_named, named}
use Rattle.fd_list.specs.Lists.{desc}
use Rattle.counts.specs.Counts.{less_all, times, one}
use Rattle.counts.proofs.Laws.{times_cons, less_all_at}
use Rattle.holds.specs.Holds.{held_if, held_of}

-- n mentions among the first i words
module _ (w n i : ℕ) (ws : List ℕ) (e : n + times w (drop i ws) ≡ times w ws) where
  module _ (b : i < length ws) where
    next : times w (drop i ws) ≡ one (get_or ws i 0) w + times w (drop (i + 1) ws)
    next = rw (add-one i) (ap (times w) (drop-cons ws i 0 b) ∙ times_cons w (get_or ws i 0) (drop (suc i) ws))

    pub mentioned : (m : ℕ) → m ≡ n + 1 → get_or ws i 0 ≡ w → m + times w (drop (i + 1) ws) ≡ times w ws
    mentioned m g q =
        let z : one (get_or ws i 0) w ≡ 1 = rw (eq-eqb (get_or ws i 0) w q) refl in
        omega (arith, next, z)

    pub unmentioned : (m : ℕ) → m ≡ n → (get_or ws i 0 ≡ w → ⊥) → m + times w (drop (i + 1) ws) ≡ times w ws
    unmentioned m g q =
        let z : one (get_or ws i 0) w ≡ 0 = rw (ne_eqb (get_or ws i 0) w q) refl in
        omega (arith, next, z)

  pub all_mentioned : length ws ≤ i → n ≡ times w ws
  all_mentioned b =
      let z : times w (drop i ws) ≡ 0 = ap (times w) (drop_of_length-le ws b) in
      omega (arith, z)

-- how often a list may name w
abbrev pub allowed_of : List ℕ → List ℕ → ℕ → ℕ
allowed_of all out w = cond (ltb 63 w || eqb (get_or all w 0) 0) 0 (get_or out w 0)

module _ (all out : List ℕ) (w : ℕ) (f : Option Description) (q : f ≡ description_of w) where
  pub allowed_over : f ≡ None → 0 ≡ allowed_of all out w
  allowed_over e = rw (lt-ltb 63 w (over_named w f q e)) refl

  module _ (d : Description) (e : f ≡ Some d) where
    at_word : (a : List ℕ) (m : ℕ) → m ≡ get_or a d.0 0 → m ≡ get_or a w 0
    at_word a m r = r ∙ ap (λ (x : Description). get_or a x.0 0) (named w f q d e).1

    module _ (n : ℕ) (p : n ≡ get_or all d.0 0) where
      pub allowed_shut : n ≡ 0 → 0 ≡ allowed_of all out w
      allowed_shut z = rw (le-ltb 63 w (omega (arith, (named w f q d e).0)), eq-eqb (get_or all w 0) 0 (sym (at_word all n p) ∙ z)) refl

      pub allowed_open : (n ≡ 0 → ⊥) → (m : ℕ) → m ≡ get_or out d.0 0 → m ≡ allowed_of all out w
      allowed_open z m r = rw (le-ltb 63 w (omega (arith, (named w f q d e).0)), ne_eqb (get_or all w 0) 0 (λ x. z (at_word all n p ∙ x))) (at_word out m r)

-- w may be named m times, and k of the words before name it
module _ (all out before : List ℕ) (w m k : ℕ) (r : m ≡ allowed_of all out w) (s : k ≡ times w before) where
  pub held_needed : m ≤ k → None ≡ held_of all (less_all out before) w
  held_needed b = go (ltb 63 w) (eqb (get_or all w 0) 0) r
    where
      go : (x y : Bool) → m ≡ cond (x || y) 0 (get_or out w 0) → None ≡ held_if (x || (y || eqb (get_or (less_all out before) w 0) 0)) w
      go true y p = refl
      go false true p = refl
      go false false p = rw (eq-eqb (get_or (less_all out before) w 0) 0 (omega (arith, less_all_at before out w))) refl

  pub held_left : k < m → (f : Option Description) → f ≡ description_of w → f ≡ held_of all (less_all out before) w
  held_left b f q = go (ltb 63 w) (eqb (get_or all w 0) 0) refl r
    where
      go : (x y : Bool) → ltb 63 w ≡ x → m ≡ cond (x || y) 0 (get_or out w 0) → f ≡ held_if (x || (y || eqb (get_or (less_all out before) w 0) 0)) w
      go true y e p = absurd (omega arith)
      go false true e p = absurd (omega arith)
      go false false e p =
          let z : description_of w ≡ Some (desc w) = rw (lt-ltb w 64 (omega (arith, ltb-false 63 w e))) refl in
          rw (ne_eqb (get_or (less_all out before) w 0) 0 (λ x. omega (arith, less_all_at before out w))) (q ∙ z)
