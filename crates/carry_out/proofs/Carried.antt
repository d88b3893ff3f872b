-- A plan carried out: its effects one run after the other, and its stores. Assumes nothing.
use Prim.Native.Nat.{ℕ, ◌+◌, ◌*◌, ◌≤◌, min}
use mathlib.Core.Path.{◌≡◌, refl, sym, ap, ap₂, ◌∙◌}
use mathlib.Core.Bool.{Bool, true, false}
use Rattle.std.specs.Prelude.{Option, Some, None}
use mathlib.Core.List.{List, [], ◌∷◌, ◌++◌, append_assoc}
use native.Mathlib.Omega.{arith}
use lib.Dec.{eqb, leb}
use lib.ListN.{set, take, drop, length, length-append, length-take}
use lib.Seq.{sets, length-sets, sets-eq, take-append_seam, drop-append_seam}
use borrow.Author.Tests.{leb-true, leb-false}
use Rattle.closes.specs.declared.Reason.TheVariants.{Replied}
use Rattle.closes.specs.Closes.{closing, only, closes}
use Rattle.closes.proofs.Laws.{closes_length}
use Rattle.counts.specs.Counts.{lasts, less_all}
use Rattle.counts.proofs.Laws.{less_all_length}
use Rattle.effect.specs.Effect.{crossed}
use Rattle.fd_list.specs.Lists.{numbers}
use Rattle.word_put.proofs.Stores.{sets_then, sets_past}
use Rattle.events.specs.World.{World, holds_of, handles_of}
use Rattle.events.specs.Entry.{closes_of, unmap_of}
use Rattle.layout.specs.Layout.{plain_of}
use Rattle.layout.specs.Store.{outside, all, handles, stored, stored_all}
use Rattle.layout.proofs.Regions.{same_part}
use Rattle.layout.proofs.Worlds.{outside_is, handles_is, plain_fits, stored_plain}
use Rattle.plan.specs.declared.Change.{Change}
use Rattle.plan.specs.declared.Plan.{Plan}
use Rattle.plan.specs.Plans.{effects_by, handles_by, decision_by}
use Rattle.step.proofs.Frames.{handles_all}
use Rattle.carry_out.specs.Held.{held_stores}

-- effects stored from the end on are none
pub in_place : (fx xs : List ℕ) (at m : ℕ) → m ≡ min at (length fx) → sets fx m xs ≡ sets fx at xs
in_place fx xs at m e = go (leb at (length fx)) refl
  where
    go : (b : Bool) → leb at (length fx) ≡ b → sets fx m xs ≡ sets fx at xs
    go true q = ap (λ (k : ℕ). sets fx k xs) (let z : m ≡ at = omega (arith, e, leb-true at (length fx) q) in z)
    go false q = let h = leb-false at (length fx) q in sym (sets_past xs fx m (omega (arith, e, h))) ∙ sets_past xs fx at (omega (arith, h))

-- no handle changes
pub handle_stays : (ws : List ℕ) → length ws ≡ 2060 → (c : Option Change) → c ≡ None → ws ≡ stored ws (handles (handles_by c (handles_of (plain_of ws))).at)
handle_stays ws size c e =
    sym (same_part ws 972 64 (omega (arith, size)))
    ∙ ap (λ (l : List ℕ). stored ws (handles l)) (handles_is ws)
    ∙ ap (λ (x : Option Change). stored ws (handles (handles_by x (handles_of (plain_of ws))).at)) (sym e)

pub handle_moved :
    (ws xs : List ℕ) (c : Option Change) (d : Change) → c ≡ Some d → xs ≡ stored ws (handles (set (handles_of (plain_of ws)).at d.handle.0 d.held))
    → xs ≡ stored ws (handles (handles_by c (handles_of (plain_of ws))).at)
handle_moved ws xs c d e q = q ∙ ap (λ (x : Option Change). stored ws (handles (handles_by x (handles_of (plain_of ws))).at)) (sym e)

-- words stored twice at one place
sets_again : (l : List ℕ) (k : ℕ) (us vs : List ℕ) → length us ≡ length vs → k + length vs ≤ length l → sets (sets l k us) k vs ≡ sets l k vs
sets_again l k us vs e h =
    let z : k + length us ≤ length l = omega (arith, e, h) in
    let f = sets-eq us l k z in
    let a : length (take k l) ≡ k = length-take k l ∙ omega (arith, h) in
    let g : length (take k l ++ us) ≡ k + length vs = length-append (take k l) us ∙ omega (arith, a, e) in
    let m : length (sets l k us) ≡ length l = length-sets l k us in
    let front : take k (sets l k us) ≡ take k l = ap (take k) (f ∙ append_assoc (take k l) us (drop (k + length us) l)) ∙ ap (λ (j : ℕ). take j (take k l ++ (us ++ drop (k + length us) l))) (sym a) ∙ take-append_seam (take k l) (us ++ drop (k + length us) l) in
    let back : drop (k + length vs) (sets l k us) ≡ drop (k + length vs) l = ap (drop (k + length vs)) f ∙ ap (λ (j : ℕ). drop j ((take k l ++ us) ++ drop (k + length us) l)) (sym g) ∙ drop-append_seam (take k l ++ us) (drop (k + length us) l) ∙ ap (λ (j : ℕ). drop (k + j) l) e in
    sets-eq vs (sets l k us) k (omega (arith, h, m))
    ∙ ap₂ (λ (x y : List ℕ). (x ++ vs) ++ y) front back
    ∙ sym (sets-eq vs l k h)

module _ (ws : List ℕ) (size : length ws ≡ 2060) (p : Plan) where
  abbrev w : World
  w = plain_of ws

  abbrev gone : List ℕ
  gone = numbers p.gone

  abbrev own : List ℕ
  own = numbers p.own

  abbrev lower : List ℕ
  lower = less_all (holds_of w).holds gone

  lower_long : length lower ≡ 64
  lower_long = less_all_length gone (holds_of w).holds ∙ (plain_fits ws size).all

  -- behind the first drop
  module _ (xs : List ℕ) (ex : xs ≡ stored ws (all lower)) where
    pub all_behind : (holds_of (plain_of xs)).holds ≡ lower
    all_behind = ap (λ (l : List ℕ). (holds_of (plain_of l)).holds) ex ∙ ap (λ (u : World). (holds_of u).holds) (stored_plain ws size (all lower) lower_long)

    -- and the second
    module _ (ys : List ℕ) (ey : ys ≡ stored xs (all (less_all (holds_of (plain_of xs)).holds own))) where
      dropped_is : ys ≡ stored ws (all (less_all lower own))
      dropped_is =
          ey ∙ ap₂ (λ (l a : List ℕ). stored l (all (less_all a own))) ex all_behind
          ∙ sets_again ws 840 lower (less_all lower own) (sym (less_all_length own lower)) (omega (arith, size, less_all_length own lower, lower_long))

      handles_behind : (handles_of (plain_of ys)).at ≡ (handles_of w).at
      handles_behind = ap (λ (l : List ℕ). (handles_of (plain_of l)).at) dropped_is ∙ handles_all ws (less_all lower own) (omega (arith, less_all_length own lower, lower_long))

      outside_first : ys ≡ stored_all ws (outside (holds_of w).outside ∷ all (less_all lower own) ∷ [])
      outside_first =
          dropped_is
          ∙ ap (λ (l : List ℕ). stored l (all (less_all lower own))) (sym (same_part ws 904 64 (omega (arith, size))) ∙ ap (λ (o : List ℕ). stored ws (outside o)) (outside_is ws))

      pub all_stored :
          (zs : List ℕ) → zs ≡ stored ys (handles (handles_by p.change (handles_of (plain_of ys))).at) → zs ≡ stored_all ws (held_stores (decision_by p (holds_of w) (handles_of w)))
      all_stored zs ez = ez ∙ ap₂ (λ (l k : List ℕ). stored l (handles (handles_by p.change (record { at = k })).at)) outside_first handles_behind

  -- the effects, one run after the other
  module _ (fx : List ℕ) (at : ℕ) where
    abbrev E : List ℕ
    E = crossed p.first

    abbrev U : List ℕ
    U = unmap_of (eqb p.span.count 0) p.span

    abbrev G : List ℕ
    G = closes_of Replied (holds_of w) gone

    abbrev O : List ℕ
    O = closes (only p.closing (lasts lower own))

    module _ (a b c d : ℕ) (ea : a ≡ length E) (eb : b ≡ length U) (f : Bool) (ef : f ≡ closing Replied) (ec : c ≡ length (only f (lasts (holds_of w).holds gone))) (m : List ℕ) (em : m ≡ lower) (ed : d ≡ length (only p.closing (lasts m own))) where
      closes_are : 3 * c ≡ length G
      closes_are = ap (λ (x : ℕ). 3 * x) (ec ∙ ap (λ (g : Bool). length (only g (lasts (holds_of w).holds gone))) ef) ∙ sym (closes_length (only (closing Replied) (lasts (holds_of w).holds gone)))

      owns_are : 3 * d ≡ length O
      owns_are = ap (λ (x : ℕ). 3 * x) (ed ∙ ap (λ (l : List ℕ). length (only p.closing (lasts l own))) em) ∙ sym (closes_length (only p.closing (lasts lower own)))

      pub counted : a + b + 3 * c + 3 * d ≡ length (effects_by p (holds_of w))
      counted = omega (arith, ea, eb, closes_are, owns_are, length-append E (U ++ (G ++ O)), length-append U (G ++ O), length-append G O)

      pub all_effects :
          (f1 f2 f3 f4 : List ℕ) → f1 ≡ sets fx at E → f2 ≡ sets f1 (at + a) U → f3 ≡ sets f2 (at + a + b) (closes (only f (lasts (holds_of w).holds gone)))
          → f4 ≡ sets f3 (at + a + b + 3 * c) (closes (only p.closing (lasts m own))) → f4 ≡ sets fx at (effects_by p (holds_of w))
      all_effects f1 f2 f3 f4 e1 e2 e3 e4 =
          e4
          ∙ ap (λ (l : List ℕ). sets f3 (at + a + b + 3 * c) (closes (only p.closing (lasts l own)))) em
          ∙ ap₂ (λ (l : List ℕ) (k : ℕ). sets l k O) (e3 ∙ ap (λ (g : Bool). sets f2 (at + a + b) (closes (only g (lasts (holds_of w).holds gone)))) ef) (three closes_are)
          ∙ sets_then G O f2 (at + a + b)
          ∙ ap₂ (λ (l : List ℕ) (k : ℕ). sets l k (G ++ O)) e2 (two eb)
          ∙ sets_then U (G ++ O) f1 (at + a)
          ∙ ap₂ (λ (l : List ℕ) (k : ℕ). sets l k (U ++ (G ++ O))) e1 (one ea)
          ∙ sets_then E (U ++ (G ++ O)) fx at
        where
          three : 3 * c ≡ length G → at + a + b + 3 * c ≡ at + a + b + length G
          three e = omega (arith, e)

          two : b ≡ length U → at + a + b ≡ at + a + length U
          two e = omega (arith, e)

          one : a ≡ length E → at + a ≡ at + length E
          one e = omega (arith, e)
