-- The loops' laws, and what it means that a run is as recorded. Assumes nothing.
use Rattle.std.proofs.Common.{◌≡◌, ℕ, zero, suc, ◌+◌, ◌-◌, ◌≤◌, Bool, true, false, cond, ◌&&◌, eqb, ◌==◌, leb, List, [], ◌∷◌, length, take, drop, sym, refl, ap, ◌∙◌, ap₂, true≢false, arith, length-drop, take_all, drop-drop, take_at, eq-eqb, ne_eqb, eqb-true}
use lib.Seq.{sets, sets-eq}
use Rattle.std.specs.List.{zip, prefix_len}
use Rattle.record.specs.Record.{next_of, event_at, walk, Decoded, stops, before, decoded}
use Rattle.record.proofs.Laws.{next_there, walk_ends, walk_goes_on}
use Rattle.run.specs.declared.RunEnd.{RunEnd}
use Rattle.run.specs.Run.{run_of, output_of, whole_end, end_of, out_after}
use Rattle.run_room.specs.Room.{needed, left_of}
use Rattle.recorded.specs.declared.Compared.{Compared}
use Rattle.recorded.specs.Recorded.{same_of, written_of, compared_of, as_recorded_of, Recorded}

-- the part of a list from a place on, and a front that is there
pub part_is : (bs : List ℕ) (k : ℕ) → take (length bs - k) (drop k bs) ≡ drop k bs
part_is bs k = take_all (length bs - k) (drop k bs) (omega (arith, length-drop k bs))

-- pairs that are the same, up to the first that are not
pub pairs_same : (a b : List ℕ) → prefix_len (λ p. p.0 == p.1) (zip a b) ≡ same_of a b
pairs_same [] b = refl
pairs_same (x ∷ xs) [] = refl
pairs_same (x ∷ xs) (y ∷ ys) =
    let more : 1 + prefix_len (λ (p : ℕ × ℕ). p.0 == p.1) (zip xs ys) ≡ suc (same_of xs ys) = omega (arith, pairs_same xs ys) in
    ap (λ (n : ℕ). cond (x == y) n 0) more

-- how many events there are, one more and at the end
counted_on : (lent : ℕ) (bs : List ℕ) → (next_of bs ≡ 0 → ⊥) → length (decoded lent bs).events ≡ suc (length (decoded lent (drop (next_of bs) bs)).events)
counted_on lent bs e = ap (λ (d : Decoded). length d.events) (walk_goes_on stops (λ rest d. before (event_at lent rest) d) bs e)

counted_ends : (lent : ℕ) (bs : List ℕ) → next_of bs ≡ 0 → length (decoded lent bs).events ≡ 0
counted_ends lent bs e = ap (λ (d : Decoded). length d.events) (walk_ends stops (λ rest d. before (event_at lent rest) d) bs e)

-- the loop over the records
module _ (ev : List ℕ) (n at size : ℕ) (h : at ≤ length ev) (es : size ≡ next_of (drop at ev)) where
  pub place_on : at + size ≤ length ev
  place_on = omega (arith, h, es, next_there (drop at ev), length-drop at ev)

  abbrev Counted : ℕ → ℕ → Type 0
  Counted m k = (lent : ℕ) → m + length (decoded lent (drop k ev)).events ≡ length (decoded lent ev).events

  pub count_on : (size ≡ 0 → ⊥) → Counted n at → Counted (n + 1) (at + size)
  count_on more so lent =
      omega (
        arith,
        so lent,
        counted_on lent (drop at ev) (λ z. more (es ∙ z)),
        ap (λ (l : List ℕ). length (decoded lent l).events) (ap (λ (k : ℕ). drop k (drop at ev)) (sym es) ∙ drop-drop size at ev),
      )

  pub count_ends : size ≡ 0 → Counted n at → (lent : ℕ) → n ≡ length (decoded lent ev).events
  count_ends z so lent = omega (arith, so lent, counted_ends lent (drop at ev) (sym es ∙ z))

-- what a run leaves in its bytes
written_is :
    (scheme lent : ℕ) (out ev out' : List ℕ) (r : RunEnd) → r ≡ end_of scheme lent (length out) ev → out' ≡ out_after scheme lent out ev → r.written ≤ length out
    → take r.written out' ≡ written_of scheme lent (length out) ev
written_is scheme lent out ev out' r er eo h = go (eqb (left_of ev) 0) (leb (needed ev) (length out)) er eo
  where
    X : List ℕ
    X = output_of (run_of scheme lent ev)

    go : (a b : Bool) → r ≡ cond a (cond b (whole_end scheme lent ev) (record { number = 204; place = 0; written = 0 })) (record { number = 205; place = length ev - left_of ev; written = 0 })
        → out' ≡ cond (a && b) (sets out 0 X) out → take r.written out' ≡ cond (a && b) X []
    go true true e o =
        ap₂ take (ap (λ (x : RunEnd). x.written) e) (o ∙ sets-eq X out 0 (omega (arith, h, ap (λ (x : RunEnd). x.written) e)))
        ∙ take_at X (drop (0 + length X) out) (length X) refl
    go true false e o = ap (λ (n : ℕ). take n out') (ap (λ (x : RunEnd). x.written) e)
    go false b e o = ap (λ (n : ℕ). take n out') (ap (λ (x : RunEnd). x.written) e)

pub compared_is :
    (scheme lent : ℕ) (out ev told out' : List ℕ) (r : RunEnd) (k : ℕ) → r ≡ end_of scheme lent (length out) ev → out' ≡ out_after scheme lent out ev
    → r.written ≤ length out → k ≡ same_of (take r.written out') told
    → record { end = r; same = k } ≡ compared_of scheme lent (length out) ev told
compared_is scheme lent out ev told out' r k er eo h ek =
    λ i. record {
      end = er i;
      same = (ek ∙ ap (λ (l : List ℕ). same_of l told) (written_is scheme lent out ev out' r er eo h)) i;
    }

-- all the same, and as many: they are one
pub same_all : (a b : List ℕ) → length a ≡ length b → same_of a b ≡ length b → a ≡ b
same_all [] [] h e = refl
same_all [] (y ∷ ys) h e = absurd (let z : ⊥ = omega (arith, h) in z)
same_all (x ∷ xs) [] h e = absurd (let z : ⊥ = omega (arith, h) in z)
same_all (x ∷ xs) (y ∷ ys) h e = go (same_all xs ys (omega (arith, h))) (eqb x y) refl e
  where
    go : (same_of xs ys ≡ length ys → xs ≡ ys) → (t : Bool) → eqb x y ≡ t → cond t (suc (same_of xs ys)) 0 ≡ suc (length ys) → x ∷ xs ≡ y ∷ ys
    go f true q p = ap₂ (λ (z : ℕ) (l : List ℕ). z ∷ l) (eqb-true x y q) (f (omega (arith, p)))
    go f false q p = absurd (let z : ⊥ = omega (arith, p) in z)

both_true : (a b : Bool) → a && b ≡ true → (a ≡ true) × (b ≡ true)
both_true true b e = (refl, e)
both_true false b e = absurd (true≢false (sym e))

-- what is left behind the events, told with them and by itself
left_same : (lent f : ℕ) (bs : List ℕ) → (walk stops (λ rest d. before (event_at lent rest) d) f bs).left ≡ walk (λ rest. length rest) (λ rest n. n) f bs
left_same lent zero bs = refl
left_same lent (suc f) bs = go (eqb (next_of bs) 0) (left_same lent f (drop (next_of bs) bs))
  where
    go : (b : Bool) → (walk stops (λ rest d. before (event_at lent rest) d) f (drop (next_of bs) bs)).left ≡ walk (λ rest. length rest) (λ rest n. n) f (drop (next_of bs) bs)
        → (cond b (stops bs) (before (event_at lent bs) (walk stops (λ rest d. before (event_at lent rest) d) f (drop (next_of bs) bs)))).left ≡ cond b (length bs) (walk (λ rest. length rest) (λ rest n. n) f (drop (next_of bs) bs))
    go true e = refl
    go false e = e

-- a run's own answer by its two tests
abbrev Ended : ℕ → ℕ → List ℕ → Bool → Bool → RunEnd
Ended scheme lent ev a b =
    cond a (cond b (whole_end scheme lent ev) (record { number = 204; place = 0; written = 0 })) (record { number = 205; place = length ev - left_of ev; written = 0 })

-- the run of all that the bytes hold is told as recorded
recorded_is : (scheme lent most : ℕ) (ev told : List ℕ) → as_recorded_of (compared_of scheme lent most ev told) (length ev) (length told) ≡ true → Recorded scheme lent ev told
recorded_is scheme lent most ev told e =
    go (eqb (left_of ev) 0) (leb (needed ev) most) refl (eqb-true C.end.number 0 p.0) (eqb-true C.end.written (length told) q.0) (eqb-true C.same (length told) q.1)
  where
    C : Compared
    C = compared_of scheme lent most ev told

    p : (eqb C.end.number 0 ≡ true) × (eqb C.end.place (length ev) && (eqb C.end.written (length told) && eqb C.same (length told)) ≡ true)
    p = both_true (eqb C.end.number 0) (eqb C.end.place (length ev) && (eqb C.end.written (length told) && eqb C.same (length told))) e

    q : (eqb C.end.written (length told) ≡ true) × (eqb C.same (length told) ≡ true)
    q = both_true (eqb C.end.written (length told)) (eqb C.same (length told)) (both_true (eqb C.end.place (length ev)) (eqb C.end.written (length told) && eqb C.same (length told)) p.1).1

    X : List ℕ
    X = output_of (run_of scheme lent ev)

    go : (a b : Bool) → eqb (left_of ev) 0 ≡ a → (Ended scheme lent ev a b).number ≡ 0 → (Ended scheme lent ev a b).written ≡ length told → same_of (cond (a && b) X []) told ≡ length told → Recorded scheme lent ev told
    go true true t x y z = (left_same lent (length ev) ev ∙ eqb-true (left_of ev) 0 t, same_all X told y z)
    go true false t x y z = absurd (let w : ⊥ = omega (arith, x) in w)
    go false b t x y z = absurd (let w : ⊥ = omega (arith, x) in w)

pub as_compared :
    (scheme scheme' lent most : ℕ) (ev told : List ℕ) (c : Compared) (b : Bool) → scheme' ≡ scheme → c ≡ compared_of scheme' lent most ev told
    → b ≡ as_recorded_of c (length ev) (length told) → b ≡ true → Recorded scheme lent ev told
as_compared scheme scheme' lent most ev told c b es ec eb e =
    recorded_is scheme lent most ev told
    (sym (ap (λ (x : Compared). as_recorded_of x (length ev) (length told)) (ec ∙ ap (λ (n : ℕ). compared_of n lent most ev told) es)) ∙ sym eb ∙ e)

-- the tests of `as_recorded`, one after the other
module _ (c : Compared) (n m : ℕ) where
  abbrev tests : Bool → Bool → Bool → Bool
  tests x y z = x && (y && (z && eqb c.same m))

  pub not_number : (c.end.number ≡ 0 → ⊥) → false ≡ as_recorded_of c n m
  not_number p = sym (ap (λ (x : Bool). tests x (eqb c.end.place n) (eqb c.end.written m)) (ne_eqb c.end.number 0 p))

  pub not_place : c.end.number ≡ 0 → (c.end.place ≡ n → ⊥) → false ≡ as_recorded_of c n m
  not_place p q = sym (ap₂ (λ (x y : Bool). tests x y (eqb c.end.written m)) (eq-eqb c.end.number 0 p) (ne_eqb c.end.place n q))

  pub not_written : c.end.number ≡ 0 → c.end.place ≡ n → (c.end.written ≡ m → ⊥) → false ≡ as_recorded_of c n m
  not_written p q r =
      sym (λ i. tests (eq-eqb c.end.number 0 p i) (eq-eqb c.end.place n q i) (ne_eqb c.end.written m r i))

  pub all_but_same : c.end.number ≡ 0 → c.end.place ≡ n → c.end.written ≡ m → eqb c.same m ≡ as_recorded_of c n m
  all_but_same p q r =
      sym (λ i. tests (eq-eqb c.end.number 0 p i) (eq-eqb c.end.place n q i) (eq-eqb c.end.written m r i))
