-- The room that a run needs, record by record. Assumes nothing.
use Prim.Native.Nat.{ℕ, zero, suc, min, ◌+◌, ◌-◌, ◌*◌, ◌<◌, ◌≤◌}
use mathlib.Core.Path.{◌≡◌, refl, sym, ap, ap₂, ◌∙◌, subst}
use mathlib.Core.Bool.{Bool, true, false, cond}
use mathlib.Core.List.{List}
use native.Mathlib.Omega.{arith}
use lib.Dec.{eqb, leb}
use lib.ListN.{length, drop, length-drop}
use lib.Seq.{drop-drop}
use Rattle.std.proofs.Common.{Option, Some, None, is_some, SomeIff, MatchOption}
use Rattle.std.proofs.lemmas.Bool.Decides.{nat_tests}
use borrow.Author.Tests.{eq-eqb, le-leb, lt-leb}
use Rattle.record.specs.Record.{record_of, tail_by, next_of, walk}
use Rattle.record.proofs.Laws.{next_there, walk_ends, walk_goes_on}
use Rattle.state_bytes.specs.StateBytes.{state_size}
use Rattle.run_room.specs.Room.{room_by, room_of, needed, left_of, walked_of}
use Rattle.run_room.specs.declared.Walked.{Walked}

pub room_is_read : (kind number word : ℕ) → kind ≡ 15 → 192 + min word 8192 + 27 * tail_by kind number ≡ room_by kind number word
room_is_read kind number word e = ap (λ (b : Bool). 192 + cond b (min word 8192) 0 + 27 * tail_by kind number) (sym (eq-eqb kind 15 e))

-- the state's own bytes are always needed
least_room : (f : ℕ) (bs : List ℕ) → state_size ≤ walk (λ rest. state_size) (λ rest n. room_of (record_of rest) + n) f bs
least_room zero bs = omega arith
least_room (suc f) bs = go (eqb (next_of bs) 0) (least_room f (drop (next_of bs) bs))
  where
    go : (b : Bool) → state_size ≤ walk (λ rest. state_size) (λ rest n. room_of (record_of rest) + n) f (drop (next_of bs) bs)
        → state_size ≤ cond b state_size (room_of (record_of bs) + walk (λ rest. state_size) (λ rest n. room_of (record_of rest) + n) f (drop (next_of bs) bs))
    go true h = omega arith
    go false h = omega (arith, h)

pub needed_least : (bs : List ℕ) → state_size ≤ needed bs
needed_least bs = least_room (length bs) bs

pub needed_ends : (bs : List ℕ) → next_of bs ≡ 0 → needed bs ≡ state_size
needed_ends bs e = walk_ends (λ rest. state_size) (λ rest n. room_of (record_of rest) + n) bs e

pub needed_goes_on : (bs : List ℕ) → (next_of bs ≡ 0 → ⊥) → needed bs ≡ room_of (record_of bs) + needed (drop (next_of bs) bs)
needed_goes_on bs e = walk_goes_on (λ rest. state_size) (λ rest n. room_of (record_of rest) + n) bs e

-- the place behind a record
pub place_on : (bs : List ℕ) (at size : ℕ) → size ≡ next_of (drop at bs) → at ≤ length bs → at + size ≤ length bs
place_on bs at size es h = omega (arith, h, es, next_there (drop at bs), length-drop at bs)

-- what is left to spend decides as the whole does; none is left once an event has had no room
abbrev pub Spent : List ℕ → ℕ → Option ℕ → ℕ → Type 0
Spent bs most None at = leb (needed bs) most ≡ false
Spent bs most (Some left) at = leb (needed bs) most ≡ leb (needed (drop at bs)) (left + state_size)

pub spent_start : (bs : List ℕ) (most : ℕ) (left : Option ℕ) → SomeIff left (state_size ≤ most) (most - state_size) → Spent bs most left 0
spent_start bs most None h = lt-leb (needed bs) most (omega (arith, h, needed_least bs))
spent_start bs most (Some left) h = ap (leb (needed bs)) (let z : most ≡ left + state_size = omega (arith, h) in z)

pub spent_ends : (bs : List ℕ) (most : ℕ) (left : Option ℕ) (at : ℕ) → Spent bs most left at → next_of (drop at bs) ≡ 0 → is_some left ≡ leb (needed bs) most
spent_ends bs most None at so e = sym so
spent_ends bs most (Some left) at so e = sym (so ∙ le-leb (needed (drop at bs)) (left + state_size) (omega (arith, needed_ends (drop at bs) e)))

-- past one more event, whose bytes may take k
module _ (bs : List ℕ) (most at k size : ℕ) (es : size ≡ next_of (drop at bs)) (more : 0 < size) (ek : k ≡ room_of (record_of (drop at bs))) where
  on : needed (drop at bs) ≡ k + needed (drop (at + size) bs)
  on =
      needed_goes_on (drop at bs) (λ z. omega (arith, es, more, z))
      ∙ ap₂ ◌+◌ (sym ek) (ap needed (ap (λ (n : ℕ). drop n (drop at bs)) (sym es) ∙ drop-drop size at bs))

  same : (left : ℕ) → k ≤ left → leb (needed (drop at bs)) (left + state_size) ≡ leb (needed (drop (at + size) bs)) (left - k + state_size)
  same left h = grind (arith, nat_tests, on)

  spent_by : (left : ℕ) (rest : Option ℕ) → Spent bs most (Some left) at → SomeIff rest (k ≤ left) (left - k) → Spent bs most rest (at + size)
  spent_by left None so h =
      so ∙ lt-leb (needed (drop at bs)) (left + state_size) (omega (arith, h, on, needed_least (drop (at + size) bs)))
  spent_by left (Some rest) so h = so ∙ same left h.0 ∙ ap (λ (n : ℕ). leb (needed (drop (at + size) bs)) (n + state_size)) (sym h.1)

  pub spent_on : (left rest : Option ℕ) → Spent bs most left at → MatchOption left (rest ≡ None) (λ n. SomeIff rest (k ≤ n) (n - k)) → Spent bs most rest (at + size)
  spent_on None rest so h = subst (λ (o : Option ℕ). Spent bs most o (at + size)) (sym h) so
  spent_on (Some left) rest so h = spent_by left rest so h

-- how many bytes are left where the events end
left_most : (f : ℕ) (bs : List ℕ) → walk (λ rest. length rest) (λ rest n. n) f bs ≤ length bs
left_most zero bs = omega arith
left_most (suc f) bs = go (eqb (next_of bs) 0) (left_most f (drop (next_of bs) bs))
  where
    go : (b : Bool) → walk (λ rest. length rest) (λ rest n. n) f (drop (next_of bs) bs) ≤ length (drop (next_of bs) bs)
        → cond b (length bs) (walk (λ rest. length rest) (λ rest n. n) f (drop (next_of bs) bs)) ≤ length bs
    go true h = omega arith
    go false h = omega (arith, h, length-drop (next_of bs) bs)

pub left_there : (bs : List ℕ) → left_of bs ≤ length bs
left_there bs = left_most (length bs) bs

pub left_ends : (bs : List ℕ) → next_of bs ≡ 0 → left_of bs ≡ length bs
left_ends bs e = walk_ends (λ rest. length rest) (λ rest n. n) bs e

pub left_goes_on : (bs : List ℕ) → (next_of bs ≡ 0 → ⊥) → left_of bs ≡ left_of (drop (next_of bs) bs)
left_goes_on bs e = walk_goes_on (λ rest. length rest) (λ rest n. n) bs e

-- where all are left there is no event
pub left_all : (bs : List ℕ) → left_of bs ≡ length bs → next_of bs ≡ 0
left_all bs h = go (next_of bs) refl
  where
    go : (n : ℕ) → next_of bs ≡ n → next_of bs ≡ 0
    go zero e = e
    go (suc n) e =
        absurd (let z : ⊥ = omega (arith, h, e, next_there bs, left_goes_on bs (λ q. omega (arith, q, e)), left_there (drop (next_of bs) bs), length-drop (next_of bs) bs) in z)

-- where the events end
pub end_at : (bs : List ℕ) (at : ℕ) → at ≤ length bs → left_of (drop at bs) ≡ left_of bs → next_of (drop at bs) ≡ 0 → at ≡ length bs - left_of bs
end_at bs at p q e = omega (arith, p, q, left_ends (drop at bs) e, length-drop at bs)

-- the walk's answer
pub walked : (bs : List ℕ) (most at : ℕ) (b : Bool) → b ≡ leb (needed bs) most → at ≡ length bs - left_of bs → ◌≡◌ {A = Walked} (record { fits = b; end = at }) (walked_of bs most)
walked bs most at b h e = ap₂ (λ (x : Bool) (n : ℕ). record { fits = x; end = n }) h e

pub left_on : (bs : List ℕ) (at size : ℕ) → left_of (drop at bs) ≡ left_of bs → size ≡ next_of (drop at bs) → (size ≡ 0 → ⊥) → left_of (drop (at + size) bs) ≡ left_of bs
left_on bs at size q e more =
    sym (left_goes_on (drop at bs) (λ z. more (e ∙ z)) ∙ ap left_of (ap (λ (n : ℕ). drop n (drop at bs)) (sym e) ∙ drop-drop size at bs)) ∙ q
