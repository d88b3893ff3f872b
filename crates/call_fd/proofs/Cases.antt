-- The descriptor calls by their request and, for a move, by its list. Assumes nothing.
use Prim.Native.Nat.{ℕ, min}
use mathlib.Core.Path.{◌≡◌, refl, sym, ap, ap₂, ◌∙◌}
use mathlib.Core.Bool.{Bool, true, false, not, cond, ◌||◌}
use mathlib.Core.List.{List, [], ◌∷◌, ◌++◌}
use mathlib.Core.Logic.{inl, inr}
use native.Mathlib.Omega.{arith}
use types.Run.{OneOf}
use denote.Enum.Declared.{tag_of}
use lib.Dec.{ltb, eqb}
use lib.ListN.{get_or, length}
use borrow.Author.Tests.{ltb-true, ltb-false}
use Rattle.counts.specs.Counts.{less_all, more_all}
use Rattle.fd_list.specs.declared.List.{List as Fds}
use Rattle.fd_list.specs.Lists.{numbers, list_of}
use Rattle.fd_list.proofs.Laws.{numbers_list_of}
use Rattle.holds.specs.declared.Holds.{Holds}
use Rattle.holds.specs.Holds.{holds_with, outside_of}
use Rattle.slot.specs.declared.Phase.{Phase}
use Rattle.slot.specs.declared.Phase.TheVariants.{Vacant, Placeholder, Waiting, Responded, Fmap}
use Rattle.slot.specs.declared.Slot.{Slot}
use Rattle.slot.specs.Slots.{phase_of, no_fds, vacant_slot, with_fds_of}
use Rattle.slot.specs.contracts.Phase.{the_type}
use Rattle.table.specs.Table.{no_slot}
use Rattle.std.specs.Prelude.{Ok, Err}
use Rattle.answer.specs.declared.Refusal.TheVariants.{BadArgument, TooManyFds}
use Rattle.answer.specs.declared.Refusal.{Refusal}
use Rattle.answer.specs.Numbered.{refusal_number}
use Rattle.take_holds.specs.declared.Taken.{Taken}
use Rattle.take_holds.specs.Take.{taken_as, take_of}
use Rattle.events.specs.World.{World, table_of, holds_of, slot_in, phase_in}
use Rattle.events.specs.Outcome.{Answer, ok, no, Outcome, refuse}
use Rattle.events.specs.Submit.{bad_list, long_list, taken_holds}
use Rattle.events.specs.Entry.{dropped, is_vacant, is_waiting}
use Rattle.events.specs.Descriptors.{verb_of, request_of, wrong_words, request_rows, list_rows, brought_back, moved, given_up}
use Rattle.events.specs.Event.{Event, on, move, obtain}
use Rattle.events.proofs.Checked.{Passed}
use Rattle.layout.specs.Layout.{plain_of}
use Rattle.layout.specs.Store.{Store, put, outside, all, stored, stored_all}
use Rattle.packed.specs.Stores.{counts}
use Rattle.packed.proofs.Changes.{taken_all}
use Rattle.step.specs.Does.{Due, Does}
use Rattle.step.proofs.Rows.{checked_due, checked_passed, turned, carried}
use Rattle.step.proofs.Tests.{slot_of_in}
use Rattle.step.proofs.Frames.{all_outside}
use Rattle.call_fd.specs.Moves.{request_slot, moved_of, moved_stores, Good, Moves}

-- the slot that metadata name
module _ (verb : ℕ) (ms : List ℕ) where
  pub wrong_length : eqb (length ms) 2 ≡ false → 64 ≡ request_slot verb ms
  wrong_length q = rw q refl

  pub wrong_verb : eqb (length ms) 2 ≡ true → eqb (verb_of ms) verb ≡ false → 64 ≡ request_slot verb ms
  wrong_verb q r = rw (q, r) refl

  pub named : eqb (length ms) 2 ≡ true → eqb (verb_of ms) verb ≡ true → min (request_of ms) 64 ≡ request_slot verb ms
  named q r = rw (q, r) refl

-- the arm of neither a vacant nor a waiting slot
pub other_phase : (p : Phase) → (p ≡ Vacant → ⊥) → (p ≡ Waiting → ⊥) → (is_vacant p ≡ false) × (is_waiting p ≡ false)
other_phase Vacant v w = absurd (v refl)
other_phase Waiting v w = absurd (w refl)
other_phase Placeholder v w = (refl, refl)
other_phase Responded v w = (refl, refl)
other_phase Fmap v w = (refl, refl)

-- only a waiting slot passes
record Found (w : World) (verb : ℕ) (ms : List ℕ) (k : ℕ) (v : Slot) : Type 0 where
  vacant : phase_of v ≡ Vacant → Due (request_rows w verb ms) 22
  other : is_vacant (phase_of v) ≡ false → is_waiting (phase_of v) ≡ false → Due (request_rows w verb ms) 2
  waits : phase_of v ≡ Waiting → Passed (request_rows w verb ms) × (k ≡ request_of ms) × (v ≡ slot_in w (request_of ms))

abbrev num : Phase → ℕ
num Vacant = 0
num Placeholder = 1
num Waiting = 2
num Responded = 3
num Fmap = 4

low : (w : World) (n : ℕ) → phase_in w n ≡ Waiting → min n 64 ≡ n
low w n = go (ltb n 64) refl
  where
    go : (b : Bool) → ltb n 64 ≡ b → phase_of (cond b (get_or (table_of w).slots n no_slot) vacant_slot) ≡ Waiting → min n 64 ≡ n
    go true e q = omega (arith, ltb-true n 64 e)
    go false e q = absurd (omega (arith, ap num q))

found : (w : World) (verb : ℕ) (ms : List ℕ) (k : ℕ) (v : Slot) → k ≡ request_slot verb ms → v ≡ slot_in w k → Found w verb ms k v
found w verb ms k v is at = go (wrong_words verb ms) refl is
  where
    go : (b : Bool) → wrong_words verb ms ≡ b → k ≡ cond b 64 (min (request_of ms) 64) → Found w verb ms k v
    go true e q =
        let z : phase_of v ≡ Vacant = ap phase_of (at ∙ ap (slot_in w) q) in
        record {
          vacant = λ p. rw e refl;
          other = λ p r. absurd (let y : ◌≡◌ {A = ℕ} 0 1 = cc (ap is_vacant z) in omega (arith, y));
          waits = λ p. absurd (omega (arith, ap num (sym z ∙ p)));
        }
    go false e q =
        let here : v ≡ slot_in w (request_of ms) = at ∙ ap (slot_in w) q ∙ slot_of_in w (request_of ms) in
        record {
          vacant = λ p. let t : is_vacant (phase_in w (request_of ms)) ≡ true = ap (λ (x : Slot). is_vacant (phase_of x)) (sym here) ∙ ap is_vacant p in rw (e, t) refl;
          other = λ p r.
              let t : is_vacant (phase_in w (request_of ms)) ≡ false = ap (λ (x : Slot). is_vacant (phase_of x)) (sym here) ∙ p in
              let u : is_waiting (phase_in w (request_of ms)) ≡ false = ap (λ (x : Slot). is_waiting (phase_of x)) (sym here) ∙ r in
              rw (e, t, u) refl;
          waits = λ p.
              let t : phase_in w (request_of ms) ≡ Waiting = ap phase_of (sym here) ∙ p in
              ((ap₂ (λ (x : Bool) (y : Phase). x || is_vacant y) e t, (ap (λ (y : Phase). not (is_waiting y)) t, tt)), q ∙ low w (request_of ms) t, here);
        }

-- obtain
module _ (ws ms : List ℕ) (k : ℕ) (v : Slot) (is : k ≡ request_slot 0 ms) (at : v ≡ slot_in (plain_of ws) k) where
  abbrev w : World
  w = plain_of ws

  abbrev e : Event
  e = on (obtain ms)

  abbrev ss : List Store
  ss = outside (outside_of (holds_of w) (numbers (slot_in w (request_of ms)).fds)).outside ∷ put (request_of ms) (with_fds_of (slot_in w (request_of ms)) no_fds) ∷ []

  abbrev f : Found w 0 ms k v
  f = found w 0 ms k v is at

  pub obtain_vacant : phase_of v ≡ Vacant → (a : Answer) (fx : List ℕ) → a ≡ no 22 → fx ≡ [] → Does ws ws e a fx
  obtain_vacant p = turned ws e (request_rows w 0 ms) (given_up w (request_of ms)) ss refl refl 22 (f.vacant p)

  pub obtain_other : is_vacant (phase_of v) ≡ false → is_waiting (phase_of v) ≡ false → (a : Answer) (fx : List ℕ) → a ≡ no 2 → fx ≡ [] → Does ws ws e a fx
  obtain_other p q = turned ws e (request_rows w 0 ms) (given_up w (request_of ms)) ss refl refl 2 (f.other p q)

  pub obtained :
      phase_of v ≡ Waiting → (n : ℕ) (l : Fds) (u : Slot) (xs ys : List ℕ) (a : Answer) (fx : List ℕ) → n ≡ length (numbers v.fds) → l ≡ no_fds → u ≡ with_fds_of v l
      → xs ≡ stored ws (outside (more_all (holds_of w).outside (numbers v.fds))) → ys ≡ stored xs (put k u) → a ≡ ok n → fx ≡ [] → Does ws ys e a fx
  obtained p n l u xs ys a fx en el eu ex ey ea ef =
      let z = f.waits p in
      let h : v ≡ slot_in w (request_of ms) = z.2 in
      carried ws e (request_rows w 0 ms) (given_up w (request_of ms)) ss refl refl z.0 ys a fx
      (ea ∙ ap ok (en ∙ ap (λ (x : Slot). length (numbers x.fds)) h)) ef
      (ey ∙ λ i. stored ((ex ∙ ap (λ (x : Slot). stored ws (outside (more_all (holds_of w).outside (numbers x.fds)))) h) i) (put (z.1 i) ((eu ∙ ap₂ with_fds_of h el) i)))

-- move, its list good
module _ (ws ms ds : List ℕ) (l : Fds) (g : Good (plain_of ws) ds l) (k : ℕ) (v : Slot) (is : k ≡ request_slot 1 ms) (at : v ≡ slot_in (plain_of ws) k)
    (xs : List ℕ) (ex : xs ≡ stored ws (outside (less_all (holds_of (plain_of ws)).outside (numbers l))))
  where
    abbrev u : World
    u = plain_of ws

    abbrev fm : Found u 1 ms k v
    fm = found u 1 ms k v is at

    taken_is : xs ≡ stored ws (outside (taken_holds u ds).outside)
    taken_is = ex ∙ ap (λ (o : List ℕ). stored ws (outside o)) (ap (less_all (holds_of u).outside) g.numbers ∙ sym g.taken)

    -- what is dropped of all holds
    lowered : (bs ys : List ℕ) → ys ≡ stored xs (all (less_all (holds_of (plain_of xs)).holds bs)) → ys ≡ stored_all ws (counts (dropped (taken_holds u ds) bs))
    lowered bs ys ey =
        let h : (holds_of (plain_of xs)).holds ≡ (taken_holds u ds).holds = ap (λ (x : List ℕ). (holds_of (plain_of x)).holds) taken_is ∙ all_outside ws (taken_holds u ds).outside ∙ sym (ap (λ (x : Holds). x.holds) (taken_all u ds)) in
        ey ∙ ap₂ (λ (x y : List ℕ). stored x (all (less_all y bs))) taken_is h

    refused : (j : ℕ) → Due (request_rows u 1 ms) j → (ys : List ℕ) (a : Answer) (fx : List ℕ) → ys ≡ stored xs (all (less_all (holds_of (plain_of xs)).holds (numbers l))) → a ≡ no j → fx ≡ [] → Moves ws ys ms ds a fx
    refused j d ys a fx ey ea ef =
        let r : moved_of u ms ds ≡ refuse (brought_back u ds) j = checked_due (refuse (brought_back u ds)) (request_rows u 1 ms) (moved u (request_of ms) ds) j d in
        let q : moved_stores u ms ds ≡ counts (dropped (taken_holds u ds) ds) = checked_due (λ i. counts (dropped (taken_holds u ds) ds)) (request_rows u 1 ms) _ j d in
        record {
          answer = ea ∙ sym (ap (λ (o : Outcome). o.answer) r);
          effects = ef ∙ sym (ap (λ (o : Outcome). o.effects) r);
          words = lowered (numbers l) ys ey ∙ ap (λ (b : List ℕ). stored_all ws (counts (dropped (taken_holds u ds) b))) g.numbers ∙ sym (ap (stored_all ws) q);
        }

    pub move_vacant : phase_of v ≡ Vacant → (ys : List ℕ) (a : Answer) (fx : List ℕ) → ys ≡ stored xs (all (less_all (holds_of (plain_of xs)).holds (numbers l))) → a ≡ no 22 → fx ≡ [] → Moves ws ys ms ds a fx
    move_vacant p = refused 22 (fm.vacant p)

    pub move_other : is_vacant (phase_of v) ≡ false → is_waiting (phase_of v) ≡ false → (ys : List ℕ) (a : Answer) (fx : List ℕ) → ys ≡ stored xs (all (less_all (holds_of (plain_of xs)).holds (numbers l))) → a ≡ no 2 → fx ≡ [] → Moves ws ys ms ds a fx
    move_other p q = refused 2 (fm.other p q)

    pub moved_in :
        phase_of v ≡ Waiting → (n : ℕ) (t : Slot) (ys zs : List ℕ) (a : Answer) (fx : List ℕ) → n ≡ length ds → t ≡ with_fds_of v l
        → ys ≡ stored xs (all (less_all (holds_of (plain_of xs)).holds (numbers v.fds))) → zs ≡ stored ys (put k t) → a ≡ ok n → fx ≡ [] → Moves ws zs ms ds a fx
    moved_in p n t ys zs a fx en et ey ez ea ef =
        let z = fm.waits p in
        let h : v ≡ slot_in u (request_of ms) = z.2 in
        let r : moved_of u ms ds ≡ moved u (request_of ms) ds = checked_passed (refuse (brought_back u ds)) (request_rows u 1 ms) (moved u (request_of ms) ds) z.0 in
        let q = checked_passed (λ i. counts (dropped (taken_holds u ds) ds)) (request_rows u 1 ms) (counts (dropped (taken_holds u ds) (numbers (slot_in u (request_of ms)).fds)) ++ put (request_of ms) (with_fds_of (slot_in u (request_of ms)) (list_of ds)) ∷ []) z.0 in
        record {
          answer = ea ∙ ap ok en ∙ sym (ap (λ (o : Outcome). o.answer) r);
          effects = ef ∙ sym (ap (λ (o : Outcome). o.effects) r);
          words =
              ez
              ∙ (λ i. stored ((lowered (numbers v.fds) ys ey ∙ ap (λ (x : Slot). stored_all ws (counts (dropped (taken_holds u ds) (numbers x.fds)))) h) i) (put (z.1 i) ((et ∙ ap₂ with_fds_of h g.list) i)))
              ∙ sym (ap (stored_all ws) q);
        }

-- a move by its list
module _ (ws ms ds : List ℕ) where
  abbrev em : Event
  em = on (move ms ds)

  -- the list's two tests, the bad one first
  abbrev by : Bool → Bool → Taken
  by x y = cond x (taken_as (Err BadArgument) (holds_of (plain_of ws))) (cond y (taken_as (Err TooManyFds) (holds_of (plain_of ws))) (taken_as (Ok (list_of ds)) (holds_with (holds_of (plain_of ws)).holds (less_all (holds_of (plain_of ws)).outside ds))))

  pub list_refused : (k : Refusal) → Err k ≡ (take_of (holds_of (plain_of ws)) ds).list → Does ws ws em (no (refusal_number k)) []
  list_refused k is = go (bad_list (plain_of ws) ds) (long_list ds) refl refl is
    where
      turn : Due (list_rows (plain_of ws) ds) (refusal_number k) → Does ws ws em (no (refusal_number k)) []
      turn d = turned ws em (list_rows (plain_of ws) ds) (moved_of (plain_of ws) ms ds) (moved_stores (plain_of ws) ms ds) refl refl (refusal_number k) d _ _ refl refl

      go : (x y : Bool) → bad_list (plain_of ws) ds ≡ x → long_list ds ≡ y → Err k ≡ (by x y).list → Does ws ws em (no (refusal_number k)) []
      go true y ex ey e = let z : k ≡ BadArgument = cc in turn (rw (ex, z) refl)
      go false true ex ey e = let z : k ≡ TooManyFds = cc in turn (rw (ex, ey, z) refl)
      go false false ex ey e = absurd (let z : ◌≡◌ {A = ℕ} 0 1 = cc in omega (arith, z))

  pub list_taken : (l : Fds) → Ok l ≡ (take_of (holds_of (plain_of ws)) ds).list → (bad_list (plain_of ws) ds ≡ false) × (long_list ds ≡ false) × (l ≡ list_of ds)
  list_taken l is = go (bad_list (plain_of ws) ds) (long_list ds) is
    where
      go : (x y : Bool) → Ok l ≡ (by x y).list → (x ≡ false) × (y ≡ false) × (l ≡ list_of ds)
      go true y e = absurd (let z : ◌≡◌ {A = ℕ} 0 1 = cc in omega (arith, z))
      go false true e = absurd (let z : ◌≡◌ {A = ℕ} 0 1 = cc in omega (arith, z))
      go false false e = (refl, refl, cc)

  pub good_list : bad_list (plain_of ws) ds ≡ false → long_list ds ≡ false → (l : Fds) → l ≡ list_of ds → Good (plain_of ws) ds l
  good_list q r l is =
      record { list = is; numbers = ap numbers is ∙ numbers_list_of ds (ltb-false 16 (length ds) r); taken = ap₂ (λ (x y : Bool). (cond x (taken_as (Err BadArgument) (holds_of (plain_of ws))) (cond y (taken_as (Err TooManyFds) (holds_of (plain_of ws))) (taken_as (Ok (list_of ds)) (holds_with (holds_of (plain_of ws)).holds (less_all (holds_of (plain_of ws)).outside ds))))).holds.outside) q r }

  pub went : bad_list (plain_of ws) ds ≡ false → long_list ds ≡ false → (xs : List ℕ) (a : Answer) (fx : List ℕ) → Moves ws xs ms ds a fx → Does ws xs em a fx
  went q r xs a fx m =
      carried ws em (list_rows (plain_of ws) ds) (moved_of (plain_of ws) ms ds) (moved_stores (plain_of ws) ms ds) refl refl (q, (r, tt)) xs a fx m.answer m.effects m.words
