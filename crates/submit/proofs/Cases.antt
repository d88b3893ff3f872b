-- A submit by its tests. Assumes nothing.
use Prim.Native.Nat.{ℕ, min, ◌≤◌}
use mathlib.Core.Path.{◌≡◌, refl, sym, ap, ◌∙◌}
use mathlib.Core.Bool.{Bool, true, false, not, cond, ◌||◌, ◌&&◌, true≢false}
use mathlib.Core.List.{List, [], ◌∷◌}
use native.Mathlib.Omega.{arith}
use lib.Dec.{ltb, eqb}
use lib.ListN.{length, get_or}
use borrow.Author.Tests.{ltb-true}
use Rattle.std.specs.Prelude.{Err}
use Rattle.answer.specs.declared.Refusal.{Refusal}
use Rattle.answer.specs.Numbered.{refusal_number}
use Rattle.ask.specs.Asked.{asked_of}
use Rattle.ask.proofs.Cases.{asked_turned, taken_is}
use Rattle.counts.specs.Counts.{less_all}
use Rattle.counts.proofs.Laws.{less_all_length}
use Rattle.fd_list.specs.declared.List.{List as Fds}
use Rattle.fd_list.specs.Lists.{numbers, list_of}
use Rattle.ids.specs.declared.SlotNo.{SlotNo}
use Rattle.ids.specs.declared.Tag.{Tag}
use Rattle.ids.specs.Ids.{slot_of}
use Rattle.schemev2.specs.declared.Args.{Args}
use Rattle.schemev2.specs.declared.Sqe.{Sqe}
use Rattle.slot.specs.declared.Phase.{Phase}
use Rattle.slot.specs.declared.Slot.{Slot}
use Rattle.slot.specs.Slots.{phase_of, vacant_slot, waiting_of}
use Rattle.table.specs.Table.{no_slot}
use Rattle.events.specs.World.{World, table_of, holds_of, slot_in, queue_full}
use Rattle.events.specs.Outcome.{Answer, ok, no, row, readable}
use Rattle.events.specs.Submit.{sqe, bad_opcode, bad_list, long_list, is_placeholder, submittable, submitted, submit_entry, submit_rows}
use Rattle.events.specs.Event.{Event, on, submit}
use Rattle.layout.specs.Layout.{plain_of}
use Rattle.layout.specs.Store.{Store, put, send, outside, stored, stored_all}
use Rattle.packed.specs.Stores.{taken}
use Rattle.step.specs.Does.{Does}
use Rattle.step.proofs.Rows.{turned, carried}
use Rattle.step.proofs.Tests.{slot_of_in}
use Rattle.step.proofs.Frames.{outside_short, readable_outside}

-- the decision on a slot
pub decided :
    (v : Slot) (c : ℕ) (p : Phase) (o e : Bool) → phase_of v ≡ p → eqb v.caller c ≡ o → v.ended ≡ e
    → is_placeholder p && (o && not e) ≡ submittable v c
decided v c p o e qp qo qe = rw (← qp, ← qo, ← qe)

-- a slot that is no Placeholder's is none to submit
within : (w : World) (n c : ℕ) → submittable (slot_in w n) c ≡ true → min n 64 ≡ n
within w n c = go (ltb n 64) refl
  where
    go : (b : Bool) → ltb n 64 ≡ b → submittable (cond b (get_or (table_of w).slots n no_slot) vacant_slot) c ≡ true → min n 64 ≡ n
    go true e q = omega (arith, ltb-true n 64 e)
    go false e q = absurd (true≢false (sym q))

module _ (ws : List ℕ) (n : Tag) (c op fl : ℕ) (args : Args) (pid : ℕ) (ds : List ℕ) where
  abbrev w : World
  w = plain_of ws

  abbrev e : Event
  e = on (submit n.0 c op fl args pid ds)

  abbrev f : Sqe
  f = submit_entry n.0 op fl args pid

  abbrev ss : List Store
  ss = taken w ds ∷ put n.0 (waiting_of c (list_of ds)) ∷ send f ∷ []

  pub refused : (r : Refusal) → Err r ≡ asked_of w op ds → Does ws ws e (no (refusal_number r)) []
  refused = asked_turned ws e op ds (row 201 (not (submittable (slot_in w n.0) c)) ∷ row 203 (queue_full w) ∷ []) (submitted w n.0 c ds f) ss refl refl

  module _ (p : bad_opcode op || bad_list w ds ≡ false) (r : long_list ds ≡ false) (k : SlotNo) (is : k ≡ slot_of n) (v : Slot) (at : v ≡ slot_in w k.0) where
    here : v ≡ slot_in w n.0
    here = at ∙ ap (λ (x : SlotNo). slot_in w x.0) is ∙ slot_of_in w n.0

    test : (b : Bool) → submittable v c ≡ b → submittable (slot_in w n.0) c ≡ b
    test b q = ap (λ (x : Slot). submittable x c) (sym here) ∙ q

    pub not_yours : submittable v c ≡ false → (a : Answer) (fx : List ℕ) → a ≡ no 201 → fx ≡ [] → Does ws ws e a fx
    not_yours q = let t = test false q in turned ws e (submit_rows w n.0 c op ds) (submitted w n.0 c ds f) ss refl refl 201 (rw (p, r, t) refl)

    pub no_room : submittable v c ≡ true → queue_full w ≡ true → (a : Answer) (fx : List ℕ) → a ≡ no 203 → fx ≡ [] → Does ws ws e a fx
    no_room q g = let t = test true q in turned ws e (submit_rows w n.0 c op ds) (submitted w n.0 c ds f) ss refl refl 203 (rw (p, r, t, g) refl)

    pub sent :
        (q : submittable v c ≡ true) → queue_full w ≡ false → (m : ℕ) (l : Fds) (u : Slot) (xs ys fx : List ℕ) (a : Answer)
        → m ≡ op → l ≡ list_of ds → u ≡ waiting_of c l → xs ≡ stored ws (outside (less_all (holds_of w).outside (numbers l)))
        → a ≡ ok n.0 → fx ≡ readable (plain_of xs) → ys ≡ stored_all xs (put k.0 u ∷ send (sqe m fl k.0 args pid) ∷ []) → Does ws ys e a fx
    sent q g m l u xs ys fx a em el eu ex ea ef ey =
        let t = test true q in
        let o : List ℕ = less_all (holds_of w).outside (numbers l) in
        let h : length o ≤ 64 = rw (less_all_length (numbers l) (holds_of w).outside) (outside_short ws) in
        let j : k.0 ≡ n.0 = ap (λ (x : SlotNo). x.0) is ∙ within w n.0 c t in
        let z : xs ≡ stored ws (taken w ds) = ex ∙ ap (λ (y : List ℕ). stored ws (outside y)) (ap (λ (y : Fds). less_all (holds_of w).outside (numbers y)) el ∙ taken_is w op ds p r) in
        carried ws e (submit_rows w n.0 c op ds) (submitted w n.0 c ds f) ss refl refl (p, (r, (ap not t, (g, tt)))) ys a fx
        ea (ef ∙ ap (λ (x : List ℕ). readable (plain_of x)) ex ∙ readable_outside ws o h)
        (ey ∙ λ i. stored_all (z i) (put (j i) ((eu ∙ ap (waiting_of c) el) i) ∷ send (sqe (em i) fl (j i) args pid) ∷ []))
