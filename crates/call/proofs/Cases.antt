-- A call by its tests. Assumes nothing.
use Prim.Native.Nat.{ℕ, min, ◌≤◌}
use mathlib.Core.Path.{◌≡◌, refl, sym, ap, ◌∙◌}
use mathlib.Core.Bool.{true, false, ◌||◌}
use mathlib.Core.List.{List, [], ◌∷◌}
use lib.ListN.{length}
use Rattle.std.specs.Prelude.{Err}
use Rattle.answer.specs.declared.Refusal.{Refusal}
use Rattle.answer.specs.Numbered.{refusal_number}
use Rattle.ask.specs.Asked.{asked_of}
use Rattle.ask.proofs.Cases.{asked_turned, taken_is}
use Rattle.counts.specs.Counts.{less_all}
use Rattle.counts.proofs.Laws.{less_all_length}
use Rattle.fd_list.specs.declared.List.{List as Fds}
use Rattle.fd_list.specs.Lists.{numbers, list_of}
use Rattle.schemev2.specs.declared.Args.{Args}
use Rattle.schemev2.specs.declared.Sqe.{Sqe}
use Rattle.slot.specs.declared.Slot.{Slot}
use Rattle.slot.specs.Slots.{waiting_of}
use Rattle.user_args.specs.Args.{merge_of}
use Rattle.events.specs.World.{World, table_of, holds_of, queue_full}
use Rattle.events.specs.Outcome.{Answer, ok, no, row, readable}
use Rattle.events.specs.Submit.{args6, sqe, bad_opcode, bad_list, long_list, table_full, taken_holds, begun, call_entry, call_rows}
use Rattle.events.specs.Event.{Event, on, call}
use Rattle.layout.specs.Layout.{plain_of}
use Rattle.layout.specs.Store.{Store, give, send, outside, stored, stored_all}
use Rattle.packed.specs.Stores.{taken}
use Rattle.step.specs.Does.{Does}
use Rattle.step.proofs.Rows.{turned, carried}
use Rattle.step.proofs.Tests.{first_vacant}
use Rattle.step.proofs.Frames.{outside_short, head_outside, readable_outside}

pub entry_is :
    (op m : ℕ) (a : Args) (uid gid pid who n : ℕ) → m ≡ op → who ≡ merge_of uid gid
    → sqe m 0 n (args6 a.0 a.1 a.2 a.3 a.4 who) pid ≡ call_entry op a uid gid pid n
entry_is op m a uid gid pid who n e f = λ i. sqe (e i) 0 n (args6 a.0 a.1 a.2 a.3 a.4 (f i)) pid

module _ (ws : List ℕ) (c op : ℕ) (args : Args) (uid gid pid : ℕ) (ds : List ℕ) where
  abbrev w : World
  w = plain_of ws

  abbrev e : Event
  e = on (call c op args uid gid pid ds)

  abbrev v : Slot
  v = waiting_of c (list_of ds)

  abbrev f : ℕ → Sqe
  f = call_entry op args uid gid pid

  abbrev ss : List Store
  ss = taken w ds ∷ give v ∷ send (f (table_of w).head) ∷ []

  pub refused : (r : Refusal) → Err r ≡ asked_of w op ds → Does ws ws e (no (refusal_number r)) []
  refused = asked_turned ws e op ds (row 202 (table_full w) ∷ row 203 (queue_full w) ∷ []) (begun w v (taken_holds w ds) f) ss refl refl

  module _ (p : bad_opcode op || bad_list w ds ≡ false) (r : long_list ds ≡ false) where
    pub full : table_full w ≡ true → (a : Answer) (fx : List ℕ) → a ≡ no 202 → fx ≡ [] → Does ws ws e a fx
    full q = turned ws e (call_rows w op ds) (begun w v (taken_holds w ds) f) ss refl refl 202 (rw (p, r, q) refl)

    pub no_room : table_full w ≡ false → queue_full w ≡ true → (a : Answer) (fx : List ℕ) → a ≡ no 203 → fx ≡ [] → Does ws ws e a fx
    no_room q t = turned ws e (call_rows w op ds) (begun w v (taken_holds w ds) f) ss refl refl 203 (rw (p, r, q, t) refl)

    -- the outside counts, then the slot and its entry
    pub called :
        (q : table_full w ≡ false) (t : queue_full w ≡ false) (n : ℕ) (l : Fds) (u : Slot) (g : Sqe) (xs ys fx : List ℕ) (a : Answer)
        → n ≡ min (table_of w).head 64 → l ≡ list_of ds → u ≡ waiting_of c l → g ≡ f n → xs ≡ stored ws (outside (less_all (holds_of w).outside (numbers l)))
        → a ≡ ok (min (table_of (plain_of xs)).head 64) → fx ≡ readable (plain_of xs) → ys ≡ stored_all xs (give u ∷ send g ∷ []) → Does ws ys e a fx
    called q t n l u g xs ys fx a en el eu eg ex ea ef ey =
        let o : List ℕ = less_all (holds_of w).outside (numbers l) in
        let h : length o ≤ 64 = rw (less_all_length (numbers l) (holds_of w).outside) (outside_short ws) in
        let m = first_vacant w n q en in
        let z : min (table_of (plain_of xs)).head 64 ≡ (table_of w).head = ap (λ (x : List ℕ). min (table_of (plain_of x)).head 64) ex ∙ ap (λ (x : ℕ). min x 64) (head_outside ws o) ∙ sym en ∙ m in
        let k : xs ≡ stored ws (taken w ds) = ex ∙ ap (λ (y : List ℕ). stored ws (outside y)) (ap (λ (y : Fds). less_all (holds_of w).outside (numbers y)) el ∙ taken_is w op ds p r) in
        carried ws e (call_rows w op ds) (begun w v (taken_holds w ds) f) ss refl refl (p, (r, (q, (t, tt)))) ys a fx
        (ea ∙ ap ok z) (ef ∙ ap (λ (x : List ℕ). readable (plain_of x)) ex ∙ readable_outside ws o h)
        (ey ∙ λ i. stored_all (k i) (give ((eu ∙ ap (waiting_of c) el) i) ∷ send ((eg ∙ ap f m) i) ∷ []))
