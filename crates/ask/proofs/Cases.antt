-- What was asked, by its tests; and the events that ask. Assumes nothing.
use Prim.Native.Nat.{ℕ}
use mathlib.Core.Path.{◌≡◌, refl, sym, ap, ◌∙◌}
use mathlib.Core.Bool.{Bool, true, false, cond, ◌||◌, true≢false}
use mathlib.Core.List.{List, []}
use native.Mathlib.Omega.{arith}
use lib.ListN.{length}
use borrow.Author.Tests.{ltb-false}
use Rattle.std.specs.Prelude.{Option, Some, None, Result, Ok, Err}
use Rattle.answer.specs.declared.Refusal.{Refusal}
use Rattle.answer.specs.declared.Refusal.TheVariants.{BadArgument, TooManyFds}
use Rattle.answer.specs.Numbered.{refusal_number}
use Rattle.counts.specs.Counts.{less_all}
use Rattle.event_cases.proofs.Opcodes.{unknown_bad, known_good}
use Rattle.fd_list.specs.declared.List.{List as Fds}
use Rattle.fd_list.specs.Lists.{numbers, list_of}
use Rattle.fd_list.proofs.Laws.{numbers_list_of}
use Rattle.holds.specs.Holds.{holds_with}
use Rattle.opcode.specs.declared.Opcode.{Opcode}
use Rattle.opcode.specs.Opcodes.{opcode_of, raw_of, raw_in}
use Rattle.take_holds.specs.Take.{taken_as, take_of}
use Rattle.events.specs.World.{World, holds_of}
use Rattle.events.specs.Outcome.{no, Outcome, Row, checked, refuse}
use Rattle.events.specs.Submit.{bad_opcode, bad_list, long_list, taken_holds}
use Rattle.events.specs.Event.{Event, step}
use Rattle.layout.specs.Layout.{plain_of}
use Rattle.layout.specs.Store.{Store}
use Rattle.packed.specs.Stores.{unless, stores_of}
use Rattle.step.specs.Does.{Due, Does}
use Rattle.step.proofs.Rows.{turned}
use Rattle.ask.specs.declared.Asked.{Asked}
use Rattle.ask.specs.Asked.{asked_of, ask_rows}

-- what a list comes to, beside its opcode
abbrev with_list : ℕ → Result Fds Refusal → Result Asked Refusal
with_list m (Ok l) = Ok (record { opcode = m; list = l })
with_list m (Err e) = Err e

-- the code's cases
module _ (w : World) (op : ℕ) (ds : List ℕ) (r : Option Opcode) (is : raw_in r ≡ opcode_of op) where
  pub bad_opcode_lem : r ≡ None → Err BadArgument ≡ asked_of w op ds
  bad_opcode_lem e = rw (unknown_bad op r is e) refl

  module _ (o : Opcode) (e : r ≡ Some o) (m : ℕ) (q : m ≡ raw_of o) where
    number : m ≡ op
    number = q ∙ (known_good op r is o e).1

    looked : with_list m (take_of (holds_of w) ds).list ≡ asked_of w op ds
    looked = rw ((known_good op r is o e).0, number) (by (bad_list w ds) (long_list ds))
      where
        by : (x y : Bool) → with_list op (cond x (taken_as (Err BadArgument) (holds_of w)) (cond y (taken_as (Err TooManyFds) (holds_of w)) (taken_as (Ok (list_of ds)) (holds_with (holds_of w).holds (less_all (holds_of w).outside ds))))).list
            ≡ cond x (Err BadArgument) (cond y (Err TooManyFds) (Ok (record { opcode = op; list = list_of ds })))
        by true y = refl
        by false true = refl
        by false false = refl

    pub list_good : (l : Fds) → Ok l ≡ (take_of (holds_of w) ds).list → Ok (record { opcode = m; list = l }) ≡ asked_of w op ds
    list_good l f = ap (with_list m) f ∙ looked

    pub list_bad : (k : Refusal) → Err k ≡ (take_of (holds_of w) ds).list → Err k ≡ asked_of w op ds
    list_bad k f = ap (with_list m) f ∙ looked

    pub no_list : (l : Fds) → ds ≡ [] → l ≡ list_of [] → Ok (record { opcode = m; list = l }) ≡ asked_of w op ds
    no_list l z f = rw ((known_good op r is o e).0, number, z, f) refl

-- what a caller of `ask` learns
module _ (w : World) (op : ℕ) (ds : List ℕ) where
  -- the holds of a good list, once they are taken
  pub taken_is : bad_opcode op || bad_list w ds ≡ false → long_list ds ≡ false → less_all (holds_of w).outside (numbers (list_of ds)) ≡ (taken_holds w ds).outside
  taken_is p r =
      ap (less_all (holds_of w).outside) (numbers_list_of ds (ltb-false 16 (length ds) r))
      ∙ sym (by (bad_opcode op) (bad_list w ds) (long_list ds) p r)
    where
      by : (x y z : Bool) → x || y ≡ false → z ≡ false → (cond y (taken_as (Err BadArgument) (holds_of w)) (cond z (taken_as (Err TooManyFds) (holds_of w)) (taken_as (Ok (list_of ds)) (holds_with (holds_of w).holds (less_all (holds_of w).outside ds))))).holds.outside ≡ less_all (holds_of w).outside ds
      by true y z p r = absurd (true≢false p)
      by false true z p r = absurd (true≢false p)
      by false false true p r = absurd (true≢false r)
      by false false false p r = refl

  abbrev by : Bool → Bool → Result Asked Refusal
  by x y = cond x (Err BadArgument) (cond y (Err TooManyFds) (Ok (record { opcode = op; list = list_of ds })))

  pub asked_good : (a : Asked) → Ok a ≡ asked_of w op ds → (bad_opcode op || bad_list w ds ≡ false) × (long_list ds ≡ false) × (a.opcode ≡ op) × (a.list ≡ list_of ds)
  asked_good a = go (bad_opcode op || bad_list w ds) (long_list ds) refl refl
    where
      go : (x y : Bool) → bad_opcode op || bad_list w ds ≡ x → long_list ds ≡ y → Ok a ≡ by x y → (bad_opcode op || bad_list w ds ≡ false) × (long_list ds ≡ false) × (a.opcode ≡ op) × (a.list ≡ list_of ds)
      go true y ex ey e = absurd (let z : ◌≡◌ {A = ℕ} 0 1 = cc in omega arith)
      go false true ex ey e = absurd (let z : ◌≡◌ {A = ℕ} 0 1 = cc in omega arith)
      go false false ex ey e =
          let z : a ≡ record { opcode = op; list = list_of ds } = cc in
          (ex, ey, ap (λ (b : Asked). b.opcode) z, ap (λ (b : Asked). b.list) z)

  pub asked_no : (r : Refusal) → Err r ≡ asked_of w op ds → (rest : List Row) → Due (ask_rows w op ds rest) (refusal_number r)
  asked_no r is rest = go (bad_opcode op || bad_list w ds) (long_list ds) refl refl is
    where
      go : (x y : Bool) → bad_opcode op || bad_list w ds ≡ x → long_list ds ≡ y → Err r ≡ by x y → Due (ask_rows w op ds rest) (refusal_number r)
      go true y ex ey e = let z : r ≡ BadArgument = cc in rw (ex, z) refl
      go false true ex ey e = let z : r ≡ TooManyFds = cc in rw (ex, ey, z) refl
      go false false ex ey e = absurd (let z : ◌≡◌ {A = ℕ} 0 1 = cc in omega arith)

-- an event that asks, turned down
pub asked_turned :
    (ws : List ℕ) (e : Event) (op : ℕ) (ds : List ℕ) (rest : List Row) (o : Outcome) (ss : List Store)
    → step (plain_of ws) e ≡ checked (refuse (plain_of ws)) (ask_rows (plain_of ws) op ds rest) o → stores_of (plain_of ws) e ≡ unless (ask_rows (plain_of ws) op ds rest) ss
    → (r : Refusal) → Err r ≡ asked_of (plain_of ws) op ds → Does ws ws e (no (refusal_number r)) []
asked_turned ws e op ds rest o ss is stores r q =
    turned ws e (ask_rows (plain_of ws) op ds rest) o ss is stores (refusal_number r) (asked_no (plain_of ws) op ds r q rest) (no (refusal_number r)) [] refl refl
