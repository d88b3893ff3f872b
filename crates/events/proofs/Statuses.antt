-- The status words of every run are those that its history tells. Assumes nothing.
use Prim.Native.Nat.{ℕ, suc, ◌+◌, ◌^◌, ◌<◌}
use mathlib.Core.Path.{◌≡◌, refl, sym, ap, ap₂, ◌∙◌}
use mathlib.Core.Bool.{Bool, true, false, not, cond, ◌||◌, ◌&&◌}
use mathlib.Core.List.{List, [], ◌∷◌}
use native.Mathlib.Omega.{arith}
use lib.Dec.{eqb}
use lib.ListN.{length, get_or}
use borrow.Author.Tests.{lt-ltb}
use Rattle.slot.specs.declared.Phase.TheVariants.{Waiting}
use Rattle.slot.specs.declared.Slot.{Slot}
use Rattle.slot.specs.Slots.{vacant_slot}
use Rattle.status.specs.declared.Status.{Status}
use Rattle.status.specs.declared.Status.TheVariants as status
use Rattle.status.specs.Status.{bit, is_abandoned, passes, is_in, count_of}
use Rattle.status.proofs.Words.{in_le, word_lt, word_bit, ones_count}
use Rattle.table.specs.Table.{rising, no_slot}
use Rattle.events.specs.World.{World, table_of, slot_in, phase_in}
use Rattle.events.specs.History.{Fact, Stage, free, reserved, waits, replied, mapping, book}
use Rattle.events.specs.Run.{Run, Steps}
use Rattle.events.specs.Exactly.{state, in_state}
use Rattle.events.specs.Statuses.{abandoned_at, counts_in, Shown, Statuses}
use Rattle.events.proofs.Conditions.{slot_named}
use Rattle.events.proofs.Demanded.{kept}
use Rattle.events.proofs.Entries.{InvOf, waiting_is}
use Rattle.events.proofs.Inv.{phase_is_lem, in_stage, in_phase}
use Rattle.events.proofs.Stage.{phase_at, ended_is, returned_is}
use Rattle.events.proofs.Stored.{shape, number_of, number_is}

state_is : (g : Stage) → number_of (phase_at g) ≡ state g
state_is free = refl
state_is reserved = refl
state_is waits = refl
state_is (replied r) = refl
state_is mapping = refl

-- what tag n's slot counts in is what its history tells
module _ (w : World) (h : List Fact) (i : InvOf w h) (n : ℕ) where
  in_state_lem : (k : ℕ) → k < 4 → eqb (slot_in w n).state (suc k) ≡ in_state (suc k) h n
  in_state_lem k b =
      number_is (slot_in w n) (phase_at (book h n).stage) k b (phase_is_lem (shape (table_of w)) h i n) ∙ ap (λ (j : ℕ). eqb j (suc k)) (state_is (book h n).stage)

  abandoned_is : in_state 2 h n ≡ true → is_abandoned (slot_in w n) ≡ abandoned_at h n
  abandoned_is e =
      let p = waiting_is (phase_in w n) ((slot_named w h i n).waiting ∙ e) in
      let d = in_phase (shape (table_of w)) h i n Waiting waits p (in_stage (shape (table_of w)) h i n Waiting p) in
      ap₂ ◌||◌ (ap ended_is d) (ap returned_is d)

  -- the marks decide only where it waits
  by_marks : (f : Bool → Bool) → eqb (slot_in w n).state 2 && f (is_abandoned (slot_in w n)) ≡ in_state 2 h n && f (abandoned_at h n)
  by_marks f = ap (λ (b : Bool). b && f (is_abandoned (slot_in w n))) (in_state_lem 1 (omega arith)) ∙ go (in_state 2 h n) refl
    where
      go : (b : Bool) → in_state 2 h n ≡ b → b && f (is_abandoned (slot_in w n)) ≡ b && f (abandoned_at h n)
      go true e = ap f (abandoned_is e)
      go false e = refl

  pub counted : (k : Status) → passes k (slot_in w n) ≡ counts_in k h n
  counted status.Placeholder = in_state_lem 0 (omega arith)
  counted status.Outstanding = by_marks not
  counted status.Responded = in_state_lem 2 (omega arith)
  counted status.Fmap = in_state_lem 3 (omega arith)
  counted status.Orphans = by_marks (λ b. b)

bit_is : (b : Bool) → bit b ≡ cond b 1 0
bit_is true = refl
bit_is false = refl

count_rising :
    (f : Slot → ℕ) (g : ℕ → ℕ) (s : List Slot) (d : Slot) (k : ℕ) → ((i : ℕ) → i < length s → f (get_or s i d) ≡ g (k + i)) → count_of f s ≡ count_of g (rising k (length s))
count_rising f g [] d k e = refl
count_rising f g (v ∷ s) d k e =
    ap₂ ◌+◌ (e 0 (omega arith) ∙ ap g (let z : k + 0 ≡ k = omega arith in z)) (count_rising f g s d (suc k) (λ i b. e (suc i) (omega (arith, b)) ∙ ap g (let z : k + suc i ≡ suc k + i = omega arith in z)))

module _ (r : Run) (steps : Steps r) (k : Status) where
  abbrev slots : List Slot
  slots = (table_of r.world).slots

  -- 1 where tag n's call counts
  abbrev told : ℕ → ℕ
  told n = cond (counts_in k r.facts n) 1 0

  long : length slots ≡ 64
  long = (kept r steps).formed.slots

  here : (n : ℕ) → n < 64 → is_in k (get_or slots n no_slot) ≡ told n
  here n b =
      sym (ap (λ (x : Bool). is_in k (cond x (get_or slots n no_slot) vacant_slot)) (lt-ltb n 64 b))
      ∙ ap bit (counted r.world r.facts (kept r steps).inv n k)
      ∙ bit_is (counts_in k r.facts n)

  shown : Shown r k
  shown =
      record {
        bits = λ n b. word_bit (is_in k) (in_le k) slots n no_slot (omega (arith, b, long)) ∙ here n b;
        most = rw (sym (ap (λ (n : ℕ). 2 ^ n) long)) (word_lt (is_in k) (in_le k) slots);
        count =
            ones_count (is_in k) (in_le k) slots
            ∙ count_rising (is_in k) told slots no_slot 0 (λ n b. here n (omega (arith, b, long)) ∙ ap told (let z : n ≡ 0 + n = omega arith in z))
            ∙ ap (λ (n : ℕ). count_of told (rising 0 n)) long;
      }

pub statuses : Statuses
statuses = shown
