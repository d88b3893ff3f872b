-- Demand 3 and the claim on answers hold of all that a host's steps come to, and so of every run. Assumes nothing.
use Prim.Native.Nat.{ℕ, zero, suc}
use mathlib.Core.Path.{◌≡◌, refl, sym, subst}
use mathlib.Core.Bool.{Bool, true, false, cond}
use mathlib.Core.List.{List, [], ◌∷◌}
use native.Mathlib.Omega.{arith}
use lib.Dec.{ltb}
use lib.ListN.{get_or, length, replicate}
use Rattle.slot.specs.Slots.{vacant_slot}
use Rattle.status.specs.declared.Status.TheVariants as status
use Rattle.status.specs.Status.{is_in}
use Rattle.status.proofs.Words.{in_le, ones_count}
use Rattle.table.specs.Table.{fresh_table, no_slot, slot_at}
use Rattle.table.proofs.Chain.{linked_rising}
use Rattle.events.specs.World.{table_of}
use Rattle.events.specs.Outcome.{Outcome}
use Rattle.events.specs.Event.{Event, step}
use Rattle.events.specs.Run.{Run, begin, told, next, run_from, run, Steps, fresh, then}
use Rattle.events.specs.Demand3.{Demand3}
use Rattle.events.specs.WellFormed.{WellFormed}
use Rattle.events.specs.Exactly.{Exactly}
use Rattle.events.proofs.Entries.{InvOf}
use Rattle.events.proofs.Exact.{exact_at}
use Rattle.events.proofs.Once.{Sorted, event_sorted, all_apart, all_sourced}
use Rattle.events.proofs.Stage.{core}
use Rattle.events.proofs.Steps.{event_ok}
use Rattle.events.proofs.WellFormed.{formed_fresh, formed_step}

-- what every run keeps
pub record Kept (r : Run) : Type 0 where
  pub formed : WellFormed r.world
  pub inv : InvOf r.world r.facts
  pub sorted : Sorted r.number 0 r.facts

kept_next : (r : Run) (e : Event) → Kept r → Kept (next r e)
kept_next r e k =
    record {
      formed = formed_step r.world e k.formed;
      inv = (event_ok r k.formed k.inv e).inv;
      sorted = event_sorted r.number e r.world (step r.world e).answer r.facts k.sorted;
    }

fresh_slot : (n : ℕ) → core (slot_at fresh_table n) ≡ core vacant_slot
fresh_slot n = go (ltb n 64)
  where
    at : (k n : ℕ) → core (get_or (replicate k vacant_slot) n no_slot) ≡ core vacant_slot
    at zero n = refl
    at (suc k) zero = refl
    at (suc k) (suc n) = at k n

    go : (b : Bool) → core (cond b (get_or (replicate 64 vacant_slot) n no_slot) vacant_slot) ≡ core vacant_slot
    go true = at 64 n
    go false = refl

kept_fresh : (scheme : ℕ) (words : List ℕ) → length words ≡ 1024 → Kept (begin scheme words)
kept_fresh scheme words size =
    record {
      formed = formed_fresh scheme words size;
      inv = record { fits = fresh_slot; chain = linked_rising 64 0 refl; balance = refl; every = tt };
      sorted = (tt, tt);
    }

pub kept : (r : Run) → Steps r → Kept r
kept r (fresh scheme words size) = kept_fresh scheme words size
kept r (then q e o s p) = subst (λ (x : Outcome). Kept (told q e x)) (sym p) (kept_next q e (kept q s))

pub demand3 : Demand3
demand3 r s =
    let k = kept r s in
    record {
      facts = k.inv.every;
      entries = all_apart r.facts k.inv.every k.sorted.1;
      replies = all_sourced r.facts k.inv.every;
      turn = λ e. (event_ok r k.formed k.inv e).right;
      balance = omega (arith, k.inv.balance, ones_count (is_in status.Responded) (in_le status.Responded) (table_of r.world).slots);
    }

pub exactly : Exactly
exactly r s = let k = kept r s in exact_at r k.formed k.inv

-- a run over a list of events is such steps
steps_from : (es : List Event) (r : Run) → Steps r → Steps (run_from r es)
steps_from [] r s = s
steps_from (e ∷ es) r s = steps_from es (next r e) (then r e (step r.world e) s refl)

pub run_steps : (scheme : ℕ) (words : List ℕ) → length words ≡ 1024 → (es : List Event) → Steps (run scheme words es)
run_steps scheme words size es = steps_from es (begin scheme words) (fresh scheme words size)
