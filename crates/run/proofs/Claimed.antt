-- What holds of a run of bytes, whatever they are: demand 3. And the three ways in which the run ends. Assumes nothing.
use Prim.Native.Nat.{ℕ, ◌-◌, ◌<◌, ◌≤◌}
use mathlib.Core.Path.{◌≡◌, refl, sym, ap, ◌∙◌}
use mathlib.Core.Bool.{Bool, true, false, cond, ◌&&◌}
use mathlib.Core.List.{List}
use native.Mathlib.Omega.{arith}
use lib.Dec.{eqb, leb}
use lib.ListN.{length, replicate, length-replicate}
use lib.Seq.{sets}
use borrow.Author.Tests.{leb-true, eq-eqb, ne_eqb}
use Rattle.events.specs.Demand3.{Demanded}
use Rattle.events.proofs.Demanded.{demand3, run_steps}
use Rattle.record.specs.Record.{decoded}
use Rattle.run.specs.declared.RunEnd.{RunEnd}
use Rattle.run_room.specs.declared.Walked.{Walked}
use Rattle.run_room.specs.Room.{needed, left_of, walked_of}
use Rattle.run_room.proofs.Rooms.{left_there}
use Rattle.run.specs.Run.{run_of, output_of, lent_after, whole_end, end_of, out_after, fx_after}

-- demand 3 of the events that any bytes hold
pub run_demand3 : (scheme lent : ℕ) (bs : List ℕ) → Demanded (run_of scheme lent bs)
run_demand3 scheme lent bs =
    demand3 (run_of scheme lent bs) (run_steps scheme (replicate 1024 0) (length-replicate {A = ℕ} 1024 0) (decoded lent bs).events)

module _ (scheme : ℕ) (ev out fx : List ℕ) (w : Walked) (is : w ≡ walked_of ev (length out)) where
  abbrev Ends : RunEnd → List ℕ → List ℕ → Type 0
  Ends r out' fx' =
      (r ≡ end_of scheme (length fx) (length out) ev)
      × ((out' ≡ out_after scheme (length fx) out ev) × ((fx' ≡ fx_after scheme (length out) fx ev) × (r.written ≤ length out)))

  pub end_is : w.end ≡ length ev - left_of ev
  end_is = ap (λ (x : Walked). x.end) is

  -- by its two tests
  ended : (a b : Bool) (r : RunEnd) (out' fx' : List ℕ) → eqb (left_of ev) 0 ≡ a → leb (needed ev) (length out) ≡ b
      → r ≡ cond a (cond b (whole_end scheme (length fx) ev) (record { number = 204; place = 0; written = 0 })) (record { number = 205; place = length ev - left_of ev; written = 0 })
      → out' ≡ cond (a && b) (sets out 0 (output_of (run_of scheme (length fx) ev))) out → fx' ≡ cond (a && b) (lent_after fx (run_of scheme (length fx) ev).turns) fx
      → r.written ≤ length out → Ends r out' fx'
  ended a b r out' fx' ea eb er eo ef n = rw (ea, eb) (er, (eo, (ef, n)))

  pub no_event : w.end < length ev → Ends (record { number = 205; place = w.end; written = 0 }) out fx
  no_event h =
      ended false (leb (needed ev) (length out)) _ out fx (ne_eqb (left_of ev) 0 (λ z. omega (arith, h, end_is, z))) refl (ap (λ (n : ℕ). record { number = 205; place = n; written = 0 }) end_is) refl refl
      (omega arith)

  module _ (h : length ev ≤ w.end) where
    pub all_events : left_of ev ≡ 0
    all_events = omega (arith, h, end_is, left_there ev)

    all : eqb (left_of ev) 0 ≡ true
    all = eq-eqb (left_of ev) 0 all_events

    pub has_room_is : w.fits ≡ true → needed ev ≤ length out
    has_room_is e = leb-true (needed ev) (length out) (sym (ap (λ (x : Walked). x.fits) is) ∙ e)

    pub turned_down : w.fits ≡ false → Ends (record { number = 204; place = 0; written = 0 }) out fx
    turned_down e = ended true false _ out fx all (sym (ap (λ (x : Walked). x.fits) is) ∙ e) refl refl refl (omega arith)

    pub all_run :
        (r : RunEnd) (out' fx' : List ℕ) → w.fits ≡ true
        → (r ≡ whole_end scheme (length fx) ev)
        × ((out' ≡ sets out 0 (output_of (run_of scheme (length fx) ev))) × ((fx' ≡ lent_after fx (run_of scheme (length fx) ev).turns) × (r.written ≤ length out)))
        → Ends r out' fx'
    all_run r out' fx' e p = ended true true r out' fx' all (sym (ap (λ (x : Walked). x.fits) is) ∙ e) p.0 p.1.0 p.1.1.0 p.1.1.1
