-- The loop of a run: what was done is the run of the first events. Assumes nothing.
use Prim.Native.Nat.{ℕ, ◌+◌, ◌-◌, ◌<◌, ◌≤◌}
use mathlib.Core.Path.{◌≡◌, refl, sym, ap, ap₂, ◌∙◌, subst}
use mathlib.Core.List.{List, [], ◌∷◌, ◌++◌, append_assoc, append-nil}
use native.Mathlib.Omega.{arith}
use lib.ListN.{length, take, drop, replicate, length-replicate, length-append, length-drop}
use lib.Seq.{sets, length-sets, drop-drop}
use Rattle.word_put.proofs.Stores.{sets_then}
use Rattle.events.specs.World.{World}
use Rattle.events.specs.Event.{Event, step}
use Rattle.events.specs.Run.{Turn, Run, next, run_from, run}
use Rattle.events.specs.WellFormed.{WellFormed}
use Rattle.events.proofs.WellFormed.{formed_run}
use Rattle.outcome_bytes.specs.Output.{outcome_bytes}
use Rattle.state_bytes.specs.StateBytes.{state_bytes, state_size}
use Rattle.record.specs.Record.{record_of, size_of, next_of, event_at, Decoded, stops, before, decoded}
use Rattle.layout.specs.Layout.{plain_of}
use Rattle.packed.specs.Step.{fresh_words}
use Rattle.packed.proofs.Agree.{fresh_plain}
use Rattle.record.proofs.Laws.{some, next_size, next_there, walk_ends, walk_goes_on}
use Rattle.run_room.specs.Room.{room_of, needed, left_of}
use Rattle.run.specs.Run.{Turned, run_of, stored_by, told_of, lent_after, output_of, whole_end}
use Rattle.run_room.proofs.Rooms.{needed_ends, needed_goes_on, left_there, left_ends, left_all, left_on}
use Rattle.word_put.proofs.Stores.{part_is}
use Rattle.run.proofs.Stores.{behind}

-- a run of one event more
run_more : (es : List Event) (r : Run) (e : Event) → run_from r (es ++ (e ∷ [])) ≡ next (run_from r es) e
run_more [] r e = refl
run_more (x ∷ es) r e = run_more es (next r x) e

lent_length : (fx : List ℕ) (ts : List Turn) → length (lent_after fx ts) ≡ length fx
lent_length fx [] = refl
lent_length fx (t ∷ ts) = length-sets (lent_after fx ts) 0 (stored_by t.before t.event) ∙ lent_length fx ts

abbrev after : List Event → Decoded → Decoded
after es d = record { events = es ++ d.events; left = d.left }

abbrev zeros : List ℕ
zeros = replicate 1024 0

pub record Going (scheme : ℕ) (ev out₀ fx₀ : List ℕ) (end : ℕ) (out fx s : List ℕ) (at j : ℕ) : Type 0 where
  pub done : List Event
  pub state : plain_of s ≡ (run scheme zeros done).world
  pub lent : fx ≡ lent_after fx₀ (run scheme zeros done).turns
  pub told : out ≡ sets out₀ 0 (told_of (run scheme zeros done).turns)
  pub count : j ≡ length (told_of (run scheme zeros done).turns)
  pub rest : decoded (length fx₀) ev ≡ after done (decoded (length fx₀) (drop at ev))
  pub room : j + needed (drop at ev) ≤ length out₀
  pub place : at ≤ length ev
  pub left : left_of (drop at ev) ≡ left_of ev
  pub ends : end ≡ length ev - left_of ev

pub begins :
    (scheme : ℕ) (ev out fx : List ℕ) (end : ℕ) (s : List ℕ) → needed ev ≤ length out → end ≡ length ev - left_of ev → s ≡ fresh_words scheme zeros
    → Going scheme ev out fx end out fx s 0 0
begins scheme ev out fx end s h en es =
    record {
      done = [];
      state = ap plain_of es ∙ fresh_plain scheme zeros (length-replicate {A = ℕ} 1024 0);
      lent = refl;
      told = refl;
      count = refl;
      rest = refl;
      room = omega (arith, h);
      place = omega arith;
      left = refl;
      ends = en;
    }

module _ (scheme : ℕ) (ev out₀ fx₀ : List ℕ) (end : ℕ) (out fx s : List ℕ) (at j : ℕ) (g : Going scheme ev out₀ fx₀ end out fx s at j) where
  abbrev R : Run
  R = run scheme zeros g.done

  pub whole : WellFormed (plain_of s)
  whole = subst WellFormed (sym g.state) (formed_run scheme zeros (length-replicate {A = ℕ} 1024 0) g.done)

  pub out_length : length out ≡ length out₀
  out_length = ap length g.told ∙ length-sets out₀ 0 (told_of R.turns)

  pub fx_length : length fx ≡ length fx₀
  fx_length = ap length g.lent ∙ lent_length fx₀ R.turns

  pub in_out : j ≤ length out
  in_out = omega (arith, g.room, out_length)

  abbrev part : List ℕ
  part = take (length ev - at) (drop at ev)

  -- before the end there is an event
  some_left : at < end → next_of (drop at ev) ≡ 0 → ⊥
  some_left inside z = omega (arith, inside, g.left, g.ends, left_ends (drop at ev) z, length-drop at ev, left_there ev)

  pub some_next : at < end → 0 < next_of part
  some_next inside = some (next_of part) (λ z. some_left inside (ap next_of (sym (part_is ev at)) ∙ z))

  module _ (inside : at < end) (size : ℕ) (es : size ≡ size_of (record_of part)) where
    here : size ≡ next_of (drop at ev)
    here = es ∙ sym (next_size part (some_next inside)) ∙ ap next_of (part_is ev at)

    pub some_size : 0 < size
    some_size = omega (arith, here, ap next_of (part_is ev at), some_next inside)

    pub place_more : at + size ≤ length ev
    place_more = omega (arith, g.place, here, next_there (drop at ev), length-drop at ev)

    rest_is : drop (next_of (drop at ev)) (drop at ev) ≡ drop (at + size) ev
    rest_is = ap (λ (n : ℕ). drop n (drop at ev)) (sym here) ∙ drop-drop size at ev

    pub room_more : (used : ℕ) → used ≤ room_of (record_of part) → j + used + needed (drop (at + size) ev) ≤ length out₀
    room_more used few =
        omega (arith, g.room, few, ap (λ (x : List ℕ). room_of (record_of x)) (part_is ev at), needed_goes_on (drop at ev) (some_left inside), ap needed rest_is)

    -- the event has its room in the output from j on
    pub room_here : room_of (record_of part) ≤ length (take (length out - j) (drop j out))
    room_here = omega (arith, room_more (room_of (record_of part)) (omega arith), out_length, length-drop j out, ap length (part_is out j))

    -- one event more
    module _ (out' fx' s' : List ℕ) (used : ℕ) (ew : plain_of s' ≡ (step (plain_of s) (event_at (length fx) part)).world)
        (eo : out' ≡ sets out j (outcome_bytes (step (plain_of s) (event_at (length fx) part)))) (eu : used ≡ length (outcome_bytes (step (plain_of s) (event_at (length fx) part))))
        (ef : fx' ≡ sets fx 0 (stored_by (plain_of s) (event_at (length fx) part))) (few : used ≤ room_of (record_of part)) where
      abbrev e : Event
      e = event_at (length fx₀) (drop at ev)

      same_event : event_at (length fx) part ≡ e
      same_event = ap₂ event_at fx_length (part_is ev at)

      told_is : outcome_bytes (step (plain_of s) (event_at (length fx) part)) ≡ outcome_bytes (step R.world e)
      told_is = ap₂ (λ (w : World) (x : Event). outcome_bytes (step w x)) g.state same_event

      more_is : run scheme zeros (g.done ++ (e ∷ [])) ≡ next R e
      more_is = run_more g.done _ e

      pub goes_on : Going scheme ev out₀ fx₀ end out' fx' s' (at + size) (j + used)
      goes_on =
          record {
            done = g.done ++ (e ∷ []);
            state = ew ∙ ap₂ (λ (w : World) (x : Event). (step w x).world) g.state same_event ∙ sym (ap (λ (r : Run). r.world) more_is);
            lent =
                ef ∙ ap₂ (λ (l : List ℕ) (x : List ℕ). sets l 0 x) g.lent (ap₂ stored_by g.state same_event) ∙ sym (ap (λ (r : Run). lent_after fx₀ r.turns) more_is);
            told =
                eo
                ∙ ap₂ (λ (l : List ℕ) (n : ℕ). sets l n (outcome_bytes (step (plain_of s) (event_at (length fx) part)))) g.told (let z : j ≡ 0 + length (told_of R.turns) = omega (arith, g.count) in z)
                ∙ ap (sets (sets out₀ 0 (told_of R.turns)) (0 + length (told_of R.turns))) told_is
                ∙ sets_then (told_of R.turns) (outcome_bytes (step R.world e)) out₀ 0
                ∙ sym (ap (λ (r : Run). sets out₀ 0 (told_of r.turns)) more_is);
            count =
                (let z : j + used ≡ length (told_of R.turns ++ outcome_bytes (step R.world e)) = omega (arith, g.count, eu, ap length told_is, length-append (told_of R.turns) (outcome_bytes (step R.world e))) in z)
                ∙ sym (ap (λ (r : Run). length (told_of r.turns)) more_is);
            rest =
                g.rest
                ∙ ap (after g.done) (walk_goes_on stops (λ bs d. before (event_at (length fx₀) bs) d) (drop at ev) (some_left inside) ∙ ap (λ (x : List ℕ). before e (decoded (length fx₀) x)) rest_is)
                ∙ ap (λ (l : List Event). record { events = l; left = (decoded (length fx₀) (drop (at + size) ev)).left }) (sym (append_assoc g.done (e ∷ []) (decoded (length fx₀) (drop (at + size) ev)).events));
            room = room_more used few;
            place = place_more;
            left = left_on ev at size g.left here (λ z. omega (arith, z, some_size));
            ends = g.ends;
          }

    -- the same of a turn that was lent the output from j on
    pub goes_on_turned :
        (back fx' s' : List ℕ) (used : ℕ) → Turned s s' part fx fx' (take (length out - j) (drop j out)) back used
        → Going scheme ev out₀ fx₀ end (take j out ++ (back ++ drop (length out - j) (drop j out))) fx' s' (at + size) (j + used)
    goes_on_turned back fx' s' used t =
        goes_on _ fx' s' used t.told.0 (behind out (outcome_bytes (step (plain_of s) (event_at (length fx) part))) back j in_out t.told.1.0) t.told.1.1 t.lent t.room

  -- the end
  module _ (stop : end ≤ at) where
    none : next_of (drop at ev) ≡ 0
    none = left_all (drop at ev) (omega (arith, stop, g.left, g.ends, g.place, left_there (drop at ev), left_there ev, length-drop at ev))

    all_done : decoded (length fx₀) ev ≡ record { events = g.done; left = length ev - at }
    all_done =
        g.rest ∙ ap (after g.done) (walk_ends stops (λ bs d. before (event_at (length fx₀) bs) d) (drop at ev) none)
        ∙ ap₂ (λ (l : List Event) (n : ℕ). record { events = l; left = n }) (append-nil g.done) (length-drop at ev)

    run_is : run_of scheme (length fx₀) ev ≡ R
    run_is = ap (λ (d : Decoded). run scheme zeros d.events) all_done

    pub end_room : j + state_size ≤ length out₀
    end_room = omega (arith, g.room, needed_ends (drop at ev) none)

    module _ (out' : List ℕ) (size_is : length (state_bytes (plain_of s)) ≡ state_size) (eo : out' ≡ sets out j (state_bytes (plain_of s))) where
      state_is : state_bytes (plain_of s) ≡ state_bytes R.world
      state_is = ap state_bytes g.state

      pub out_is : out' ≡ sets out₀ 0 (output_of (run_of scheme (length fx₀) ev))
      out_is =
          eo
          ∙ ap₂ (λ (l : List ℕ) (n : ℕ). sets l n (state_bytes (plain_of s))) g.told (let z : j ≡ 0 + length (told_of R.turns) = omega (arith, g.count) in z)
          ∙ sets_then (told_of R.turns) (state_bytes (plain_of s)) out₀ 0
          ∙ ap (λ (x : List ℕ). sets out₀ 0 (told_of R.turns ++ x)) state_is
          ∙ sym (ap (λ (r : Run). sets out₀ 0 (output_of r)) run_is)

      pub end_is : left_of ev ≡ 0 → record { number = 0; place = at; written = j + state_size } ≡ whole_end scheme (length fx₀) ev
      end_is all =
          λ i. record {
            number = 0;
            place = (let z : at ≡ length ev = omega (arith, g.place, g.ends, stop, all) in z) i;
            written = written_is i;
          }
        where
          written_is : j + state_size ≡ length (output_of (run_of scheme (length fx₀) ev))
          written_is =
              (let z : j + state_size ≡ length (told_of R.turns ++ state_bytes (plain_of s)) = omega (arith, g.count, size_is, length-append (told_of R.turns) (state_bytes (plain_of s))) in z)
              ∙ ap (λ (x : List ℕ). length (told_of R.turns ++ x)) state_is
              ∙ sym (ap (λ (r : Run). length (output_of r)) run_is)

    pub fx_is : fx ≡ lent_after fx₀ (run_of scheme (length fx₀) ev).turns
    fx_is = g.lent ∙ sym (ap (λ (r : Run). lent_after fx₀ r.turns) run_is)
