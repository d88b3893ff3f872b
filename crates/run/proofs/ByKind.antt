-- One event of a run, by its kind. Assumes nothing.
use Prim.Native.Nat.{ℕ, min, ◌+◌, ◌*◌, ◌<◌, ◌≤◌}
use mathlib.Core.Path.{◌≡◌, refl, sym, ap, ◌∙◌, subst}
use mathlib.Core.Bool.{Bool, false, cond, true≢false}
use mathlib.Core.List.{List, []}
use native.Mathlib.Omega.{arith}
use lib.ListN.{length, take, drop}
use lib.Seq.{sets}
use Rattle.events.specs.World.{World}
use Rattle.events.specs.Outcome.{Answer}
use Rattle.events.specs.Event.{reserve, submit, call, fdwrite, fdread, generic, stdfs, fmap, close, detach, wake, move, obtain, supply, Event, step}
use Rattle.events.specs.Effects.{is_write}
use Rattle.events.specs.History.{view_of}
use Rattle.layout.specs.Layout.{plain_of}
use Rattle.outcome_bytes.specs.Output.{told, outcome_bytes}
use Rattle.packed.specs.Agree.{EventFits}
use Rattle.packed.proofs.Agree.{steps_agree}
use Rattle.record.specs.declared.Record.{Record}
use Rattle.record.specs.Record.{record_of, first_at, second_at, tail_at, tail_of, next_of, words_at, supply_of, event_table, event_named, event_of, event_at}
use Rattle.record.proofs.Laws.{all_there}
use Rattle.run_room.specs.Room.{room_of}
use Rattle.run_room.proofs.Rooms.{room_is_read}
use Rattle.step.specs.Does.{Does}
use Rattle.dispatch.specs.Dispatch.{tells_more, Dispatched}
use Rattle.dispatch.proofs.ByKind.{◌&◌, looked_up}
use Rattle.run.proofs.Silent.{silent}
use Rattle.run.specs.Run.{Told, wake_in, read_in, write_in, Turned, stored_by}

module _ (r : Record) (xs ys bs : List ℕ) (lent : ℕ) where
  abbrev named : ℕ → Event
  named k = event_named k r xs ys bs lent

  -- the event of another kind than wake, read and write fits where its caller has 32 bits, stores no effects and no bytes
  abbrev Plain : World → ℕ → Event → Type 0
  Plain w k e = tells_more k ≡ false → (r.number < 4294967296 → EventFits e) × (is_write (view_of e) ≡ false) × ([] ≡ (step w e).bytes)

  pub others : (w : World) (k : ℕ) → Plain w k (named k)
  others w k =
      let a = r.words in
      let c = r.number in
      looked_up (Plain w) (event_table r xs ys bs lent) (supply_of a) (
      (λ o. (λ h. tt, refl, silent w (supply a.0 a.1 a.2 a.3) refl))
      & (λ o. (λ h. tt, refl, refl))
      & (λ o. (λ h. tt, refl, refl))
      & (λ o. (λ h. tt, refl, refl))
      & (λ o. (λ h. tt, refl, refl))
      & (λ o. (λ h. tt, refl, refl))
      & (λ o. (λ h. h, refl, silent w (reserve c) refl))
      & (λ o. (λ h. h, refl, silent w (submit a.0 c a.1 r.flags (record { 0 = a.2; 1 = a.3; 2 = a.4; 3 = a.5; 4 = a.6; 5 = a.7 }) a.8 xs) refl))
      & (λ o. (λ h. h, refl, silent w (call c a.0 (record { 0 = a.1; 1 = a.2; 2 = a.3; 3 = a.4; 4 = a.5; 5 = a.6 }) r.uid r.gid a.7 xs) refl))
      & (λ o. (λ h. h, refl, silent w (generic c a.0 xs a.1 a.2 ys) refl))
      & (λ o. (λ h. h, refl, silent w (stdfs c a.0 xs a.1 a.2 ys) refl))
      & (λ o. (λ h. h, refl, silent w (fmap c a.0 a.1 a.2 r.uid r.gid a.3) refl))
      & (λ o. (λ h. tt, refl, silent w (close a.0) refl))
      & (λ o. (λ h. tt, refl, silent w (detach a.0 a.1) refl))
      & (λ o. absurd (true≢false o))
      & (λ o. absurd (true≢false o))
      & (λ o. absurd (true≢false o))
      & (λ o. (λ h. tt, refl, silent w (move xs ys) refl))
      & (λ o. (λ h. tt, refl, silent w (obtain xs) refl))
      & (λ o. (λ h. tt, refl, silent w (supply a.0 a.1 a.2 a.3) refl))
      & (λ o. (λ h. h, refl, silent w (fdwrite c a.0 a.1 xs r.uid r.gid a.2 ys) refl))
      & (λ o. (λ h. h, refl, silent w (fdread c a.0 a.1 a.2 xs r.uid r.gid a.3) refl))
      & tt
      )
      (λ k o. (λ h. tt, refl, silent w (supply a.0 a.1 a.2 a.3) refl)) k

-- what is told of an event, from the promise of its function
pub does_told :
    (ws xs : List ℕ) (e : Event) (a : Answer) (fx out out' : List ℕ) (used : ℕ) → length ws ≡ 2060 → EventFits e → [] ≡ (step (plain_of ws) e).bytes → Does ws xs e a fx
    → out' ≡ sets out 0 (told a fx []) → used ≡ length (told a fx []) → Told (plain_of ws) (plain_of xs) e out out' used
does_told ws xs e a fx out out' used size fits none d eo eu =
    let t : told a fx [] ≡ outcome_bytes (step (plain_of ws) e) = λ i. told (d.answer i) (d.effects i) (none i) in
    (ap plain_of d.words ∙ steps_agree ws size e fits, (eo ∙ ap (sets out 0) t, eu ∙ ap length t))

-- of a wake
pub wake_told :
    (ws xs : List ℕ) (r : Record) (a : Answer) (fx out out' : List ℕ) (used : ℕ) → length ws ≡ 2060 → Does ws xs (wake_in r) a fx → out' ≡ sets out 0 (told a fx [])
    → used ≡ length (told a fx []) → Told (plain_of ws) (plain_of xs) (wake_in r) out out' used
wake_told ws xs r a fx out out' used size d eo eu =
    does_told ws xs (wake_in r) a fx out out' used size tt (silent (plain_of ws) (wake r.words.0 r.number r.words.1 r.words.2 r.words.3) refl) d eo eu

-- of an event with its lists, which stand in the words lent for them
pub listed_told :
    (ws xs : List ℕ) (r : Record) (bs : List ℕ) (lent : ℕ) (xs₁ ys₁ xs₂ ys₂ : List ℕ) → xs₁ ≡ xs₂ → ys₁ ≡ ys₂ → length ws ≡ 2060 → r.number < 4294967296 → tells_more r.kind ≡ false
    → (a : Answer) (fx : List ℕ) → Dispatched (tells_more r.kind) ws xs (event_named r.kind r xs₁ ys₁ bs lent) a fx
    → (out out' : List ℕ) (used : ℕ) → out' ≡ sets out 0 (told a fx []) → used ≡ length (told a fx [])
    → Told (plain_of ws) (plain_of xs) (event_named r.kind r xs₂ ys₂ bs lent) out out' used
listed_told ws xs r bs lent xs₁ ys₁ xs₂ ys₂ ex ey size few o a fx d out out' used eo eu =
    let p = others r xs₂ ys₂ bs lent (plain_of ws) r.kind o in
    does_told ws xs (event_named r.kind r xs₂ ys₂ bs lent) a fx out out' used size (p.0 few) p.2
    (subst (λ (v : List ℕ). Does ws xs (event_named r.kind r xs₂ v bs lent) a fx) ey (subst (λ (v : List ℕ). Does ws xs (event_named r.kind r v ys₁ bs lent) a fx) ex (subst (λ (b : Bool). Dispatched b ws xs (event_named r.kind r xs₁ ys₁ bs lent) a fx) o d)))
    eo eu

-- the bytes of a read are among its room
pub read_fits : (r : Record) (n : ℕ) → r.kind ≡ 15 → room_of r ≤ n → 192 + min r.words.0 8192 ≤ n
read_fits r n e h = omega (arith, h, room_is_read r.kind r.number r.words.0 e)

-- the event of a record at the start of bytes
module _ (rec fx : List ℕ) (r : Record) (is : r ≡ record_of rec) where
  abbrev at_record : Record → Event
  at_record x = event_of x (words_at rec (first_at x) x.first) (words_at rec (second_at x) x.second) (take (tail_of x) (drop (tail_at x) rec)) (length fx)

  abbrev here : ℕ → Event
  here k = event_named k r (words_at rec (first_at r) r.first) (words_at rec (second_at r) r.second) (take (tail_of r) (drop (tail_at r) rec)) (length fx)

  by_kind : (k : ℕ) → r.kind ≡ k → here k ≡ event_at (length fx) rec
  by_kind k e = ap here (sym e) ∙ ap at_record is

  -- an event's bytes are all there
  pub tail_there : 0 < next_of rec → tail_at r + tail_of r ≤ length rec
  tail_there h = subst (λ (x : Record). tail_at x + tail_of x ≤ length rec) (sym is) (all_there rec h)

  module _ (ws xs out out' : List ℕ) (used : ℕ) where
    turned : (k : ℕ) (fx' : List ℕ) → r.kind ≡ k → Told (plain_of ws) (plain_of xs) (here k) out out' used → fx' ≡ sets fx 0 (stored_by (plain_of ws) (here k)) → used ≤ room_of r
        → Turned ws xs rec fx fx' out out' used
    turned k fx' e t l few =
        record {
          told = subst (λ (x : Event). Told (plain_of ws) (plain_of xs) x out out' used) (by_kind k e) t;
          lent = l ∙ ap (λ (x : Event). sets fx 0 (stored_by (plain_of ws) x)) (by_kind k e);
          room = subst (λ (x : Record). used ≤ room_of x) is few;
        }

    pub turned_wake : r.kind ≡ 14 → Told (plain_of ws) (plain_of xs) (wake_in r) out out' used → used ≤ 192 → Turned ws xs rec fx fx out out' used
    turned_wake e t few = turned 14 fx e t refl (omega (arith, few))

    pub turned_read : r.kind ≡ 15 → Told (plain_of ws) (plain_of xs) (read_in r) out out' used → used ≤ 192 + min r.words.0 8192 → Turned ws xs rec fx fx out out' used
    turned_read e t few = turned 15 fx e t refl (omega (arith, few, room_is_read r.kind r.number r.words.0 e))

    pub turned_write :
        (fx' : List ℕ) → r.kind ≡ 16 → Told (plain_of ws) (plain_of xs) (write_in r rec (length fx)) out out' used → fx' ≡ sets fx 0 (stored_by (plain_of ws) (write_in r rec (length fx)))
        → used ≤ 192 + 27 * tail_of r → Turned ws xs rec fx fx' out out' used
    turned_write fx' e t l few = turned 16 fx' e t l (omega (arith, few))

    pub turned_other : tells_more r.kind ≡ false → Told (plain_of ws) (plain_of xs) (here r.kind) out out' used → used ≤ 192 → Turned ws xs rec fx fx out out' used
    turned_other o t few =
        turned r.kind fx refl t
        (ap (λ (b : Bool). sets fx 0 (cond b (step (plain_of ws) (here r.kind)).effects []))
        (sym (others r (words_at rec (first_at r) r.first) (words_at rec (second_at r) r.second) (take (tail_of r) (drop (tail_at r) rec)) (length fx) (plain_of ws) r.kind o).1))
        (omega (arith, few))
