-- Both layouts agree: each step on words is the plain step on the state that is read from them, and so is every run. Assumes nothing.
use Prim.Native.Nat.{ℕ, zero, suc, ◌+◌, ◌/◌, ◌<◌}
use mathlib.Core.Path.{◌≡◌, refl, sym, ap, ap₂, subst, ◌∙◌}
use mathlib.Core.Bool.{Bool, true, false, ◌||◌, true≢false}
use mathlib.Core.List.{List, [], ◌∷◌, ◌++◌}
use native.Mathlib.Omega.{arith}
use lib.Dec.{ltb, eqb}
use lib.ListN.{drop, length, replicate}
use lib.Seq.{get_or-drop}
use Rattle.counts.proofs.Laws.{less_all_length, more_all_length}
use Rattle.fd_list.specs.Lists.{numbers, list_of}
use Rattle.opcode.specs.Opcodes as opcode
use Rattle.schemev2.specs.declared.Args.{Args}
use Rattle.schemev2.specs.declared.Cqe.{Cqe}
use Rattle.slot.specs.Slots.{no_fds, vacant_slot}
use Rattle.events.specs.World.{World, fresh_world, holds_of, slot_in, phase_in}
use Rattle.events.specs.Submit.{taken_holds, bad_opcode, bad_list, reserve_rows, submit_rows, call_rows, fdwrite_args, fdread_args, length_rows, generic_rows, stdfs_rows, fmap_rows, queue_rows}
use Rattle.events.specs.Wake.{wakeable, wake_rows}
use Rattle.events.specs.Entry.{dropped}
use Rattle.events.specs.Complete.{cut, entries_of, write_rows}
use Rattle.events.specs.Descriptors.{request_of, request_rows, list_rows}
use Rattle.events.specs.Supply.{page_rows}
use Rattle.events.specs.Event.{DriverEvent, host_put, reserve, submit, call, fdwrite, fdread, generic, stdfs, fmap, close, detach, wake, read, write, move, obtain, supply, Event, host_open, host_copy, host_drop, host_ended, on, step}
use Rattle.events.proofs.Checked.{checked_cases}
use Rattle.layout.specs.Layout.{plain_of, packed_of}
use Rattle.layout.specs.Fits.{SlotsFit, Fits}
use Rattle.layout.specs.Store.{Store, stored, stored_all, StoresFit}
use Rattle.layout.proofs.Back.{none_fits, vacant_fits}
use Rattle.layout.proofs.Worlds.{plain_fits, stored_plain, stored_length, stored_all_length, stored_all_plain}
use Rattle.layout.proofs.Packs.{fits_long, packed_long, plain_packed, stored_packed}
use Rattle.packed.specs.Stores.{call_stores, counts, entry_stores, gone_on, write_stores, driver_stores, stores_of}
use Rattle.packed.specs.Step.{words_after, Seen, seen, packed_run, plain_run, words_run, fresh_words}
use Rattle.packed.specs.Agree.{CallerFits, DriverEventFits, EventFits, EventsFit, StepsAgree, LayoutsAgree, WordsReturn}
use Rattle.packed.proofs.Changes.{event_leaves, decided, left, entered, after_is}
use Rattle.packed.proofs.Fit.{Small, append_fits, made_fits, fds_changed, slot_in_fits, entry_fits, unless_fits, taken_long, all_long, listed_fits, woken_fits, supplied_fits, marks_fit, open_fits, copy_fits, drop_fits, put_fits}

or_false : (a b : Bool) → a || b ≡ false → b ≡ false
or_false false b e = e
or_false true b e = absurd (true≢false e)

-- the entries of bytes
abbrev Spare : List Cqe → Type 0
Spare [] = Unit {0}
Spare (e ∷ es) = (e.extra_raw.0 < 256) × Spare es

cut_spare : (n : ℕ) (bs : List ℕ) → Small bs → Spare (cut n bs)
cut_spare zero bs f = tt
cut_spare (suc n) bs f = (f 1, cut_spare n (drop 16 bs) (λ i. rw (get_or-drop 16 bs i 0) (f (16 + i))))

-- a write's stores, on the words that each entry leaves
module _ (e : Cqe) (es : List Cqe) (ws : List ℕ) (size : length ws ≡ 2060) (h : e.extra_raw.0 < 256) where
  abbrev behind : List ℕ
  behind = stored_all ws (entry_stores (plain_of ws) e)

  here : StoresFit (entry_stores (plain_of ws) e)
  here = entry_fits (plain_of ws) (plain_fits ws size) e h

  left_is : plain_of behind ≡ left (plain_of ws) e
  left_is = stored_all_plain (entry_stores (plain_of ws) e) ws size here ∙ sym (after_is (plain_of ws) e.tag (decided (plain_of ws) e))

  both_fit : StoresFit (write_stores (plain_of behind) es) → (b : Bool) → StoresFit (entry_stores (plain_of ws) e ++ gone_on (entered (plain_of ws) e b) (λ u. write_stores u es))
  both_fit f true = append_fits (entry_stores (plain_of ws) e) (write_stores (left (plain_of ws) e) es) here (subst (λ (u : World). StoresFit (write_stores u es)) left_is f)
  both_fit f false = append_fits (entry_stores (plain_of ws) e) [] here tt

write_fits : (es : List Cqe) → Spare es → (ws : List ℕ) → length ws ≡ 2060 → StoresFit (write_stores (plain_of ws) es)
write_fits [] s ws size = tt
write_fits (e ∷ es) s ws size =
    both_fit e es ws size s.0 (write_fits es s.1 (behind e es ws size s.0) (stored_all_length (entry_stores (plain_of ws) e) ws ∙ size)) (eqb (decided (plain_of ws) e).number 0)

module _ (ws : List ℕ) (size : length ws ≡ 2060) where
  abbrev w : World
  w = plain_of ws

  abbrev f : Fits w
  f = plain_fits ws size

  call_fits : (c op : ℕ) (args : Args) (uid gid pid : ℕ) (ds : List ℕ) → CallerFits c → StoresFit (call_stores w c op args uid gid pid ds)
  call_fits c op args uid gid pid ds g =
      unless_fits w f (call_rows w op ds) _
      (λ p. (taken_long w f ds, (made_fits 2 c (list_of ds) (omega arith) g (listed_fits w f ds (or_false (bad_opcode op) (bad_list w ds) p.0) p.1.0), (tt, tt))))

  driver_fits : (e : DriverEvent) → DriverEventFits e → StoresFit (driver_stores w e)
  driver_fits (host_put d k) g = put_fits w f d k
  driver_fits (reserve c) g = unless_fits w f (reserve_rows w) _ (λ p. (made_fits 1 c no_fds (omega arith) g none_fits, tt))
  driver_fits (submit n c op fl args pid ds) g =
      unless_fits w f (submit_rows w n c op ds) _
      (λ p. (taken_long w f ds, (made_fits 2 c (list_of ds) (omega arith) g (listed_fits w f ds (or_false (bad_opcode op) (bad_list w ds) p.0) p.1.0), (tt, tt))))
  driver_fits (call c op args uid gid pid ds) g = call_fits c op args uid gid pid ds g
  driver_fits (fdwrite c number flags ms uid gid pid ds) g = call_fits c opcode.sendfd (fdwrite_args number flags ms ds) uid gid pid ds g
  driver_fits (fdread c number len flags ms uid gid pid) g =
      unless_fits w f (length_rows len) _ (λ p. call_fits c opcode.recvfd (fdread_args number len flags ms) uid gid pid [] g)
  driver_fits (generic c pid fds base len ms) g = unless_fits w f (generic_rows w fds) _ (λ p. (made_fits 2 c no_fds (omega arith) g none_fits, (tt, tt)))
  driver_fits (stdfs c pid fds base len ms) g = unless_fits w f (stdfs_rows w fds ms) _ (λ p. (made_fits 2 c no_fds (omega arith) g none_fits, (tt, tt)))
  driver_fits (fmap c id pages flags uid gid pid) g = unless_fits w f (fmap_rows w) _ (λ p. (made_fits 4 c no_fds (omega arith) g none_fits, (tt, tt)))
  driver_fits (close id) g = unless_fits w f (queue_rows w) _ (λ p. (tt, tt))
  driver_fits (detach id pid) g = unless_fits w f (queue_rows w) _ (λ p. (tt, tt))
  driver_fits (wake n c killed base count) g =
      unless_fits w f (wake_rows (ltb 1 killed) (phase_in w n) (wakeable (slot_in w n) c)) _ (λ p. woken_fits w f (phase_in w n) n killed (record { base = base; count = count }))
  driver_fits (read len flags) g = (tt, tt)
  driver_fits (write words bs) g =
      unless_fits w f (write_rows words bs) _ (λ p. write_fits (entries_of bs) (cut_spare (length bs / 16) bs g) ws size)
  driver_fits (move ms ds) g =
      unless_fits w f (list_rows w ds) _
      (λ p.
      checked_cases StoresFit (λ k. counts (dropped (taken_holds w ds) ds)) (request_rows w 1 ms) _
      (λ k. (taken_long w f ds, (less_all_length ds (taken_holds w ds).holds ∙ all_long w f ds, tt)))
      (λ q. (taken_long w f ds, (less_all_length (numbers (slot_in w (request_of ms)).fds) (taken_holds w ds).holds ∙ all_long w f ds, (fds_changed (slot_in w (request_of ms)) (list_of ds) (slot_in_fits w f (request_of ms)) (listed_fits w f ds p.0 p.1.0), tt)))))
  driver_fits (obtain ms) g =
      unless_fits w f (request_rows w 0 ms) _
      (λ p. (more_all_length (numbers (slot_in w (request_of ms)).fds) (holds_of w).outside ∙ f.outside, (fds_changed (slot_in w (request_of ms)) no_fds (slot_in_fits w f (request_of ms)) none_fits, tt)))
  driver_fits (supply n offset base count) g = unless_fits w f (page_rows offset base count) _ (λ p. supplied_fits w f (phase_in w n) n)

  event_fits : (e : Event) → EventFits e → StoresFit (stores_of w e)
  event_fits (host_open d) g = open_fits w f d
  event_fits (host_copy d) g = copy_fits w f d
  event_fits (host_drop d) g = drop_fits w f d
  event_fits (host_ended c) g = marks_fit w f c 64 0
  event_fits (on e) g = driver_fits e g

pub steps_agree : StepsAgree
steps_agree ws size e g = stored_all_plain (stores_of (plain_of ws) e) ws size (event_fits ws size e g) ∙ sym (event_leaves (plain_of ws) (plain_fits ws size).slots e)

pub after_long : (ws : List ℕ) (e : Event) → length (words_after ws e) ≡ length ws
after_long ws e = stored_all_length (stores_of (plain_of ws) e) ws

runs_agree : (es : List Event) → EventsFit es → (ws : List ℕ) → length ws ≡ 2060 → packed_run ws es ≡ plain_run (plain_of ws) es
runs_agree [] g ws size = refl
runs_agree (e ∷ es) g ws size =
    let s = steps_agree ws size e g.0 in
    ap₂ {C = List Seen} (λ (u : World) (l : List Seen). seen (step (plain_of ws) e) u ∷ l) s
    (runs_agree es g.1 (words_after ws e) (after_long ws e ∙ size) ∙ ap (λ (u : World). plain_run u es) s)

-- a fresh state
vacant_all : (n : ℕ) → SlotsFit (replicate n vacant_slot)
vacant_all zero = tt
vacant_all (suc n) = (vacant_fits, vacant_all n)

fresh_fits : (scheme : ℕ) (words : List ℕ) → length words ≡ 1024 → Fits (fresh_world scheme words)
fresh_fits scheme words h = record { slots = refl; each = vacant_all 64; next = refl; all = refl; outside = refl; handles = refl; words = h }

fresh_long : (scheme : ℕ) (words : List ℕ) → length words ≡ 1024 → length (fresh_words scheme words) ≡ 2060
fresh_long scheme words h = packed_long (fresh_world scheme words) (fits_long (fresh_world scheme words) (fresh_fits scheme words h))

pub fresh_plain : (scheme : ℕ) (words : List ℕ) → length words ≡ 1024 → plain_of (fresh_words scheme words) ≡ fresh_world scheme words
fresh_plain scheme words h = plain_packed (fresh_world scheme words) (fresh_fits scheme words h)

pub layouts_agree : LayoutsAgree
layouts_agree scheme words h es g =
    runs_agree es g (fresh_words scheme words) (fresh_long scheme words h) ∙ ap (λ (u : World). plain_run u es) (fresh_plain scheme words h)

-- no word holds anything but what the plain state has
abbrev Returns : List ℕ → Type 0
Returns ws = packed_of (plain_of ws) ≡ ws

stored_returns : (ss : List Store) → StoresFit ss → (ws : List ℕ) → length ws ≡ 2060 → Returns ws → Returns (stored_all ws ss)
stored_returns [] g ws size r = r
stored_returns (s ∷ ss) g ws size r =
    stored_returns ss g.1 (stored ws s) (stored_length ws s ∙ size)
    (ap packed_of (stored_plain ws size s g.0) ∙ sym (stored_packed (plain_of ws) (plain_fits ws size) s g.0) ∙ ap (λ (xs : List ℕ). stored xs s) r)

run_returns : (es : List Event) → EventsFit es → (ws : List ℕ) → length ws ≡ 2060 → Returns ws → Returns (words_run ws es)
run_returns [] g ws size r = r
run_returns (e ∷ es) g ws size r =
    run_returns es g.1 (words_after ws e) (after_long ws e ∙ size) (stored_returns (stores_of (plain_of ws) e) (event_fits ws size e g.0) ws size r)

pub words_return : WordsReturn
words_return scheme words h es g =
    run_returns es g (fresh_words scheme words) (fresh_long scheme words h) (ap packed_of (fresh_plain scheme words h))
