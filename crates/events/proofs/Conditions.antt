-- The conditions of the refusals as the definitions and as the claim write them. Assumes nothing.
use Prim.Native.Nat.{ℕ, zero, suc, ◌*◌, ◌<◌}
use mathlib.Core.Path.{◌≡◌, refl, sym, ap, ap₂, ◌∙◌}
use mathlib.Core.Bool.{Bool, true, false, not, ◌||◌, ◌&&◌}
use mathlib.Core.List.{List, [], ◌∷◌}
use native.Mathlib.Omega.{arith}
use native.Mathlib.Decide.{dec_lt}
use lib.Dec.{leb, ltb, eqb, leb-suc-suc}
use lib.ListN.{length, get_or}
use borrow.Author.Tests.{eq-eqb, ne_eqb, lt-ltb, le-ltb, le-leb, lt-leb, leb-false}
use Rattle.handles.specs.Handles.{is_free}
use Rattle.holds.specs.Holds.{unheld}
use Rattle.slot.specs.declared.Phase.{Phase}
use Rattle.slot.specs.declared.Phase.TheVariants.{Vacant, Placeholder, Waiting, Responded, Fmap}
use Rattle.table.specs.Reached.{Linked}
use Rattle.wait_queue.specs.Queue.{words_from}
use Rattle.wait_queue.proofs.Unread.{length_bytes, length_words}
use Rattle.events.specs.World.{World, table_of, queue_of, holds_of, handles_of, slot_in, phase_in, queue_full, unread_in}
use Rattle.events.specs.Submit.{bad_opcode, table_full, is_placeholder, submittable, wrong_kind}
use Rattle.events.specs.Descriptors.{request_of, wrong_words}
use Rattle.events.specs.Entry.{is_vacant, is_waiting}
use Rattle.events.specs.History.{Fact, Stage, free, reserved, waits, replied, mapping, book}
use Rattle.events.specs.WellFormed.{WellFormed}
use Rattle.events.specs.Exactly.{state, in_state, vacant_tags, no_tag_vacant, next_tag, all_128_unread, holds_in, outside_in, lacks, handle_at, wrong_opcode, wrong_fs_kind}
use Rattle.events.proofs.Entries.{InvOf}
use Rattle.events.proofs.Inv.{phase_is_lem, in_stage, in_phase}
use Rattle.events.proofs.Stage.{clash, phase_at, caller_is, ended_is}
use Rattle.events.proofs.Stored.{shape}

-- conditions on numbers, as the definitions and as the claim write them
not_and : (a b : Bool) → not (a && b) ≡ not a || not b
not_and true b = refl
not_and false b = refl

not_leb : (a b : ℕ) → not (leb a b) ≡ ltb b a
not_leb a b = go (dec_lt b a)
  where
    go : Dec (b < a) → not (leb a b) ≡ ltb b a
    go (yes h) = rw (lt-leb a b h, lt-ltb b a h)
    go (no h) = rw (le-leb a b (omega arith), le-ltb b a (omega arith))

pub opcode_same : (op : ℕ) → bad_opcode op ≡ wrong_opcode op
opcode_same op = not_and (leb 3 op) (leb op 34) ∙ ap₂ ◌||◌ (not_leb 3 op) (not_leb op 34)

pub not_ltb : (a b : ℕ) → not (ltb a b) ≡ leb b a
not_ltb a b = not_leb (suc a) b ∙ leb-suc-suc b a

none_same : (n : ℕ) → eqb n 0 ≡ ltb n 1
none_same zero = refl
none_same (suc n) = ne_eqb (suc n) 0 (omega arith) ∙ sym (le-ltb (suc n) 1 (omega arith))

pub some_same : (n : ℕ) → not (eqb n 0) ≡ ltb 0 n
some_same n = ap not (none_same n) ∙ not_ltb n 1

pub odd_same : (m : ℕ) → m < 2 → not (eqb m 0) ≡ eqb m 1
odd_same zero h = refl
odd_same (suc zero) h = refl
odd_same (suc (suc m)) h = absurd (omega arith)

pub count_same : (n : ℕ) → eqb n 0 || ltb 2 n ≡ not (eqb n 1 || eqb n 2)
count_same zero = refl
count_same (suc zero) = refl
count_same (suc (suc zero)) = refl
count_same (suc (suc (suc n))) =
    let m : ℕ = suc (suc (suc n)) in
    rw (ne_eqb m 0 (omega arith), lt-ltb 2 m (omega arith), ne_eqb m 1 (omega arith), ne_eqb m 2 (omega arith))

pub kind_same : (k : ℕ) → wrong_kind k ≡ wrong_fs_kind k
kind_same k = go (dec_lt k 1) (dec_lt k 9) (dec_lt k 10) (dec_lt k 17)
  where
    at : (j : ℕ) → wrong_kind j ≡ wrong_fs_kind j → k ≡ j → wrong_kind k ≡ wrong_fs_kind k
    at j h e = rw e h

    go : Dec (k < 1) → Dec (k < 9) → Dec (k < 10) → Dec (k < 17) → wrong_kind k ≡ wrong_fs_kind k
    go (yes a) b c d = at 0 refl (omega arith)
    go (no a) (yes b) c d =
        rw (le-leb 1 k (omega arith), le-leb k 8 (omega arith), ne_eqb k 0 (omega arith), ne_eqb k 9 (omega arith), le-ltb 16 k (omega arith))
    go (no a) (no b) (yes c) d = at 9 refl (omega arith)
    go (no a) (no b) (no c) (yes d) =
        rw (le-leb 10 k (omega arith), le-leb k 16 (omega arith), lt-leb k 8 (omega arith), le-leb 1 k (omega arith), ne_eqb k 0 (omega arith), ne_eqb k 9 (omega arith), le-ltb 16 k (omega arith))
    go (no a) (no b) (no c) (no d) =
        rw (le-leb 10 k (omega arith), lt-leb k 16 (omega arith), lt-leb k 8 (omega arith), le-leb 1 k (omega arith), ne_eqb k 0 (omega arith), ne_eqb k 9 (omega arith), lt-ltb 16 k (omega arith))

-- 64 bytes an entry, at most 128 entries
pub unread_length : (w : World) → length (unread_in w) ≡ (queue_of w).len * 64
unread_length w =
    omega (arith, length_bytes (words_from (queue_of w) w.words 0 ((queue_of w).len * 8)), length_words (queue_of w) w.words ((queue_of w).len * 8) 0)

pub queue_same : (w : World) → WellFormed w → queue_full w ≡ all_128_unread w
queue_same w i = go (dec_lt (queue_of w).len 128)
  where
    go : Dec ((queue_of w).len < 128) → queue_full w ≡ all_128_unread w
    go (yes h) = lt-leb 128 (queue_of w).len h ∙ sym (ne_eqb (length (unread_in w)) 8192 (λ e. omega (arith, h, e, unread_length w)))
    go (no h) = le-leb 128 (queue_of w).len (omega arith) ∙ sym (eq-eqb (length (unread_in w)) 8192 (omega (arith, i.room, unread_length w)))

pub empty_same : (w : World) → eqb (queue_of w).len 0 ≡ eqb (length (unread_in w)) 0
empty_same w = go (dec_lt 0 (queue_of w).len)
  where
    go : Dec (0 < (queue_of w).len) → eqb (queue_of w).len 0 ≡ eqb (length (unread_in w)) 0
    go (yes h) = ne_eqb (queue_of w).len 0 (λ e. omega (arith, h, e)) ∙ sym (ne_eqb (length (unread_in w)) 0 (λ e. omega (arith, h, e, unread_length w)))
    go (no h) = eq-eqb (queue_of w).len 0 (omega arith) ∙ sym (eq-eqb (length (unread_in w)) 0 (omega (arith, unread_length w)))

-- a slot's phase, and the state that its history tells
abbrev pub is_responded : Phase → Bool
is_responded Vacant = false
is_responded Placeholder = false
is_responded Waiting = false
is_responded Responded = true
is_responded Fmap = false

abbrev pub is_fmap : Phase → Bool
is_fmap Vacant = false
is_fmap Placeholder = false
is_fmap Waiting = false
is_fmap Responded = false
is_fmap Fmap = true

pub record Named (p : Phase) (k : ℕ) : Type 0 where
  pub vacant : is_vacant p ≡ eqb k 0
  pub placeholder : is_placeholder p ≡ eqb k 1
  pub waiting : is_waiting p ≡ eqb k 2
  pub responded : is_responded p ≡ eqb k 3
  pub mapping : is_fmap p ≡ eqb k 4

named : (s : Stage) → Named (phase_at s) (state s)
named free = record { vacant = refl; placeholder = refl; waiting = refl; responded = refl; mapping = refl }
named reserved = record { vacant = refl; placeholder = refl; waiting = refl; responded = refl; mapping = refl }
named waits = record { vacant = refl; placeholder = refl; waiting = refl; responded = refl; mapping = refl }
named (replied r) = record { vacant = refl; placeholder = refl; waiting = refl; responded = refl; mapping = refl }
named mapping = record { vacant = refl; placeholder = refl; waiting = refl; responded = refl; mapping = refl }

-- where a test holds, two conditions under it are the same
guarded : (a x y : Bool) → (a ≡ true → not x ≡ y) → not (a && x) ≡ not a || y
guarded true x y f = f refl
guarded false x y f = refl

pub placeholder_is : (p : Phase) → is_placeholder p ≡ true → p ≡ Placeholder
placeholder_is Vacant e = clash false e refl
placeholder_is Placeholder e = refl
placeholder_is Waiting e = clash false e refl
placeholder_is Responded e = clash false e refl
placeholder_is Fmap e = clash false e refl

not_and_not : (a b : Bool) → not (a && not b) ≡ not a || b
not_and_not true true = refl
not_and_not true false = refl
not_and_not false b = refl

or_assoc : (a b c : Bool) → (a || b) || c ≡ a || (b || c)
or_assoc true b c = refl
or_assoc false b c = refl

module _ (w : World) (h : List Fact) (i : InvOf w h) where
  pub slot_named : (n : ℕ) → Named (phase_in w n) (state (book h n).stage)
  slot_named n =
      let t = named (book h n).stage in
      let p = phase_is_lem (shape (table_of w)) h i n in
      record {
        vacant = ap is_vacant p ∙ t.vacant;
        placeholder = ap is_placeholder p ∙ t.placeholder;
        waiting = ap is_waiting p ∙ t.waiting;
        responded = ap is_responded p ∙ t.responded;
        mapping = ap is_fmap p ∙ t.mapping;
      }

  -- the chain is empty exactly where no tag is vacant, and its head is the next tag
  pub table_same : table_full w ≡ no_tag_vacant h
  table_same = go (vacant_tags h) i.chain
    where
      go : (l : List ℕ) → Linked (table_of w).next (table_of w).head l → leb 64 (table_of w).head ≡ eqb (length l) 0
      go [] p = le-leb 64 (table_of w).head p
      go (x ∷ l) p = lt-leb 64 (table_of w).head (omega (arith, p.0, p.1)) ∙ sym (ne_eqb (suc (length l)) 0 (λ e. omega (arith, e)))

  pub next_tag_lem : table_full w ≡ false → (table_of w).head ≡ next_tag h
  next_tag_lem full = go (vacant_tags h) i.chain
    where
      go : (l : List ℕ) → Linked (table_of w).next (table_of w).head l → (table_of w).head ≡ get_or l 0 0
      go [] p = absurd (omega (arith, p, leb-false 64 (table_of w).head full))
      go (x ∷ l) p = p.0

  -- conditions on a tag's slot
  pub submit_same : (n c : ℕ) → not (submittable (slot_in w n) c) ≡ not (in_state 1 h n) || (not (eqb (book h n).caller c) || (book h n).ended)
  submit_same n c =
      guarded (is_placeholder (phase_in w n)) (eqb (slot_in w n).caller c && not (slot_in w n).ended) (not (eqb (book h n).caller c) || (book h n).ended) at
      ∙ ap (λ (b : Bool). not b || (not (eqb (book h n).caller c) || (book h n).ended)) (slot_named n).placeholder
    where
      at : is_placeholder (phase_in w n) ≡ true → not (eqb (slot_in w n).caller c && not (slot_in w n).ended) ≡ not (eqb (book h n).caller c) || (book h n).ended
      at q =
          let p = placeholder_is (phase_in w n) q in
          let d = in_phase (shape (table_of w)) h i n Placeholder reserved p (in_stage (shape (table_of w)) h i n Placeholder p) in
          not_and_not (eqb (slot_in w n).caller c) (slot_in w n).ended
          ∙ ap₂ (λ (x : ℕ) (b : Bool). not (eqb x c) || b) (ap caller_is d) (ap ended_is d)

  pub words_same :
      (verb : ℕ) (ms : List ℕ)
      → wrong_words verb ms || is_vacant (phase_in w (request_of ms))
      ≡ not (eqb (length ms) 2) || (not (eqb (get_or ms 0 0) verb) || in_state 0 h (get_or ms 1 0))
  words_same verb ms =
      or_assoc (not (eqb (length ms) 2)) (not (eqb (get_or ms 0 0) verb)) (is_vacant (phase_in w (request_of ms)))
      ∙ ap (λ (b : Bool). not (eqb (length ms) 2) || (not (eqb (get_or ms 0 0) verb) || b)) (slot_named (request_of ms)).vacant

-- who may be woken, by what the slot and by what the history says
pub wake_same : (o e r : Bool) → not (o && (not e && not r)) ≡ not o || (e || r)
wake_same true true c = refl
wake_same true false true = refl
wake_same true false false = refl
wake_same false b c = refl

pub lacks_same : (w : World) (d : ℕ) → unheld (holds_of w).holds (holds_of w).outside d ≡ lacks w 1 d
lacks_same w d j = ltb 63 d || (eqb (holds_in w d) 0 || none_same (outside_in w d) j)

pub free_same : (w : World) (k : ℕ) → not (is_free (handles_of w) k) ≡ ltb 63 k || not (eqb (handle_at w k) 0)
free_same w k = not_and (leb k 63) (eqb (handle_at w k) 0) ∙ ap (λ (b : Bool). b || not (eqb (handle_at w k) 0)) (not_leb k 63)
