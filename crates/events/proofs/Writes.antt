-- A write, entry after entry by their places: which entries it accepts, what it answers, what it leaves and whom it wakes.
-- Assumes nothing.
use Rattle.std.specs.Prelude.{Option, Some, None}
use Prim.Native.Nat.{ℕ, zero, suc, ◌+◌, ◌*◌, ◌/◌}
use mathlib.Core.Path.{◌≡◌, refl, sym, ap, ap₂, ◌∙◌, subst}
use mathlib.Core.Bool.{Bool, true, false, not, cond, ◌||◌, true≢false}
use mathlib.Core.List.{List, [], ◌∷◌, ◌++◌, append-nil, append_assoc}
use native.Mathlib.Omega.{arith}
use lib.Dec.{eqb, ltb}
use lib.ListN.{length, drop, get_or, get_or-eq_default}
use lib.Seq.{get_or-drop, drop-drop}
use borrow.Author.Tests.{eq-eqb, ltb-true}
use Rattle.fd_list.specs.Lists.{numbers}
use Rattle.flag.specs.Flags.{within, event_flags, fobtain_fd_flags}
use Rattle.handles.specs.declared.Handles.{Handles}
use Rattle.handles.specs.Handles.{held_at, emptied}
use Rattle.le.specs.Le.{half, word}
use Rattle.parse_cqe.specs.Parsed.{event_if, obtain_if, parsed_by}
use Rattle.schemev2.specs.declared.Cqe.{Cqe}
use Rattle.schemev2.specs.declared.CqeOpcode.{CqeOpcode}
use Rattle.schemev2.specs.declared.CqeOpcode.TheVariants.{RespondRegular, RespondWithFd, SendFevent, ObtainFd, RespondWithMultipleFds, RespondAndNotifyOnDetach}
use Rattle.schemev2.specs.Entry.{kind_of, extra_of, cqe_opcode_of, cqe_of}
use Rattle.slot.specs.declared.Phase.{Phase}
use Rattle.slot.specs.declared.Phase.TheVariants.{Vacant, Placeholder, Waiting, Responded, Fmap}
use Rattle.events.specs.World.{World, holds_of, handles_of, slot_in, phase_in}
use Rattle.events.specs.Outcome.{Answer, ok, no, is_reply, on_ok, Outcome, outcome, Row, row, checked}
use Rattle.events.specs.Submit.{is_placeholder}
use Rattle.events.specs.Entry.{Decision, Offer, one, listed, served_by, respond_by, in_handle, taken_out, by_descriptor, is_vacant, is_waiting, obtain_rows, obtained}
use Rattle.events.specs.Complete.{Entered, accepted, rejected, world_of, carried, entry_by, entry_of, cut, stopped, on_entered, write_on}
use Rattle.events.specs.History.{Fact, entry_at, after_entries, served, poured}
use Rattle.events.specs.Effects.{wakes_for, wakes_in}
use Rattle.events.specs.Run.{Run}
use Rattle.events.specs.WellFormed.{WellFormed}
use Rattle.events.specs.Exactly.{ruled, is_due, respond_rows, entry_rows_by, entry_rows, good_entries, first_rows}
use Rattle.events.proofs.Decided.{refused_in}
use Rattle.events.proofs.Conditions.{is_responded, is_fmap, slot_named}
use Rattle.events.proofs.Effects.{Triples, triples_append, wakes_append, wakes_over}
use Rattle.events.proofs.Entries.{InvOf, Same, Entered-ok, entry_ok}
use Rattle.events.proofs.WellFormed.{formed_entry}

-- the first row that is due is answered, and where none is, the rest says
pub ruled_checked :
    {A : Type 0} (f : A → Answer) (turn : ℕ → A) → ((k : ℕ) → f (turn k) ≡ no k) → (rows : List Row) (o : A) → f (checked turn rows o) ≡ ruled rows (f o)
ruled_checked f turn bad [] o = refl
ruled_checked f turn bad (r ∷ rs) o = go r.due (ruled_checked f turn bad rs o)
  where
    go : (b : Bool) → f (checked turn rs o) ≡ ruled rs (f o) → f (cond b (turn r.number) (checked turn rs o)) ≡ cond b (no r.number) (ruled rs (f o))
    go true e = bad r.number
    go false e = e

-- answers told apart
abbrev refusal : Answer → ℕ
refusal a = on_ok a (λ v. 0) 1

-- no row is due, or some is
undue : (rows : List Row) → ruled rows (ok 0) ≡ ok 0 → is_due rows ≡ false
undue [] e = refl
undue (r ∷ rs) e = go r.due (undue rs) e
  where
    go : (b : Bool) → (ruled rs (ok 0) ≡ ok 0 → is_due rs ≡ false) → cond b (no r.number) (ruled rs (ok 0)) ≡ ok 0 → b || is_due rs ≡ false
    go true more e = absurd (omega (arith, ap refusal e))
    go false more e = more e

some_due : (rows : List Row) (k : ℕ) → ruled rows (ok 0) ≡ no k → (is_due rows ≡ true) × ((a : Answer) → ruled rows a ≡ no k)
some_due [] k e = absurd (omega (arith, ap refusal e))
some_due (r ∷ rs) k e = go r.due (some_due rs k) e
  where
    go :
        (b : Bool) → (ruled rs (ok 0) ≡ no k → (is_due rs ≡ true) × ((a : Answer) → ruled rs a ≡ no k)) → cond b (no r.number) (ruled rs (ok 0)) ≡ no k
        → (b || is_due rs ≡ true) × ((a : Answer) → cond b (no r.number) (ruled rs a) ≡ no k)
    go true more e = (refl, λ a. e)
    go false more e = more e

pub none_due : (rows : List Row) (a : Answer) → is_due rows ≡ false → ruled rows a ≡ a
none_due [] a e = refl
none_due (r ∷ rs) a e = go r.due (none_due rs a) e
  where
    go : (b : Bool) → (is_due rs ≡ false → ruled rs a ≡ a) → b || is_due rs ≡ false → cond b (no r.number) (ruled rs a) ≡ a
    go true more e = absurd (true≢false e)
    go false more e = more e

-- the number of a completion entry
abbrev entry_answer : Entered → Answer
entry_answer (accepted fx w) = ok 0
entry_answer (rejected k fx w) = no k

served_goes : (b : Bool) (w : World) (n : ℕ) (o : Offer) (k : Handles) → entry_answer (carried w n (served_by b (slot_in w n) n o (holds_of w) k)) ≡ ok 0
served_goes true w n o k = refl
served_goes false w n o k = refl

-- a handle above 63 holds nothing
empty_same : (n : Handles) (k : ℕ) → length n.at ≡ 64 → eqb (held_at n k) 0 ≡ ltb 63 k || eqb (held_at n k) 0
empty_same n k l = go (ltb 63 k) refl
  where
    go : (b : Bool) → ltb 63 k ≡ b → eqb (held_at n k) 0 ≡ b || eqb (held_at n k) 0
    go true e = eq-eqb (held_at n k) 0 (get_or-eq_default n.at 0 {n = k} (omega (arith, l, ltb-true 63 k e)))
    go false e = refl

module _ (w : World) (h : List Fact) (formed : WellFormed w) (i : InvOf w h) where
  respond_number :
      (turn : ℕ → Decision) (n : ℕ) (o : Offer) (k : Handles)
      → entry_answer (carried w n (turn 77)) ≡ no 77 → entry_answer (carried w n (turn 22)) ≡ no 22
      → entry_answer (carried w n (respond_by (phase_in w n) turn (slot_in w n) n o (holds_of w) k)) ≡ ruled (respond_rows h n) (ok 0)
  respond_number turn n o k x y =
      let t = slot_named w h i n in
      go (phase_in w n) ∙ ap (λ (rs : List Row). ruled rs (ok 0)) (λ j. row 77 (t.vacant j || t.placeholder j) ∷ row 22 (t.responded j || t.mapping j) ∷ [])
    where
      go :
          (p : Phase)
          → entry_answer (carried w n (respond_by p turn (slot_in w n) n o (holds_of w) k))
          ≡ ruled (row 77 (is_vacant p || is_placeholder p) ∷ row 22 (is_responded p || is_fmap p) ∷ []) (ok 0)
      go Vacant = x
      go Placeholder = x
      go Waiting = served_goes (slot_in w n).ended w n o k
      go Responded = y
      go Fmap = y

  module _ (c : Cqe) where
    event_number : (b : Bool) → entry_answer (entry_by (event_if b c) w c.tag) ≡ ruled (row 22 (not b) ∷ []) (ok 0)
    event_number true = refl
    event_number false = refl

    obtain_number : (b : Bool) → entry_answer (entry_by (obtain_if b c) w c.tag) ≡ ruled (row 22 (not b) ∷ obtain_rows (slot_in w c.tag)) (ok 0)
    obtain_number true = go (is_vacant (phase_in w c.tag)) (not (is_waiting (phase_in w c.tag)) || eqb (length (numbers (slot_in w c.tag).fds)) 0)
      where
        go :
            (a b : Bool)
            → entry_answer (carried w c.tag (cond a (refused_in w c.tag 22) (cond b (refused_in w c.tag 2) (obtained (slot_in w c.tag) c.result (holds_of w) (handles_of w)))))
            ≡ ruled (row 22 a ∷ row 2 b ∷ []) (ok 0)
        go true b = refl
        go false true = refl
        go false false = refl
    obtain_number false = refl

    -- is the handle empty
    handle_number :
        (b : Bool)
        → entry_answer (carried w c.tag (cond b (refused_in w c.tag 22) (by_descriptor (slot_in w c.tag) c.tag c.result (holds_of w) (handles_of w))))
        ≡ ruled (row 22 b ∷ respond_rows h c.tag) (ok 0)
    handle_number true = refl
    handle_number false =
        respond_number (taken_out (slot_in w c.tag) c.result (holds_of w) (handles_of w)) c.tag (one (in_handle (handles_of w) c.result)) (emptied (handles_of w) c.result) refl refl

    entry_number_by : (op : Option CqeOpcode) → entry_answer (entry_by (parsed_by op c) w c.tag) ≡ ruled (entry_rows_by op h w c) (ok 0)
    entry_number_by (Some RespondRegular) = respond_number (refused_in w c.tag) c.tag _ (handles_of w) refl refl
    entry_number_by (Some RespondWithFd) =
        handle_number (eqb (held_at (handles_of w) c.result) 0)
        ∙ ap (λ (b : Bool). ruled (row 22 b ∷ respond_rows h c.tag) (ok 0)) (empty_same (handles_of w) c.result formed.handles)
    entry_number_by (Some SendFevent) = event_number (within event_flags c.tag)
    entry_number_by (Some ObtainFd) =
        obtain_number (within fobtain_fd_flags (extra_of c))
        ∙ ap (λ (rs : List Row). ruled rs (ok 0))
        (λ j.
        row 22 (not (within fobtain_fd_flags (extra_of c)))
        ∷ row 22 ((slot_named w h i c.tag).vacant j)
        ∷ row 2 (not ((slot_named w h i c.tag).waiting j) || eqb (length (numbers (slot_in w c.tag).fds)) 0)
        ∷ [])
    entry_number_by (Some RespondWithMultipleFds) = respond_number (refused_in w c.tag) c.tag listed (handles_of w) refl refl
    entry_number_by (Some RespondAndNotifyOnDetach) = respond_number (refused_in w c.tag) c.tag _ (handles_of w) refl refl
    entry_number_by None = refl

    entry_number : entry_answer (entry_of w c) ≡ ruled (entry_rows_by (cqe_opcode_of (kind_of c)) h w c) (ok 0)
    entry_number = entry_number_by (cqe_opcode_of (kind_of c))

-- the bytes cut in turn are the entries at their places
half_drop : (bs : List ℕ) (k j : ℕ) → half (drop k bs) j ≡ half bs (k + j)
half_drop bs k j =
    λ z.
    get_or-drop k bs j 0 z + (get_or-drop k bs (j + 1) 0 ∙ ap (λ (m : ℕ). get_or bs m 0) (one 1)) z * 0x100
    + (get_or-drop k bs (j + 2) 0 ∙ ap (λ (m : ℕ). get_or bs m 0) (one 2)) z * 0x1_0000
    + (get_or-drop k bs (j + 3) 0 ∙ ap (λ (m : ℕ). get_or bs m 0) (one 3)) z * 0x100_0000
  where
    one : (d : ℕ) → k + (j + d) ≡ k + j + d
    one d = omega arith

word_drop : (bs : List ℕ) (k j : ℕ) → word (drop k bs) j ≡ word bs (k + j)
word_drop bs k j = λ z. half_drop bs k j z + (half_drop bs k (j + 4) ∙ ap (half bs) over) z * 0x1_0000_0000
  where
    over : k + (j + 4) ≡ k + j + 4
    over = omega arith

pub entry_at_lem : (bs : List ℕ) (j : ℕ) → cqe_of (drop (16 * j) bs) ≡ entry_at bs j
entry_at_lem bs j =
    λ z.
    record {
      flags = (get_or-drop (16 * j) bs 0 0 ∙ ap (λ (m : ℕ). get_or bs m 0) start) z;
      extra_raw =
          record {
            0 = get_or-drop (16 * j) bs 1 0 z;
            1 = get_or-drop (16 * j) bs 2 0 z;
            2 = get_or-drop (16 * j) bs 3 0 z;
          };
      tag = half_drop bs (16 * j) 4 z;
      result = word_drop bs (16 * j) 8 z;
    }
  where
    start : 16 * j + 0 ≡ 16 * j
    start = omega arith

pub next_at : (bs : List ℕ) (j : ℕ) → drop 16 (drop (16 * j) bs) ≡ drop (16 * suc j) bs
next_at bs j = drop-drop 16 (16 * j) bs ∙ ap (λ (m : ℕ). drop m bs) over
  where
    over : 16 * j + 16 ≡ 16 * suc j
    over = omega arith

sixteenth : (n : ℕ) → 16 * n / 16 ≡ n
sixteenth n = omega arith

-- a write in a run
module _ (r : Run) (bs : List ℕ) where
  abbrev at : ℕ → World
  at j = after_entries bs r.world j

  abbrev past : ℕ → List Fact
  past j = poured r.number bs r.world j ++ r.facts

  -- what it answers after j entries with m more to come
  abbrev answer_at : ℕ → ℕ → Answer
  answer_at zero m = ruled (first_rows r bs m) (ok (16 * good_entries r bs 0 m))
  answer_at (suc j) m = ok (16 * good_entries r bs (suc j) m)

  pub record Wrote (j m : ℕ) (o : Outcome) : Type 0 where
    pub answer : o.answer ≡ answer_at j m
    pub counted : on_ok o.answer (λ v. v / 16) 0 ≡ good_entries r bs j m
    pub hand : is_reply o.answer ≡ false
    pub inv : InvOf o.world (past (good_entries r bs j m))
    pub same : Same r.world o.world
    pub bytes : o.bytes ≡ []
    pub wakes : wakes_in o.effects ≡ wakes_for r.facts (poured r.number bs r.world (good_entries r bs j m))

  -- so far
  record Sofar (j : ℕ) (fx : List ℕ) : Type 0 where
    formed : WellFormed (at j)
    inv : InvOf (at j) (past j)
    same : Same r.world (at j)
    whole : Triples fx
    wakes : wakes_in fx ≡ wakes_for r.facts (poured r.number bs r.world j)

  -- one entry accepted
  on_to : (j : ℕ) (fx gx : List ℕ) (u : World) → u ≡ at (suc j) → Sofar j fx → Entered-ok (at j) (past j) (served r.number j (at j) (entry_at bs j)) (accepted gx u) → Sofar (suc j) (fx ++ gx)
  on_to j fx gx u p s e =
      let more = served r.number j (at j) (entry_at bs j) in
      record {
        formed = formed_entry (at j) (entry_at bs j) s.formed;
        inv =
            subst (λ (v : World). InvOf v (past (suc j))) p
            (subst (λ (h : List Fact). InvOf u h) (sym (append_assoc more (poured r.number bs r.world j) r.facts)) e.0);
        same = subst (Same r.world) p (record { queue = e.1.queue ∙ s.same.queue; scheme = e.1.scheme ∙ s.same.scheme });
        whole = triples_append fx gx s.whole e.2;
        wakes =
            wakes_append s.whole.0 fx gx s.whole.1 ∙ ap₂ ◌++◌ s.wakes e.3
            ∙ sym (wakes_over more (poured r.number bs r.world j) r.facts);
      }

  stopped_count : (j k : ℕ) → on_ok (stopped j k) (λ v. v / 16) 0 ≡ j
  stopped_count zero k = refl
  stopped_count (suc j) k = sixteenth (suc j)

  stopped_hands : (j k : ℕ) → is_reply (stopped j k) ≡ false
  stopped_hands zero k = refl
  stopped_hands (suc j) k = refl

  -- entry j is refused
  stop_answer : (j m k : ℕ) → is_due (entry_rows r bs j) ≡ true → ((a : Answer) → ruled (entry_rows r bs j) a ≡ no k) → stopped j k ≡ answer_at j (suc m)
  stop_answer zero m k d f = sym (f _)
  stop_answer (suc j) m k d f = ap (λ (b : Bool). ok (16 * cond b (suc j) (good_entries r bs (suc (suc j)) m))) (sym d)

  go_answer : (j m : ℕ) → is_due (entry_rows r bs j) ≡ false → answer_at (suc j) m ≡ answer_at j (suc m)
  go_answer zero m d =
      ap (λ (b : Bool). ok (16 * cond b 0 (good_entries r bs 1 m))) (sym d) ∙ sym (none_due (entry_rows r bs 0) _ d)
  go_answer (suc j) m d = ap (λ (b : Bool). ok (16 * cond b (suc j) (good_entries r bs (suc (suc j)) m))) (sym d)

  module _ (j m : ℕ) (fx : List ℕ) (s : Sofar j fx) (more : (gx : List ℕ) → Sofar (suc j) (fx ++ gx) → Wrote (suc j) m (write_on (at (suc j)) (cut m (drop (16 * suc j) bs)) (suc j) (fx ++ gx))) where
    abbrev result_of : Entered → Outcome
    result_of x = on_entered x (λ gx u. write_on u (cut m (drop (16 * suc j) bs)) (suc j) (fx ++ gx)) (λ k gx u. outcome (stopped j k) (fx ++ gx) u)

    -- the entries accepted, where this one is
    good_on : is_due (entry_rows r bs j) ≡ false → good_entries r bs (suc j) m ≡ good_entries r bs j (suc m)
    good_on d = ap (λ (b : Bool). cond b j (good_entries r bs (suc j) m)) (sym d)

    good_stop : is_due (entry_rows r bs j) ≡ true → j ≡ good_entries r bs j (suc m)
    good_stop d = ap (λ (b : Bool). cond b j (good_entries r bs (suc j) m)) (sym d)

    land :
        (x : Entered) → world_of x ≡ at (suc j) → entry_answer x ≡ ruled (entry_rows r bs j) (ok 0)
        → Entered-ok (at j) (past j) (served r.number j (at j) (entry_at bs j)) x → Wrote j (suc m) (result_of x)
    land (accepted gx u) p q e =
        let d = undue (entry_rows r bs j) (sym q) in
        let o = more gx (on_to j fx gx u p s e) in
        let g = good_on d in
        subst (λ (v : World). Wrote j (suc m) (write_on v (cut m (drop (16 * suc j) bs)) (suc j) (fx ++ gx))) (sym p)
        (record {
          answer = o.answer ∙ go_answer j m d;
          counted = o.counted ∙ g;
          hand = o.hand;
          inv = subst (λ (n : ℕ). InvOf (write_on (at (suc j)) (cut m (drop (16 * suc j) bs)) (suc j) (fx ++ gx)).world (past n)) g o.inv;
          same = o.same;
          bytes = o.bytes;
          wakes = o.wakes ∙ ap (λ (n : ℕ). wakes_for r.facts (poured r.number bs r.world n)) g;
        })
    land (rejected k gx u) p q e =
        let f = some_due (entry_rows r bs j) k (sym q) in
        let g = good_stop f.0 in
        record {
          answer = stop_answer j m k f.0 f.1;
          counted = stopped_count j k ∙ g;
          hand = stopped_hands j k;
          inv = subst (λ (n : ℕ). InvOf u (past n)) g e.0;
          same = record { queue = e.1.queue ∙ s.same.queue; scheme = e.1.scheme ∙ s.same.scheme };
          bytes = refl;
          wakes =
              wakes_append s.whole.0 fx gx s.whole.1 ∙ ap₂ ◌++◌ s.wakes e.2.none ∙ append-nil _
              ∙ ap (λ (n : ℕ). wakes_for r.facts (poured r.number bs r.world n)) g;
        }

  write_at : (m j : ℕ) (fx : List ℕ) → Sofar j fx → Wrote j m (write_on (at j) (cut m (drop (16 * j) bs)) j fx)
  write_at zero j fx s =
      record { answer = ended j; counted = sixteenth j; hand = refl; inv = s.inv; same = s.same; bytes = refl; wakes = s.wakes }
    where
      ended : (j : ℕ) → ok (16 * j) ≡ answer_at j 0
      ended zero = refl
      ended (suc j) = refl
  write_at (suc m) j fx s =
      subst (λ (c : Cqe). Wrote j (suc m) (write_on (at j) (c ∷ cut m (drop 16 (drop (16 * j) bs))) j fx)) (sym (entry_at_lem bs j))
      (subst (λ (l : List ℕ). Wrote j (suc m) (write_on (at j) (entry_at bs j ∷ cut m l) j fx)) (sym (next_at bs j))
      (land j m fx s (λ gx t. write_at m (suc j) (fx ++ gx) t) (entry_of (at j) (entry_at bs j)) refl
      (entry_number (at j) (past j) s.formed s.inv (entry_at bs j)) (entry_ok (at j) (past j) s.formed s.inv r.number j (entry_at bs j))))

  pub write_ok : WellFormed r.world → InvOf r.world r.facts → (m : ℕ) → Wrote 0 m (write_on r.world (cut m bs) 0 [])
  write_ok formed inv m =
      write_at m 0 [] (record { formed = formed; inv = inv; same = record { queue = refl; scheme = refl }; whole = (0, refl); wakes = refl })
