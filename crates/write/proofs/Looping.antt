-- One turn of a write's loop on words: what is left to do from here is the whole. Assumes nothing.
use Rattle.std.specs.Prelude.{Result, Ok, Err}
use Prim.Native.Nat.{ℕ, suc, ◌+◌, ◌-◌, ◌*◌, ◌/◌, ◌<◌, ◌≤◌}
use mathlib.Core.Path.{◌≡◌, refl, sym, ap, ap₂, ◌∙◌, subst}
use mathlib.Core.Logic.{◌⊎◌, inl, inr}
use mathlib.Core.Bool.{Bool, true, false, not, cond, ◌||◌}
use mathlib.Core.List.{List, [], ◌∷◌, ◌++◌}
use native.Mathlib.Omega.{arith}
use native.Mathlib.Numerals.{add-one}
use lib.Dec.{eqb}
use lib.ListN.{length, drop, length-append}
use lib.Seq.{sets, length-sets, drop-drop}
use borrow.Author.Tests.{eq-eqb, ne_eqb, lt-ltb, le-ltb}
use Rattle.fd_list.specs.Lists.{numbers}
use Rattle.handles.specs.declared.Handles.{Handles}
use Rattle.handles.specs.Handles.{held_at, emptied}
use Rattle.holds.specs.declared.Holds.{Holds}
use Rattle.parse_cqe.specs.declared.ParsedCqe.{ParsedCqe}
use Rattle.parse_cqe.specs.declared.ParsedCqe.TheVariants as parsed
use Rattle.parse_cqe.specs.declared.CqeError.{CqeError}
use Rattle.parse_cqe.specs.Parsed.{parsed_of}
use Rattle.word_put.proofs.Stores.{sets_then}
use Rattle.schemev2.specs.declared.Cqe.{Cqe}
use Rattle.schemev2.specs.Entry.{cqe_of}
use Rattle.slot.specs.declared.Phase.{Phase}
use Rattle.slot.specs.declared.Phase.TheVariants.{Vacant, Placeholder, Waiting, Responded, Fmap}
use Rattle.slot.specs.declared.Slot.{Slot}
use Rattle.slot.specs.Slots.{phase_of}
use Rattle.events.specs.World.{World, holds_of, handles_of, slot_in}
use Rattle.events.specs.Outcome.{Answer, Outcome, outcome, ok, no, refuse}
use Rattle.events.specs.Entry.{Decision, refused_of, Offer, one, served_by, respond_by, in_handle, by_descriptor, is_vacant, is_waiting, obtained, decision_of}
use Rattle.events.specs.Complete.{Entered, accepted, rejected, after, cut, entries_of, stopped, on_entered, write_on}
use Rattle.events.specs.Event.{on, write, step}
use Rattle.layout.specs.Layout.{plain_of}
use Rattle.layout.specs.Store.{Store, stored, stored_all}
use Rattle.packed.specs.Stores.{entry_stores, gone_on, write_stores}
use Rattle.write.specs.Writing.{decision_at, Enters, Writes}

stored_append : (ss : List Store) (ws : List ℕ) (ts : List Store) → stored_all ws (ss ++ ts) ≡ stored_all (stored_all ws ss) ts
stored_append [] ws ts = refl
stored_append (s ∷ ss) ws ts = stored_append ss (stored ws s) ts

-- the next entry, and those after it
next_entries : (m i : ℕ) (bs : List ℕ) → cut m (drop 16 (drop (16 * i) bs)) ≡ cut m (drop (16 * (i + 1)) bs)
next_entries m i bs = ap (cut m) (drop-drop 16 (16 * i) bs ∙ ap (λ (k : ℕ). drop k bs) (let z : 16 * i + 16 ≡ 16 * (i + 1) = omega arith in z))

-- the entries from number i on
abbrev rest : List ℕ → ℕ → ℕ → List Cqe
rest bs n i = cut (n - i) (drop (16 * i) bs)

pub record Left (ws fx₀ bs : List ℕ) (n : ℕ) (xs fx : List ℕ) (i j : ℕ) : Type 0 where
  pub made : List ℕ
  pub words : length made ≡ j
  pub lent : fx ≡ sets fx₀ 0 made
  pub whole : write_on (plain_of xs) (rest bs n i) i made ≡ write_on (plain_of ws) (entries_of bs) 0 []
  pub stores : stored_all xs (write_stores (plain_of xs) (rest bs n i)) ≡ stored_all ws (write_stores (plain_of ws) (entries_of bs))

pub begins : (ws fx bs : List ℕ) (n : ℕ) → n ≡ length bs / 16 → Left ws fx bs n ws fx 0 0
begins ws fx bs n e =
    let z : n - 0 ≡ length bs / 16 = omega (arith, e) in
    record {
      made = [];
      words = refl;
      lent = refl;
      whole = ap (λ (m : ℕ). write_on (plain_of ws) (cut m bs) 0 []) z;
      stores = ap (λ (m : ℕ). stored_all ws (write_stores (plain_of ws) (cut m bs))) z;
    }

module _
    (ws fx₀ bs : List ℕ) (n : ℕ) (xs fx : List ℕ) (i j : ℕ) (l : Left ws fx₀ bs n xs fx i j) (more : i < n) (e : Cqe) (ee : e ≡ cqe_of (drop (16 * i) bs))
    (ys gx : List ℕ) (k m : ℕ) (is : Enters xs ys fx gx j e k m)
  where
    abbrev w : World
    w = plain_of xs

    abbrev d : Decision
    d = decision_at w e

    abbrev F : List ℕ
    F = d.effects

    abbrev es : List Cqe
    es = rest bs n (i + 1)

    abbrev by : Bool → Entered
    by b = cond b (accepted F (after w e.tag d)) (rejected d.number F (after w e.tag d))

    lent_is : gx ≡ sets fx₀ 0 (l.made ++ F)
    lent_is =
        is.lent ∙ ap₂ (λ (a : List ℕ) (b : ℕ). sets a b F) l.lent (let z : j ≡ 0 + length l.made = omega (arith, l.words) in z) ∙ sets_then l.made F fx₀ 0

    count_is : length (l.made ++ F) ≡ j + m
    count_is = omega (arith, l.words, is.words, length-append l.made F)

    split : rest bs n i ≡ e ∷ es
    split =
        ap (λ (y : ℕ). cut y (drop (16 * i) bs)) (let z : n - i ≡ suc (n - (i + 1)) = omega (arith, more) in z)
        ∙ ap₂ (λ (a : Cqe) (b : List Cqe). a ∷ b) (sym ee) (next_entries (n - (i + 1)) i bs)

    whole_split : write_on w (e ∷ es) i l.made ≡ write_on (plain_of ws) (entries_of bs) 0 []
    whole_split = sym (ap (λ (y : List Cqe). write_on w y i l.made) split) ∙ l.whole

    stores_split : stored_all xs (write_stores w (e ∷ es)) ≡ stored_all ws (write_stores (plain_of ws) (entries_of bs))
    stores_split = sym (ap (λ (y : List Cqe). stored_all xs (write_stores w y)) split) ∙ l.stores

    abbrev turn : Entered → Outcome
    turn y = on_entered y (λ f u. write_on u es (suc i) (l.made ++ f)) (λ y' f u. outcome (stopped i y') (l.made ++ f) u)

    abbrev kept : Entered → List ℕ
    kept y = stored_all xs (entry_stores w e ++ gone_on y (λ u. write_stores u es))

    pub goes_on : k ≡ 0 → Left ws fx₀ bs n ys gx (i + 1) (j + m)
    goes_on z =
        let q : eqb d.number 0 ≡ true = eq-eqb d.number 0 (sym is.number ∙ z) in
        record {
          made = l.made ++ F;
          words = count_is;
          lent = lent_is;
          whole = ap₂ (λ (u : World) (y : ℕ). write_on u es y (l.made ++ F)) is.left (add-one i) ∙ sym (ap (λ (b : Bool). turn (by b)) q) ∙ whole_split;
          stores =
              ap₂ (λ (y : List ℕ) (u : World). stored_all y (write_stores u es)) is.stored is.left
              ∙ sym (stored_append (entry_stores w e) xs (write_stores (after w e.tag d) es))
              ∙ sym (ap (λ (b : Bool). kept (by b)) q)
              ∙ stores_split;
        }

    module _ (z : k ≡ 0 → ⊥) where
      q : eqb d.number 0 ≡ false
      q = ne_eqb d.number 0 (λ y. z (is.number ∙ y))

      pub stops : outcome (stopped i k) (l.made ++ F) (after w e.tag d) ≡ write_on (plain_of ws) (entries_of bs) 0 []
      stops = ap (λ (y : ℕ). outcome (stopped i y) (l.made ++ F) (after w e.tag d)) is.number ∙ sym (ap (λ (b : Bool). turn (by b)) q) ∙ whole_split

      pub stops_words : ys ≡ stored_all ws (write_stores (plain_of ws) (entries_of bs))
      stops_words =
          is.stored ∙ sym (stored_append (entry_stores w e) xs []) ∙ sym (ap (λ (b : Bool). kept (by b)) q) ∙ stores_split

      pub stops_lent : gx ≡ sets fx₀ 0 (l.made ++ F)
      stops_lent = lent_is

      pub stops_count : j + m ≡ length (l.made ++ F)
      stops_count = sym count_is

-- with room for the effects the whole is the event
module _ (ws fx bs : List ℕ) where
  abbrev o : Outcome
  o = step (plain_of ws) (on (write (length fx) bs))

  pub with_room :
      length bs / 16 ≤ length fx / 54 → (x : Outcome) → x ≡ write_on (plain_of ws) (entries_of bs) 0 [] → (xs gx : List ℕ) (a : Answer) (j : ℕ) → a ≡ x.answer → gx ≡ sets fx 0 x.effects
      → j ≡ length x.effects → xs ≡ stored_all ws (write_stores (plain_of ws) (entries_of bs)) → plain_of xs ≡ x.world → Writes ws xs fx gx bs a j
  with_room q x e xs gx a j ea eg ej ex el =
      let t = le-ltb (length fx) (54 * (length bs / 16)) (omega (arith, q)) in
      let z : x ≡ o = e ∙ ap (λ (b : Bool). cond b (refuse (plain_of ws) 204) (write_on (plain_of ws) (entries_of bs) 0 [])) (sym t) in
      record {
        answer = ea ∙ ap (λ (y : Outcome). y.answer) z;
        lent = eg ∙ ap (λ (y : Outcome). sets fx 0 y.effects) z;
        count = ej ∙ ap (λ (y : Outcome). length y.effects) z;
        words = ex ∙ ap (λ (b : Bool). stored_all ws (cond b [] (write_stores (plain_of ws) (entries_of bs)))) (sym t);
        left = el ∙ ap (λ (y : Outcome). y.world) z;
      }

  pub too_short : length fx / 54 < length bs / 16 → Writes ws ws fx fx bs (no 204) 0
  too_short q =
      let t = lt-ltb (length fx) (54 * (length bs / 16)) (omega (arith, q)) in
      let z : refuse (plain_of ws) 204 ≡ o = ap (λ (b : Bool). cond b (refuse (plain_of ws) 204) (write_on (plain_of ws) (entries_of bs) 0 [])) (sym t) in
      record {
        answer = ap (λ (y : Outcome). y.answer) z;
        lent = ap (λ (y : Outcome). sets fx 0 y.effects) z;
        count = ap (λ (y : Outcome). length y.effects) z;
        words = ap (λ (b : Bool). stored_all ws (cond b [] (write_stores (plain_of ws) (entries_of bs)))) (sym t);
        left = ap (λ (y : Outcome). y.world) z;
      }

-- the end
module _ (ws fx₀ bs : List ℕ) (n : ℕ) (xs fx : List ℕ) (i j : ℕ) (l : Left ws fx₀ bs n xs fx i j) (e : i ≡ n) where
  none : n - i ≡ 0
  none = omega (arith, e)

  pub ends : outcome (ok (16 * n)) l.made (plain_of xs) ≡ write_on (plain_of ws) (entries_of bs) 0 []
  ends =
      sym
      (ap (λ (m : ℕ). write_on (plain_of xs) (cut m (drop (16 * i) bs)) i l.made) none
      ∙ ap (λ (m : ℕ). outcome (ok (16 * m)) l.made (plain_of xs)) e)
      ∙ l.whole

  pub ends_words : xs ≡ stored_all ws (write_stores (plain_of ws) (entries_of bs))
  ends_words = sym (ap (λ (m : ℕ). stored_all xs (write_stores (plain_of xs) (cut m (drop (16 * i) bs)))) none) ∙ l.stores

-- as many lent words as before
pub lent_length : (ws xs fx gx : List ℕ) (at : ℕ) (e : Cqe) (k j : ℕ) → Enters ws xs fx gx at e k j → length gx ≡ length fx
lent_length ws xs fx gx at e k j a = ap length a.lent ∙ length-sets fx at (decision_at (plain_of ws) e).effects
