-- A store on words is the store on the plain state that is read from them. Assumes nothing.
use Prim.Native.Nat.{ℕ, zero, suc, ◌+◌, ◌*◌, ◌<◌, ◌≤◌}
use mathlib.Core.Path.{◌≡◌, refl, sym, ap, ap₂, ◌∙◌}
use mathlib.Core.Bool.{Bool, true, false, cond}
use mathlib.Core.List.{List, [], ◌∷◌, ◌++◌, append-nil}
use native.Mathlib.Omega.{arith}
use lib.Dec.{ltb, leb}
use lib.ListN.{get_or, set, drop, length, drop_of_length-le}
use lib.Seq.{sets, sets-eq, length-sets, get_or-set_same}
use borrow.Author.Tests.{ltb-true, leb-false}
use Rattle.schemev2.specs.declared.Sqe.{Sqe}
use Rattle.schemev2.specs.Entry.{sqe_words}
use Rattle.slot.specs.declared.Slot.{Slot}
use Rattle.slot.specs.Slots.{vacant_slot}
use Rattle.table.specs.Table.{no_slot, stored as storedIn, given_out, vacated}
use Rattle.wait_queue.specs.Queue.{place_of}
use Rattle.wait_queue.proofs.Unread.{get_or_sets_before, get_or_sets_after}
use Rattle.events.specs.World.{World, table_of, holds_of, queue_of, handles_of, scheme_of, with_table, with_queue, queued}
use Rattle.layout.specs.Layout.{slot_place, chain_place, head_place, all_place, outside_place, scheme_place, first_place, unread_place, handle_place, queue_place, slot_of, slot_words, slots_from, part, built, plain_of}
use Rattle.layout.specs.Fits.{SlotFits, SlotsFit, Fits}
use Rattle.layout.specs.Store.{Store, put, give, vacate, send, queue, outside, all, handles, put_words, give_words, vacate_words, send_place, send_words, stored, stored_all, changed, changed_all, StoreFits, StoresFit}
use Rattle.layout.proofs.Regions.{part_after, part_before, part_in, part_at, part_length}
use Rattle.layout.proofs.Back.{slot_fits, vacant_fits}
use Rattle.layout.proofs.Slots.{slots_same, slots_store, slots_at}

-- updates of one field
abbrev pub headed : World → ℕ → World
headed w x = with_table w (record { slots = (table_of w).slots; next = (table_of w).next; head = x; holds = (table_of w).holds })

abbrev pub chained : World → ℕ → ℕ → World
chained w n x = with_table w (record { slots = (table_of w).slots; next = set (table_of w).next n x; head = (table_of w).head; holds = (table_of w).holds })

abbrev pub lengthened : World → ℕ → World
lengthened w x = with_queue w (record { first = (queue_of w).first; len = x }) w.words

abbrev pub put_in : World → ℕ → Slot → World
put_in w n v = with_table w (storedIn (table_of w) n v)

pub sets_all : (l vs : List ℕ) → length l ≡ length vs → sets l 0 vs ≡ vs
sets_all l vs e = sets-eq vs l 0 (omega (arith, e)) ∙ ap (λ (m : List ℕ). vs ++ m) none ∙ append-nil vs
  where
    none : drop (0 + length vs) l ≡ []
    none = let h : length l ≤ 0 + length vs = omega (arith, e) in drop_of_length-le l h

module _ (ws : List ℕ) where
  -- what is read at one place
  pub load_is : (n : ℕ) → n < 64 → slot_of ws (slot_place n) ≡ get_or (table_of (plain_of ws)).slots n no_slot
  unfolding plain_of
  load_is n b = sym (slots_at 64 n 0 ws no_slot b ∙ ap (slot_of ws) plain)
    where
      plain : 0 + 12 * n ≡ 12 * n
      plain = omega arith

  pub next_is : (n : ℕ) → n < 64 → get_or ws (chain_place n) 0 ≡ get_or (table_of (plain_of ws)).next n 0
  unfolding plain_of
  next_is n b = sym (part_at 768 64 ws n b)

  pub head_is : get_or ws head_place 0 ≡ (table_of (plain_of ws)).head
  unfolding plain_of
  head_is = refl

  pub scheme_is : get_or ws scheme_place 0 ≡ scheme_of (plain_of ws)
  unfolding plain_of
  scheme_is = refl

  pub first_is : get_or ws first_place 0 ≡ (queue_of (plain_of ws)).first
  unfolding plain_of
  first_is = refl

  pub unread_is : get_or ws unread_place 0 ≡ (queue_of (plain_of ws)).len
  unfolding plain_of
  unread_is = refl

  pub all_is : part (all_place 0) 64 ws ≡ (holds_of (plain_of ws)).holds
  unfolding plain_of
  all_is = refl

  pub outside_is : part (outside_place 0) 64 ws ≡ (holds_of (plain_of ws)).outside
  unfolding plain_of
  outside_is = refl

  pub handles_is : part (handle_place 0) 64 ws ≡ (handles_of (plain_of ws)).at
  unfolding plain_of
  handles_is = refl

  pub queue_is : part (queue_place 0) 1024 ws ≡ (plain_of ws).words
  unfolding plain_of
  queue_is = refl

  module _ (size : length ws ≡ 2060) where
    pub put_plain : (n : ℕ) (v : Slot) → SlotFits v → n < 64 → plain_of (put_words ws n v) ≡ put_in (plain_of ws) n v
    unfolding plain_of
    put_plain n v r b =
        ap (λ (k : ℕ). plain_of (sets ws k (slot_words v))) plain
        ∙ λ i. built (slots_store 64 n 0 ws v r b (omega (arith, size)) i) (after 768 64 (omega (arith, b)) i) (get 832 (omega (arith, b)) i) (after 840 64 (omega (arith, b)) i) (after 904 64 (omega (arith, b)) i) (get 968 (omega (arith, b)) i) (get 969 (omega (arith, b)) i) (get 970 (omega (arith, b)) i) (after 972 64 (omega (arith, b)) i) (after 1036 1024 (omega (arith, b)) i)
      where
        plain : 12 * n ≡ 0 + 12 * n
        plain = omega arith

        after : (a k : ℕ) → 12 * n + 12 ≤ a → part a k (sets ws (0 + 12 * n) (slot_words v)) ≡ part a k ws
        after a k h = part_after a k ws (0 + 12 * n) (slot_words v) (omega (arith, h))

        get : (j : ℕ) → 12 * n + 12 ≤ j → get_or (sets ws (0 + 12 * n) (slot_words v)) j 0 ≡ get_or ws j 0
        get j h = get_or_sets_after (slot_words v) ws (0 + 12 * n) j (omega (arith, h))

    -- words stored from k on, behind the slots: what is before and behind them stays
    module _ (k : ℕ) (vs : List ℕ) (behind : 768 ≤ k) where
      slots_stay : slots_from 64 0 (sets ws k vs) ≡ slots_from 64 0 ws
      slots_stay = slots_same ws (sets ws k vs) 64 0 (λ j p q. get_or_sets_before vs ws k j (omega (arith, q, behind)))

      bef : (j : ℕ) → j < k → get_or (sets ws k vs) j 0 ≡ get_or ws j 0
      bef j h = get_or_sets_before vs ws k j h

      aft : (j : ℕ) → k + length vs ≤ j → get_or (sets ws k vs) j 0 ≡ get_or ws j 0
      aft j h = get_or_sets_after vs ws k j h

      pbef : (a n : ℕ) → a + n ≤ k → part a n (sets ws k vs) ≡ part a n ws
      pbef a n h = part_before a n ws k vs h

      paft : (a n : ℕ) → k + length vs ≤ a → part a n (sets ws k vs) ≡ part a n ws
      paft a n h = part_after a n ws k vs h

    -- a whole region stored
    whole : (a n : ℕ) (vs : List ℕ) → a + n ≤ 2060 → length vs ≡ n → part a n (sets ws a vs) ≡ vs
    whole a n vs h e =
        ap (λ (k : ℕ). part a n (sets ws k vs)) (plain a) ∙ part_in a n ws 0 vs (omega (arith, e)) ∙ sets_all (part a n ws) vs (part_length a n ws (omega (arith, h, size)) ∙ sym e)
      where
        plain : (x : ℕ) → x ≡ x + 0
        plain x = omega arith

    chain_plain : (n x : ℕ) → n < 64 → plain_of (set ws (chain_place n) x) ≡ chained (plain_of ws) n x
    unfolding plain_of
    chain_plain n x b =
        let q : 768 ≤ 768 + n = omega arith in
        let k : ℕ = 768 + n in
        let vs : List ℕ = x ∷ [] in
        λ i. built (slots_stay k vs q i) (part_in 768 64 ws n vs (omega (arith, b)) i) (aft k vs q 832 (omega (arith, b)) i) (paft k vs q 840 64 (omega (arith, b)) i) (paft k vs q 904 64 (omega (arith, b)) i) (aft k vs q 968 (omega (arith, b)) i) (aft k vs q 969 (omega (arith, b)) i) (aft k vs q 970 (omega (arith, b)) i) (paft k vs q 972 64 (omega (arith, b)) i) (paft k vs q 1036 1024 (omega (arith, b)) i)

    head_plain : (x : ℕ) → plain_of (set ws head_place x) ≡ headed (plain_of ws) x
    unfolding plain_of
    head_plain x =
        let q : 768 ≤ 832 = omega arith in
        let vs : List ℕ = x ∷ [] in
        λ i. built (slots_stay 832 vs q i) (pbef 832 vs q 768 64 (omega arith) i) (get_or-set_same ws 832 x 0 (omega (arith, size)) i) (paft 832 vs q 840 64 (omega arith) i) (paft 832 vs q 904 64 (omega arith) i) (aft 832 vs q 968 (omega arith) i) (aft 832 vs q 969 (omega arith) i) (aft 832 vs q 970 (omega arith) i) (paft 832 vs q 972 64 (omega arith) i) (paft 832 vs q 1036 1024 (omega arith) i)

    all_plain : (vs : List ℕ) → length vs ≡ 64 → plain_of (sets ws (all_place 0) vs) ≡ changed (plain_of ws) (all vs)
    unfolding plain_of
    all_plain vs e =
        let q : 768 ≤ 840 = omega arith in
        λ i. built (slots_stay 840 vs q i) (pbef 840 vs q 768 64 (omega arith) i) (bef 840 vs q 832 (omega arith) i) (whole 840 64 vs (omega arith) e i) (paft 840 vs q 904 64 (omega (arith, e)) i) (aft 840 vs q 968 (omega (arith, e)) i) (aft 840 vs q 969 (omega (arith, e)) i) (aft 840 vs q 970 (omega (arith, e)) i) (paft 840 vs q 972 64 (omega (arith, e)) i) (paft 840 vs q 1036 1024 (omega (arith, e)) i)

    outside_plain : (vs : List ℕ) → length vs ≡ 64 → plain_of (sets ws (outside_place 0) vs) ≡ changed (plain_of ws) (outside vs)
    unfolding plain_of
    outside_plain vs e =
        let q : 768 ≤ 904 = omega arith in
        λ i. built (slots_stay 904 vs q i) (pbef 904 vs q 768 64 (omega arith) i) (bef 904 vs q 832 (omega arith) i) (pbef 904 vs q 840 64 (omega arith) i) (whole 904 64 vs (omega arith) e i) (aft 904 vs q 968 (omega (arith, e)) i) (aft 904 vs q 969 (omega (arith, e)) i) (aft 904 vs q 970 (omega (arith, e)) i) (paft 904 vs q 972 64 (omega (arith, e)) i) (paft 904 vs q 1036 1024 (omega (arith, e)) i)

    first_plain : (x : ℕ) → plain_of (set ws first_place x) ≡ with_queue (plain_of ws) (record { first = x; len = (queue_of (plain_of ws)).len }) (plain_of ws).words
    unfolding plain_of
    first_plain x =
        let q : 768 ≤ 969 = omega arith in
        let vs : List ℕ = x ∷ [] in
        λ i. built (slots_stay 969 vs q i) (pbef 969 vs q 768 64 (omega arith) i) (bef 969 vs q 832 (omega arith) i) (pbef 969 vs q 840 64 (omega arith) i) (pbef 969 vs q 904 64 (omega arith) i) (bef 969 vs q 968 (omega arith) i) (get_or-set_same ws 969 x 0 (omega (arith, size)) i) (aft 969 vs q 970 (omega arith) i) (paft 969 vs q 972 64 (omega arith) i) (paft 969 vs q 1036 1024 (omega arith) i)

    unread_plain : (x : ℕ) → plain_of (set ws unread_place x) ≡ lengthened (plain_of ws) x
    unfolding plain_of
    unread_plain x =
        let q : 768 ≤ 970 = omega arith in
        let vs : List ℕ = x ∷ [] in
        λ i. built (slots_stay 970 vs q i) (pbef 970 vs q 768 64 (omega arith) i) (bef 970 vs q 832 (omega arith) i) (pbef 970 vs q 840 64 (omega arith) i) (pbef 970 vs q 904 64 (omega arith) i) (bef 970 vs q 968 (omega arith) i) (bef 970 vs q 969 (omega arith) i) (get_or-set_same ws 970 x 0 (omega (arith, size)) i) (paft 970 vs q 972 64 (omega arith) i) (paft 970 vs q 1036 1024 (omega arith) i)

    handles_plain : (vs : List ℕ) → length vs ≡ 64 → plain_of (sets ws (handle_place 0) vs) ≡ changed (plain_of ws) (handles vs)
    unfolding plain_of
    handles_plain vs e =
        let q : 768 ≤ 972 = omega arith in
        λ i. built (slots_stay 972 vs q i) (pbef 972 vs q 768 64 (omega arith) i) (bef 972 vs q 832 (omega arith) i) (pbef 972 vs q 840 64 (omega arith) i) (pbef 972 vs q 904 64 (omega arith) i) (bef 972 vs q 968 (omega arith) i) (bef 972 vs q 969 (omega arith) i) (bef 972 vs q 970 (omega arith) i) (whole 972 64 vs (omega arith) e i) (paft 972 vs q 1036 1024 (omega (arith, e)) i)

    queue_plain : (p : ℕ) (vs : List ℕ) → p + length vs ≤ 1024 → plain_of (sets ws (queue_place p) vs) ≡ with_queue (plain_of ws) (queue_of (plain_of ws)) (sets (plain_of ws).words p vs)
    unfolding plain_of
    queue_plain p vs b =
        let q : 768 ≤ 1036 + p = omega arith in
        let k : ℕ = 1036 + p in
        λ i. built (slots_stay k vs q i) (pbef k vs q 768 64 (omega arith) i) (bef k vs q 832 (omega arith) i) (pbef k vs q 840 64 (omega arith) i) (pbef k vs q 904 64 (omega arith) i) (bef k vs q 968 (omega arith) i) (bef k vs q 969 (omega arith) i) (bef k vs q 970 (omega arith) i) (pbef k vs q 972 64 (omega arith) i) (part_in 1036 1024 ws p vs b i)

module _ (ws : List ℕ) (size : length ws ≡ 2060) where
  long : (k : ℕ) (vs : List ℕ) → length (sets ws k vs) ≡ 2060
  long k vs = length-sets ws k vs ∙ size

  give_plain : (n : ℕ) (v : Slot) → SlotFits v → n < 64 → n ≡ (table_of (plain_of ws)).head → plain_of (give_words ws n v) ≡ with_table (plain_of ws) (given_out (table_of (plain_of ws)) v)
  give_plain n v r b e =
      head_plain (put_words ws n v) (long (12 * n) (slot_words v)) (get_or ws (768 + n) 0)
      ∙ ap (λ (w : World). headed w (get_or ws (768 + n) 0)) (put_plain ws size n v r b)
      ∙ ap (λ (x : ℕ). headed (put_in (plain_of ws) n v) x) (next_is ws n b)
      ∙ ap (λ (m : ℕ). headed (put_in (plain_of ws) m v) (get_or (table_of (plain_of ws)).next m 0)) e

  vacate_plain : (n : ℕ) → n < 64 → plain_of (vacate_words ws n) ≡ with_table (plain_of ws) (vacated (table_of (plain_of ws)) n)
  vacate_plain n b =
      head_plain (set (put_words ws n vacant_slot) (768 + n) (get_or ws 832 0)) (length-sets (put_words ws n vacant_slot) (768 + n) (get_or ws 832 0 ∷ []) ∙ long (12 * n) (slot_words vacant_slot)) n
      ∙ ap (λ (w : World). headed w n) (chain_plain (put_words ws n vacant_slot) (long (12 * n) (slot_words vacant_slot)) n (get_or ws 832 0) b)
      ∙ ap (λ (w : World). headed (chained w n (get_or ws 832 0)) n) (put_plain ws size n vacant_slot vacant_fits b)
      ∙ ap (λ (x : ℕ). headed (chained (put_in (plain_of ws) n vacant_slot) n x) n) (head_is ws)

  place_is : send_place ws ≡ place_of (queue_of (plain_of ws))
  unfolding plain_of
  place_is = refl

  abbrev sent_to : ℕ → ℕ → Sqe → World
  sent_to p x e = lengthened (with_queue (plain_of ws) (queue_of (plain_of ws)) (sets (plain_of ws).words p (sqe_words e))) (x + 1)

  send_plain : (e : Sqe) → plain_of (send_words ws e) ≡ sent_to (place_of (queue_of (plain_of ws))) (queue_of (plain_of ws)).len e
  send_plain e =
      unread_plain (sets ws (1036 + send_place ws) (sqe_words e)) (long (1036 + send_place ws) (sqe_words e)) (get_or ws 970 0 + 1)
      ∙ ap (λ (w : World). lengthened w (get_or ws 970 0 + 1)) (queue_plain ws size (send_place ws) (sqe_words e) (omega arith))
      ∙ ap₂ (λ (x p : ℕ). sent_to p x e) (unread_is ws) place_is

  pub stored_plain : (s : Store) → StoreFits s → plain_of (stored ws s) ≡ changed (plain_of ws) s
  stored_plain (put n v) r = go (ltb n 64) refl
    where
      go : (b : Bool) → ltb n 64 ≡ b → plain_of (cond b (put_words ws n v) ws) ≡ with_table (plain_of ws) (cond b (storedIn (table_of (plain_of ws)) n v) (table_of (plain_of ws)))
      go true e = put_plain ws size n v r (ltb-true n 64 e)
      go false e = refl
  stored_plain (give v) r = go (leb 64 (get_or ws 832 0)) refl ∙ ap (λ (x : ℕ). cond (leb 64 x) (plain_of ws) (with_table (plain_of ws) (given_out (table_of (plain_of ws)) v))) (head_is ws)
    where
      go : (b : Bool) → leb 64 (get_or ws 832 0) ≡ b → plain_of (cond b ws (give_words ws (get_or ws 832 0) v)) ≡ cond b (plain_of ws) (with_table (plain_of ws) (given_out (table_of (plain_of ws)) v))
      go true e = refl
      go false e = give_plain (get_or ws 832 0) v r (leb-false 64 (get_or ws 832 0) e) (head_is ws)
  stored_plain (vacate n) r = go (ltb n 64) refl
    where
      go : (b : Bool) → ltb n 64 ≡ b → plain_of (cond b (vacate_words ws n) ws) ≡ with_table (plain_of ws) (cond b (vacated (table_of (plain_of ws)) n) (table_of (plain_of ws)))
      go true e = vacate_plain n (ltb-true n 64 e)
      go false e = refl
  stored_plain (send e) r = go (leb 128 (get_or ws 970 0)) refl
    where
      go : (b : Bool) → leb 128 (get_or ws 970 0) ≡ b → plain_of (cond b ws (send_words ws e)) ≡ queued (plain_of ws) e
      go true q = let p : leb 128 (queue_of (plain_of ws)).len ≡ true = ap (leb 128) (sym (unread_is ws)) ∙ q in sym (rw p refl)
      go false q = let p : leb 128 (queue_of (plain_of ws)).len ≡ false = ap (leb 128) (sym (unread_is ws)) ∙ q in send_plain e ∙ sym (rw p refl)
  stored_plain (queue q) r =
      unread_plain (set ws 969 q.first) (long 969 (q.first ∷ [])) q.len ∙ ap (λ (w : World). lengthened w q.len) (first_plain ws size q.first)
  stored_plain (outside o) r = outside_plain ws size o r
  stored_plain (all a) r = all_plain ws size a r
  stored_plain (handles k) r = handles_plain ws size k r

-- as many words as before
pub stored_length : (ws : List ℕ) (s : Store) → length (stored ws s) ≡ length ws
stored_length ws (put n v) = go (ltb n 64)
  where
    go : (b : Bool) → length (cond b (put_words ws n v) ws) ≡ length ws
    go true = length-sets ws (12 * n) (slot_words v)
    go false = refl
stored_length ws (give v) = go (leb 64 (get_or ws 832 0))
  where
    go : (b : Bool) → length (cond b ws (give_words ws (get_or ws 832 0) v)) ≡ length ws
    go true = refl
    go false = length-sets (put_words ws (get_or ws 832 0) v) 832 (get_or ws (768 + get_or ws 832 0) 0 ∷ []) ∙ length-sets ws (12 * get_or ws 832 0) (slot_words v)
stored_length ws (vacate n) = go (ltb n 64)
  where
    go : (b : Bool) → length (cond b (vacate_words ws n) ws) ≡ length ws
    go true =
        length-sets (set (put_words ws n vacant_slot) (768 + n) (get_or ws 832 0)) 832 (n ∷ [])
        ∙ length-sets (put_words ws n vacant_slot) (768 + n) (get_or ws 832 0 ∷ [])
        ∙ length-sets ws (12 * n) (slot_words vacant_slot)
    go false = refl
stored_length ws (send e) = go (leb 128 (get_or ws 970 0))
  where
    go : (b : Bool) → length (cond b ws (send_words ws e)) ≡ length ws
    go true = refl
    go false =
        length-sets (sets ws (1036 + send_place ws) (sqe_words e)) 970 ((get_or ws 970 0 + 1) ∷ []) ∙ length-sets ws (1036 + send_place ws) (sqe_words e)
stored_length ws (queue q) = length-sets (set ws 969 q.first) 970 (q.len ∷ []) ∙ length-sets ws 969 (q.first ∷ [])
stored_length ws (outside o) = length-sets ws 904 o
stored_length ws (all a) = length-sets ws 840 a
stored_length ws (handles k) = length-sets ws 972 k

pub stored_all_length : (ss : List Store) (ws : List ℕ) → length (stored_all ws ss) ≡ length ws
stored_all_length [] ws = refl
stored_all_length (s ∷ ss) ws = stored_all_length ss (stored ws s) ∙ stored_length ws s

-- stores one after the other
pub stored_all_plain : (ss : List Store) (ws : List ℕ) → length ws ≡ 2060 → StoresFit ss → plain_of (stored_all ws ss) ≡ changed_all (plain_of ws) ss
stored_all_plain [] ws size f = refl
stored_all_plain (s ∷ ss) ws size f =
    stored_all_plain ss (stored ws s) (stored_length ws s ∙ size) f.1 ∙ ap (λ (w : World). changed_all w ss) (stored_plain ws size s f.0)

-- what is read from any words fits them
slots_long : (k at : ℕ) (ws : List ℕ) → length (slots_from k at ws) ≡ k
unfolding slots_from
slots_long zero at ws = refl
slots_long (suc k) at ws = ap suc (slots_long k (12 + at) ws)

slots_fit : (k at : ℕ) (ws : List ℕ) → SlotsFit (slots_from k at ws)
unfolding slots_from
slots_fit zero at ws = tt
slots_fit (suc k) at ws = (slot_fits ws at, slots_fit k (12 + at) ws)

pub plain_fits : (ws : List ℕ) → length ws ≡ 2060 → Fits (plain_of ws)
unfolding plain_of
plain_fits ws size =
    record {
      slots = slots_long 64 0 ws;
      each = slots_fit 64 0 ws;
      next = part_length 768 64 ws (omega (arith, size));
      all = part_length 840 64 ws (omega (arith, size));
      outside = part_length 904 64 ws (omega (arith, size));
      handles = part_length 972 64 ws (omega (arith, size));
      words = part_length 1036 1024 ws (omega (arith, size));
    }
