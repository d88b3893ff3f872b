-- A plain state that fits is read back from its words, and a store on its words is the store on it. Assumes nothing.
use Prim.Native.Nat.{ℕ, zero, suc, ◌+◌, ◌*◌, ◌%◌, ◌<◌, ◌≤◌}
use mathlib.Core.Path.{◌≡◌, refl, sym, ap, ap₂, ◌∙◌}
use mathlib.Core.Bool.{Bool, true, false, cond}
use mathlib.Core.List.{List, [], ◌∷◌, ◌++◌, append_assoc}
use native.Mathlib.Omega.{arith}
use native.Mathlib.Nat.{not-suc-le-zero, le_of_suc-le-suc, suc-add}
use lib.Dec.{ltb, leb}
use lib.ListN.{get_or, set, take, drop, length, length-set, length-append, replicate}
use lib.Seq.{sets, length-sets, set-append_left, drop-append_seam, take-append_seam, drop-drop, get_or-drop}
use borrow.Author.Tests.{ltb-true, leb-false}
use Rattle.schemev2.specs.declared.Sqe.{Sqe}
use Rattle.schemev2.specs.Entry.{sqe_words}
use Rattle.slot.specs.declared.Slot.{Slot}
use Rattle.slot.specs.Slots.{vacant_slot}
use Rattle.table.specs.Table.{stored as storedIn, given_out, vacated}
use Rattle.wait_queue.specs.Queue.{place_of}
use Rattle.events.specs.World.{World, table_of, holds_of, queue_of, handles_of, scheme_of, with_table, with_queue, queued}
use Rattle.layout.specs.Layout.{slot_from, slot_words, slots_words, slot_of, slots_from, part, built, plain_of, laid, packed_of}
use Rattle.layout.specs.Fits.{SlotFits, SlotsFit, Fits}
use Rattle.layout.specs.Store.{Store, put, give, vacate, send, queue, outside, all, handles, put_words, give_words, vacate_words, send_words, stored, changed, StoreFits}
use Rattle.layout.proofs.Back.{slot_back}
use Rattle.layout.proofs.Worlds.{headed, chained, lengthened, put_in, sets_all, head_is, next_is, unread_is, first_is}

-- places behind a list
module _ (l r : List ℕ) (a : ℕ) (e : length l ≡ a) where
  behind : drop a (l ++ r) ≡ r
  behind = ap (λ (k : ℕ). drop k (l ++ r)) (sym e) ∙ drop-append_seam l r

  skip_get_or : (i : ℕ) → get_or (l ++ r) (a + i) 0 ≡ get_or r i 0
  skip_get_or i = sym (get_or-drop a (l ++ r) i 0) ∙ ap (λ (m : List ℕ). get_or m i 0) behind

  skip_part : (i n : ℕ) → part (a + i) n (l ++ r) ≡ part i n r
  unfolding part
  skip_part i n = ap (take n) (sym (drop-drop i a (l ++ r)) ∙ ap (drop i) behind)

  whole_part : part 0 a (l ++ r) ≡ l
  unfolding part
  whole_part = ap (λ (k : ℕ). take k (l ++ r)) (sym e) ∙ take-append_seam l r

set_right : (l r : List ℕ) (i v : ℕ) → set (l ++ r) (length l + i) v ≡ l ++ set r i v
set_right [] r i v = let q : 0 + i ≡ i = omega arith in ap (λ (k : ℕ). set r k v) q
set_right (x ∷ l) r i v = ap (λ (k : ℕ). set (x ∷ (l ++ r)) k v) (suc-add (length l) i) ∙ ap {B = List ℕ} (λ m. x ∷ m) (set_right l r i v)

sets_right : (vs l r : List ℕ) (i : ℕ) → sets (l ++ r) (length l + i) vs ≡ l ++ sets r i vs
sets_right [] l r i = refl
sets_right (v ∷ vs) l r i =
    let q : suc (length l + i) ≡ length l + suc i = omega arith in
    ap₂ (λ (m : List ℕ) (k : ℕ). sets m k vs) (set_right l r i v) q ∙ sets_right vs l (set r i v) (suc i)

sets_left : (vs l r : List ℕ) (i : ℕ) → i + length vs ≤ length l → sets (l ++ r) i vs ≡ sets l i vs ++ r
sets_left [] l r i h = refl
sets_left (v ∷ vs) l r i h =
    ap (λ (m : List ℕ). sets m (suc i) vs) (set-append_left l r i v (omega (arith, h))) ∙ sets_left vs (set l i v) r (suc i) (omega (arith, h, length-set l i v))

-- the parts of a layout
abbrev before : ℕ → List (List ℕ) → ℕ
before zero ls = 0
before (suc n) [] = 0
before (suc n) (l ∷ ls) = length l + before n ls

abbrev from : ℕ → List (List ℕ) → List (List ℕ)
from zero ls = ls
from (suc n) [] = []
from (suc n) (l ∷ ls) = from n ls

abbrev nth : ℕ → List (List ℕ) → List ℕ
nth n [] = []
nth zero (l ∷ ls) = l
nth (suc n) (l ∷ ls) = nth n ls

abbrev change_at : ℕ → (List ℕ → List ℕ) → List (List ℕ) → List (List ℕ)
change_at n f [] = []
change_at zero f (l ∷ ls) = f l ∷ ls
change_at (suc n) f (l ∷ ls) = l ∷ change_at n f ls

find_get_or : (n : ℕ) (ls : List (List ℕ)) (i p : ℕ) → p ≡ before n ls + i → get_or (laid ls) p 0 ≡ get_or (laid (from n ls)) i 0
find_get_or zero ls i p e = let q : p ≡ i = omega (arith, e) in ap (λ (k : ℕ). get_or (laid ls) k 0) q
find_get_or (suc n) [] i p e = let q : p ≡ i = omega (arith, e) in ap (λ (k : ℕ). get_or [] k 0) q
find_get_or (suc n) (l ∷ ls) i p e =
    let q : p ≡ length l + (before n ls + i) = omega (arith, e) in
    ap (λ (k : ℕ). get_or (l ++ laid ls) k 0) q ∙ skip_get_or l (laid ls) (length l) refl (before n ls + i) ∙ find_get_or n ls i (before n ls + i) refl

find_part : (n : ℕ) (ls : List (List ℕ)) (i p k : ℕ) → p ≡ before n ls + i → part p k (laid ls) ≡ part i k (laid (from n ls))
find_part zero ls i p k e = let q : p ≡ i = omega (arith, e) in ap (λ (j : ℕ). part j k (laid ls)) q
find_part (suc n) [] i p k e = let q : p ≡ i = omega (arith, e) in ap (λ (j : ℕ). part j k []) q
find_part (suc n) (l ∷ ls) i p k e =
    let q : p ≡ length l + (before n ls + i) = omega (arith, e) in
    ap (λ (j : ℕ). part j k (l ++ laid ls)) q ∙ skip_part l (laid ls) (length l) refl (before n ls + i) k ∙ find_part n ls i (before n ls + i) k refl

find_sets :
    (n : ℕ) (ls : List (List ℕ)) (i p : ℕ) (vs : List ℕ) → n < length ls → p ≡ before n ls + i → i + length vs ≤ length (nth n ls)
    → sets (laid ls) p vs ≡ laid (change_at n (λ l. sets l i vs) ls)
find_sets n [] i p vs b e h = absurd (not-suc-le-zero b)
find_sets zero (l ∷ ls) i p vs b e h =
    let q : p ≡ i = omega (arith, e) in
    ap (λ (k : ℕ). sets (l ++ laid ls) k vs) q ∙ sets_left vs l (laid ls) i h
find_sets (suc n) (l ∷ ls) i p vs b e h =
    let q : p ≡ length l + (before n ls + i) = omega (arith, e) in
    ap (λ (k : ℕ). sets (l ++ laid ls) k vs) q ∙ sets_right vs l (laid ls) (before n ls + i)
    ∙ ap (λ (m : List ℕ). l ++ m) (find_sets n ls i (before n ls + i) vs (le_of_suc-le-suc b) refl h)

-- slots one after the other
pub slots_long : (vs : List Slot) → length (slots_words vs) ≡ 12 * length vs
slots_long [] = refl
slots_long (v ∷ vs) = length-append (slot_words v) (slots_words vs) ∙ omega (arith, slots_long vs)

-- read back, with any words before them
slot_found : (ps : List ℕ) (v : Slot) (r : List ℕ) → SlotFits v → slot_of (ps ++ (slot_words v ++ r)) (length ps) ≡ v
unfolding slot_of
slot_found ps v r f =
    (λ i. slot_from (first i) (at 1 i) (at 4 i) (at 5 i) (at 6 i) (at 7 i) (at 9 i) (at 10 i) (at 11 i)) ∙ slot_back v f
  where
    at : (i : ℕ) → get_or (ps ++ (slot_words v ++ r)) (length ps + i) 0 ≡ get_or (slot_words v ++ r) i 0
    at i = skip_get_or ps (slot_words v ++ r) (length ps) refl i

    first : get_or (ps ++ (slot_words v ++ r)) (length ps) 0 ≡ get_or (slot_words v ++ r) 0 0
    first = ap (λ (k : ℕ). get_or (ps ++ (slot_words v ++ r)) k 0) (plain (length ps)) ∙ at 0
      where
        plain : (x : ℕ) → x ≡ x + 0
        plain x = omega arith

slots_found : (vs : List Slot) (ps r : List ℕ) → SlotsFit vs → slots_from (length vs) (length ps) (ps ++ (slots_words vs ++ r)) ≡ vs
unfolding slots_from
slots_found [] ps r f = refl
slots_found (v ∷ vs) ps r f =
    ap₂ {C = List Slot} (λ (x : Slot) (l : List Slot). x ∷ l)
    (ap (λ (m : List ℕ). slot_of (ps ++ m) (length ps)) (append_assoc (slot_words v) (slots_words vs) r) ∙ slot_found ps v (slots_words vs ++ r) f.0)
    (ap₂ (λ (k : ℕ) (m : List ℕ). slots_from (length vs) k m) next (ap (λ (m : List ℕ). ps ++ m) (append_assoc (slot_words v) (slots_words vs) r) ∙ sym (append_assoc ps (slot_words v) (slots_words vs ++ r))) ∙ slots_found vs (ps ++ slot_words v) r f.1)
  where
    next : 12 + length ps ≡ length (ps ++ slot_words v)
    next = omega (arith, length-append ps (slot_words v))

-- a slot among the others
slots_set : (vs : List Slot) (n : ℕ) (v : Slot) → n < length vs → sets (slots_words vs) (12 * n) (slot_words v) ≡ slots_words (set vs n v)
slots_set [] n v h = absurd (not-suc-le-zero h)
slots_set (x ∷ vs) zero v h = refl
slots_set (x ∷ vs) (suc n) v h =
    let q : 12 * suc n ≡ length (slot_words x) + 12 * n = omega arith in
    ap (λ (k : ℕ). sets (slot_words x ++ slots_words vs) k (slot_words v)) q
    ∙ sets_right (slot_words v) (slot_words x) (slots_words vs) (12 * n)
    ∙ ap (λ (m : List ℕ). slot_words x ++ m) (slots_set vs n v (le_of_suc-le-suc h))

-- the eight parts of a plain state's words
abbrev parts : World → List (List ℕ)
parts w =
    slots_words (table_of w).slots
    ∷ (table_of w).next
    ∷ ((table_of w).head ∷ replicate 7 0)
    ∷ (holds_of w).holds
    ∷ (holds_of w).outside
    ∷ (scheme_of w ∷ (queue_of w).first ∷ (queue_of w).len ∷ 0 ∷ [])
    ∷ (handles_of w).at
    ∷ w.words
    ∷ []

-- as long as its places
pub record Long (w : World) : Type 0 where
  pub slots : length (table_of w).slots ≡ 64
  pub next : length (table_of w).next ≡ 64
  pub all : length (holds_of w).holds ≡ 64
  pub outside : length (holds_of w).outside ≡ 64
  pub handles : length (handles_of w).at ≡ 64
  pub words : length w.words ≡ 1024

pub fits_long : (w : World) → Fits w → Long w
fits_long w f = record { slots = f.slots; next = f.next; all = f.all; outside = f.outside; handles = f.handles; words = f.words }

module _ (w : World) (f : Long w) where
  first_part : length (slots_words (table_of w).slots) ≡ 768
  first_part = slots_long (table_of w).slots ∙ omega (arith, f.slots)

  -- a store in one part
  put_packed : (n : ℕ) (v : Slot) → n < 64 → sets (packed_of w) (12 * n) (slot_words v) ≡ packed_of (put_in w n v)
  unfolding packed_of
  put_packed n v b =
      find_sets 0 (parts w) (12 * n) (12 * n) (slot_words v) (omega arith) (omega arith) (omega (arith, b, first_part))
      ∙ ap (λ (l : List ℕ). l ++ laid (from 1 (parts w))) (slots_set (table_of w).slots n v (omega (arith, b, f.slots)))

  chain_packed : (n x : ℕ) → n < 64 → set (packed_of w) (768 + n) x ≡ packed_of (chained w n x)
  unfolding packed_of
  chain_packed n x b = find_sets 1 (parts w) n (768 + n) (x ∷ []) (omega arith) (omega (arith, first_part)) (omega (arith, b, f.next))

  head_packed : (x : ℕ) → set (packed_of w) 832 x ≡ packed_of (headed w x)
  unfolding packed_of
  head_packed x = find_sets 2 (parts w) 0 832 (x ∷ []) (omega arith) (omega (arith, first_part, f.next)) (omega arith)

  all_packed : (vs : List ℕ) → length vs ≡ 64 → sets (packed_of w) 840 vs ≡ packed_of (changed w (all vs))
  unfolding packed_of
  all_packed vs e =
      find_sets 3 (parts w) 0 840 vs (omega arith) (omega (arith, first_part, f.next)) (omega (arith, e, f.all))
      ∙ ap (λ (l : List ℕ). laid (change_at 3 (λ m. l) (parts w))) (sets_all (holds_of w).holds vs (f.all ∙ sym e))

  outside_packed : (vs : List ℕ) → length vs ≡ 64 → sets (packed_of w) 904 vs ≡ packed_of (changed w (outside vs))
  unfolding packed_of
  outside_packed vs e =
      find_sets 4 (parts w) 0 904 vs (omega arith) (omega (arith, first_part, f.next, f.all)) (omega (arith, e, f.outside))
      ∙ ap (λ (l : List ℕ). laid (change_at 4 (λ m. l) (parts w))) (sets_all (holds_of w).outside vs (f.outside ∙ sym e))

  first_packed : (x : ℕ) → set (packed_of w) 969 x ≡ packed_of (with_queue w (record { first = x; len = (queue_of w).len }) w.words)
  unfolding packed_of
  first_packed x = find_sets 5 (parts w) 1 969 (x ∷ []) (omega arith) (omega (arith, first_part, f.next, f.all, f.outside)) (omega arith)

  unread_packed : (x : ℕ) → set (packed_of w) 970 x ≡ packed_of (lengthened w x)
  unfolding packed_of
  unread_packed x = find_sets 5 (parts w) 2 970 (x ∷ []) (omega arith) (omega (arith, first_part, f.next, f.all, f.outside)) (omega arith)

  handles_packed : (vs : List ℕ) → length vs ≡ 64 → sets (packed_of w) 972 vs ≡ packed_of (changed w (handles vs))
  unfolding packed_of
  handles_packed vs e =
      find_sets 6 (parts w) 0 972 vs (omega arith) (omega (arith, first_part, f.next, f.all, f.outside)) (omega (arith, e, f.handles))
      ∙ ap (λ (l : List ℕ). laid (change_at 6 (λ m. l) (parts w))) (sets_all (handles_of w).at vs (f.handles ∙ sym e))

  queue_packed : (p : ℕ) (vs : List ℕ) → p + length vs ≤ 1024 → sets (packed_of w) (1036 + p) vs ≡ packed_of (with_queue w (queue_of w) (sets w.words p vs))
  unfolding packed_of
  queue_packed p vs b =
      find_sets 7 (parts w) p (1036 + p) vs (omega arith) (omega (arith, first_part, f.next, f.all, f.outside, f.handles)) (omega (arith, b, f.words))

  pub packed_long : length (packed_of w) ≡ 2060
  unfolding packed_of
  packed_long =
      let a = slots_words (table_of w).slots in
      omega (
        arith,
        first_part,
        f.next,
        f.all,
        f.outside,
        f.handles,
        f.words,
        length-append a (laid (from 1 (parts w))),
        length-append (table_of w).next (laid (from 2 (parts w))),
        length-append ((table_of w).head ∷ replicate 7 0) (laid (from 3 (parts w))),
        length-append (holds_of w).holds (laid (from 4 (parts w))),
        length-append (holds_of w).outside (laid (from 5 (parts w))),
        length-append (handles_of w).at (laid (from 7 (parts w))),
        length-append w.words [],
      )

pub plain_packed : (w : World) → Fits w → plain_of (packed_of w) ≡ w
unfolding plain_of packed_of
plain_packed w f =
    let g : Long w = fits_long w f in
    let a = first_part w g in
    λ i. built (slots i) (next a i) (head a i) (alls a i) (outs a i) (scheme a i) (first a i) (unread a i) (hs a i) (ws a i)
  where
    slots : slots_from 64 0 (laid (parts w)) ≡ (table_of w).slots
    slots = ap (λ (k : ℕ). slots_from k 0 (laid (parts w))) (sym f.slots) ∙ slots_found (table_of w).slots [] (laid (from 1 (parts w))) f.each

    next : length (slots_words (table_of w).slots) ≡ 768 → part 768 64 (laid (parts w)) ≡ (table_of w).next
    next a = find_part 1 (parts w) 0 768 64 (omega (arith, a)) ∙ whole_part (table_of w).next (laid (from 2 (parts w))) 64 f.next

    head : length (slots_words (table_of w).slots) ≡ 768 → get_or (laid (parts w)) 832 0 ≡ (table_of w).head
    head a = find_get_or 2 (parts w) 0 832 (omega (arith, a, f.next))

    alls : length (slots_words (table_of w).slots) ≡ 768 → part 840 64 (laid (parts w)) ≡ (holds_of w).holds
    alls a = find_part 3 (parts w) 0 840 64 (omega (arith, a, f.next)) ∙ whole_part (holds_of w).holds (laid (from 4 (parts w))) 64 f.all

    outs : length (slots_words (table_of w).slots) ≡ 768 → part 904 64 (laid (parts w)) ≡ (holds_of w).outside
    outs a = find_part 4 (parts w) 0 904 64 (omega (arith, a, f.next, f.all)) ∙ whole_part (holds_of w).outside (laid (from 5 (parts w))) 64 f.outside

    scheme : length (slots_words (table_of w).slots) ≡ 768 → get_or (laid (parts w)) 968 0 ≡ scheme_of w
    scheme a = find_get_or 5 (parts w) 0 968 (omega (arith, a, f.next, f.all, f.outside))

    first : length (slots_words (table_of w).slots) ≡ 768 → get_or (laid (parts w)) 969 0 ≡ (queue_of w).first
    first a = find_get_or 5 (parts w) 1 969 (omega (arith, a, f.next, f.all, f.outside))

    unread : length (slots_words (table_of w).slots) ≡ 768 → get_or (laid (parts w)) 970 0 ≡ (queue_of w).len
    unread a = find_get_or 5 (parts w) 2 970 (omega (arith, a, f.next, f.all, f.outside))

    hs : length (slots_words (table_of w).slots) ≡ 768 → part 972 64 (laid (parts w)) ≡ (handles_of w).at
    hs a = find_part 6 (parts w) 0 972 64 (omega (arith, a, f.next, f.all, f.outside)) ∙ whole_part (handles_of w).at (laid (from 7 (parts w))) 64 f.handles

    ws : length (slots_words (table_of w).slots) ≡ 768 → part 1036 1024 (laid (parts w)) ≡ w.words
    ws a = find_part 7 (parts w) 0 1036 1024 (omega (arith, a, f.next, f.all, f.outside, f.handles)) ∙ whole_part w.words [] 1024 f.words

-- a store on its words is the store on it
module _ (w : World) (f : Fits w) where
  abbrev g : Long w
  g = fits_long w f

  at_head : get_or (packed_of w) 832 0 ≡ (table_of w).head
  at_head = head_is (packed_of w) ∙ ap (λ (u : World). (table_of u).head) (plain_packed w f)

  at_next : (n : ℕ) → n < 64 → get_or (packed_of w) (768 + n) 0 ≡ get_or (table_of w).next n 0
  at_next n b = next_is (packed_of w) n b ∙ ap (λ (u : World). get_or (table_of u).next n 0) (plain_packed w f)

  at_first : get_or (packed_of w) 969 0 ≡ (queue_of w).first
  at_first = first_is (packed_of w) ∙ ap (λ (u : World). (queue_of u).first) (plain_packed w f)

  at_unread : get_or (packed_of w) 970 0 ≡ (queue_of w).len
  at_unread = unread_is (packed_of w) ∙ ap (λ (u : World). (queue_of u).len) (plain_packed w f)

  put_long : (n : ℕ) (v : Slot) → Long (put_in w n v)
  put_long n v = record { slots = length-set (table_of w).slots n v ∙ f.slots; next = f.next; all = f.all; outside = f.outside; handles = f.handles; words = f.words }

  chain_long : (n x : ℕ) (v : Slot) → Long (chained (put_in w n v) n x)
  chain_long n x v = record { slots = (put_long n v).slots; next = length-set (table_of w).next n x ∙ f.next; all = f.all; outside = f.outside; handles = f.handles; words = f.words }

  queue_long : (p : ℕ) (vs : List ℕ) → Long (with_queue w (queue_of w) (sets w.words p vs))
  queue_long p vs = record { slots = f.slots; next = f.next; all = f.all; outside = f.outside; handles = f.handles; words = length-sets w.words p vs ∙ f.words }

  first_long : (x : ℕ) → Long (with_queue w (record { first = x; len = (queue_of w).len }) w.words)
  first_long x = record { slots = f.slots; next = f.next; all = f.all; outside = f.outside; handles = f.handles; words = f.words }

  give_packed : (n : ℕ) (v : Slot) → n < 64 → n ≡ (table_of w).head → give_words (packed_of w) n v ≡ packed_of (with_table w (given_out (table_of w) v))
  give_packed n v b e =
      ap₂ (λ (ws : List ℕ) (x : ℕ). set ws 832 x) (put_packed w g n v b) (at_next n b)
      ∙ head_packed (put_in w n v) (put_long n v) (get_or (table_of w).next n 0)
      ∙ ap (λ (m : ℕ). packed_of (headed (put_in w m v) (get_or (table_of w).next m 0))) e

  vacate_packed : (n : ℕ) → n < 64 → vacate_words (packed_of w) n ≡ packed_of (with_table w (vacated (table_of w) n))
  vacate_packed n b =
      ap₂ (λ (ws : List ℕ) (x : ℕ). set (set ws (768 + n) x) 832 n) (put_packed w g n vacant_slot b) at_head
      ∙ ap (λ (ws : List ℕ). set ws 832 n) (chain_packed (put_in w n vacant_slot) (put_long n vacant_slot) n (table_of w).head b)
      ∙ head_packed (chained (put_in w n vacant_slot) n (table_of w).head) (chain_long n (table_of w).head vacant_slot) n

  abbrev sent_to : ℕ → ℕ → Sqe → World
  sent_to p x e = lengthened (with_queue w (queue_of w) (sets w.words p (sqe_words e))) (x + 1)

  send_packed : (e : Sqe) → send_words (packed_of w) e ≡ packed_of (sent_to (place_of (queue_of w)) (queue_of w).len e)
  send_packed e =
      ap₂ (λ (x y : ℕ). set (sets (packed_of w) (1036 + (x + y) % 128 * 8) (sqe_words e)) 970 (y + 1)) at_first at_unread
      ∙ ap (λ (ws : List ℕ). set ws 970 ((queue_of w).len + 1)) (queue_packed w g (place_of (queue_of w)) (sqe_words e) (omega arith))
      ∙ unread_packed (with_queue w (queue_of w) (sets w.words (place_of (queue_of w)) (sqe_words e))) (queue_long (place_of (queue_of w)) (sqe_words e)) ((queue_of w).len + 1)

  pub stored_packed : (s : Store) → StoreFits s → stored (packed_of w) s ≡ packed_of (changed w s)
  stored_packed (put n v) r = go (ltb n 64) refl
    where
      go : (b : Bool) → ltb n 64 ≡ b → cond b (put_words (packed_of w) n v) (packed_of w) ≡ packed_of (with_table w (cond b (storedIn (table_of w) n v) (table_of w)))
      go true e = put_packed w g n v (ltb-true n 64 e)
      go false e = refl
  stored_packed (give v) r = ap (λ (x : ℕ). cond (leb 64 x) (packed_of w) (give_words (packed_of w) x v)) at_head ∙ go (leb 64 (table_of w).head) refl
    where
      go : (b : Bool) → leb 64 (table_of w).head ≡ b → cond b (packed_of w) (give_words (packed_of w) (table_of w).head v) ≡ packed_of (cond b w (with_table w (given_out (table_of w) v)))
      go true e = refl
      go false e = give_packed (table_of w).head v (leb-false 64 (table_of w).head e) refl
  stored_packed (vacate n) r = go (ltb n 64) refl
    where
      go : (b : Bool) → ltb n 64 ≡ b → cond b (vacate_words (packed_of w) n) (packed_of w) ≡ packed_of (with_table w (cond b (vacated (table_of w) n) (table_of w)))
      go true e = vacate_packed n (ltb-true n 64 e)
      go false e = refl
  stored_packed (send e) r = ap (λ (x : ℕ). cond (leb 128 x) (packed_of w) (send_words (packed_of w) e)) at_unread ∙ go (leb 128 (queue_of w).len) refl
    where
      go : (b : Bool) → leb 128 (queue_of w).len ≡ b → cond b (packed_of w) (send_words (packed_of w) e) ≡ packed_of (queued w e)
      go true q = sym (rw q refl)
      go false q = send_packed e ∙ sym (rw q refl)
  stored_packed (queue q) r =
      ap (λ (ws : List ℕ). set ws 970 q.len) (first_packed w g q.first)
      ∙ unread_packed (with_queue w (record { first = q.first; len = (queue_of w).len }) w.words) (first_long q.first) q.len
  stored_packed (outside o) r = outside_packed w g o r
  stored_packed (all a) r = all_packed w g a r
  stored_packed (handles k) r = handles_packed w g k r
