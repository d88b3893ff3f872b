-- The status words, slot by slot; the parts of the state, one behind the other. Assumes nothing.
use Prim.Native.Nat.{ℕ, ◌+◌, ◌-◌, ◌*◌, min, ◌^◌, ◌<◌, ◌≤◌}
use mathlib.Core.Path.{◌≡◌, refl, ap, ap₂, ◌∙◌}
use mathlib.Core.Bool.{Bool, cond}
use mathlib.Core.List.{List, [], ◌∷◌, ◌++◌}
use native.Mathlib.Omega.{arith}
use lib.Count.{ones}
use lib.ListN.{length, get_or, drop, length-append}
use lib.Seq.{sets}
use borrow.Author.Tests.{lt-ltb}
use Rattle.le.specs.Le.{bytes_of}
use Rattle.slot.specs.declared.Slot.{Slot}
use Rattle.slot.specs.Slots.{vacant_slot}
use Rattle.status.specs.declared.Status.{Status}
use Rattle.status.specs.declared.Status.TheVariants.{Placeholder, Outstanding, Responded, Fmap, Orphans}
use Rattle.status.specs.Status.{is_in, word_of}
use Rattle.status.proofs.Words.{in_le, word_none, word_room, word_more}
use Rattle.table.specs.declared.Table.{Table}
use Rattle.table.specs.Table.{no_slot}
use Rattle.wait_queue.proofs.Unread.{length_bytes}
use Rattle.word_put.proofs.Stores.{two_runs}
use Rattle.events.specs.World.{World, table_of, holds_of, handles_of, queue_of, slot_in}
use Rattle.layout.specs.Layout.{slots_from, plain_of}
use Rattle.state_bytes.specs.StateBytes.{status_words, state_bytes}

-- one turn more of a status word's loop
module _ (ws : List ℕ) (which : Status) where
  abbrev all : List Slot
  all = (table_of (plain_of ws)).slots

  all_long : length all ≡ 64
  unfolding plain_of slots_from
  all_long = refl

  here : (i n : ℕ) → i < 64 → n ≡ min i 64 → slot_in (plain_of ws) n ≡ get_or all i no_slot
  here i n b q =
      ap (slot_in (plain_of ws)) (let z : n ≡ i = omega (arith, b, q) in z) ∙ ap (λ (x : Bool). cond x (get_or all i no_slot) vacant_slot) (lt-ltb i 64 b)

  pub begins : 0 ≡ word_of (is_in which) (drop 64 all)
  begins = word_none (is_in which) (in_le which) all all_long 64 refl

  module _ (i w : ℕ) (some : 0 < i) (is : w ≡ word_of (is_in which) (drop i all)) where
    pub room : w < 2 ^ 63
    room = omega (arith, is, word_room (is_in which) (in_le which) all all_long i some)

    pub goes_on : i ≤ 64 → (n x : ℕ) (v : Slot) → n ≡ min (i - 1) 64 → v ≡ slot_in (plain_of ws) n → x ≡ is_in which v → w * 2 + x ≡ word_of (is_in which) (drop (i - 1) all)
    goes_on most n x v en ev ex =
        ap₂ (λ (a b : ℕ). a * 2 + b) is (ex ∙ ap (is_in which) (ev ∙ here (i - 1) n (omega (arith, some, most)) en)) ∙ word_more (is_in which) (in_le which) all all_long i no_slot some most

    pub small : (x : ℕ) (v : Slot) → x ≡ is_in which v → x ≤ 1
    small x v e = omega (arith, e, in_le which v)

-- the status words with their counts
pub five :
    (t : Table) (a a' b b' c c' d d' e e' : ℕ) → a ≡ word_of (is_in Placeholder) t.slots → a' ≡ ones a → b ≡ word_of (is_in Outstanding) t.slots → b' ≡ ones b
    → c ≡ word_of (is_in Responded) t.slots → c' ≡ ones c → d ≡ word_of (is_in Fmap) t.slots → d' ≡ ones d → e ≡ word_of (is_in Orphans) t.slots → e' ≡ ones e
    → (a ∷ a' ∷ b ∷ b' ∷ c ∷ c' ∷ d ∷ d' ∷ e ∷ e' ∷ []) ≡ status_words t
five t a a' b b' c c' d d' e e' ea oa eb ob ec oc ed od ee oe =
    λ i. ea i ∷ (oa ∙ ap ones ea) i ∷ eb i ∷ (ob ∙ ap ones eb) i ∷ ec i ∷ (oc ∙ ap ones ec) i ∷ ed i ∷ (od ∙ ap ones ed) i ∷ ee i ∷ (oe ∙ ap ones ee) i ∷ []

-- runs of a known length, one behind the other
next_run :
    (l m n xs ys : List ℕ) (i j k : ℕ) → m ≡ sets l i xs → length xs ≡ k → j ≡ i + k → n ≡ sets m j ys → n ≡ sets l i (xs ++ ys)
next_run l m n xs ys i j k em ek ej en = two_runs l m n xs ys i j em (omega (arith, ek, ej)) en

-- 64 words more are 512 bytes more
sixty_four : (xs ws : List ℕ) (n : ℕ) → length xs ≡ n → length ws ≡ 64 → length (xs ++ bytes_of ws) ≡ n + 512
sixty_four xs ws n ex ew = omega (arith, ex, ew, length-append xs (bytes_of ws), length_bytes ws)

-- by the parts
abbrev pub state_of : ℕ → List ℕ → List ℕ → List ℕ → List ℕ → List ℕ
state_of q a b c st = bytes_of (q ∷ []) ++ bytes_of a ++ bytes_of b ++ bytes_of c ++ bytes_of st

pub told :
    (w : World) (q : ℕ) (a b c st : List ℕ) → q ≡ (queue_of w).len → a ≡ (holds_of w).holds → b ≡ (holds_of w).outside → c ≡ (handles_of w).at → st ≡ status_words (table_of w)
    → state_of q a b c st ≡ state_bytes w
told w q a b c st eq ea eb ec es = λ i. state_of (eq i) (ea i) (eb i) (ec i) (es i)

-- the unread entries, three parts of 64 words, and the status words
module _ (l l1 l2 l3 l4 l5 : List ℕ) (q : ℕ) (a b c st : List ℕ) (la : length a ≡ 64) (lb : length b ≡ 64) (lc : length c ≡ 64) where
  abbrev front : List ℕ
  front = bytes_of (q ∷ []) ++ bytes_of a ++ bytes_of b

  long_front : length front ≡ 1032
  long_front = sixty_four (bytes_of (q ∷ []) ++ bytes_of a) b 520 (sixty_four (bytes_of (q ∷ [])) a 8 refl la) lb

  pub whole :
      l1 ≡ sets l 0 (bytes_of (q ∷ [])) → l2 ≡ sets l1 8 (bytes_of a) → l3 ≡ sets l2 520 (bytes_of b) → l4 ≡ sets l3 1032 (bytes_of c) → l5 ≡ sets l4 1544 (bytes_of st)
      → l5 ≡ sets l 0 (front ++ bytes_of c ++ bytes_of st)
  whole e1 e2 e3 e4 e5 =
      next_run l l4 l5 (front ++ bytes_of c) (bytes_of st) 0 1544 1544
      (next_run l l3 l4 front (bytes_of c) 0 1032 1032
      (next_run l l2 l3 (bytes_of (q ∷ []) ++ bytes_of a) (bytes_of b) 0 520 520 (next_run l l1 l2 (bytes_of (q ∷ [])) (bytes_of a) 0 8 8 e1 refl refl e2) (sixty_four (bytes_of (q ∷ [])) a 8 refl la) refl e3)
      long_front refl e4)
      (sixty_four front c 1032 long_front lc) refl e5

  pub whole_size : length (bytes_of st) ≡ 80 → length (front ++ bytes_of c ++ bytes_of st) ≡ 1624
  whole_size es = omega (arith, es, sixty_four front c 1032 long_front lc, length-append (front ++ bytes_of c) (bytes_of st))
