-- What the turns store: a front of a buffer that was lent, the bytes of a read, the effects of a write. Assumes nothing.
use Prim.Native.Nat.{ℕ, zero, suc, min, ◌+◌, ◌-◌, ◌*◌, ◌/◌, ◌%◌, ◌<◌, ◌≤◌}
use mathlib.Core.Path.{◌≡◌, refl, sym, ap, ap₂, ◌∙◌, subst}
use mathlib.Core.Bool.{Bool, true, false}
use mathlib.Core.List.{List, [], ◌∷◌, ◌++◌}
use native.Mathlib.Omega.{arith}
use lib.Dec.{eqb, ltb}
use native.Mathlib.Decide.{dec_lt}
use lib.ListN.{length, take, drop, take-append-drop, length-take, length-drop, length-append}
use lib.Seq.{sets, sets-eq, length-sets, take_at, length-take-le}
use borrow.Author.Tests.{ne_eqb, lt-ltb, le-ltb}
use Rattle.events.specs.World.{World, queue_of, with_queue}
use Rattle.events.specs.Outcome.{success, Answer, Outcome, said}
use Rattle.events.specs.Complete.{write_of}
use Rattle.events.specs.Event.{read, write, on}
use Rattle.events.specs.Read.{read_of}
use Rattle.events.specs.WellFormed.{WellFormed}
use Rattle.events.proofs.Exact as effects
use Rattle.outcome_bytes.specs.Output.{told, outcome_bytes}
use Rattle.outcome_bytes.proofs.Laws.{plain_words}
use Rattle.answer_words.specs.Words.{words_of}
use Rattle.le.specs.Le.{word, bytes_of}
use Rattle.record.specs.Record.{words_at}
use Rattle.record.proofs.Laws.{each_length}
use Rattle.wait_queue.specs.Queue.{words_from, unread, removed}
use Rattle.wait_queue.proofs.Unread.{length_bytes, length_words}
use Rattle.std.specs.Prelude.{Result, Ok}
use Rattle.answer.specs.declared.Accepted.{Accepted}
use Rattle.answer.specs.declared.Refusal.{Refusal}
use Rattle.answer.specs.declared.Accepted.TheVariants.{Bytes}
use Rattle.layout.specs.Layout.{plain_of}
use Rattle.packed.proofs.Agree.{steps_agree}
use Rattle.step.specs.Does.{Does}
use Rattle.write.specs.Writing.{Writes}
use Rattle.run.specs.Run.{Told}
use Rattle.run.proofs.Silent.{silent}
use Rattle.run.proofs.Stores.{sets_front, before}
use Rattle.wait_queue_receive.specs.Receive.{copied, empty_by, received_if}

-- a front that is there
pub front_length : (l : List ℕ) (n : ℕ) → n ≤ length l → n ≡ length (take n l)
front_length l n h = sym (length-take-le n l h)

-- a front was lent and holds xs now
module _ (b front xs : List ℕ) (n k : ℕ) (size : n ≤ length b) (most : k ≤ n) (count : k ≡ length xs) (is : front ≡ sets (take n b) 0 xs) where
  pub front_back : front ++ drop n b ≡ sets b 0 xs
  front_back =
      ap (λ (l : List ℕ). l ++ drop n b) is
      ∙ sym (sets_front xs (take n b) (drop n b) 0 (omega (arith, size, most, count, length-take-le n b size)))
      ∙ ap (λ (l : List ℕ). sets l 0 xs) (take-append-drop n b)

  pub front_holds : take k (front ++ drop n b) ≡ xs
  front_holds =
      ap (take k) (front_back ∙ sets-eq xs b 0 (omega (arith, size, most, count)))
      ∙ take_at xs (drop (0 + length xs) b) k (sym count)

  pub front_counts : k ≡ length (take k (front ++ drop n b))
  front_counts = count ∙ ap length (sym front_holds)

-- the outcome of an event, told by its parts
pub turned :
    (l n : List ℕ) (k : ℕ) (o o' : Outcome) (a : Answer) (fx bs : List ℕ) (u : World)
    → o ≡ o' → a ≡ o.answer → fx ≡ o.effects → bs ≡ o.bytes → u ≡ o.world → (n ≡ sets l 0 (told a fx bs)) × (k ≡ length (told a fx bs))
    → (u ≡ o'.world) × ((n ≡ sets l 0 (outcome_bytes o')) × (k ≡ length (outcome_bytes o')))
turned l n k o o' a fx bs u e ea ef eb eu p = (
  eu ∙ ap (λ (x : Outcome). x.world) e,
  subst (λ (x : List ℕ). (n ≡ sets l 0 x) × (k ≡ length x)) ((λ i. told (ea i) (ef i) (eb i)) ∙ ap outcome_bytes e) p,
)

-- a read copies what fits, and what is unread has no more than 8,192 bytes
pub read_counts : (w : World) (len flags : ℕ) → min len ((queue_of w).len * 64) ≡ length (read_of w len flags).bytes
read_counts w len flags =
    sym (length-take (min len ((queue_of w).len * 64)) (unread (queue_of w) w.words) ∙ (let z : min (min len ((queue_of w).len * 64)) (length (unread (queue_of w) w.words)) ≡ min len ((queue_of w).len * 64) = omega (arith, length_bytes (words_from (queue_of w) w.words 0 ((queue_of w).len * 8)), length_words (queue_of w) w.words ((queue_of w).len * 8) 0) in z))

none_same : (len : ℕ) → eqb (min len 8192) 0 ≡ eqb len 0
none_same zero = ap (λ (n : ℕ). eqb n 0) (let z : min 0 8192 ≡ 0 = omega arith in z)
none_same (suc n) = ne_eqb (min (suc n) 8192) 0 (λ e. omega (arith, e)) ∙ sym (ne_eqb (suc n) 0 (λ e. omega (arith, e)))

few_same : (len : ℕ) → ltb (min len 8192) 64 ≡ ltb len 64
few_same len = go (dec_lt len 64)
  where
    go : Dec (len < 64) → ltb (min len 8192) 64 ≡ ltb len 64
    go (yes h) = lt-ltb (min len 8192) 64 (omega (arith, h)) ∙ sym (lt-ltb len 64 h)
    go (no h) = le-ltb (min len 8192) 64 (omega (arith, h)) ∙ sym (le-ltb len 64 (omega (arith, h)))

pub same_read : (w : World) (len flags : ℕ) → (queue_of w).len ≤ 128 → read_of w (min len 8192) flags ≡ read_of w len flags
same_read w len flags h =
    λ i. record {
      answer = said (go (eqb (queue_of w).len 0) i).answer;
      effects = [];
      bytes = take (few i) (unread (queue_of w) w.words);
      world = with_queue w (go (eqb (queue_of w).len 0) i).queue w.words;
    }
  where
    few : copied (queue_of w) (min len 8192) ≡ copied (queue_of w) len
    few = omega (arith, h)

    go : (b : Bool) → received_if b (queue_of w) (min len 8192) flags ≡ received_if b (queue_of w) len flags
    go true = λ i. record { answer = empty_by (eqb (flags / 0x4_0000 % 2) 0) (none_same len i) (few_same len i); queue = queue_of w }
    go false = ap (λ (n : ℕ). record { answer = Ok (Bytes n); queue = removed (queue_of w) (n / 64) }) few

-- and it hands nothing over
no_reply_lem : (w : World) (len flags : ℕ) → (words_of (read_of w len flags).answer).kind ≡ 4 → ⊥
no_reply_lem w len flags = go (eqb (queue_of w).len 0)
  where
    empty : (x y z : Bool) → (words_of (said (empty_by x y z))).kind ≡ 4 → ⊥
    empty true y z e = omega (arith, e)
    empty false true z e = omega (arith, e)
    empty false false true e = omega (arith, e)
    empty false false false e = omega (arith, e)

    go : (b : Bool) → (words_of (said (received_if b (queue_of w) len flags).answer)).kind ≡ 4 → ⊥
    go true e = empty (eqb (flags / 0x4_0000 % 2) 0) (eqb len 0) (ltb len 64) e
    go false e = omega (arith, e)

-- what stands before its bytes
abbrev head_of : Result Accepted Refusal → ℕ → List ℕ
head_of a n = bytes_of ((words_of (said a)).kind ∷ (words_of (said a)).value ∷ 0 ∷ n ∷ [])

head_told : (a : Result Accepted Refusal) (n : ℕ) (bs : List ℕ) → ((words_of (said a)).kind ≡ 4 → ⊥) → n ≡ length bs → head_of a n ++ bs ≡ told (said a) [] bs
head_told a n bs z e =
    ap₂ (λ (ws : List ℕ) (j : ℕ). bytes_of ws ++ bytes_of (0 ∷ []) ++ bytes_of (j ∷ []) ++ bs) (plain_words (words_of (said a)) (said a) refl z) e

-- a read into m bytes that are as good as len, n of the output behind 32 others, on words
module _ (ws xs : List ℕ) (len flags n m k : ℕ) (out part : List ℕ) (a : Result Accepted Refusal) (room : 192 + min len 8192 ≤ length out) (en : n ≡ min len 8192)
    (em : m ≡ length (take (32 + n - 32) (drop 32 out))) (ek : k ≡ min n ((queue_of (plain_of ws)).len * 64)) (d : Does ws xs (on (read m flags)) (said a) [])
    (is : part ≡ sets (take (32 + n - 32) (drop 32 out)) 0 (read_of (plain_of ws) m flags).bytes) where
  abbrev w : World
  w = plain_of ws

  abbrev bs : List ℕ
  bs = (read_of w m flags).bytes

  there : 32 + n - 32 ≤ length (drop 32 out)
  there = omega (arith, room, en, length-drop 32 out)

  exact : m ≡ n
  exact = em ∙ length-take-le (32 + n - 32) (drop 32 out) there ∙ (let z : 32 + n - 32 ≡ n = omega arith in z)

  counts : k ≡ length bs
  counts = ek ∙ ap (λ (x : ℕ). min x ((queue_of w).len * 64)) (sym exact) ∙ read_counts w m flags

  read_whole : WellFormed w → read_of w m flags ≡ read_of w len flags
  read_whole i = ap (λ (x : ℕ). read_of w x flags) (exact ∙ en) ∙ same_read w len flags i.room

  read_head : head_of a k ++ bs ≡ told (said a) [] bs
  read_head = head_told a k bs (λ e. no_reply_lem w m flags (ap (λ (x : Answer). (words_of x).kind) (sym d.answer) ∙ e)) counts

  pub read_told :
      length ws ≡ 2060 → WellFormed w → (out' : List ℕ) → out' ≡ sets (take 32 out ++ (part ++ drop (32 + n - 32) (drop 32 out))) 0 (head_of a k)
      → Told w (plain_of xs) (on (read len flags)) out out' (32 + k)
  read_told size i out' eo =
      turned out out' (32 + k) (read_of w m flags) (read_of w len flags) (said a) [] bs (plain_of xs) (read_whole i) d.answer d.effects refl
      (ap plain_of d.words ∙ steps_agree ws size (on (read m flags)) tt) (
        before out _ out' (head_of a k) bs 32 (omega (arith, room)) refl
            (ap (λ (l : List ℕ). take 32 out ++ l) (front_back (drop 32 out) part bs (32 + n - 32) k there (omega (arith, ek)) counts is)) eo
            ∙ ap (sets out 0) read_head,
        (let z : 32 + k ≡ length (head_of a k ++ bs) = omega (arith, counts, length-append (head_of a k) bs) in z) ∙ ap length read_head,
      )

  pub read_most : 32 + k ≤ 192 + min len 8192
  read_most = omega (arith, ek, en)

pub tail_counts : (bs : List ℕ) (at k : ℕ) → at + k ≤ length bs → length (take k (drop at bs)) ≡ k
tail_counts bs at k h = length-take-le k (drop at bs) (omega (arith, h, length-drop at bs))

-- a write that is lent a front of the words, on words
module _ (ws xs : List ℕ) (i : WellFormed (plain_of ws)) (words n k : ℕ) (fx front bs bs' : List ℕ) (a : Answer) (en : n ≡ min words (length fx)) (eb : bs ≡ bs')
    (d : Writes ws xs (take n fx) front bs a k) where
  abbrev u : World
  u = plain_of ws

  abbrev m : ℕ
  m = length (take n fx)

  lent : m ≡ n
  lent = length-take-le n fx (omega (arith, en))

  fits : k ≤ n
  fits = omega (arith, lent, d.count, effects.write_room u i m bs)

  pub write_part : k ≡ length (take k (front ++ drop n fx))
  write_part = front_counts fx front (write_of u m bs).effects n k (omega (arith, en)) fits d.count d.lent

  write_holds : take k (front ++ drop n fx) ≡ (write_of u m bs).effects
  write_holds = front_holds fx front (write_of u m bs).effects n k (omega (arith, en)) fits d.count d.lent

  -- 18 effects an entry have room in 27 bytes for each of its own
  pub write_most : (used tail : ℕ) → length bs' ≡ tail → used ≤ 48 + 8 * length (take k (front ++ drop n fx)) → used ≤ 192 + 27 * tail
  write_most used tail e h = omega (arith, h, write_part, d.count, effects.write_most u i m bs, ap length eb, e)

  pub write_fits : k ≤ length (front ++ drop n fx)
  write_fits = omega (arith, write_part, length-take k (front ++ drop n fx))

  write_whole : write_of u m bs ≡ write_of u (min words (length fx)) bs'
  write_whole = ap₂ (write_of u) (lent ∙ en) eb

  pub write_back : front ++ drop n fx ≡ sets fx 0 (write_of u (min words (length fx)) bs').effects
  write_back = front_back fx front (write_of u m bs).effects n k (omega (arith, en)) fits d.count d.lent ∙ ap (λ (o : Outcome). sets fx 0 o.effects) write_whole

  pub write_told :
      (out out' : List ℕ) (used : ℕ) → out' ≡ sets out 0 (told a (take k (front ++ drop n fx)) []) → used ≡ length (told a (take k (front ++ drop n fx)) [])
      → Told u (plain_of xs) (on (write (min words (length fx)) bs')) out out' used
  write_told out out' used eo eu =
      turned out out' used (write_of u m bs) (write_of u (min words (length fx)) bs') a (take k (front ++ drop n fx)) [] (plain_of xs) write_whole d.answer write_holds
      (silent u (write m bs) refl) d.left (eo, eu)

-- the bytes of a record
pub tail_is : (bs : List ℕ) (at k at' k' : ℕ) → at ≡ at' → k ≡ k' → take (at + k - at) (drop at bs) ≡ take k' (drop at' bs)
tail_is bs at k at' k' ea ek = ap₂ (λ (n m : ℕ). take n (drop m bs)) (let z : at + k - at ≡ k' = omega (arith, ek) in z) ea

-- a list of a record, in the words lent for it
module _ (l lent bs : List ℕ) (at n : ℕ) (size : 255 ≤ length l) (few : n < 256) (is : lent ≡ sets l 0 (words_at bs at n)) where
  counts_n : length (words_at bs at n) ≡ n
  counts_n = each_length (λ i. word bs (at + 8 * i)) n

  pub list_length : length lent ≡ length l
  list_length = ap length is ∙ length-sets l 0 (words_at bs at n)

  pub list_part : n ≡ length (take n lent)
  list_part = front_length lent n (omega (arith, size, few, list_length))

  pub list_holds : take n lent ≡ words_at bs at n
  list_holds =
      ap (take n) (is ∙ sets-eq (words_at bs at n) l 0 (omega (arith, size, few, counts_n)))
      ∙ take_at (words_at bs at n) (drop (0 + length (words_at bs at n)) l) n counts_n
