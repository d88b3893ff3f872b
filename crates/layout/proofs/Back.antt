-- A slot is read back from its twelve words, and what is read from any words fits them. Assumes nothing.
use Prim.Native.Nat.{ℕ, zero, suc, ◌+◌, ◌*◌, ◌/◌, ◌%◌, ◌<◌, ◌≤◌}
use mathlib.Core.Path.{◌≡◌, refl, sym, ap, ap₂, ◌∙◌}
use mathlib.Core.Bool.{Bool, true, false}
use mathlib.Core.List.{List, [], ◌∷◌, ◌++◌, map}
use native.Mathlib.Omega.{arith}
use lib.Dec.{eqb}
use lib.ListN.{get_or, drop, length, length-map, drop_of_length-le}
use lib.Seq.{drop-cons}
use borrow.Author.Tests.{eq-eqb, ne_eqb}
use Rattle.le.specs.Le.{bytes8}
use Rattle.le.proofs.Digits.{bytes8_word}
use Rattle.ids.specs.declared.Description.{Description}
use Rattle.fd_list.specs.declared.List.{List as Fds}
use Rattle.fd_list.specs.Lists.{desc, num, list_of}
use Rattle.slot.specs.declared.Slot.{Slot}
use Rattle.slot.specs.Slots.{vacant_slot}
use Rattle.layout.specs.Layout.{one, slot_from, fds_from, marks_word, reply_word, low_word, high_word, slot_of}
use Rattle.layout.specs.Fits.{ListFits, SlotFits}

one_le : (b : Bool) → one b ≤ 1
one_le true = omega arith
one_le false = omega arith

mark_is : (m : ℕ) (b : Bool) → m ≡ one b → eqb m 1 ≡ b
mark_is m true e = eq-eqb m 1 e
mark_is m false e = ne_eqb m 1 (λ (q : m ≡ 1). omega (arith, e, q))

-- n numbers of a list, from place k on
abbrev spelt : ℕ → ℕ → List ℕ → List ℕ
spelt zero k l = []
spelt (suc n) k l = get_or l k 0 ∷ spelt n (suc k) l

spelt_is : (n k : ℕ) (l : List ℕ) → length l ≡ k + n → spelt n k l ≡ drop k l
spelt_is zero k l e = let h : length l ≤ k = omega (arith, e) in sym (drop_of_length-le l h)
spelt_is (suc n) k l e =
    ap (λ (m : List ℕ). get_or l k 0 ∷ m) (spelt_is n (suc k) l (omega (arith, e))) ∙ sym (drop-cons l k 0 (omega (arith, e)))

desc_num : (l : List Description) → map desc (map num l) ≡ l
desc_num [] = refl
desc_num (d ∷ l) = ap {B = List Description} (λ r. d ∷ r) (desc_num l)

fds_back : (l : Fds) → ListFits l → fds_from (low_word l) (high_word l) l.len ≡ l
unfolding low_word high_word
fds_back l r =
    let bs : List ℕ = map num l.at in
    let h : length bs ≡ 16 = length-map l.at num ∙ r.sixteen in
    let a : bytes8 (low_word l) ++ bytes8 (high_word l) ≡ bs = ap₂ (λ (x y : List ℕ). x ++ y) (bytes8_word bs r.bytes 0) (bytes8_word bs r.bytes 8) ∙ spelt_is 16 0 bs h in
    let n : l.len % 256 ≡ l.len = omega (arith, r.len) in
    λ i. record { at = (ap (map desc) a ∙ desc_num l.at) i; len = n i }

-- three marks above a byte
module _ (a p q r : ℕ) (ha : a < 256) (hp : p ≤ 1) (hq : q ≤ 1) (hr : r ≤ 1) where
  abbrev m : ℕ
  m = a + p * 256 + q * 512 + r * 1024

  digit : (x d u : ℕ) → d ≤ 1 → x ≡ d + u * 2 → x % 2 ≡ d
  digit x d u h e = omega (arith, h, e)

  mark_1 : m / 256 % 2 ≡ p
  mark_1 = digit (m / 256) p (q + r * 2) hp (omega arith)

  mark_2 : m / 512 % 2 ≡ q
  mark_2 = digit (m / 512) q r hq (omega arith)

  mark_3 : m / 1024 % 2 ≡ r
  mark_3 = digit (m / 1024) r 0 hr (omega arith)

-- a byte and a mark above a byte
module _ (k x n : ℕ) (hk : k < 256) (hx : x < 256) (hn : n ≤ 1) where
  abbrev u : ℕ
  u = k + x * 256 + n * 65536

  low_byte : (y d z : ℕ) → d < 256 → y ≡ d + z * 256 → y % 256 ≡ d
  low_byte y d z h e = omega (arith, h, e)

  extra_is : u / 256 % 256 ≡ x
  extra_is = low_byte (u / 256) x n hx (omega arith)

  notice_is : u / 65536 % 2 ≡ n
  notice_is = bottom (u / 65536) n hn (omega arith)
    where
      bottom : (y d : ℕ) → d ≤ 1 → y ≡ d → y % 2 ≡ d
      bottom y d h e = omega (arith, h, e)

pub slot_back :
    (v : Slot) → SlotFits v
    → slot_from (marks_word v) v.caller v.span.base v.span.count (reply_word v.reply) v.reply.word (low_word v.fds) (high_word v.fds) v.fds.len ≡ v
slot_back v r =
    let a = v.state in
    let x = one_le v.canceling in
    let y = one_le v.ended in
    let z = one_le v.returned in
    let w = one_le v.reply.notice in
    let s : marks_word v % 256 ≡ v.state = omega (arith, r.state) in
    let c : v.caller % 4294967296 ≡ v.caller = omega (arith, r.caller) in
    let p : eqb (marks_word v / 256 % 2) 1 ≡ v.canceling = mark_is (marks_word v / 256 % 2) v.canceling (mark_1 a (one v.canceling) (one v.ended) (one v.returned) r.state x y z) in
    let q : eqb (marks_word v / 512 % 2) 1 ≡ v.ended = mark_is (marks_word v / 512 % 2) v.ended (mark_2 a (one v.canceling) (one v.ended) (one v.returned) r.state x y z) in
    let t : eqb (marks_word v / 1024 % 2) 1 ≡ v.returned = mark_is (marks_word v / 1024 % 2) v.returned (mark_3 a (one v.canceling) (one v.ended) (one v.returned) r.state x y z) in
    let k : reply_word v.reply % 256 ≡ v.reply.kind = omega (arith, r.kind) in
    let g : reply_word v.reply / 256 % 256 ≡ v.reply.extra0 = extra_is v.reply.kind v.reply.extra0 (one v.reply.notice) r.kind r.extra0 w in
    let o : eqb (reply_word v.reply / 65536 % 2) 1 ≡ v.reply.notice = mark_is (reply_word v.reply / 65536 % 2) v.reply.notice (notice_is v.reply.kind v.reply.extra0 (one v.reply.notice) r.kind r.extra0 w) in
    let f = fds_back v.fds r.fds in
    λ i. record {
      state = s i;
      caller = c i;
      canceling = p i;
      ended = q i;
      returned = t i;
      span = v.span;
      reply = record { kind = k i; extra0 = g i; notice = o i; word = v.reply.word };
      fds = f i;
    }

-- what is read fits
byte_lt : (x : ℕ) → x % 256 < 256
byte_lt x = omega arith

num_desc : (ds : List ℕ) → map num (map desc ds) ≡ ds
num_desc [] = refl
num_desc (d ∷ ds) = ap {B = List ℕ} (λ r. d ∷ r) (num_desc ds)

abbrev Small : List ℕ → Type 0
Small [] = Unit {0}
Small (x ∷ l) = (x < 256) × Small l

small_at : (l : List ℕ) → Small l → (i : ℕ) → get_or l i 0 < 256
small_at [] s i = omega arith
small_at (x ∷ l) s zero = s.0
small_at (x ∷ l) s (suc i) = small_at l s.1 i

two_words : (low high : ℕ) → Small (bytes8 low ++ bytes8 high)
two_words low high = let b = byte_lt in (b _, (b _, (b _, (b _, (b _, (b _, (b _, (b _, (b _, (b _, (b _, (b _, (b _, (b _, (b _, (b _, tt))))))))))))))))

pub fds_fit : (low high n : ℕ) → ListFits (fds_from low high n)
fds_fit low high n = record { sixteen = refl; bytes = small_at (bytes8 low ++ bytes8 high) (two_words low high); len = byte_lt n }

pub slot_fits : (ws : List ℕ) (at : ℕ) → SlotFits (slot_of ws at)
unfolding slot_of
slot_fits ws at =
    record {
      state = byte_lt (get_or ws at 0);
      caller = omega arith;
      kind = byte_lt (get_or ws (at + 6) 0);
      extra0 = byte_lt (get_or ws (at + 6) 0 / 256);
      fds = fds_fit (get_or ws (at + 9) 0) (get_or ws (at + 10) 0) (get_or ws (at + 11) 0);
    }

-- an empty list, and a slot that is vacant
pub none_fits : ListFits (list_of [])
none_fits = fds_fit 0 0 0

pub vacant_fits : SlotFits vacant_slot
vacant_fits = record { state = omega arith; caller = omega arith; kind = omega arith; extra0 = omega arith; fds = none_fits }
