-- Decode of encode is the entry, and encode of decode is the same bytes, the reserved ones zero. Assumes nothing.
use mathlib.Core.Path.{◌≡◌, sym, ap, ap₂, ◌∙◌}
use mathlib.Core.List.{List, [], ◌∷◌, ◌++◌}
use Prim.Native.Nat.{ℕ, zero, suc, ◌+◌, ◌*◌, ◌/◌, ◌<◌}
use native.Mathlib.Nat.{add-zero, le_of_eq}
use native.Mathlib.Omega.{arith}
use lib.ListN.{length, drop, set, drop_of_length-le}
use lib.Seq.{drop-cons}
use Rattle.le.specs.Le.{byte, bytes4, bytes8, bytes_of}
use Rattle.le.proofs.Digits.{half_bytes4, word_bytes8, bytes4_half, bytes8_word, four, above}
use Rattle.schemev2.specs.Entry.{sqe_of, sqe_bytes, sqe_words, cqe_of, cqe_bytes}
use Rattle.schemev2.specs.declared.Sqe.{Sqe}
use Rattle.schemev2.specs.declared.Cqe.{Cqe}

-- every entry of its type lies in these bounds
pub record SqeFits (e : Sqe) : Type 0 where
  pub tag : e.tag < 0x1_0000_0000
  pub arg0 : e.args.0 < 0x1_0000_0000_0000_0000
  pub arg1 : e.args.1 < 0x1_0000_0000_0000_0000
  pub arg2 : e.args.2 < 0x1_0000_0000_0000_0000
  pub arg3 : e.args.3 < 0x1_0000_0000_0000_0000
  pub arg4 : e.args.4 < 0x1_0000_0000_0000_0000
  pub arg5 : e.args.5 < 0x1_0000_0000_0000_0000
  pub caller : e.caller < 0x1_0000_0000_0000_0000

pub sqe_decoded : (e : Sqe) → SqeFits e → sqe_of (sqe_bytes e) ≡ e
sqe_decoded e f =
    λ i. record {
      opcode = e.opcode;
      sqe_flags = e.sqe_flags;
      tag = half_bytes4 e.tag f.tag i;
      args =
          record {
            0 = word_bytes8 e.args.0 f.arg0 i;
            1 = word_bytes8 e.args.1 f.arg1 i;
            2 = word_bytes8 e.args.2 f.arg2 i;
            3 = word_bytes8 e.args.3 f.arg3 i;
            4 = word_bytes8 e.args.4 f.arg4 i;
            5 = word_bytes8 e.args.5 f.arg5 i;
          };
      caller = word_bytes8 e.caller f.caller i;
    }

pub record CqeFits (e : Cqe) : Type 0 where
  pub tag : e.tag < 0x1_0000_0000
  pub result : e.result < 0x1_0000_0000_0000_0000

pub cqe_decoded : (e : Cqe) → CqeFits e → cqe_of (cqe_bytes e) ≡ e
cqe_decoded e f =
    λ i. record {
      flags = e.flags;
      extra_raw = e.extra_raw;
      tag = half_bytes4 e.tag f.tag i;
      result = word_bytes8 e.result f.result i;
    }

-- n elements from place k
abbrev listed : ℕ → ℕ → List ℕ → List ℕ
listed zero k l = []
listed (suc n) k l = byte l k ∷ listed n (suc k) l

spelt : (n k : ℕ) (l : List ℕ) → length l ≡ k + n → drop k l ≡ listed n k l
spelt zero k l e = drop_of_length-le l (le_of_eq (e ∙ add-zero k))
spelt (suc n) k l e =
    drop-cons l k 0 (omega (arith, e)) ∙ ap (λ (r : List ℕ). byte l k ∷ r) (spelt n (suc k) l (omega (arith, e)))

-- each element of a list of bytes is below 256
abbrev pub AllBytes : List ℕ → Type 0
AllBytes l = (i : ℕ) → byte l i < 256

pub cqe_encoded : (l : List ℕ) → length l ≡ 16 → AllBytes l → cqe_bytes (cqe_of l) ≡ l
cqe_encoded l e small =
    ap₂ (λ (t r : List ℕ). (byte l 0 ∷ byte l 1 ∷ byte l 2 ∷ byte l 3 ∷ t) ++ r) (bytes4_half l small 4) (bytes8_word l small 8) ∙ sym (spelt 16 0 l e)

-- the same 64 bytes with bytes 2 and 3 zero
pub sqe_encoded : (l : List ℕ) → length l ≡ 64 → AllBytes l → sqe_bytes (sqe_of l) ≡ set (set l 2 0) 3 0
sqe_encoded l e small =
    (λ i. (byte l 0 ∷ byte l 1 ∷ 0 ∷ 0 ∷ bytes4_half l small 4 i) ++ bytes8_word l small 8 i ++ bytes8_word l small 16 i ++ bytes8_word l small 24 i ++ bytes8_word l small 32 i ++ bytes8_word l small 40 i ++ bytes8_word l small 48 i ++ bytes8_word l small 56 i)
    ∙ ap (λ (m : List ℕ). set (set m 2 0) 3 0) (sym (spelt 64 0 l e))

-- the words of an entry are its bytes
pub sqe_words_lem : (e : Sqe) → e.opcode < 256 → e.sqe_flags < 256 → e.tag < 0x1_0000_0000 → bytes_of (sqe_words e) ≡ sqe_bytes e
sqe_words_lem e o f t =
    λ i. (low i ++ high i)
    ++ bytes8 e.args.0 ++ bytes8 e.args.1 ++ bytes8 e.args.2
    ++ bytes8 e.args.3 ++ bytes8 e.args.4 ++ bytes8 e.args.5 ++ bytes8 e.caller
  where
    low : bytes4 (e.opcode + e.sqe_flags * 0x100 + e.tag * 0x1_0000_0000) ≡ e.opcode ∷ e.sqe_flags ∷ 0 ∷ 0 ∷ []
    low = ap bytes4 (omega arith) ∙ four e.opcode e.sqe_flags 0 0 e.tag o f (omega arith) (omega arith)

    high : bytes4 ((e.opcode + e.sqe_flags * 0x100 + e.tag * 0x1_0000_0000) / 0x1_0000_0000) ≡ bytes4 e.tag
    high = ap bytes4 (above (e.opcode + e.sqe_flags * 0x100) e.tag (omega arith))
