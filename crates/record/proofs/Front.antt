-- A record's fields lie in its first 88 bytes, its head in the first 16. Assumes nothing.
use Prim.Native.Nat.{ℕ, ◌+◌, ◌*◌, ◌<◌, ◌≤◌}
use mathlib.Core.Path.{◌≡◌}
use mathlib.Core.List.{List}
use native.Mathlib.Omega.{arith}
use lib.ListN.{take}
use lib.Seq.{get_or-take}
use Rattle.le.specs.Le.{byte, half, word}
use Rattle.record.specs.Record.{record_of, no_words, head_of}

module _ (bs : List ℕ) (n : ℕ) where
  abbrev front : List ℕ
  front = take n bs

  byte_front : (k : ℕ) → k < n → byte front k ≡ byte bs k
  byte_front k h = get_or-take n bs k 0 h

  half_front : (k : ℕ) → k + 4 ≤ n → half front k ≡ half bs k
  half_front k h =
      λ i. byte_front k (omega (arith, h)) i
      + byte_front (k + 1) (omega (arith, h)) i * 0x100
      + byte_front (k + 2) (omega (arith, h)) i * 0x1_0000
      + byte_front (k + 3) (omega (arith, h)) i * 0x100_0000

  word_front : (k : ℕ) → k + 8 ≤ n → word front k ≡ word bs k
  word_front k h = λ i. half_front k (omega (arith, h)) i + half_front (k + 4) (omega (arith, h)) i * 0x1_0000_0000

pub record_front : (bs : List ℕ) → record_of (take 88 bs) ≡ record_of bs
record_front bs =
    λ i. record {
      kind = byte_front bs 88 0 (omega arith) i;
      first = byte_front bs 88 1 (omega arith) i;
      second = byte_front bs 88 2 (omega arith) i;
      flags = byte_front bs 88 3 (omega arith) i;
      number = half_front bs 88 4 (omega arith) i;
      uid = half_front bs 88 8 (omega arith) i;
      gid = half_front bs 88 12 (omega arith) i;
      words = record {
        0 = word_front bs 88 16 (omega arith) i;
        1 = word_front bs 88 24 (omega arith) i;
        2 = word_front bs 88 32 (omega arith) i;
        3 = word_front bs 88 40 (omega arith) i;
        4 = word_front bs 88 48 (omega arith) i;
        5 = word_front bs 88 56 (omega arith) i;
        6 = word_front bs 88 64 (omega arith) i;
        7 = word_front bs 88 72 (omega arith) i;
        8 = word_front bs 88 80 (omega arith) i;
      };
    }

pub head_front : (bs : List ℕ) → head_of (take 16 bs) ≡ head_of bs
head_front bs =
    λ i. record {
      kind = byte_front bs 16 0 (omega arith) i;
      first = byte_front bs 16 1 (omega arith) i;
      second = byte_front bs 16 2 (omega arith) i;
      flags = byte_front bs 16 3 (omega arith) i;
      number = half_front bs 16 4 (omega arith) i;
      uid = half_front bs 16 8 (omega arith) i;
      gid = half_front bs 16 12 (omega arith) i;
      words = no_words;
    }
