-- Bytes and words copied one after the other: what is left to copy from here gives the whole. Assumes nothing.
use mathlib.Core.Path.{◌≡◌, refl, sym, ap, ap₂, ◌∙◌}
use mathlib.Core.Bool.{Bool, true, false}
use mathlib.Core.List.{List, ◌∷◌, ◌++◌}
use Prim.Native.Nat.{ℕ, suc, min, ◌+◌, ◌-◌, ◌*◌, ◌/◌, ◌%◌, ◌<◌, ◌≤◌}
use native.Mathlib.Omega.{arith}
use native.Mathlib.Nat.{div-add-mod'}
use lib.Dec.{ltb}
use borrow.Author.Tests.{ltb-true, ltb-false}
use lib.ListN.{length, get_or, take, drop, length-take, length-drop}
use lib.Seq.{sets, drop-cons, take-append-le, take-append-add, get_or-take, get_or-drop}
use Rattle.le.specs.Le.{bytes8, bytes_of}
use Rattle.word_put.proofs.Stores.{sets_then}
use Rattle.wait_queue.specs.declared.WaitQueue.{WaitQueue}
use Rattle.wait_queue.specs.Queue.{word_at, words_from}
use Rattle.wait_queue.proofs.Unread.{words_split, words_are, bytes_append, length_bytes, length_words}

-- one word more of a list b
module _ (b : List ℕ) (at : ℕ) where
  pub run_more :
      (whole l r : List ℕ) (j : ℕ) → j < length b → r ≡ sets l (at + j * 8) (take 8 (bytes8 (get_or b j 0)))
      → sets l (at + j * 8) (bytes_of (drop j b)) ≡ whole → sets r (at + (j + 1) * 8) (bytes_of (drop (j + 1) b)) ≡ whole
  run_more whole l r j h e p =
      ap₂ (λ (s : List ℕ) (k : ℕ). sets s k (bytes_of (drop (j + 1) b))) e place
      ∙ ap (λ (k : ℕ). sets (sets l (at + j * 8) (bytes8 (get_or b j 0))) (at + j * 8 + 8) (bytes_of (drop k b))) one
      ∙ sets_then (bytes8 (get_or b j 0)) (bytes_of (drop (suc j) b)) l (at + j * 8)
      ∙ sym (ap (λ (s : List ℕ). sets l (at + j * 8) (bytes_of s)) (drop-cons b j 0 h)) ∙ p
    where
      place : at + (j + 1) * 8 ≡ at + j * 8 + 8
      place = omega arith

      one : j + 1 ≡ suc j
      one = omega arith

-- words that stand one after the other in the ring: up to its end no place is turned round
module _ (q : WaitQueue) (ws : List ℕ) (i k : ℕ) (size : length ws ≡ 1024) (fits : (q.first * 8 + i) % 1024 + k ≤ 1024) where
  run_is : words_from q ws i k ≡ take k (drop ((q.first * 8 + i) % 1024) ws)
  run_is =
      ap (words_from q ws i) (sym count)
      ∙ words_are q ws (take k (drop ((q.first * 8 + i) % 1024) ws)) i
      (λ (j : ℕ) (h : j < length (take k (drop ((q.first * 8 + i) % 1024) ws))). word j (omega (arith, h, count)))
    where
      count : length (take k (drop ((q.first * 8 + i) % 1024) ws)) ≡ k
      count = length-take k (drop ((q.first * 8 + i) % 1024) ws) ∙ (let z : min k (length (drop ((q.first * 8 + i) % 1024) ws)) ≡ k = omega (arith, size, fits, length-drop ((q.first * 8 + i) % 1024) ws) in z)

      turned : (x j : ℕ) → x % 1024 + j < 1024 → (x + j) % 1024 ≡ x % 1024 + j
      turned x j h = omega (arith, h, div-add-mod' x 1024, div-add-mod' (x + j) 1024)

      at_place : (j : ℕ) → j < k → (q.first * 8 + (i + j)) % 1024 ≡ (q.first * 8 + i) % 1024 + j
      at_place j h = ap (λ (x : ℕ). x % 1024) (let z : q.first * 8 + (i + j) ≡ q.first * 8 + i + j = omega arith in z) ∙ turned (q.first * 8 + i) j (omega (arith, fits, h))

      word : (j : ℕ) → j < k → word_at q ws (i + j) ≡ get_or (take k (drop ((q.first * 8 + i) % 1024) ws)) j 0
      word j h =
          ap (λ (p : ℕ). get_or ws p 0) (at_place j h)
          ∙ sym (get_or-take k (drop ((q.first * 8 + i) % 1024) ws) j 0 h ∙ get_or-drop ((q.first * 8 + i) % 1024) ws j 0)

-- a run more of the unread words: m of them in all, n bytes to copy
module _ (q : WaitQueue) (ws : List ℕ) (m n : ℕ) where
  -- the bytes from word i on
  abbrev pub left : ℕ → List ℕ
  left i = take (n - i * 8) (bytes_of (words_from q ws i (m - i)))

  -- a turn of the loop: k words
  left_cut : (i k : ℕ) → i + k ≤ m → (i + k) * 8 ≤ n → left i ≡ bytes_of (words_from q ws i k) ++ left (i + k)
  left_cut i k h g =
      ap₂ (λ (a b : ℕ). take a (bytes_of (words_from q ws i b))) size words
      ∙ ap (λ (r : List ℕ). take (length (bytes_of (words_from q ws i k)) + (n - (i + k) * 8)) r)
      (ap bytes_of (words_split q ws k (m - (i + k)) i) ∙ bytes_append (words_from q ws i k) (words_from q ws (i + k) (m - (i + k))))
      ∙ take-append-add (bytes_of (words_from q ws i k)) (bytes_of (words_from q ws (i + k) (m - (i + k)))) (n - (i + k) * 8)
    where
      words : m - i ≡ k + (m - (i + k))
      words = omega arith

      size : n - i * 8 ≡ length (bytes_of (words_from q ws i k)) + (n - (i + k) * 8)
      size = omega (arith, length_bytes (words_from q ws i k), length_words q ws k i)

  pub again :
      (whole l r : List ℕ) (i p k : ℕ) → length ws ≡ 1024 → n ≤ m * 8 → i < n / 8 → p ≡ (q.first * 8 + i) % 1024 → k ≡ min (1024 - p) (n / 8 - i)
      → r ≡ sets l (i * 8) (bytes_of (take (p + k - p) (drop p ws))) → sets l (i * 8) (left i) ≡ whole → sets r ((i + k) * 8) (left (i + k)) ≡ whole
  again whole l r i p k size h g ep ek er w =
      ap₂ (λ (s : List ℕ) (x : ℕ). sets s x (left (i + k)))
      (er ∙ ap₂ (λ (x y : ℕ). sets l (i * 8) (bytes_of (take x (drop y ws)))) count ep ∙ sym (ap (λ (s : List ℕ). sets l (i * 8) (bytes_of s)) (run_is q ws i k size (omega (arith, ep, ek)))))
      next
      ∙ sets_then (bytes_of (words_from q ws i k)) (left (i + k)) l (i * 8)
      ∙ sym (ap (sets l (i * 8)) (left_cut i k (omega (arith, ek, h)) (omega (arith, ek)))) ∙ w
    where
      count : p + k - p ≡ k
      count = omega arith

      next : (i + k) * 8 ≡ i * 8 + length (bytes_of (words_from q ws i k))
      next = omega (arith, length_bytes (words_from q ws i k), length_words q ws k i)

  -- the part of a word that is left
  cut : (i : ℕ) → i < m → words_from q ws i (m - i) ≡ word_at q ws i ∷ words_from q ws (suc i) (m - (i + 1))
  unfolding words_from
  cut i h = ap (words_from q ws i) count
    where
      count : m - i ≡ suc (m - (i + 1))
      count = omega arith

  words_end :
      (l : List ℕ) (i : ℕ) → i ≤ m → n ≤ m * 8 → n < i * 8 + 8 → i * 8 ≤ n
      → sets l (i * 8) (take (n - i * 8) (bytes8 (word_at q ws i))) ≡ sets l (i * 8) (left i)
  words_end l i h g u v = go (ltb i m) refl
    where
      go : (b : Bool) → ltb i m ≡ b → sets l (i * 8) (take (n - i * 8) (bytes8 (word_at q ws i))) ≡ sets l (i * 8) (left i)
      go true e =
          sym
          (ap (λ (r : List ℕ). sets l (i * 8) (take (n - i * 8) (bytes_of r))) (cut i (ltb-true i m e))
          ∙ ap (sets l (i * 8)) (take-append-le (n - i * 8) (bytes8 (word_at q ws i)) (bytes_of (words_from q ws (suc i) (m - (i + 1)))) (omega arith)))
      go false e =
          ap (λ (k : ℕ). sets l (i * 8) (take k (bytes8 (word_at q ws i)))) none
          ∙ sym (ap (λ (k : ℕ). sets l (i * 8) (take k (bytes_of (words_from q ws i (m - i))))) none)
        where
          none : n - i * 8 ≡ 0
          none = omega (arith, ltb-false i m e)

  pub finish :
      (whole l r : List ℕ) (i p : ℕ) → p ≡ (q.first * 8 + i) % 1024 → r ≡ sets l (i * 8) (take (n - i * 8) (bytes8 (get_or ws p 0)))
      → n ≤ m * 8 → i ≡ n / 8 → sets l (i * 8) (left i) ≡ whole → r ≡ whole
  finish whole l r i p d e g h w =
      e ∙ ap (λ (x : ℕ). sets l (i * 8) (take (n - i * 8) (bytes8 (get_or ws x 0)))) d
      ∙ words_end l i (omega arith) g (omega arith) (omega arith) ∙ w
