-- A number and its bytes: each is read back from the other. Assumes nothing.
use mathlib.Core.Path.{◌≡◌, sym, ap, ap₂, ◌∙◌}
use mathlib.Core.List.{List, [], ◌∷◌, ◌++◌}
use Prim.Native.Nat.{ℕ, ◌+◌, ◌*◌, ◌/◌, ◌%◌, ◌<◌}
use native.Mathlib.Omega.{arith}
use native.Mathlib.Nat.{div-add-mod', div-div-eq-div-mul}
use lib.Arith.{digits_div, digits_mod}
use Rattle.le.specs.Le.{byte, half, word, bytes4, bytes8}

-- a quotient is the next one and a byte
next : (m x : ℕ) → x / m ≡ x / (m * 256) * 256 + x / m % 256
next m x = sym (div-add-mod' (x / m) 256) ∙ ap (λ (q : ℕ). q * 256 + x / m % 256) (div-div-eq-div-mul x m 256)

-- the low four bytes of a number and what is left of it
split : (x : ℕ) → half (bytes4 x) 0 + x / 0x1_0000_0000 * 0x1_0000_0000 ≡ x
split x = sum x (x / 0x100) (x / 0x1_0000) (x / 0x100_0000) (x / 0x1_0000_0000) _ _ _ _ (omega arith) (next 0x100 x) (next 0x1_0000 x) (next 0x100_0000 x)
  where
    sum :
        (x q₁ q₂ q₃ q₄ d₀ d₁ d₂ d₃ : ℕ) → x ≡ q₁ * 256 + d₀ → q₁ ≡ q₂ * 256 + d₁ → q₂ ≡ q₃ * 256 + d₂ → q₃ ≡ q₄ * 256 + d₃
        → d₀ + d₁ * 0x100 + d₂ * 0x1_0000 + d₃ * 0x100_0000 + q₄ * 0x1_0000_0000 ≡ x
    sum x q₁ q₂ q₃ q₄ d₀ d₁ d₂ d₃ e₀ e₁ e₂ e₃ = omega arith

pub half_bytes4 : (x : ℕ) → x < 0x1_0000_0000 → half (bytes4 x) 0 ≡ x
half_bytes4 x h = least _ _ (split x) (omega arith)
  where
    least : (s q : ℕ) → s + q * 0x1_0000_0000 ≡ x → q ≡ 0 → s ≡ x
    least s q e z = omega arith

pub word_bytes8 : (x : ℕ) → x < 0x1_0000_0000_0000_0000 → word (bytes8 x) 0 ≡ x
word_bytes8 x h =
    ap (λ (q : ℕ). half (bytes4 x) 0 + q * 0x1_0000_0000) (half_bytes4 (x / 0x1_0000_0000) (omega arith)) ∙ split x

-- the byte of weight m
place : (m lo d hi x : ℕ) → lo < m → d < 256 → x ≡ (hi * 256 + d) * m + lo → x / m % 256 ≡ d
place m lo d hi x l h e = ap (λ (y : ℕ). y / m % 256) e ∙ ap (λ (y : ℕ). y % 256) (digits_div (hi * 256 + d) l) ∙ digits_mod hi h

-- four bytes in a sum, whatever stands above them
pub four :
    (a b c d q : ℕ) → a < 256 → b < 256 → c < 256 → d < 256
    → bytes4 (a + b * 0x100 + c * 0x1_0000 + d * 0x100_0000 + q * 0x1_0000_0000) ≡ a ∷ b ∷ c ∷ d ∷ []
four a b c d q ha hb hc hd =
    let x : ℕ = a + b * 0x100 + c * 0x1_0000 + d * 0x100_0000 + q * 0x1_0000_0000 in
    let p₀ : x % 256 ≡ a = omega (arith, digits_mod (b + c * 0x100 + d * 0x1_0000 + q * 0x100_0000) ha) in
    let p₁ : x / 0x100 % 256 ≡ b = place 0x100 a b (c + d * 0x100 + q * 0x1_0000) x (omega arith) hb (omega arith) in
    let p₂ : x / 0x1_0000 % 256 ≡ c = place 0x1_0000 (a + b * 0x100) c (d + q * 0x100) x (omega arith) hc (omega arith) in
    let p₃ : x / 0x100_0000 % 256 ≡ d = place 0x100_0000 (a + b * 0x100 + c * 0x1_0000) d q x (omega arith) hd (omega arith) in
    cc

-- what stands above the low four bytes
pub above : (s q : ℕ) → s < 0x1_0000_0000 → (s + q * 0x1_0000_0000) / 0x1_0000_0000 ≡ q
above s q h = omega arith

module _ (l : List ℕ) (small : (i : ℕ) → byte l i < 256) where
  abbrev four_at : ℕ → List ℕ
  four_at k = byte l k ∷ byte l (k + 1) ∷ byte l (k + 2) ∷ byte l (k + 3) ∷ []

  half_lt : (k : ℕ) → half l k < 0x1_0000_0000
  half_lt k = omega (arith, small k, small (k + 1), small (k + 2), small (k + 3))

  low4 : (k q : ℕ) → bytes4 (half l k + q * 0x1_0000_0000) ≡ four_at k
  low4 k q = four (byte l k) (byte l (k + 1)) (byte l (k + 2)) (byte l (k + 3)) q (small k) (small (k + 1)) (small (k + 2)) (small (k + 3))

  pub bytes4_half : (k : ℕ) → bytes4 (half l k) ≡ four_at k
  bytes4_half k = ap bytes4 (omega arith) ∙ low4 k 0

  pub bytes8_word : (k : ℕ) → bytes8 (word l k) ≡ four_at k ++ four_at (k + 4)
  bytes8_word k = ap₂ (λ (s t : List ℕ). s ++ t) (low4 k (half l (k + 4))) (ap bytes4 (above (half l k) (half l (k + 4)) (half_lt k)) ∙ bytes4_half (k + 4))
