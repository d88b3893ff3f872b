-- A list counted description by description. Assumes nothing.
use Prim.Native.Nat.{ℕ, suc, ◌+◌, ◌-◌, ◌≤◌, ◌<◌}
use mathlib.Core.Path.{◌≡◌, refl, ap}
use mathlib.Core.Bool.{Bool, true, false, cond, ◌||◌}
use mathlib.Core.List.{List, [], ◌∷◌}
use native.Mathlib.Omega.{arith}
use native.Mathlib.Decide.{ℕ_discrete, dec_lt}
use lib.Dec.{ltb, eqb}
use lib.ListN.{get_or, length}
use borrow.Author.Tests.{lt-ltb, le-ltb, eq-eqb, ne_eqb}
use Rattle.counts.specs.Counts.{times, any}
use Rattle.counts.proofs.Laws.{times_cons, one_self}
use Rattle.answer.specs.declared.Refusal.{Refusal}
use Rattle.answer.specs.declared.Refusal.TheVariants.{BadArgument, TooManyFds}
use Rattle.take_holds.specs.Take.{bad_in}
use Rattle.take_holds.proofs.Each.{allowed_of}
use Rattle.take_holds.proofs.Walk.{or_true, any_at}

-- how many words are d or more
abbrev pub from : ℕ → List ℕ → ℕ
from d [] = 0
from d (x ∷ ws) = cond (ltb x d) (from d ws) (suc (from d ws))

pub from_all : (ws : List ℕ) → length ws ≡ from 0 ws
from_all [] = refl
from_all (x ∷ ws) = rw (le-ltb x 0 (omega arith)) (ap suc (from_all ws))

from_next : (d : ℕ) (ws : List ℕ) → from d ws ≡ times d ws + from (d + 1) ws
from_next d [] = refl
from_next d (x ∷ ws) = go (from_next d ws) (dec_lt x d) (ℕ_discrete x d)
  where
    go : from d ws ≡ times d ws + from (d + 1) ws → Dec (x < d) → Dec (x ≡ d) → from d (x ∷ ws) ≡ times d (x ∷ ws) + from (d + 1) (x ∷ ws)
    go h (yes p) q = rw (lt-ltb x d p, ne_eqb x d (λ e. omega arith), lt-ltb x (d + 1) (omega arith)) h
    go h (no p) (yes q) = rw (le-ltb x d (omega arith), eq-eqb x d q, lt-ltb x (d + 1) (omega arith)) (omega arith)
    go h (no p) (no q) = rw (le-ltb x d (omega arith), ne_eqb x d q, le-ltb x (d + 1) (omega arith)) (omega arith)

over : (p : ℕ → Bool) → ((x : ℕ) → 63 < x → p x ≡ true) → (ws : List ℕ) → 0 < from 64 ws → any p ws ≡ true
over p f [] b = absurd (omega arith)
over p f (x ∷ ws) b = go (over p f ws) (dec_lt x 64)
  where
    go : (0 < from 64 ws → any p ws ≡ true) → Dec (x < 64) → p x || any p ws ≡ true
    go h (yes q) = rw (h (rw (lt-ltb x 64 q) at b)) (or_true (p x))
    go h (no q) = rw (f x (omega arith)) refl

fine : (p : ℕ → Bool) (ws : List ℕ) → from 64 ws ≡ 0 → ((x : ℕ) → x < 64 → 0 < times x ws → p x ≡ false) → any p ws ≡ false
fine p [] e f = refl
fine p (x ∷ ws) e f = go (fine p ws) (dec_lt x 64)
  where
    go : (from 64 ws ≡ 0 → ((y : ℕ) → y < 64 → 0 < times y ws → p y ≡ false) → any p ws ≡ false) → Dec (x < 64) → p x || any p ws ≡ false
    go h (yes q) =
        let z : p x ≡ false = f x q (omega (arith, times_cons x x ws, one_self x)) in
        let y : any p ws ≡ false = h (rw (lt-ltb x 64 q) at e) (λ v r s. f v r (omega (arith, times_cons v x ws))) in
        rw (z, y) refl
    go h (no q) = absurd (let z : suc (from 64 ws) ≡ 0 = rw (le-ltb x 64 (omega arith)) at e in omega arith)

module _ (all out ws : List ℕ) (d : ℕ) where
  too_often : allowed_of all out d < times d ws → bad_in all out ws d ≡ true
  too_often b = go (ltb 63 d) (eqb (get_or all d 0) 0) b
    where
      go : (x y : Bool) → cond (x || y) 0 (get_or out d 0) < times d ws → x || (y || ltb (get_or out d 0) (times d ws)) ≡ true
      go true y p = refl
      go false true p = refl
      go false false p = lt-ltb (get_or out d 0) (times d ws) p

  not_bad : times d ws ≤ allowed_of all out d → 0 < times d ws → bad_in all out ws d ≡ false
  not_bad b z = go (ltb 63 d) (eqb (get_or all d 0) 0) b
    where
      go : (x y : Bool) → times d ws ≤ cond (x || y) 0 (get_or out d 0) → x || (y || ltb (get_or out d 0) (times d ws)) ≡ false
      go true y p = absurd (omega arith)
      go false true p = absurd (omega arith)
      go false false p = le-ltb (get_or out d 0) (times d ws) p

abbrev refusal : List ℕ → List ℕ → List ℕ → Refusal
refusal all out ws = cond (any (bad_in all out ws) ws) BadArgument TooManyFds

-- no description below d is listed too often, and n words are d or more
abbrev pub Counted : List ℕ → List ℕ → List ℕ → ℕ → ℕ → Type 0
Counted all out ws n d = (d ≤ 64) × (n ≡ from d ws) × ((e : ℕ) → e < d → times e ws ≤ allowed_of all out e)

module _ (all out ws : List ℕ) (n d : ℕ) (g : Counted all out ws n d) where
  module _ (k : ℕ) (s : k ≡ times d ws) where
    pub count_fits : k ≤ n
    count_fits = omega (arith, from_next d ws, g.1)

    module _ (m : ℕ) (r : m ≡ allowed_of all out d) where
      pub count_over : m < k → BadArgument ≡ refusal all out ws
      count_over b = rw (any_at (bad_in all out ws) d ws (too_often all out ws d (omega arith)) (omega arith)) refl

      pub count_next : d < 64 → k ≤ m → Counted all out ws (n - k) (d + 1)
      count_next b l = (omega arith, omega (arith, from_next d ws, g.1), λ e q. go e q (ℕ_discrete e d))
        where
          go : (e : ℕ) → e < d + 1 → Dec (e ≡ d) → times e ws ≤ allowed_of all out e
          go e q (yes p) = rw p (omega arith)
          go e q (no p) = g.2 e (omega arith)

  module _ (b : 64 ≤ d) where
    pub count_left : (n ≡ 0 → ⊥) → BadArgument ≡ refusal all out ws
    count_left z =
        let e : d ≡ 64 = omega (arith, g.0) in
        let y : n ≡ from 64 ws = rw e at g.1 in
        rw (over (bad_in all out ws) (λ x p. rw (lt-ltb 63 x p) refl) ws (omega arith)) refl

    pub count_end : n ≡ 0 → TooManyFds ≡ refusal all out ws
    count_end z =
        let e : d ≡ 64 = omega (arith, g.0) in
        let y : n ≡ from 64 ws = rw e at g.1 in
        rw (fine (bad_in all out ws) ws (omega arith) (λ x p q. not_bad all out ws x (g.2 x (omega arith)) q)) refl
