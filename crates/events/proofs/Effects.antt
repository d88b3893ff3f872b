-- The wakes among effects, three words each. Assumes nothing.
use Prim.Native.Nat.{ℕ, zero, suc, ◌+◌, ◌*◌}
use mathlib.Core.Path.{◌≡◌, refl, sym, ap, ap₂, ◌∙◌}
use mathlib.Core.Bool.{Bool, true, false, cond}
use mathlib.Core.List.{List, [], ◌∷◌, ◌++◌, append-nil, append_assoc}
use native.Mathlib.Omega.{arith}
use lib.Dec.{eqb}
use lib.ListN.{length, length-append}
use Rattle.closes.specs.Closes.{closes}
use Rattle.events.specs.History.{Fact, to, end, book}
use Rattle.events.specs.Demand3.{on_reply}
use Rattle.events.specs.Effects.{wakes_for, wakes_in}

-- so many effects
abbrev pub Triples : List ℕ → Type 0
Triples fx = (n : ℕ) × (length fx ≡ n * 3)

pub triples_append : (fx gx : List ℕ) → Triples fx → Triples gx → Triples (fx ++ gx)
triples_append fx gx p q = (p.0 + q.0, omega (arith, p.1, q.1, length-append fx gx))

wakes_by : (b : Bool) (k x y : ℕ) (l m : List ℕ) → cond b (k ∷ x ∷ y ∷ l ++ m) (l ++ m) ≡ cond b (k ∷ x ∷ y ∷ l) l ++ m
wakes_by true k x y l m = refl
wakes_by false k x y l m = refl

pub wakes_append : (n : ℕ) (fx gx : List ℕ) → length fx ≡ n * 3 → wakes_in (fx ++ gx) ≡ wakes_in fx ++ wakes_in gx
wakes_append zero [] gx e = refl
wakes_append (suc n) [] gx e = absurd (omega (arith, e))
wakes_append zero (k ∷ fx) gx e = absurd (omega (arith, e))
wakes_append (suc n) (k ∷ []) gx e = absurd (omega (arith, e))
wakes_append (suc n) (k ∷ x ∷ []) gx e = absurd (omega (arith, e))
wakes_append (suc n) (k ∷ x ∷ y ∷ fx) gx e =
    ap (λ (l : List ℕ). cond (eqb k 1) (k ∷ x ∷ y ∷ l) l) (wakes_append n fx gx (omega (arith, e))) ∙ wakes_by (eqb k 1) k x y (wakes_in fx) (wakes_in gx)

-- effects that wake nobody
pub record Silent (fx : List ℕ) : Type 0 where
  pub whole : Triples fx
  pub none : wakes_in fx ≡ []

pub silent_none : Silent []
silent_none = record { whole = (0, refl); none = refl }

pub silent_append : (fx gx : List ℕ) → Silent fx → Silent gx → Silent (fx ++ gx)
silent_append fx gx p q =
    record {
      whole = triples_append fx gx p.whole q.whole;
      none = wakes_append p.whole.0 fx gx p.whole.1 ∙ ap₂ ◌++◌ p.none q.none;
    }

pub silent_closes : (ds : List ℕ) → Silent (closes ds)
silent_closes [] = silent_none
silent_closes (d ∷ ds) = silent_append (3 ∷ d ∷ 0 ∷ []) (closes ds) (record { whole = (1, refl); none = refl }) (silent_closes ds)

-- the wakes due for what happened in two parts
pub wakes_over : (gs fs h : List Fact) → wakes_for h (gs ++ fs) ≡ wakes_for h fs ++ wakes_for (fs ++ h) gs
wakes_over [] fs h = sym (append-nil (wakes_for h fs))
wakes_over (to n x ∷ gs) fs h =
    ap₂ (λ (l : List ℕ) (past : List Fact). l ++ on_reply x (cond (book past n).ended [] (1 ∷ (book past n).caller ∷ n ∷ [])) [] [])
    (wakes_over gs fs h) (append_assoc gs fs h)
    ∙ append_assoc (wakes_for h fs) (wakes_for (fs ++ h) gs) _
wakes_over (end c ∷ gs) fs h = wakes_over gs fs h
