-- What the answer to a list taken says of the list. Assumes nothing.
use Prim.Native.Nat.{ℕ}
use mathlib.Core.Path.{◌≡◌, refl, sym, ap}
use mathlib.Core.Bool.{Bool, true, false, cond}
use mathlib.Core.List.{List, []}
use native.Mathlib.Omega.{arith}
use Rattle.std.specs.Prelude.{Result, Ok, Err}
use Rattle.answer.specs.declared.Refusal.{Refusal}
use Rattle.answer.specs.declared.Refusal.TheVariants.{BadArgument, TooManyFds}
use Rattle.answer.specs.Numbered.{refusal_number}
use Rattle.counts.specs.Counts.{any, less_all}
use Rattle.fd_list.specs.declared.List.{List as Fds}
use Rattle.fd_list.specs.Lists.{list_of}
use Rattle.holds.specs.declared.Holds.{Holds}
use Rattle.holds.specs.Holds.{holds_with}
use Rattle.take_holds.specs.declared.Taken.{Taken}
use Rattle.take_holds.specs.Take.{bad, taken_as, take_of}
use Rattle.events.specs.Submit.{long_list}

abbrev which : Result Fds Refusal → ℕ
which (Ok l) = 0
which (Err e) = refusal_number e

abbrev of_ok : Result Fds Refusal → Fds
of_ok (Ok l) = l
of_ok (Err e) = list_of []

-- the list's two tests, the bad one first
module _ (h : Holds) (ds : List ℕ) where
  abbrev by : Bool → Bool → Taken
  by x y = cond x (taken_as (Err BadArgument) h) (cond y (taken_as (Err TooManyFds) h) (taken_as (Ok (list_of ds)) (holds_with h.holds (less_all h.outside ds))))

  pub refused_bad : (take_of h ds).list ≡ Err BadArgument → any (bad h ds) ds ≡ true
  refused_bad = go (any (bad h ds) ds) (long_list ds)
    where
      go : (x y : Bool) → (by x y).list ≡ Err BadArgument → x ≡ true
      go true y e = refl
      go false true e = absurd (omega (arith, ap which e))
      go false false e = absurd (omega (arith, ap which e))

  pub refused_long : (take_of h ds).list ≡ Err TooManyFds → (any (bad h ds) ds ≡ false) × (long_list ds ≡ true)
  refused_long = go (any (bad h ds) ds) (long_list ds)
    where
      go : (x y : Bool) → (by x y).list ≡ Err TooManyFds → (x ≡ false) × (y ≡ true)
      go true y e = absurd (omega (arith, ap which e))
      go false true e = (refl, refl)
      go false false e = absurd (omega (arith, ap which e))

  pub taken_good : (l : Fds) → (take_of h ds).list ≡ Ok l → (any (bad h ds) ds ≡ false) × (long_list ds ≡ false) × (l ≡ list_of ds)
  taken_good l = go (any (bad h ds) ds) (long_list ds)
    where
      go : (x y : Bool) → (by x y).list ≡ Ok l → (x ≡ false) × (y ≡ false) × (l ≡ list_of ds)
      go true y e = absurd (omega (arith, ap which e))
      go false true e = absurd (omega (arith, ap which e))
      go false false e = (refl, refl, sym (ap of_ok e))
