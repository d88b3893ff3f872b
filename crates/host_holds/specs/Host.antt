-- The host's events on holds, each one equation for its answer and the state.
use Rattle.std.specs.Prelude.{ℕ, cond, not, ◌||◌, Result, Ok, Err, ltb, eqb, get_or}
use Rattle.answer.specs.declared.Accepted.{Accepted}
use Rattle.answer.specs.declared.Accepted.TheVariants.{Done}
use Rattle.answer.specs.declared.Refusal.{Refusal}
use Rattle.answer.specs.declared.Refusal.TheVariants.{BadArgument, TooManyHolds}
use Rattle.counts.specs.Counts.{less, more}
use Rattle.holds.specs.declared.Holds.{Holds}
use Rattle.holds.specs.Holds.{holds_with, unheld}
use Rattle.host_holds.specs.declared.HoldsLeft.{HoldsLeft}

-- one hold more, an outside one
abbrev pub one_more : Holds → ℕ → Holds
one_more h d = holds_with (more h.holds d) (more h.outside d)

-- one hold less, an outside one
abbrev pub one_fewer : Holds → ℕ → Holds
one_fewer h d = holds_with (less h.holds d) (less h.outside d)

abbrev pub left_as : Result Accepted Refusal → Holds → HoldsLeft
left_as a h = record { answer = a; holds = h }

-- refused for a description over 63 or already open
abbrev pub open_of : Holds → ℕ → HoldsLeft
open_of h d =
    cond (ltb 63 d || not (eqb (get_or h.holds d 0) 0)) (left_as (Err BadArgument) h)
    (left_as (Ok Done) (one_more h d))

-- refused for a description over 63, not open or without an outside hold, then for one with 65,535 holds
abbrev pub copy_of : Holds → ℕ → HoldsLeft
copy_of h d =
    cond (unheld h.holds h.outside d) (left_as (Err BadArgument) h)
    (cond (eqb (get_or h.holds d 0) 65535) (left_as (Err TooManyHolds) h)
    (left_as (Ok Done) (one_more h d)))

abbrev pub drop_of : Holds → ℕ → HoldsLeft
drop_of h d =
    cond (unheld h.holds h.outside d) (left_as (Err BadArgument) h)
    (left_as (Ok Done) (one_fewer h d))
