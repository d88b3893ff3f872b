-- An outside hold put into a handle, one equation for the answer and the state.
use Rattle.std.specs.Prelude.{ℕ, cond, not, ◌||◌, Result, Ok, Err}
use Rattle.answer.specs.declared.Accepted.{Accepted}
use Rattle.answer.specs.declared.Accepted.TheVariants.{Done}
use Rattle.answer.specs.declared.Refusal.{Refusal}
use Rattle.answer.specs.declared.Refusal.TheVariants.{BadArgument}
use Rattle.counts.specs.Counts.{less}
use Rattle.holds.specs.declared.Holds.{Holds}
use Rattle.holds.specs.Holds.{holds_with, unheld}
use Rattle.handles.specs.declared.Handles.{Handles}
use Rattle.handles.specs.Handles.{is_free, into}
use Rattle.host_put.specs.declared.HoldPut.{HoldPut}

-- one outside hold is outside no more
abbrev pub inside : Holds → ℕ → Holds
inside h d = holds_with h.holds (less h.outside d)

abbrev pub put : Result Accepted Refusal → Handles → Holds → HoldPut
put a n h = record { answer = a; handles = n; holds = h }

-- refused for a description over 63, not open or without an outside hold, and for a handle over 63 or full
abbrev pub put_of : Holds → Handles → ℕ → ℕ → HoldPut
put_of h n d k =
    cond (unheld h.holds h.outside d || not (is_free n k)) (put (Err BadArgument) n h)
    (put (Ok Done) (into n k d) (inside h d))
