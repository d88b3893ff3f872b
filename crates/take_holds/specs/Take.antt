-- A list of holds taken from outside holds.
use Rattle.std.specs.Prelude.{ℕ, Bool, cond, ◌||◌, Result, Ok, Err, Option, Some, None, List, ltb, eqb, get_or, length}
use Rattle.answer.specs.declared.Refusal.{Refusal}
use Rattle.answer.specs.declared.Refusal.TheVariants.{BadArgument, TooManyFds}
use Rattle.fd_list.specs.declared.List.{List as Fds}
use Rattle.fd_list.specs.Lists.{list_of}
use Rattle.counts.specs.Counts.{less_all, times, any}
use Rattle.holds.specs.declared.Holds.{Holds}
use Rattle.holds.specs.Holds.{holds_with}
use Rattle.take_holds.specs.declared.Taken.{Taken}

abbrev pub taken_as : Result Fds Refusal → Holds → Taken
taken_as l h = record { list = l; holds = h }

-- what 205 says of an entry of the list ds: over 63, not open, or listed more often than it has outside holds
abbrev pub bad_in : List ℕ → List ℕ → List ℕ → ℕ → Bool
bad_in all out ds d = ltb 63 d || (eqb (get_or all d 0) 0 || ltb (get_or out d 0) (times d ds))

abbrev pub bad : Holds → List ℕ → ℕ → Bool
bad h ds d = bad_in h.holds h.outside ds d

abbrev pub take_of : Holds → List ℕ → Taken
take_of h ds =
    cond (any (bad h ds) ds) (taken_as (Err BadArgument) h)
    (cond (ltb 16 (length ds)) (taken_as (Err TooManyFds) h)
    (taken_as (Ok (list_of ds)) (holds_with h.holds (less_all h.outside ds))))

-- the list where it can be taken
abbrev pub listed_of : Result Fds Refusal → Option Fds
listed_of (Ok l) = Some l
listed_of (Err r) = None

-- what a list is refused for that cannot be taken; of one that can, a BadArgument for which nobody asks
abbrev pub refusal_of : Holds → List ℕ → Refusal
refusal_of h ds = cond (ltb 16 (length ds)) (cond (any (bad h ds) ds) BadArgument TooManyFds) BadArgument
