-- The driver's handles, and an obtain entry.
use Rattle.std.specs.Prelude.{ℕ, suc, Bool, true, false, cond, ◌&&◌, List, [], ◌∷◌, leb, eqb, get_or, set, length}
use Rattle.fd_list.specs.declared.List.{List as Sent}
use Rattle.fd_list.specs.Lists.{numbers, rest_of}
use Rattle.counts.specs.Counts.{lasts}
use Rattle.closes.specs.declared.Reason.TheVariants.{Unusable}
use Rattle.closes.specs.Closes.{closing, only, closes}
use Rattle.holds.specs.declared.Holds.{Holds}
use Rattle.holds.specs.Holds.{discarded_of}
use Rattle.handles.specs.declared.Handles.{Handles}

-- handles in words that are lent
abbrev pub handles_with : List ℕ → Handles
handles_with a = record { at = a }

-- 0 for an empty handle and one over 63, else the description and 1
abbrev pub held_at : Handles → ℕ → ℕ
held_at n k = get_or n.at k 0

abbrev pub is_free : Handles → ℕ → Bool
is_free n k = leb k 63 && eqb (held_at n k) 0

abbrev pub into : Handles → ℕ → ℕ → Handles
into n k d = record { at = set n.at k (suc d) }

abbrev pub emptied : Handles → ℕ → Handles
emptied n k = record { at = set n.at k 0 }

-- what an obtain entry leaves: how many closes follow, the list, the handles and the holds
pub record Gained : Type 0 where
  pub count : ℕ
  pub list : Sent
  pub handles : Handles
  pub holds : Holds

-- an obtain entry: the first of the list into handle k; where that is full or over 63 its hold is dropped
abbrev pub obtained : ℕ → Sent → Handles → Holds → Gained
obtained c l n h = record { count = c; list = l; handles = n; holds = h }

abbrev pub obtain_by : Bool → Holds → Handles → Sent → ℕ → ℕ → Gained
obtain_by true h n l k d = obtained 0 (rest_of l) (into n k d) h
obtain_by false h n l k d =
    obtained (length (only (closing Unusable) (lasts h.holds (d ∷ [])))) (rest_of l) n (discarded_of h (d ∷ []))

abbrev pub obtain_in : List ℕ → Holds → Handles → Sent → ℕ → Gained
obtain_in [] h n l k = obtained 0 l n h
obtain_in (d ∷ ds) h n l k = obtain_by (is_free n k) h n l k d

abbrev pub obtain_of : Holds → Handles → Sent → ℕ → Gained
obtain_of h n l k = obtain_in (numbers l) h n l k

-- the closes that follow, three words each
abbrev pub obtain_lasts : List ℕ → Holds → Handles → ℕ → List ℕ
obtain_lasts [] h n k = []
obtain_lasts (d ∷ ds) h n k = cond (is_free n k) [] (only (closing Unusable) (lasts h.holds (d ∷ [])))

abbrev pub obtain_closes : Holds → Handles → Sent → ℕ → List ℕ
obtain_closes h n l k = closes (obtain_lasts (numbers l) h n k)
