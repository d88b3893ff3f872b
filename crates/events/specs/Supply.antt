-- Map supply (01, "Map supply"; `ProvideMmap` in `handle_parsed`, src/scheme/user.rs, lines 849 to 919): it alone vacates a
-- map request's slot.
use Rattle.std.specs.Prelude.{ℕ, ◌%◌, Bool, true, false, not, ◌||◌, List, [], ◌∷◌, eqb}
use Rattle.slot.specs.declared.Phase.{Phase}
use Rattle.slot.specs.declared.Phase.TheVariants.{Vacant, Placeholder, Waiting, Responded, Fmap}
use Rattle.table.specs.Table.{vacate_at}
use Rattle.events.specs.World.{World, table_of, slot_in, phase_in, with_table}
use Rattle.events.specs.Outcome.{Answer, Outcome, outcome, ok, no, refuse, Row, row, checked}

-- off a page, or not one page
abbrev pub wrong_pages : ℕ → ℕ → ℕ → Bool
wrong_pages offset base count = not (eqb (offset % 4096) 0) || (not (eqb (base % 4096) 0) || not (eqb count 1))

-- has its caller ended
abbrev pub supplied_as : Bool → Answer
supplied_as true = no 3
supplied_as false = ok 0

abbrev pub supplied_by : Phase → World → ℕ → Outcome
supplied_by Vacant w n = refuse w 22
supplied_by Placeholder w n = refuse w 77
supplied_by Waiting w n = refuse w 22
supplied_by Responded w n = refuse w 22
supplied_by Fmap w n = outcome (supplied_as (slot_in w n).ended) [] (with_table w (vacate_at (table_of w) n))

abbrev pub page_rows : ℕ → ℕ → ℕ → List Row
page_rows offset base count = row 22 (wrong_pages offset base count) ∷ []

abbrev pub supply_of : World → ℕ → ℕ → ℕ → ℕ → Outcome
supply_of w n offset base count = checked (refuse w) (page_rows offset base count) (supplied_by (phase_in w n) w n)
