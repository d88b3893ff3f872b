-- The driver's descriptor calls (01, "Descriptor calls"; src/scheme/user.rs: `call_fdwrite` 1153, `handle_movefd` 1185,
-- `call_fdread` 1206, `handle_obtainfd` 1244). The request id is the second metadata word, all 64 bits of it.
use Rattle.std.specs.Prelude.{ℕ, Bool, not, ◌||◌, List, [], ◌∷◌, eqb, length, get_or}
use Rattle.fd_list.specs.Lists.{numbers, list_of}
use Rattle.holds.specs.Holds.{outside_of}
use Rattle.slot.specs.Slots.{no_fds, with_fds_of}
use Rattle.table.specs.Table.{put_at}
use Rattle.events.specs.World.{World, table_of, holds_of, slot_in, phase_in, with_table, table_with, with_holds}
use Rattle.events.specs.Outcome.{Outcome, outcome, ok, refuse, Row, row, checked}
use Rattle.events.specs.Submit.{bad_list, long_list, taken_holds}
use Rattle.events.specs.Entry.{dropped, is_vacant, is_waiting}

abbrev pub verb_of : List ℕ → ℕ
verb_of ms = get_or ms 0 0

abbrev pub request_of : List ℕ → ℕ
request_of ms = get_or ms 1 0

-- verb and number of metadata words
abbrev pub wrong_words : ℕ → List ℕ → Bool
wrong_words verb ms = not (eqb (length ms) 2) || not (eqb (verb_of ms) verb)

-- the request's slot: metadata and vacant 22, not Waiting 2
abbrev pub request_rows : World → ℕ → List ℕ → List Row
request_rows w verb ms =
    row 22 (wrong_words verb ms || is_vacant (phase_in w (request_of ms))) ∷ row 2 (not (is_waiting (phase_in w (request_of ms)))) ∷ []

-- move: the list replaces the slot's, whose holds are dropped; refused by 22 or 2 it drops what it brought
abbrev pub list_rows : World → List ℕ → List Row
list_rows w ds = row 205 (bad_list w ds) ∷ row 206 (long_list ds) ∷ []

abbrev pub brought_back : World → List ℕ → World
brought_back w ds = with_holds w (dropped (taken_holds w ds) ds)

abbrev pub moved : World → ℕ → List ℕ → Outcome
moved w n ds =
    outcome (ok (length ds)) []
    (with_table w
    (table_with (put_at (table_of w) n (with_fds_of (slot_in w n) (list_of ds))) (dropped (taken_holds w ds) (numbers (slot_in w n).fds))))

abbrev pub move_of : World → List ℕ → List ℕ → Outcome
move_of w ms ds =
    checked (refuse w) (list_rows w ds) (checked (refuse (brought_back w ds)) (request_rows w 1 ms) (moved w (request_of ms) ds))

-- obtain: the list becomes outside holds
abbrev pub given_up : World → ℕ → Outcome
given_up w n =
    outcome (ok (length (numbers (slot_in w n).fds))) []
    (with_table w
    (table_with (put_at (table_of w) n (with_fds_of (slot_in w n) no_fds)) (outside_of (holds_of w) (numbers (slot_in w n).fds))))

abbrev pub obtain_call_of : World → List ℕ → Outcome
obtain_call_of w ms = checked (refuse w) (request_rows w 0 ms) (given_up w (request_of ms))
