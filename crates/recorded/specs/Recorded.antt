-- What a recorded run is compared with, and the check number of a file's bytes.
use Rattle.std.specs.Prelude.{◌≡◌, ℕ, suc, ◌+◌, ◌*◌, ◌%◌, Bool, cond, ◌&&◌, List, [], ◌∷◌, ◌==◌}
use Rattle.record.specs.Record.{decoded}
use Rattle.run.specs.Run.{run_of, output_of, end_of, is_run}
use Rattle.recorded.specs.declared.Compared.{Compared}

-- the bytes as digits to the base 256 behind a number, modulo a prime
abbrev pub check_of : ℕ → List ℕ → ℕ
check_of c [] = c
check_of c (b ∷ bs) = check_of ((c * 256 + b) % 4_294_967_291) bs

-- how many are the same, up to the first that differs or the end of one
abbrev pub same_of : List ℕ → List ℕ → ℕ
same_of [] ys = 0
same_of (x ∷ xs) [] = 0
same_of (x ∷ xs) (y ∷ ys) = cond (x == y) (suc (same_of xs ys)) 0

-- what a run writes into so many bytes: nothing where it is turned down
abbrev pub written_of : ℕ → ℕ → ℕ → List ℕ → List ℕ
written_of scheme lent most ev = cond (is_run most ev) (output_of (run_of scheme lent ev)) []

abbrev pub compared_of : ℕ → ℕ → ℕ → List ℕ → List ℕ → Compared
compared_of scheme lent most ev told =
    record { end = end_of scheme lent most ev; same = same_of (written_of scheme lent most ev) told }

abbrev pub as_recorded_of : Compared → ℕ → ℕ → Bool
as_recorded_of c n m = c.end.number == 0 && (c.end.place == n && (c.end.written == m && c.same == m))

-- the bytes hold events and nothing else, and the run of these is told as recorded: each answer, effect and read byte, and the state
abbrev pub Recorded : ℕ → ℕ → List ℕ → List ℕ → Type 0
Recorded scheme lent ev told = ((decoded lent ev).left ≡ 0) × (output_of (run_of scheme lent ev) ≡ told)
