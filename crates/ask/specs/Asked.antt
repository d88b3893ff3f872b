-- What a caller asks for, by the first two rows of `submit` and `call`: 205 for its opcode or a description of its list, 206 for
-- more than 16 of these.
use Rattle.std.specs.Prelude.{ℕ, cond, ◌||◌, Result, Ok, Err, List, ◌∷◌}
use Rattle.answer.specs.declared.Refusal.{Refusal}
use Rattle.answer.specs.declared.Refusal.TheVariants.{BadArgument, TooManyFds}
use Rattle.fd_list.specs.Lists.{list_of}
use Rattle.events.specs.World.{World}
use Rattle.events.specs.Outcome.{Row, row}
use Rattle.events.specs.Submit.{bad_opcode, bad_list, long_list}
use Rattle.ask.specs.declared.Asked.{Asked}

abbrev pub asked_of : World → ℕ → List ℕ → Result Asked Refusal
asked_of w op ds =
    cond (bad_opcode op || bad_list w ds) (Err BadArgument)
    (cond (long_list ds) (Err TooManyFds) (Ok (record { opcode = op; list = list_of ds })))

abbrev pub ask_rows : World → ℕ → List ℕ → List Row → List Row
ask_rows w op ds rest = row 205 (bad_opcode op || bad_list w ds) ∷ row 206 (long_list ds) ∷ rest
