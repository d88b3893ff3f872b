-- The fields of one line of the listing (01, "Marked values"): kind, tag, word, value, extra as one number.
use Rattle.std.specs.Prelude.{ℕ, Result, Ok, Err}
use Rattle.answer.specs.Numbered.{number_of}
use Rattle.error.specs.declared.Error.{Error}
use Rattle.error.specs.Errors.{result_answer}
use Rattle.schemev2.specs.declared.Cqe.{Cqe}
use Rattle.schemev2.specs.Entry.{kind_of, extra_of}
use Rattle.parse_cqe.specs.declared.ParsedCqe.{ParsedCqe}
use Rattle.parse_cqe.specs.declared.ParsedCqe.TheVariants as parsed
use Rattle.parse_cqe.specs.declared.CqeError.{CqeError}
use Rattle.parse_cqe.specs.Parsed.{parsed_of, parsed_answer}
use Rattle.listing_line.specs.declared.Shown.{Shown}
use Rattle.listing_line.specs.declared.Line.{Line}
use Rattle.listing_line.specs.declared.Word.TheVariants as word

-- ok or err for the kinds 0 and 5
abbrev pub shown_result : Result ℕ Error → Shown
shown_result (Ok w) = record { word = word.Ok; value = w }
shown_result (Err e) = record { word = word.Err; value = number_of (result_answer (Err e)) }

-- bad for a refused entry, with the refusal's number
abbrev pub bad_of : Result ParsedCqe CqeError → Shown
bad_of p = record { word = word.Bad; value = number_of (parsed_answer p) }

-- num otherwise, with the result word
abbrev pub num_of : ℕ → Shown
num_of w = record { word = word.Num; value = w }

abbrev pub shown_of : Result ParsedCqe CqeError → ℕ → Shown
shown_of (Ok (parsed.TriggerFevent n flags)) w = num_of w
shown_of (Ok (parsed.RegularResponse t r x)) w = shown_result r
shown_of (Ok (parsed.ResponseWithFd t h)) w = num_of w
shown_of (Ok (parsed.ResponseWithMultipleFds t n)) w = num_of w
shown_of (Ok (parsed.ObtainFd t flags h)) w = num_of w
shown_of (Ok (parsed.RespondAndNotifyOnDetach t r x)) w = shown_result r
shown_of (Err e) w = bad_of (Err e)

abbrev pub line_of : Cqe → Line
line_of e = record { kind = kind_of e; tag = e.tag; shown = shown_of (parsed_of e) e.result; extra = extra_of e }
