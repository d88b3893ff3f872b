-- A stored reply's kind by its number, and 01's numbers and values of a reply's readings.
use Rattle.std.specs.Prelude.{ℕ, zero, suc, Result, Ok, Err}
use Rattle.events.specs.Outcome.{Answer, ok, no}
use Rattle.events.specs.Replies.{Opened, scheme_local, external, failed}
use Rattle.response.specs.declared.Kind.{Kind}
use Rattle.response.specs.declared.Kind.TheVariants.{Success, Error, Fd, MultipleFds}
use Rattle.response.specs.declared.Errno.{Errno}
use Rattle.response.specs.declared.OpenResult.{OpenResult}
use Rattle.response.specs.declared.OpenResult.TheVariants as result

abbrev pub kind_named : ℕ → Kind
kind_named zero = Success
kind_named (suc zero) = Error
kind_named (suc (suc zero)) = Fd
kind_named (suc (suc (suc k))) = MultipleFds

abbrev pub front_answer : Result ℕ Errno → Answer
front_answer (Ok w) = ok w
front_answer (Err e) = no e.0

abbrev pub opened_as : Result OpenResult Errno → Opened
opened_as (Ok (result.SchemeLocal w x)) = scheme_local w x
opened_as (Ok (result.External d)) = external d
opened_as (Err e) = failed e.0
