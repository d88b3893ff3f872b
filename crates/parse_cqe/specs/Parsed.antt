-- What a completion entry asks for, and its refusals in 01's order: kind 6 or 7, then event or obtain bits outside the mask.
-- (`ParsedCqe::parse_cqe`, src/scheme/user.rs, lines 119 to 154.)
use Rattle.std.specs.Prelude.{Bool, true, false, Option, Some, None, Result, Ok, Err, [], ◌∷◌, ◌++◌}
use Rattle.answer.specs.Numbered.{Numbered, success, refused, number_of, values_of}
use Rattle.error.specs.Errors.{demux_of, result_answer}
use Rattle.flag.specs.Flags.{within, event_flags, fobtain_fd_flags}
use Rattle.ids.specs.declared.Tag.{Tag}
use Rattle.ids.specs.declared.Handle.{Handle}
use Rattle.schemev2.specs.declared.Cqe.{Cqe}
use Rattle.schemev2.specs.declared.CqeOpcode.{CqeOpcode}
use Rattle.schemev2.specs.declared.CqeOpcode.TheVariants.{RespondRegular, RespondWithFd, SendFevent, ObtainFd, RespondWithMultipleFds, RespondAndNotifyOnDetach}
use Rattle.schemev2.specs.Entry.{kind_of, extra_of, cqe_opcode_of}
use Rattle.parse_cqe.specs.declared.ParsedCqe.{ParsedCqe}
use Rattle.parse_cqe.specs.declared.ParsedCqe.TheVariants as parsed
use Rattle.parse_cqe.specs.declared.CqeError.{CqeError}
use Rattle.parse_cqe.specs.declared.CqeError.TheVariants.{UnknownKind, UnknownEventFlags, UnknownObtainFlags}

abbrev pub tag_of : Cqe → Tag
tag_of e = record { 0 = e.tag }

abbrev pub handle_of : Cqe → Handle
handle_of e = record { 0 = e.result }

-- an event's flags stand in the tag's place
abbrev pub event_if : Bool → Cqe → Result ParsedCqe CqeError
event_if true e = Ok (parsed.TriggerFevent e.result e.tag)
event_if false e = Err UnknownEventFlags

abbrev pub event_of : Cqe → Result ParsedCqe CqeError
event_of e = event_if (within event_flags e.tag) e

-- an obtain's flags are extra as one number
abbrev pub obtain_if : Bool → Cqe → Result ParsedCqe CqeError
obtain_if true e = Ok (parsed.ObtainFd (tag_of e) (extra_of e) (handle_of e))
obtain_if false e = Err UnknownObtainFlags

abbrev pub obtain_of : Cqe → Result ParsedCqe CqeError
obtain_of e = obtain_if (within fobtain_fd_flags (extra_of e)) e

abbrev pub parsed_by : Option CqeOpcode → Cqe → Result ParsedCqe CqeError
parsed_by (Some RespondRegular) e = Ok (parsed.RegularResponse (tag_of e) (demux_of e.result) e.extra_raw.0)
parsed_by (Some RespondWithFd) e = Ok (parsed.ResponseWithFd (tag_of e) (handle_of e))
parsed_by (Some SendFevent) e = event_of e
parsed_by (Some ObtainFd) e = obtain_of e
parsed_by (Some RespondWithMultipleFds) e = Ok (parsed.ResponseWithMultipleFds (tag_of e) e.result)
parsed_by (Some RespondAndNotifyOnDetach) e = Ok (parsed.RespondAndNotifyOnDetach (tag_of e) (demux_of e.result) e.extra_raw.0)
parsed_by None e = Err UnknownKind

abbrev pub parsed_of : Cqe → Result ParsedCqe CqeError
parsed_of e = parsed_by (cqe_opcode_of (kind_of e)) e

-- 01's number and values of each case, a result by its own number and values
abbrev pub parsed_answer : Result ParsedCqe CqeError → Numbered
parsed_answer (Ok (parsed.TriggerFevent number flags)) = success (number ∷ flags ∷ [])
parsed_answer (Ok (parsed.RegularResponse t r x)) = success (t.0 ∷ number_of (result_answer r) ∷ values_of (result_answer r) ++ x ∷ [])
parsed_answer (Ok (parsed.ResponseWithFd t h)) = success (t.0 ∷ h.0 ∷ [])
parsed_answer (Ok (parsed.ResponseWithMultipleFds t n)) = success (t.0 ∷ n ∷ [])
parsed_answer (Ok (parsed.ObtainFd t flags h)) = success (t.0 ∷ flags ∷ h.0 ∷ [])
parsed_answer (Ok (parsed.RespondAndNotifyOnDetach t r x)) = success (t.0 ∷ number_of (result_answer r) ∷ values_of (result_answer r) ++ x ∷ [])
parsed_answer (Err UnknownKind) = refused 22
parsed_answer (Err UnknownEventFlags) = refused 22
parsed_answer (Err UnknownObtainFlags) = refused 22
