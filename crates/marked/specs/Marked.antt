-- The values that 01 marks with *: what the definitions that the code is proved equal to answer, and what 01 says.
use Rattle.std.specs.Prelude.{List, [], ◌∷◌, ℕ, replicate}
use Rattle.answer.specs.Numbered.{Numbered, success, refused}
use Rattle.error.specs.Errors.{demux_of, result_answer}
use Rattle.schemev2.specs.declared.Cqe.{Cqe}
use Rattle.schemev2.specs.Entry.{cqe_of, kind_of, extra_of}
use Rattle.parse_cqe.specs.Parsed.{parsed_of, parsed_answer}
use Rattle.user_args.specs.Args.{merge_of}

-- an entry with this kind byte, all else 0
abbrev kind_byte : ℕ → Cqe
kind_byte b = cqe_of (b ∷ replicate 15 0)

unfoldable pub defined : List Numbered
defined =
    result_answer (demux_of 0xffff_ffff)
    ∷ result_answer (demux_of 0xffff_ff7c)
    ∷ result_answer (demux_of 0xffff_ff7b)
    ∷ result_answer (demux_of 0x0000_0001_ffff_ff83)
    ∷ result_answer (demux_of 0x8000_0000)
    ∷ result_answer (demux_of 0)
    ∷ success (merge_of 1 2 ∷ [])
    ∷ success (extra_of (cqe_of (0 ∷ 1 ∷ 2 ∷ 0 ∷ replicate 12 0)) ∷ [])
    ∷ success (kind_of (kind_byte 0x0d) ∷ [])
    ∷ parsed_answer (parsed_of (kind_byte 6))
    ∷ []

unfoldable pub paper : List Numbered
paper =
    refused 1
    ∷ refused 132
    ∷ success (0xffff_ff7b ∷ [])
    ∷ refused 125
    ∷ success (0x8000_0000 ∷ [])
    ∷ success (0 ∷ [])
    ∷ success (8589934593 ∷ [])
    ∷ success (513 ∷ [])
    ∷ success (5 ∷ [])
    ∷ refused 22
    ∷ []
