-- Where each byte of an entry lies (01, "Entries"; Reference, "Type layout", `#[repr(C)]`; little-endian).
-- An entry is read from the start of a list of bytes.
use Rattle.std.specs.Prelude.{Option, List, [], ◌∷◌, ◌++◌, ℕ, ◌+◌, ◌*◌, ◌%◌, slice_get}
use Rattle.le.specs.Le.{byte, half, word, bytes4, bytes8}
use Rattle.schemev2.specs.declared.Sqe.{Sqe}
use Rattle.schemev2.specs.declared.Cqe.{Cqe}
use Rattle.schemev2.specs.declared.CqeOpcode.{CqeOpcode}
use Rattle.schemev2.specs.declared.CqeOpcode.TheVariants.{RespondRegular, RespondWithFd, SendFevent, ObtainFd, RespondWithMultipleFds, RespondAndNotifyOnDetach}

-- submission, 64 bytes: opcode 0, flags 1, reserved 2-3, tag 4-7, six arguments 8-55, caller's pid 56-63
abbrev pub sqe_of : List ℕ → Sqe
sqe_of l =
    record {
      opcode = byte l 0;
      sqe_flags = byte l 1;
      tag = half l 4;
      args = record { 0 = word l 8; 1 = word l 16; 2 = word l 24; 3 = word l 32; 4 = word l 40; 5 = word l 48 };
      caller = word l 56;
    }

abbrev pub sqe_bytes : Sqe → List ℕ
sqe_bytes e =
    (e.opcode ∷ e.sqe_flags ∷ 0 ∷ 0 ∷ bytes4 e.tag)
    ++ bytes8 e.args.0 ++ bytes8 e.args.1 ++ bytes8 e.args.2
    ++ bytes8 e.args.3 ++ bytes8 e.args.4 ++ bytes8 e.args.5 ++ bytes8 e.caller

-- the same 64 bytes as eight words
abbrev pub sqe_words : Sqe → List ℕ
sqe_words e =
    (e.opcode + e.sqe_flags * 0x100 + e.tag * 0x1_0000_0000)
    ∷ e.args.0
    ∷ e.args.1
    ∷ e.args.2
    ∷ e.args.3
    ∷ e.args.4
    ∷ e.args.5
    ∷ e.caller
    ∷ []

-- completion, 16 bytes: flags 0, extra 1-3, tag 4-7, result 8-15
abbrev pub cqe_of : List ℕ → Cqe
cqe_of l =
    record {
      flags = byte l 0;
      extra_raw = record { 0 = byte l 1; 1 = byte l 2; 2 = byte l 3 };
      tag = half l 4;
      result = word l 8;
    }

abbrev pub cqe_bytes : Cqe → List ℕ
cqe_bytes e = (e.flags ∷ e.extra_raw.0 ∷ e.extra_raw.1 ∷ e.extra_raw.2 ∷ bytes4 e.tag) ++ bytes8 e.result

-- the low three bits choose the kind, the upper five are ignored
abbrev pub kind_of : Cqe → ℕ
kind_of e = e.flags % 8

abbrev pub extra_of : Cqe → ℕ
extra_of e = e.extra_raw.0 + e.extra_raw.1 * 0x100 + e.extra_raw.2 * 0x1_0000

-- the six kinds by their numbers
abbrev pub cqe_opcode_of : ℕ → Option CqeOpcode
cqe_opcode_of n =
    slice_get (RespondRegular ∷ RespondWithFd ∷ SendFevent ∷ ObtainFd ∷ RespondWithMultipleFds ∷ RespondAndNotifyOnDetach ∷ []) n
