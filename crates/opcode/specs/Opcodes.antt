-- Opcodes are 3 to 34 (syscall/src/schemev2.rs, lines 126 to 165).
use Rattle.std.specs.Prelude.{Bool, true, false, ◌&&◌, Option, Some, None, List, [], ◌∷◌, ℕ, leb, get_or}
use Rattle.opcode.specs.declared.Opcode.{Opcode}
use Rattle.opcode.specs.declared.Opcode.TheVariants as variant

abbrev pub opcode_if : Bool → ℕ → Option ℕ
opcode_if true n = Some n
opcode_if false n = None

abbrev pub opcode_of : ℕ → Option ℕ
opcode_of n = opcode_if (leb 3 n && leb n 34) n

-- the Rust's `enum Opcode`, in its order
abbrev pub opcodes : List ℕ
opcodes =
    3 ∷ 4 ∷ 5 ∷ 6 ∷ 7 ∷ 8 ∷ 9 ∷ 10 ∷ 11 ∷ 12 ∷ 13 ∷ 14 ∷ 15 ∷ 16 ∷ 17 ∷ 18 ∷ 19 ∷ 20 ∷ 21 ∷ 22 ∷ 23 ∷ 24 ∷ 25 ∷ 26 ∷ 27 ∷ 28 ∷ 29 ∷ 30 ∷ 31 ∷ 32 ∷ 33 ∷ 34 ∷ []

-- those of the layer's own entries, by name
abbrev pub sendfd : ℕ
sendfd = get_or opcodes 9 0

abbrev pub request_mmap : ℕ
request_mmap = get_or opcodes 18 0

abbrev pub cancel : ℕ
cancel = get_or opcodes 22 0

abbrev pub close_msg : ℕ
close_msg = get_or opcodes 24 0

abbrev pub call : ℕ
call = get_or opcodes 25 0

abbrev pub recvfd : ℕ
recvfd = get_or opcodes 28 0

abbrev pub std_fs_call : ℕ
std_fs_call = get_or opcodes 30 0

abbrev pub detach : ℕ
detach = get_or opcodes 31 0

-- the number of each of the enum
abbrev pub raw_of : Opcode → ℕ
raw_of variant.Close = 3
raw_of variant.Dup = 4
raw_of variant.Read = 5
raw_of variant.Write = 6
raw_of variant.Fsize = 7
raw_of variant.Fchmod = 8
raw_of variant.Fchown = 9
raw_of variant.Fcntl = 10
raw_of variant.Fevent = 11
raw_of variant.Sendfd = 12
raw_of variant.Fpath = 13
raw_of variant.Frename = 14
raw_of variant.Fstat = 15
raw_of variant.Fstatvfs = 16
raw_of variant.Fsync = 17
raw_of variant.Ftruncate = 18
raw_of variant.Futimens = 19
raw_of variant.MmapPrep = 20
raw_of variant.RequestMmap = 21
raw_of variant.Mremap = 22
raw_of variant.Munmap = 23
raw_of variant.Msync = 24
raw_of variant.Cancel = 25
raw_of variant.Getdents = 26
raw_of variant.CloseMsg = 27
raw_of variant.Call = 28
raw_of variant.OpenAt = 29
raw_of variant.Flink = 30
raw_of variant.Recvfd = 31
raw_of variant.UnlinkAt = 32
raw_of variant.StdFsCall = 33
raw_of variant.Detach = 34

abbrev pub raw_in : Option Opcode → Option ℕ
raw_in (Some o) = Some (raw_of o)
raw_in None = None
