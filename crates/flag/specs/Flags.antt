-- Flag bits and masks of the commit, and when bits lie within a mask.
use Rattle.std.specs.Prelude.{Bool, cond, ℕ, ◌+◌, eqb}
use Rattle.std.specs.Int.Bits.{bit_and}

-- `from_bits` of the bitflags crate: no bit of x lies outside the mask
abbrev pub within : ℕ → ℕ → Bool
within mask x = eqb (bit_and mask x) x

-- `EventFlags`: syscall/src/flag.rs, lines 46 to 53
abbrev pub event_read : ℕ
event_read = 1

abbrev pub event_hup : ℕ
event_hup = 4

abbrev pub event_flags : ℕ
event_flags = event_read + 2 + event_hup + 8 + 16

-- `FobtainFdFlags`: syscall/src/flag.rs, lines 83 to 101
abbrev pub fobtain_fd_flags : ℕ
fobtain_fd_flags = 1 + 2 + 4 + 8

-- `NewFdFlags`: syscall/src/schemev2.rs, lines 79 to 81
abbrev pub new_fd_flags : ℕ
new_fd_flags = 1

-- `CallFlags` (syscall/src/flag.rs, lines 493 and 495): what a call's flags ask for
abbrev pub fd_exclusive : ℕ
fd_exclusive = 0x1000

abbrev pub fd_upper : ℕ
fd_upper = 0x4000

-- `SendFdFlags` (line 74) and `RecvFdFlags` (line 112): what its driver is told
abbrev pub send_fd_exclusive : ℕ
send_fd_exclusive = 1

abbrev pub recv_fd_upper_tbl : ℕ
recv_fd_upper_tbl = 2

-- `kfdwrite` and `kfdread` (src/scheme/user.rs, lines 1969 and 2006): `contains`, all bits of the one among the others; no other bit
-- is looked at
abbrev pub send_fd_flags : ℕ → ℕ
send_fd_flags bits = cond (within bits fd_exclusive) send_fd_exclusive 0

abbrev pub recv_fd_flags : ℕ → ℕ
recv_fd_flags bits = cond (within bits fd_upper) recv_fd_upper_tbl 0

-- `SqeFlags`: syscall/src/schemev2.rs, lines 45 to 53
abbrev pub sqe_oneway : ℕ
sqe_oneway = 1

abbrev pub sqe_multiple_ids : ℕ
sqe_multiple_ids = 2
