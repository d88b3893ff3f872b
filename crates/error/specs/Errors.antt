-- Error words: what `Error::mux` and `Error::demux` answer (syscall/src/error.rs, lines 15 to 29).
use Rattle.std.specs.Prelude.{Bool, true, false, ◌&&◌, Result, Ok, Err, [], ◌∷◌, ℕ, ℤ, pos}
use Rattle.std.specs.Int.Signed.{le_z, lt_z}
use Rattle.answer.specs.Numbered.{Numbered, success, refused}
use Rattle.error.specs.Reference.{as_i32, as_usize, neg_i32}
use Rattle.error.specs.declared.Error.{Error}

-- `errno >= 1 && errno < STR_ERROR.len() as i32`
abbrev pub is_errno : ℤ → Bool
is_errno n = le_z (pos 1) n && lt_z n (pos 133)

abbrev pub err_if : Bool → ℤ → ℕ → Result ℕ Error
err_if true n w = Err (record { errno = n })
err_if false n w = Ok w

-- the low 32 bits as signed, negated: an error from 1 to 132, else the whole word is a success
abbrev pub demux_of : ℕ → Result ℕ Error
demux_of w = err_if (is_errno (neg_i32 (as_i32 w))) (neg_i32 (as_i32 w)) w

abbrev pub mux_of : Result ℕ Error → ℕ
mux_of (Ok w) = w
mux_of (Err e) = as_usize (neg_i32 e.errno)

-- 01's number and values: a success has its word, an error its errno
abbrev pub result_answer : Result ℕ Error → Numbered
result_answer (Ok w) = success (w ∷ [])
result_answer (Err e) = refused (as_usize e.errno)
