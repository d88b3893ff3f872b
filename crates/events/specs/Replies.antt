-- How a reply is read by whoever made the call (01, "Reading replies"; src/scheme/user.rs: `into_regular` 71, `call_generic`
-- 1431 to 1445, `kopenat` 1472, `kdup` 1705, `kfdwrite` 1990, `kfdread` 2027 to 2045; `from_extra0`, src/context/file.rs, line 92).
use Rattle.std.specs.Prelude.{ℕ, Bool, true, false, length}
use Rattle.flag.specs.Flags.{within, new_fd_flags}
use Rattle.events.specs.Outcome.{Response, success, error, descriptor, many, Answer, ok, no}

-- one descriptor or many: EIO
abbrev pub into_regular_of : Response → Answer
into_regular_of (success w x b) = ok w
into_regular_of (error e x b) = no e
into_regular_of (descriptor d) = no 5
into_regular_of (many ds) = no 5

-- the same, and kind 5's notice, even with an error
abbrev pub call_generic_of : Response → Answer
call_generic_of r = into_regular_of r

abbrev pub notice_of : Response → Bool
notice_of (success w x b) = b
notice_of (error e x b) = b
notice_of (descriptor d) = false
notice_of (many ds) = false

-- `kfdwrite`: the same, with no notice
abbrev pub kfdwrite_of : Response → Answer
kfdwrite_of r = into_regular_of r

-- `kfdread`: many descriptors are their count, none or some; anything else but an error is EIO
abbrev pub kfdread_of : Response → Answer
kfdread_of (success w x b) = no 5
kfdread_of (error e x b) = no e
kfdread_of (descriptor d) = no 5
kfdread_of (many ds) = ok (length ds)

-- `OpenResult`: a number of the scheme's own with its flags, or a description; or a refusal
pub data Opened : Type 0 where
  scheme_local : ℕ → ℕ → Opened
  external : ℕ → Opened
  failed : ℕ → Opened

-- extra0 has known bits only
abbrev pub local_if : Bool → ℕ → ℕ → Opened
local_if true w x = scheme_local w x
local_if false w x = failed 22

-- the error first, then unknown bits
abbrev pub kopenat_of : Response → Opened
kopenat_of (success w x b) = local_if (within new_fd_flags x) w x
kopenat_of (error e x b) = failed e
kopenat_of (descriptor d) = external d
kopenat_of (many ds) = failed 5

abbrev pub kdup_of : Response → Opened
kdup_of r = kopenat_of r
