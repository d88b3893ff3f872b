-- Little-endian numbers in a list of bytes (Reference, "Type layout"). A byte past the end reads as 0.
use Rattle.std.specs.Prelude.{List, [], ◌∷◌, ◌++◌, ℕ, ◌+◌, ◌*◌, ◌/◌, ◌%◌, get_or}

abbrev pub byte : List ℕ → ℕ → ℕ
byte l k = get_or l k 0

-- the number in the four or eight bytes from place k
abbrev pub half : List ℕ → ℕ → ℕ
half l k = byte l k + byte l (k + 1) * 0x100 + byte l (k + 2) * 0x1_0000 + byte l (k + 3) * 0x100_0000

abbrev pub word : List ℕ → ℕ → ℕ
word l k = half l k + half l (k + 4) * 0x1_0000_0000

-- a number as its four or eight bytes, the lowest first
abbrev pub bytes4 : ℕ → List ℕ
bytes4 x = x % 256 ∷ x / 0x100 % 256 ∷ x / 0x1_0000 % 256 ∷ x / 0x100_0000 % 256 ∷ []

abbrev pub bytes8 : ℕ → List ℕ
bytes8 x = bytes4 x ++ bytes4 (x / 0x1_0000_0000)

-- the bytes of words in turn
abbrev pub bytes_of : List ℕ → List ℕ
bytes_of [] = []
bytes_of (w ∷ ws) = bytes8 w ++ bytes_of ws
