-- What the layer itself puts into an entry's arguments (01, "Submitting").
use Rattle.std.specs.Prelude.{ℕ, ◌+◌, ◌*◌}

-- argument 5 of a call: uid + gid × 2^32
abbrev pub merge_of : ℕ → ℕ → ℕ
merge_of uid gid = uid + gid * 0x1_0000_0000
