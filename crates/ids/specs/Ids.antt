-- The slot that a tag names, the description that a word names, those in the bytes of two words, and the handle that a word names.
use Rattle.std.specs.Prelude.{Bool, true, false, Option, Some, None, List, map, ◌++◌, ℕ, min, ltb}
use Rattle.le.specs.Le.{bytes8}
use Rattle.ids.specs.declared.SlotNo.{SlotNo}
use Rattle.ids.specs.declared.Tag.{Tag}
use Rattle.ids.specs.declared.Description.{Description}
use Rattle.ids.specs.declared.Handle.{Handle}

-- the slot that a tag names: one over 63 names none, 64
abbrev pub slot_of : Tag → SlotNo
slot_of t = record { 0 = min t.0 64 }

abbrev pub description_if : Bool → ℕ → Option Description
description_if true n = Some (record { 0 = n })
description_if false n = None

-- a word over 63 names no description
abbrev pub description_of : ℕ → Option Description
description_of w = description_if (ltb w 64) w

abbrev pub description_in : ℕ → Description
description_in b = record { 0 = b }

-- a byte of two words each, the lowest first
abbrev pub descriptions_in : ℕ → ℕ → List Description
descriptions_in low high = map description_in (bytes8 low ++ bytes8 high)

abbrev pub handle_of : ℕ → Handle
handle_of w = record { 0 = w }
