-- A list as the numbers that it names, and back.
use Rattle.std.specs.Prelude.{List, map, ℕ, set, take, drop, length, replicate}
use Rattle.std.proofs.lemmas.List.Edits.{sets}
use Rattle.ids.specs.declared.Description.{Description}
use Rattle.fd_list.specs.declared.List.{List as Sent}

abbrev pub desc : ℕ → Description
desc n = record { 0 = n }

abbrev pub num : Description → ℕ
num d = d.0

-- a length over 16 counts as 16
abbrev pub named : Sent → List Description
named l = take l.len l.at

abbrev pub numbers : Sent → List ℕ
numbers l = map num (named l)

abbrev pub blank : List Description
blank = replicate 16 (desc 0)

-- the list of some numbers, at most 16
abbrev pub list_of : List ℕ → Sent
list_of ds = record { at = sets blank 0 (map desc ds); len = length ds }

abbrev pub with_of : Sent → ℕ → Description → Sent
with_of l i d = record { at = set l.at i d; len = l.len }

abbrev pub without_of : Sent → ℕ → Sent
without_of l k = list_of (drop k (numbers l))

abbrev pub rest_of : Sent → Sent
rest_of l = without_of l 1
