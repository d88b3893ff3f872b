-- The six arguments of a submission entry, stored at their places.
use Rattle.std.specs.Prelude.{List, ℕ}
use Rattle.std.proofs.lemmas.List.Edits.{sets}
use Rattle.le.specs.Le.{bytes8}
use Rattle.schemev2.specs.declared.Args.{Args}

abbrev pub stored8 : List ℕ → ℕ → ℕ → List ℕ
stored8 l k x = sets l k (bytes8 x)

abbrev pub stored_args : List ℕ → Args → List ℕ
stored_args l a =
    stored8 (stored8 (stored8 (stored8 (stored8 (stored8 l 8 a.0) 16 a.1) 24 a.2) 32 a.3) 40 a.4) 48 a.5
