-- What is left to store from here gives the whole.
use Rattle.std.proofs.Common.{◌≡◌, ◌*◌, drop}
use Rattle.std.proofs.lemmas.List.Edits.{sets}
use Rattle.layout.specs.Layout.{slots_words}
use Rattle.plain.proofs.put_slots.Given as goal

abbrev pub invariant-loop-i : goal.invariant-loop-i
invariant-loop-i l = sets l.s (12 * l.i) (slots_words (drop l.i l.slots)) ≡ sets l.initial.s 0 (slots_words l.slots)
