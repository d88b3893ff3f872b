-- The loop of `write::write`.
use Rattle.std.specs.Prelude.{◌≡◌, ◌*◌, ◌≤◌, length}
use Rattle.write.proofs.Looping.{Left}
use Rattle.write.proofs.write.Given as goal

abbrev pub invariant-loop-i : goal.invariant-loop-i
invariant-loop-i l = (l.words ≤ 102 * l.i) × (length l.fx ≡ length l.initial.fx) × Left l.initial.s l.initial.fx l.bytes l.n l.s l.fx l.i l.words × (l.n ≤ 0x80_0000_0000_0000)
