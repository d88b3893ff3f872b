-- What `run::read_turn` leaves open. Assumes nothing.
use Rattle.run.proofs.Turns.{read_told}
use mathlib.Core.Path.{refl, ap, ◌∙◌}
use Prim.Native.Nat.{ℕ, min, ◌*◌}
use Rattle.std.proofs.Common.{◌≡◌, length, rules}
use Rattle.run.proofs.read_turn.Goals as goal

pub returns-clause-told : goal.returns-clause-told
returns-clause-told c = let a = c.args in
    let k = c.copied-k.ensures ∙ ap (λ (x : ℕ). min c.min-n.result (x * 64)) c.unread.ensures in read_told a.s.now _ a.r.words.0 a.r.number c.min-n.result _ c.copied-k.result a.out.now _ c.read-answer.result c.requires.1 c.min-n.ensures refl k c.read-answer.ensures.does c.read-answer.ensures.out_after
    (let z : length a.s.now ≡ 2060 = search rules in z) c.requires.0 _ c.put_head.ensures
