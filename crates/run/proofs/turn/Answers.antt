-- What `run::turn` leaves open. Assumes nothing.
use Rattle.std.proofs.Common.{length, take, drop, rules}
use Rattle.record.specs.Record.{tail_at, tail_of}
use Rattle.run.proofs.ByKind.{turned_other}
use Rattle.run.proofs.turn.Goals as goal

pub returns-in_default : goal.returns-in_default
returns-in_default c = let a = c.args in
    let t = c.event_turn.ensures in
    turned_other a.rec.now a.fx.now a.r c.requires.2 a.s.now _ a.out.now _ _ (search rules) (t.by_index (take (tail_of a.r) (drop (tail_at a.r) a.rec.now)) (length a.fx.now)) t.upper_bound
