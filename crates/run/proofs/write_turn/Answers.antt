-- What `run::write_turn` leaves open. Assumes nothing.
use Rattle.run.proofs.Turns.{tail_is, tail_counts, write_part, write_fits, write_back, write_told, write_most}
use Rattle.record.specs.Record.{tail_at, tail_of}
use lib.ListN.{take, drop}
use Rattle.run.proofs.write_turn.Goals as goal

pub slice_bounds-put_completed-end : goal.slice_bounds-put_completed-end
slice_bounds-put_completed-end c = write_fits c.args.s.now _ c.requires.0 c.args.r.words.0 c.min-n.result c.write-done.result.words c.args.fx.now _ _ (take (tail_of c.args.r) (drop (tail_at c.args.r) c.args.rec.now)) _ c.min-n.ensures (tail_is c.args.rec.now c.tail_at-at.result c.tail-k.result (tail_at c.args.r) (tail_of c.args.r) c.tail_at-at.ensures.0 c.tail-k.ensures.0) c.write-done.ensures

pub slice_bounds-put_completed-end-2 : goal.slice_bounds-put_completed-end-2
slice_bounds-put_completed-end-2 c = write_part c.args.s.now _ c.requires.0 c.args.r.words.0 c.min-n.result c.write-done.result.words c.args.fx.now _ _ (take (tail_of c.args.r) (drop (tail_at c.args.r) c.args.rec.now)) _ c.min-n.ensures (tail_is c.args.rec.now c.tail_at-at.result c.tail-k.result (tail_at c.args.r) (tail_of c.args.r) c.tail_at-at.ensures.0 c.tail-k.ensures.0) c.write-done.ensures

pub returns-clause-told : goal.returns-clause-told
returns-clause-told c = write_told c.args.s.now _ c.requires.0 c.args.r.words.0 c.min-n.result c.write-done.result.words c.args.fx.now _ _ (take (tail_of c.args.r) (drop (tail_at c.args.r) c.args.rec.now)) _ c.min-n.ensures (tail_is c.args.rec.now c.tail_at-at.result c.tail-k.result (tail_at c.args.r) (tail_of c.args.r) c.tail_at-at.ensures.0 c.tail-k.ensures.0) c.write-done.ensures c.args.out.now _ _ c.put_completed.ensures.out_after c.put_completed.ensures.value

pub returns-clause-fx_after : goal.returns-clause-fx_after
returns-clause-fx_after c = write_back c.args.s.now _ c.requires.0 c.args.r.words.0 c.min-n.result c.write-done.result.words c.args.fx.now _ _ (take (tail_of c.args.r) (drop (tail_at c.args.r) c.args.rec.now)) _ c.min-n.ensures (tail_is c.args.rec.now c.tail_at-at.result c.tail-k.result (tail_at c.args.r) (tail_of c.args.r) c.tail_at-at.ensures.0 c.tail-k.ensures.0) c.write-done.ensures

pub returns-clause-upper_bound : goal.returns-clause-upper_bound
returns-clause-upper_bound c = write_most c.args.s.now _ c.requires.0 c.args.r.words.0 c.min-n.result c.write-done.result.words c.args.fx.now _ _ (take (tail_of c.args.r) (drop (tail_at c.args.r) c.args.rec.now)) _ c.min-n.ensures (tail_is c.args.rec.now c.tail_at-at.result c.tail-k.result (tail_at c.args.r) (tail_of c.args.r) c.tail_at-at.ensures.0 c.tail-k.ensures.0) c.write-done.ensures _ _ (tail_counts c.args.rec.now (tail_at c.args.r) (tail_of c.args.r) c.requires.1) c.put_completed.ensures.upper_bound
