-- What `recorded::compare` leaves open. Assumes nothing.
use Rattle.std.proofs.Common.{length}
use Rattle.recorded.proofs.Laws.{compared_is}
use Rattle.recorded.proofs.compare.Goals as goal

pub returns : goal.returns
returns c =
    compared_is
    c.args.scheme
    (length c.args.fx.now)
    c.args.out.now
    c.args.events.now
    c.args.recorded.now
    _
    c.run-end.result
    c.same.result
    c.run-end.ensures.value
    c.run-end.ensures.out_after
    c.run-end.ensures.written_in_bounds
    c.same.ensures
