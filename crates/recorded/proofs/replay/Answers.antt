-- What `recorded::replay` leaves open. Assumes nothing.
use Rattle.std.proofs.Common.{◌≡◌, true, length, rules}
use Rattle.le.specs.Le.{word}
use Rattle.recorded.proofs.Laws.{as_compared}
use Rattle.recorded.proofs.replay.Goals as goal

pub returns : goal.returns
returns c =
    let yes : c.as_recorded.result ≡ true = search rules in
    as_compared
    (word c.args.head.now 0)
    c.word.result
    (length c.args.fx.now)
    (length c.args.out.now)
    c.args.events.now
    c.args.recorded.now
    c.compare-compared.result
    c.as_recorded.result
    c.word.ensures
    c.compare-compared.ensures
    c.as_recorded.ensures
    yes
