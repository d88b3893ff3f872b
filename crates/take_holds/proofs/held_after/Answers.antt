-- What `take_holds::held_after` leaves open. Assumes nothing.
use Rattle.take_holds.proofs.Each.{held_needed, held_left}
use Rattle.take_holds.proofs.held_after.Goals as goal

pub returns-then-allowed-needed : goal.returns-then-allowed-needed
returns-then-allowed-needed c = let a = c.args in
    held_needed a.all.now a.outside.now a.before.now a.word _ _ c.allowed.ensures c.mentions-needed.ensures c.if-allowed-needed.true

pub returns : goal.returns
returns c = let a = c.args in
    held_left a.all.now a.outside.now a.before.now a.word _ _ c.allowed.ensures c.mentions-needed.ensures c.if-allowed-needed.false _ c.description_of.ensures
