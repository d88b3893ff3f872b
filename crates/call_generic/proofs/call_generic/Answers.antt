-- What `call_generic::call_generic` leaves open. Assumes nothing.
use Rattle.call_generic.proofs.Cases.{as_call}
use Rattle.call_generic.proofs.call_generic.Goals as goal

pub returns : goal.returns
returns c = let a = c.args in as_call a.s.now _ a.caller a.pid a.fds.now a.base a.len a.metadata.now _ _ _ c.raw.ensures c.call_with.ensures
