-- What `call_generic::translate_std_fs_call` leaves open. Assumes nothing.
use Rattle.call_generic.proofs.Cases.{translated}
use Rattle.step.proofs.Tests.{is}
use Rattle.call_generic.proofs.translate_std_fs_call.Goals as goal

pub returns : goal.returns
returns c = let a = c.args in translated a.s.now _ a.caller a.pid a.fds.now a.base a.len a.metadata.now _ _ _ c.raw.ensures c.if-metadata-lt3.false (is c.is_wrong_kind.ensures c.if-is_wrong_kind.false) c.call_with.ensures
