-- What `carry_out::move_handle` leaves open. Assumes nothing.
use Rattle.carry_out.proofs.Carried.{handle_stays}
use Rattle.carry_out.proofs.move_handle.Goals as goal

pub returns-in_default : goal.returns-in_default
returns-in_default c = let a = c.args in handle_stays a.s.now c.told-s a.p.change c.in_default.is
