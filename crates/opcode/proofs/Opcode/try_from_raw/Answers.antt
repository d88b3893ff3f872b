-- What `Opcode::try_from_raw` leaves open. Assumes nothing.
use Rattle.std.proofs.Common.{arith, ◌≡◌, ◌-◌, ◌≤◌}
use Rattle.opcode.proofs.Table.{looked_up}
use Rattle.opcode.proofs.Opcode.try_from_raw.Goals as goal

pub returns : goal.returns
returns c =
    let low : 3 ≤ c.args.raw = grind (arith, c.checked_sub.ensures, c.in_ok-n.was) in
    let n : c.in_ok-n.n ≡ c.args.raw - 3 = grind (arith, c.checked_sub.ensures, c.in_ok-n.was) in
    looked_up _ c.args.raw c.in_ok-n.n low n c.if-n-ge32.false
