-- The two ways between the layouts are inverse, by the laws of crates layout and packed. Assumes nothing.
use Rattle.layout.specs.Layout.{plain_of}
use Rattle.layout.proofs.Worlds.{plain_fits}
use Rattle.layout.proofs.Packs.{plain_packed}
use Rattle.packed.proofs.Agree.{words_return}
use Rattle.plain.specs.Inverse.{StateReturns, ReadAgain, RunReturns}

pub state_returns : StateReturns
state_returns = plain_packed

pub read_again : ReadAgain
read_again ws size = (plain_fits ws size, plain_packed (plain_of ws) (plain_fits ws size))

pub run_returns : RunReturns
run_returns = words_return
