-- The fresh state (01, "What changes shape"): every slot vacant, queue and handles empty, no description open, and the
-- scheme number as given.
use Rattle.std.specs.Prelude.{ℕ, replicate}
use Rattle.table.specs.Table.{fresh_table}
use Rattle.state.specs.declared.Driver.{Driver}
use Rattle.state.specs.declared.State.{State}

abbrev pub fresh_driver : ℕ → Driver
fresh_driver scheme = record { scheme = scheme; handles = record { at = replicate 64 0 }; queue = record { first = 0; len = 0 } }

abbrev pub fresh_state : ℕ → State
fresh_state scheme = record { driver = fresh_driver scheme; table = fresh_table }
