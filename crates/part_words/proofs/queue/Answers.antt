-- What `part_words::queue` leaves open. Assumes nothing.
use Rattle.layout.proofs.Worlds.{queue_is}
use native.Mathlib.Omega.{arith}
use mathlib.Core.Path.{refl, ◌∙◌}
use Rattle.part_words.proofs.Copying.{part_out}
use Rattle.part_words.proofs.queue.Goals as goal

pub returns : goal.returns
returns c = let a = c.args in part_out a.s.now c.told-s 1036 1024 _ _ _ (omega arith) refl c.told-to c.copy.ensures ∙ queue_is a.s.now
