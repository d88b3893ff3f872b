-- What `queue_words::copy_run` leaves open. Assumes nothing.
use Rattle.std.proofs.Common.{◌≡◌, ◌+◌, ◌*◌, get_or, ap, ◌∙◌, arith}
use Rattle.std.proofs.lemmas.Grind.{common_steps}
use Rattle.std.proofs.lemmas.List.Edits.{sets}
use Rattle.le.specs.Le.{bytes8}
use Rattle.layout.proofs.Regions.{relent}
use Rattle.queue_words.proofs.Copying.{run_more}
use Rattle.queue_words.proofs.copy_run.Goals as goal

pub loop-j-preserved : goal.loop-j-preserved
loop-j-preserved c =
    let a = c.args in
    let l = c.loop-j in
    let bytes : c.copy_from_slice.new.self ≡ bytes8 (get_or a.from.now l.j 0) = grind (arith, common_steps) in
    let stored = relent l.out (a.at + l.j * 8) _ c.copy_from_slice.new.self (omega arith) (omega arith) ∙ ap (sets l.out (a.at + l.j * 8)) bytes in
    run_more a.from.now a.at _ l.out _ l.j c.loop-j-test.true stored l.invariant
