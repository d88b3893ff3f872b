-- What `queue_words::copy` leaves open. Assumes nothing.
use Rattle.std.proofs.Common.{◌≡◌, ◌-◌, ◌*◌, take, get_or, ap, ◌∙◌, arith, rules}
use Rattle.std.proofs.lemmas.Grind.{common_steps}
use Rattle.std.proofs.lemmas.List.Edits.{sets}
use native.Mathlib.Nat.{le_antisymm}
use Rattle.le.specs.Le.{bytes8}
use Rattle.layout.proofs.Regions.{relent}
use Rattle.queue_words.proofs.Copying.{again, finish}
use Rattle.queue_words.proofs.copy.Goals as goal

pub loop-i-preserved : goal.loop-i-preserved
loop-i-preserved c =
    let l = c.loop-i in
    let a = c.args in
    record {
      within = search rules;
      rest =
          again a.q a.ring.now (a.q.len * 8) a.n _ l.out _ l.i _ _ c.requires.0 (omega (arith, c.requires.2)) c.loop-i-test.true c.place-p.ensures c.min-k.ensures
          c.copy_run.ensures l.invariant.rest;
    }

pub returns-then-left-ne0 : goal.returns-then-left-ne0
returns-then-left-ne0 c =
    let l = c.loop-i in
    let a = c.args in
    let word : c.to_le_bytes-last.result ≡ bytes8 (get_or a.ring.now c.place.result 0) = grind (arith, common_steps) in
    let bytes : c.copy_from_slice.new.self ≡ take (a.n - l.i * 8) (bytes8 (get_or a.ring.now c.place.result 0)) = c.copy_from_slice.ensures.after ∙ ap (take (a.n - l.i * 8)) word in
    let stored = relent l.out (l.i * 8) (a.n - l.i * 8) c.copy_from_slice.new.self (omega arith) (omega arith) ∙ ap (sets l.out (l.i * 8)) bytes in
    finish a.q a.ring.now (a.q.len * 8) a.n _ l.out _ l.i _ c.place.ensures stored (omega (arith, c.requires.2)) (le_antisymm l.invariant.within c.loop-i-test.false) l.invariant.rest
