-- Where all eight have room, they stand among what was there before and behind them.
use Rattle.std.proofs.Common.{◌≡◌, ◌-◌, ◌+◌, refl, sym, ◌∙◌, arith}
use Rattle.std.proofs.lemmas.Grind.{common_steps}
use Rattle.std.proofs.lemmas.List.Edits.{sets-eq}
use Rattle.std.proofs.lemmas.Slice.{put_mid-paste}
use Rattle.le.specs.Le.{bytes8}
use Rattle.le_put.proofs.put8.Goals as goal

pub returns-then-out-at-ge8 : goal.returns-then-out-at-ge8
returns-then-out-at-ge8 c =
    let a = c.args in
    let stored : c.copy_from_slice.new.self ≡ bytes8 a.x = grind (arith, common_steps) in
    put_mid-paste a.at (a.at + 8 - a.at) a.out.now _ (bytes8 a.x) 8 stored (omega arith) refl ∙ sym (sets-eq (bytes8 a.x) a.out.now a.at (omega arith))
