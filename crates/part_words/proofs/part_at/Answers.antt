-- What `part_words::part_at` leaves open. Assumes nothing.
use Rattle.std.proofs.Common.{◌≡◌, ◌-◌, length, take, drop, ap, ◌∙◌, arith, rules}
use Rattle.std.proofs.lemmas.List.{take_all, length-drop}
use Rattle.layout.specs.Layout.{part}
use Rattle.part_words.proofs.part_at.Goals as goal

pub returns : goal.returns
unfolding part
returns c =
    let s = c.args.s.now in
    let at = c.args.at in
    let long : length s ≡ 2060 = search rules in
    let is = rw c.unwrap.ensures at c.first_chunk.ensures.cases in
    is.same ∙ ap (take 64) (take_all (2060 - at) (drop at s) (omega (arith, length-drop at s)))
