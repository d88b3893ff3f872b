-- What `host::ended` leaves open. Assumes nothing.
use Rattle.std.proofs.Common.{◌∙◌, arith}
use Rattle.answer.specs.declared.Accepted.TheVariants.{Done}
use Rattle.step.proofs.Rows.{told}
use Rattle.layout.specs.Layout.{plain_of}
use Rattle.host.proofs.Marking.{marked_more, same_behind, all_marked}
use Rattle.host.proofs.ended.Goals as goal

pub loop-i-preserved : goal.loop-i-preserved
loop-i-preserved c =
    let a = c.args in
    let l = c.loop-i in
    let w = plain_of a.s.now in
    let h = c.loop-i-test.true in
    record {
      rest = marked_more w a.caller l.s _ l.i h l.invariant.behind c.mark.ensures ∙ l.invariant.rest;
      behind = same_behind w a.caller l.s _ l.i h l.invariant.behind c.mark.ensures;
    }

pub returns : goal.returns
returns c =
    let l = c.loop-i in
    all_marked c.args.caller c.args.s.now l.s l.i _ _ (omega arith) l.invariant.rest (told _ Done c.answered.ensures.answer_value) c.answered.ensures.effect_value
