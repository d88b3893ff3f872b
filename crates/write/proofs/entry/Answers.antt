-- What `write::entry` leaves open. Assumes nothing.
use Rattle.write.proofs.Entries.{entered, then_acted}
use Rattle.events.specs.World.{holds_of, handles_of}
use Rattle.layout.specs.Layout.{plain_of}
use Rattle.plan.specs.Plans.{decision_by}
use Rattle.write.proofs.Refused.{refused_by, told_refusal}
use Rattle.write.proofs.entry.Goals as goal

pub returns-clause-enters : goal.returns-clause-enters
returns-clause-enters c = let a = c.args in entered a.s.now _ a.fx.now _ a.at a.e c.told-s (search) c.parse_cqe-asked.result c.parse_cqe-asked.ensures c.slot_of-n.result c.slot_of-n.ensures c.load-v.result c.load-v.ensures c.handle_in-k.result c.handle_in-k.ensures c.held_at-held.result c.held_at-held.ensures c.handle_parsed-p.result c.handle_parsed-p.ensures.plans _ c.carry_out-j.ensures.value c.carry_out-j.ensures.fx_after (then_acted a.s.now _ _ (decision_by c.handle_parsed-p.result (holds_of (plain_of a.s.now)) (handles_of (plain_of a.s.now))) _ c.carry_out-j.ensures.s_after c.act_on.ensures)

pub returns-clause-refused : goal.returns-clause-refused
returns-clause-refused c = told_refusal c.handle_parsed-p.result.refusal (refused_by _ _ _ _ _ _ _ _ (returns-clause-enters c))
