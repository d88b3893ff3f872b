-- What `run::event_turn` leaves open. Assumes nothing.
use borrow.Author.Rules.{rules}
use Rattle.run.proofs.Turns.{list_holds}
use Rattle.run.proofs.ByKind.{listed_told}
use Rattle.std.proofs.Common.{◌≡◌, ◌<◌, ℕ, length, take, ap, ◌∙◌}
use Rattle.run.proofs.event_turn.Goals as goal

pub returns-clause-by_index : goal.returns-clause-by_index
returns-clause-by_index c = λ bs lent. listed_told c.args.s.now _ c.args.r bs lent _ _ _ _ (ap (λ (n : ℕ). take n c.first_list.new.out) c.from-n.ensures ∙ list_holds c.args.first.now _ c.args.rec.now _ c.args.r.first c.requires.1 (let z : c.args.r.first < 256 = search rules in z) c.first_list.ensures) (ap (λ (n : ℕ). take n c.second_list.new.out) c.from-m.ensures ∙ list_holds c.args.second.now _ c.args.rec.now _ c.args.r.second c.requires.2 (let z : c.args.r.second < 256 = search rules in z) c.second_list.ensures) (let z : length c.args.s.now ≡ 2060 = search rules in z) (let z : c.args.r.number < 0x1_0000_0000 = search rules in z) c.requires.0 _ _ (c.event-done.ensures bs lent) c.args.out.now _ _ c.put_step.ensures.out_after c.put_step.ensures.value
