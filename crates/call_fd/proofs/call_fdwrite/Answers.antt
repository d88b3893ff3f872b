-- What `call_fd::call_fdwrite` leaves open. Assumes nothing.
use mathlib.Core.Path.{refl, sym, ◌∙◌}
use borrow.Author.Rules.{rules}
use Rattle.events.specs.Outcome.{success}
use Rattle.events.specs.Event.{on, move}
use Rattle.std.specs.Prelude.{false}
use Rattle.step.proofs.Rows.{down}
use Rattle.call_fd.proofs.Cases.{list_refused, list_taken, good_list, went}
use Rattle.call_fd.proofs.call_fdwrite.Goals as goal

pub returns-in_err-list : goal.returns-in_err-list
returns-in_err-list c = let a = c.args in
    down a.s.now a.s.now (on (move a.metadata.now a.fds.now)) (success 0 0 false) _ c.in_err-list.field-0.0 (search rules)
    (list_refused a.s.now a.metadata.now a.fds.now _ (sym c.in_err-list.was ∙ c.look.ensures))

pub returns : goal.returns
returns c = let a = c.args in
    let g = list_taken a.s.now a.metadata.now a.fds.now _ (sym c.in_ok-list.was ∙ c.look.ensures) in
    went a.s.now a.metadata.now a.fds.now g.0 g.1 _ _ _ (c.moved.ensures a.fds.now (good_list a.s.now a.metadata.now a.fds.now g.0 g.1 _ g.2) refl)
