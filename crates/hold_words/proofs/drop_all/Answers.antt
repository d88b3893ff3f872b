-- What `hold_words::drop_all` leaves open. Assumes nothing.
use Rattle.closes.specs.Closes.{only, closes}
use lib.Seq.{sets}
use lib.ListN.{length}
use Prim.Native.Nat.{ℕ}
use mathlib.Core.Path.{ap, ◌∙◌}
use mathlib.Core.List.{List}
use Rattle.counts.proofs.Laws.{less_all_length}
use Rattle.counts.specs.Counts.{lasts, less_all}
use Rattle.fd_list.specs.Lists.{numbers}
use Rattle.hold_words.proofs.Parts.{all_lent, all_back}
use Rattle.hold_words.proofs.drop_all.Goals as goal

pub returns-clause-value : goal.returns-clause-value
returns-clause-value c = let a = c.args in
    let q = all_lent a.s.now in
    let e = c.drop_all.ensures in e.value ∙ ap (λ (l : List ℕ). length (only a.follows (lasts l (numbers a.l)))) q

pub returns-clause-s_after : goal.returns-clause-s_after
returns-clause-s_after c = let a = c.args in
    let q = all_lent a.s.now in
    let e = c.drop_all.ensures in all_back a.s.now c.told-s (λ (l : List ℕ). less_all l (numbers a.l)) (less_all_length (numbers a.l)) _ e.a_after

pub returns-clause-fx_after : goal.returns-clause-fx_after
returns-clause-fx_after c = let a = c.args in
    let q = all_lent a.s.now in
    let e = c.drop_all.ensures in e.fx_after ∙ ap (λ (l : List ℕ). sets a.fx.now a.at (closes (only a.follows (lasts l (numbers a.l))))) q
