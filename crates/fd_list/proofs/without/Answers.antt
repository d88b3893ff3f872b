-- What `fd_list::without` leaves open. Assumes nothing.
use mathlib.Core.Path.{ap, ◌∙◌}
use Prim.Native.Nat.{ℕ, min}
use lib.ListN.{length}
use Rattle.fd_list.proofs.Laws.{without_made}
use Rattle.fd_list.proofs.without.Goals as goal

pub returns : goal.returns
returns c =
    let names = c.named-names in
    let first = c.min-first.ensures ∙ ap (λ (k : ℕ). min k (length names.result.now)) c.from.ensures in
    without_made c.args.l c.args.k c.min-first.result names.result.now names.ensures.value names.ensures.upper_bound first _ c.copy_from_slice.ensures.after
