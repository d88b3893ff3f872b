-- A supply, and what is taken as one.
use Rattle.std.proofs.Common.{sym, ◌∙◌}
use Rattle.dispatch.proofs.ByKind.{as_supply, supply_or_none}
use Rattle.dispatch.proofs.event.Goals as goal

pub returns-in-Supply : goal.returns-in-Supply
returns-in-Supply c =
    let r = c.args.r in
    let t = c.try_from_raw.ensures in
    λ bs lent. as_supply r c.args.first.now c.args.second.now bs lent _ _ _ _ r.kind (supply_or_none _ r.kind t.number t.named (sym c.unwrap_or-kind.ensures ∙ c.in-Supply.is)) c.provide_mmap.ensures
