-- What `outcome_bytes::put_reply` leaves open. Assumes nothing.
use Rattle.outcome_bytes.proofs.Laws.{regular_runs, descriptor_runs, many_runs}
use mathlib.Core.Path.{refl}
use Rattle.outcome_bytes.proofs.put_reply.Goals as goal

pub returns-then-kind-lt2-clause-out_after : goal.returns-then-kind-lt2-clause-out_after
returns-then-kind-lt2-clause-out_after c = (regular_runs c.args.r c.args.fds c.args.out.now _ _ _ _ c.if-kind-lt2.true c.put_two.ensures refl c.from.ensures c.put_two-then-kind-lt2.ensures).0

pub returns-then-kind-eq2-clause-out_after : goal.returns-then-kind-eq2-clause-out_after
returns-then-kind-eq2-clause-out_after c = (descriptor_runs c.args.r c.args.fds c.args.out.now c.args.out.now _ c.if-kind-eq2.true c.put_two-then-kind-eq2.ensures).0

pub returns-clause-out_after : goal.returns-clause-out_after
returns-clause-out_after c = (many_runs c.args.r c.args.fds c.args.out.now _ _ _ c.if-kind-lt2.false c.if-kind-eq2.false c.size-n.ensures.value c.size-n.ensures.upper_bound c.put_two-2.ensures c.put_fds.ensures).0

pub returns-clause-value : goal.returns-clause-value
returns-clause-value c = (many_runs c.args.r c.args.fds c.args.out.now _ _ _ c.if-kind-lt2.false c.if-kind-eq2.false c.size-n.ensures.value c.size-n.ensures.upper_bound c.put_two-2.ensures c.put_fds.ensures).1.0
