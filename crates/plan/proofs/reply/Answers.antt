-- What `plan::reply` leaves open. Assumes nothing.
use Rattle.plan.proofs.Laws.{offered_is, held_by, responds}
use Rattle.plan.proofs.reply.Goals as goal

pub returns-in-Fd-clause-plans : goal.returns-in-Fd-clause-plans
returns-in-Fd-clause-plans c = let a = c.args in let e = c.in-Fd.is in λ x z. offered_is a.v a.tag a.fd.0 x a.offer _ c.from_handle.result e (c.from_handle.ensures.plans a.tag x (held_by a.v a.tag a.fd.0 x a.offer _ e z) (responds a.v a.tag a.fd.0 x a.offer _ c.respond-r.result e c.respond-r.ensures.plans))

pub returns-in-Regular-clause-plans : goal.returns-in-Regular-clause-plans
returns-in-Regular-clause-plans c = let a = c.args in let e = c.in-Regular.is in λ x z. offered_is a.v a.tag a.fd.0 x a.offer _ c.respond-r.result e (responds a.v a.tag a.fd.0 x a.offer _ c.respond-r.result e c.respond-r.ensures.plans a.fd.0 x)

pub returns-in-Listed-clause-plans : goal.returns-in-Listed-clause-plans
returns-in-Listed-clause-plans c = let a = c.args in let e = c.in-Listed.is in λ x z. offered_is a.v a.tag a.fd.0 x a.offer _ c.respond-r.result e (responds a.v a.tag a.fd.0 x a.offer _ c.respond-r.result e c.respond-r.ensures.plans a.fd.0 x)
