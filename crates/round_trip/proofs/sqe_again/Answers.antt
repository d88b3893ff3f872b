-- What `round_trip::sqe_again` leaves open. Assumes nothing.
use mathlib.Core.Path.{ap, ◌∙◌}
use Rattle.schemev2.specs.Entry.{sqe_of}
use Rattle.schemev2.proofs.RoundTrip.{sqe_decoded}
use borrow.Author.Rules.{rules}
use Rattle.round_trip.proofs.sqe_again.Goals as goal

pub returns : goal.returns
returns c = c.sqe.ensures ∙ ap sqe_of c.sqe_bytes-bytes.ensures
    ∙ sqe_decoded c.args.e (record { tag = search rules; arg0 = search rules; arg1 = search rules; arg2 = search rules; arg3 = search rules; arg4 = search rules; arg5 = search rules; caller = search rules })
