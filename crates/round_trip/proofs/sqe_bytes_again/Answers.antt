-- What `round_trip::sqe_bytes_again` leaves open. Assumes nothing.
use mathlib.Core.Path.{ap, ◌∙◌}
use Rattle.schemev2.specs.Entry.{sqe_bytes}
use Rattle.schemev2.proofs.RoundTrip.{sqe_encoded}
use Rattle.round_trip.proofs.sqe_bytes_again.Goals as goal

pub returns : goal.returns
returns c = λ e. c.sqe_bytes.ensures ∙ ap sqe_bytes c.sqe.ensures
    ∙ sqe_encoded c.args.s.now e (λ i. (c.shared_slice_known-1.given i).fits)
