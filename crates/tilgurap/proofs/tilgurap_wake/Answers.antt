-- What `tilgurap::tilgurap_wake` leaves open. Assumes nothing.
use Rattle.call_inner.proofs.Cases.{looked_before}
use Rattle.events.specs.World.{slot_in}
use Rattle.layout.specs.Layout.{plain_of}
use Rattle.tilgurap.proofs.tilgurap_wake.Goals as goal

pub returns : goal.returns
returns c = c.wake_words.ensures _ _ _ (looked_before _ _ _ _ c.wake-done.result _ (slot_in (plain_of c.args.words.now) c.args.tag.0) c.stored_reply-kept.ensures c.wake-done.ensures)
