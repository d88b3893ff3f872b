-- The driver reads the queue (01, "Queue"; `read`, src/scheme/user.rs, lines 727 to 741).
use Rattle.std.specs.Prelude.{ℕ, [], take}
use Rattle.wait_queue.specs.Queue.{unread}
use Rattle.wait_queue_receive.specs.Receive.{copied, received_of}
use Rattle.events.specs.World.{World, queue_of, with_queue}
use Rattle.events.specs.Outcome.{Outcome, said}

-- into len bytes
abbrev pub read_of : World → ℕ → ℕ → Outcome
read_of w len flags =
    record {
      answer = said (received_of (queue_of w) len flags).answer;
      effects = [];
      bytes = take (copied (queue_of w) len) (unread (queue_of w) w.words);
      world = with_queue w (received_of (queue_of w) len flags).queue w.words;
    }
