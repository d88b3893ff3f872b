-- A read by what the queue gives. Assumes nothing.
use Prim.Native.Nat.{ℕ}
use mathlib.Core.Path.{◌≡◌, refl, ap, ◌∙◌}
use mathlib.Core.List.{List, []}
use lib.ListN.{length}
use lib.Seq.{sets}
use Rattle.wait_queue.specs.declared.QueueLeft.{QueueLeft}
use Rattle.wait_queue_receive.specs.Receive.{received_of, copied_of}
use Rattle.events.specs.World.{World, queue_of}
use Rattle.events.specs.Outcome.{said}
use Rattle.events.specs.Event.{Event, step, on, read}
use Rattle.layout.specs.Layout.{plain_of}
use Rattle.layout.specs.Store.{stored, queue}
use Rattle.step.specs.Does.{Does}

module _ (ws out : List ℕ) (flags : ℕ) where
  abbrev w : World
  w = plain_of ws

  abbrev e : Event
  e = on (read (length out) flags)

  pub received :
      (o : QueueLeft) (xs new : List ℕ) → o ≡ received_of (queue_of w) (length out) flags → new ≡ copied_of (queue_of w) w.words out → xs ≡ stored ws (queue o.queue)
      → Does ws xs e (said o.answer) [] × (new ≡ sets out 0 (step w e).bytes)
  received o xs new p f x = (
    record {
      answer = ap (λ (y : QueueLeft). said y.answer) p;
      effects = refl;
      words = x ∙ ap (λ (y : QueueLeft). stored ws (queue y.queue)) p;
    },
    f,
  )
