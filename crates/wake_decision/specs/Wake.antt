-- What a wake answers and does, decided on the tag's slot.
use Rattle.std.specs.Prelude.{Bool, true, false, Result, Ok, Err}
use Rattle.answer.specs.declared.Accepted.{Accepted}
use Rattle.answer.specs.declared.Accepted.TheVariants.{Blocked, Replied}
use Rattle.answer.specs.declared.Refusal.{Refusal}
use Rattle.answer.specs.declared.Refusal.TheVariants.{Interrupted, BadDescriptor, NotYours, QueueFull}
use Rattle.slot.specs.declared.Phase.{Phase}
use Rattle.slot.specs.declared.Phase.TheVariants.{Vacant, Placeholder, Waiting, Responded, Fmap}
use Rattle.wake_decision.specs.declared.Decided.{Decided}
use Rattle.wake_decision.specs.declared.Turn.{Turn}
use Rattle.wake_decision.specs.declared.Turn.TheVariants.{Stay, Interrupt, Cancel, HandOver}

abbrev pub does : Result Accepted Refusal → Turn → Decided
does a t = record { answer = a; turn = t }

-- by the phase, whether the slot is wakeable, whether the caller was killed, whether the call is cancelling, whether the queue is
-- full
abbrev pub decided_of : Phase → Bool → Bool → Bool → Bool → Decided
decided_of Vacant y k c f = does (Err BadDescriptor) Stay
decided_of Placeholder y k c f = does (Err BadDescriptor) Stay
decided_of Fmap y k c f = does (Err BadDescriptor) Stay
decided_of Waiting false k c f = does (Err NotYours) Stay
decided_of Waiting true true c f = does (Err Interrupted) Interrupt
decided_of Waiting true false true f = does (Ok Blocked) Stay
decided_of Waiting true false false true = does (Err QueueFull) Stay
decided_of Waiting true false false false = does (Ok Blocked) Cancel
decided_of Responded false k c f = does (Err NotYours) Stay
decided_of Responded true k c f = does (Ok Replied) HandOver
