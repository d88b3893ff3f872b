-- A completion entry as a plan on one slot and numbers: the decision that it comes to, whatever the counts and the handles are.
use Rattle.std.specs.Prelude.{ℕ, suc, ◌≡◌, Bool, false, ◌||◌, ◌&&◌, Option, Some, None, List, ◌++◌, eqb, ltb, set}
use Rattle.answer.specs.declared.Refusal.{Refusal}
use Rattle.answer.specs.Numbered.{refusal_number}
use Rattle.closes.specs.declared.Reason.TheVariants.{Replied}
use Rattle.closes.specs.Closes.{only, closes}
use Rattle.counts.specs.Counts.{lasts}
use Rattle.effect.specs.declared.EffectWords.{EffectWords}
use Rattle.effect.specs.Effect.{crossed}
use Rattle.fd_list.specs.Lists.{numbers}
use Rattle.handles.specs.declared.Handles.{Handles}
use Rattle.handles.specs.Handles.{handles_with, held_at}
use Rattle.holds.specs.declared.Holds.{Holds}
use Rattle.reply_parts.specs.declared.Offer.{Offer}
use Rattle.reply_parts.specs.declared.Offer.TheVariants as offer
use Rattle.slot.specs.declared.Act.TheVariants.{Leave}
use Rattle.slot.specs.declared.Slot.{Slot}
use Rattle.slot.specs.Slots.{no_fds}
use Rattle.events.specs.Entry.{Decision, decided, dropped, closes_of, unmap_of, result, listed, respond_of, by_descriptor}
use Rattle.plan.specs.declared.Change.{Change}
use Rattle.plan.specs.declared.Plan.{Plan}

-- a description comes out of the handle that holds it
abbrev pub Holding : Offer → ℕ → Type 0
Holding (offer.Regular r e b) x = Unit {0}
Holding (offer.Fd w) x = x ≡ suc w
Holding offer.Listed x = Unit {0}

-- the decision on a reply, by what it offers
abbrev pub replied_of : Offer → Slot → ℕ → ℕ → Holds → Handles → Decision
replied_of (offer.Regular r e b) v t k h n = respond_of v t (result r e b) h n
replied_of (offer.Fd w) v t k h n = by_descriptor v t k h n
replied_of offer.Listed v t k h n = respond_of v t listed h n

-- what a plan's first effect can be: none, a wake of a caller, which has 32 bits, or an event
abbrev pub is_first_effect : EffectWords → Bool
is_first_effect e = (eqb e.kind 0 && (eqb e.a 0 && eqb e.b 0)) || ((eqb e.kind 1 && ltb e.a 0x1_0000_0000) || eqb e.kind 4)

-- the effects: a wake or an event, the span, the closes of the list that goes, those of the reply's own
abbrev pub effects_by : Plan → Holds → List ℕ
effects_by p h =
    crossed p.first
    ++ (unmap_of (eqb p.span.count 0) p.span
    ++ (closes_of Replied h (numbers p.gone)
    ++ closes (only p.closing (lasts (dropped h (numbers p.gone)).holds (numbers p.own)))))

-- the handle that changes
abbrev pub handles_by : Option Change → Handles → Handles
handles_by None n = n
handles_by (Some c) n = handles_with (set n.at c.handle.0 c.held)

-- 0, or the refusal's number
abbrev pub number_by : Option Refusal → ℕ
number_by None = 0
number_by (Some e) = refusal_number e

abbrev pub decision_by : Plan → Holds → Handles → Decision
decision_by p h n =
    decided (number_by p.refusal) p.act p.slot (dropped (dropped h (numbers p.gone)) (numbers p.own)) (handles_by p.change n) (effects_by p h)

-- an entry that is accepted and changes nothing: what a plan begins with
abbrev pub nothing_of : Slot → Plan
nothing_of v =
    record {
      refusal = None;
      act = Leave;
      slot = v;
      first = record { kind = 0; a = 0; b = 0 };
      span = record { base = 0; count = 0 };
      gone = no_fds;
      own = no_fds;
      closing = false;
      change = None;
    }

-- p is the plan of a decision, on counts and handles in which handle k holds x
abbrev pub Plans : Plan → ℕ → ℕ → (Holds → Handles → Decision) → Type 0
Plans p k x f = (h : Holds) (n : Handles) → held_at n k ≡ x → decision_by p h n ≡ f h n
