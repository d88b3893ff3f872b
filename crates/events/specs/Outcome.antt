-- What an event answers and leaves: its answer, effects, the bytes that it stored and the state; and how refusals are
-- written down, as rows in 01's order.
use Rattle.std.specs.Prelude.{ℕ, Bool, true, false, cond, List, [], ◌∷◌, Result, Ok, Err}
use Rattle.answer.specs.declared.Accepted.{Accepted}
use Rattle.answer.specs.declared.Refusal.{Refusal}
use Rattle.answer.specs.declared.Accepted.TheVariants.{Done, Given, Submitted, Bytes, Descriptions, WouldWait, Blocked, Replied}
use Rattle.answer.specs.Numbered.{refusal_number}
use Rattle.flag.specs.Flags.{event_read}
use Rattle.events.specs.World.{World, scheme_of}

-- a reply as the Rust's `Response` (src/scheme/user.rs, lines 64 to 68): a regular one with its word or errno, extra0 and
-- kind 5's notice; one descriptor; many
pub data Response : Type 0 where
  success : ℕ → ℕ → Bool → Response
  error : ℕ → ℕ → Bool → Response
  descriptor : ℕ → Response
  many : List ℕ → Response

-- done, with a value or 0; refused with a number; a read would wait; a wake is still blocked; a wake hands a reply over
pub data Answer : Type 0 where
  ok : ℕ → Answer
  no : ℕ → Answer
  wait : Answer
  blocked : Answer
  reply : Response → Answer

-- by its case
abbrev pub on_answer : {A : Type 0} → Answer → (ℕ → A) → (ℕ → A) → A → A → (Response → A) → A
on_answer (ok v) f g x y z = f v
on_answer (no k) f g x y z = g k
on_answer wait f g x y z = x
on_answer blocked f g x y z = y
on_answer (reply r) f g x y z = z r

abbrev pub on_ok : {A : Type 0} → Answer → (ℕ → A) → A → A
on_ok a f x = on_answer a f (λ k. x) x x (λ r. x)

-- a reply is handed over; a wake is still blocked
abbrev pub is_reply : Answer → Bool
is_reply a = on_answer a (λ v. false) (λ k. false) false false (λ r. true)

abbrev pub is_blocked : Answer → Bool
is_blocked a = on_answer a (λ v. false) (λ k. false) false true (λ r. false)

-- effects are three words each: those of `write` go to lent words, in order from the first; any other event has at most one,
-- in its reply. `bytes` are those that a read stored, from the first of the lent ones on.
pub record Outcome : Type 0 where
  pub answer : Answer
  pub effects : List ℕ
  pub bytes : List ℕ
  pub world : World

abbrev pub outcome : Answer → List ℕ → World → Outcome
outcome a fx w = record { answer = a; effects = fx; bytes = []; world = w }

-- 01's number and value of each case of the code's answer; a reply handed over stands beside it
abbrev pub said_with : Response → Result Accepted Refusal → Answer
said_with r (Ok Done) = ok 0
said_with r (Ok (Given t)) = ok t.0
said_with r (Ok (Submitted t)) = ok t.0
said_with r (Ok (Bytes n)) = ok n
said_with r (Ok (Descriptions n)) = ok n
said_with r (Ok WouldWait) = wait
said_with r (Ok Blocked) = blocked
said_with r (Ok Replied) = reply r
said_with r (Err e) = no (refusal_number e)

-- of an event that hands nothing over
abbrev pub said : Result Accepted Refusal → Answer
said a = said_with (success 0 0 false) a

-- refused: nothing changes
abbrev pub refuse : World → ℕ → Outcome
refuse w k = outcome (no k) [] w

-- a row of a refusal table: the number, and when it is due
pub record Row : Type 0 where
  pub number : ℕ
  pub due : Bool

abbrev pub row : ℕ → Bool → Row
row k b = record { number = k; due = b }

-- the first row that is due refuses, and where none is, the event goes on
abbrev pub checked : {A : Type 0} → (ℕ → A) → List Row → A → A
checked turn [] o = o
checked turn (r ∷ rs) o = cond r.due (turn r.number) (checked turn rs o)

-- the kinds of effects: 1 wake (caller, tag), 2 unmap (base page, count), 3 close (description, 0; in crate closes), 4 an event
-- entry's event (number, flags), 5 the root's event for the queue (scheme number, flags)
abbrev pub wake_effect : ℕ → ℕ → List ℕ
wake_effect caller tag = 1 ∷ caller ∷ tag ∷ []

abbrev pub unmap_effect : ℕ → ℕ → List ℕ
unmap_effect base count = 2 ∷ base ∷ count ∷ []

abbrev pub event_effect : ℕ → ℕ → List ℕ
event_effect number flags = 4 ∷ number ∷ flags ∷ []

abbrev pub root_words : ℕ → ℕ → List ℕ
root_words scheme flags = 5 ∷ scheme ∷ flags ∷ []

abbrev pub root_effect : World → ℕ → List ℕ
root_effect w flags = root_words (scheme_of w) flags

-- an entry was queued
abbrev pub readable : World → List ℕ
readable w = root_effect w event_read
