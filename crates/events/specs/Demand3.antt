-- Demand 3 (document 00) with the terms of 01's "Runs": one claim about all that a run comes to. What happened is a list of
-- facts, newest first, so that what stands behind a fact is what had happened before it. Stored bytes and effects: Effects.antt.
use Rattle.std.specs.Prelude.{ℕ, ◌+◌, ◌*◌, ◌/◌, ◌≡◌, ◌⊎◌, Bool, false, not, cond, ◌&&◌, List, [], ◌∷◌, ◌++◌, leb, eqb, drop, replicate}
use Rattle.std.specs.Int.Count.{ones}
use Rattle.flag.specs.Flags.{sqe_oneway}
use Rattle.le.specs.Le.{bytes4, bytes_of}
use Rattle.schemev2.specs.Entry.{sqe_words}
use Rattle.status.specs.declared.Status.TheVariants as status
use Rattle.status.specs.Status.{is_in, word_of}
use Rattle.events.specs.World.{World, table_of, unread_in}
use Rattle.events.specs.Outcome.{Response, is_reply, is_blocked, on_ok}
use Rattle.events.specs.Event.{Event}
use Rattle.events.specs.History.{What, Fact, to, end, gave, took, serve, block, interrupt, pass, filled, Stage, free, reserved, waits, replied, mapping, Call, book, View, tells, sends, wakes, reads, writes, moves, supplies, view_of}
use Rattle.events.specs.Run.{Turn, Run, turn_of, Steps}  -- Turn: one event with its number, past, state before and outcome

-- every fact of a history, each with what had happened before it; some fact
abbrev pub Every : (List Fact → Fact → Type 0) → List Fact → Type 0
Every P [] = Unit {0}
Every P (f ∷ h) = P h f × Every P h

abbrev pub Some : (List Fact → Fact → Type 0) → List Fact → Type 0
Some P [] = ⊥
Some P (f ∷ h) = P h f ⊎ Some P h

-- the stage that a tag's call is in just before this happens to it: the layer sees to it, whatever drivers write
abbrev pub needs : What → Stage
-- "a call's slot isn't given out again until a reply entry to it is accepted, a map request's not until map supply vacates it"
needs (gave m c) = free  -- and more: not until that reply is handed over or dropped
needs took = reserved  -- a call is submitted once
-- an accepted reply entry "serves its tag's call, which waits"
needs (serve i j r) = waits  -- an entry names but a tag: a driver's second entry for it can still serve the tag's next call
needs block = waits  -- its cancel message is queued "while it waits": only a waiting call's wake is answered still blocked
needs interrupt = waits  -- likewise, only a waiting call's wake is refused with EINTR
needs (pass r) = replied r  -- a reply handed over is that of a served call, not handed over yet
needs filled = mapping  -- map supply vacates map requests alone, each once

abbrev pub fair : List Fact → Fact → Type 0
fair h (to n x) = (book h n).stage ≡ needs x
fair h (end c) = Unit {0}  -- a caller may end at any time

-- "no completion entry serves two calls, even with the same tag one after the other", and no call is served by two: f, before
-- which h had happened, and the earlier f₀, before which h₀ had, are of two places, and of two calls, by tag or by lap
abbrev pub apart : List Fact → Fact → List Fact → Fact → Type 0
apart h f h₀ f₀ =
    (i i₀ j j₀ n n₀ : ℕ) (r r₀ : Response) → f ≡ to n (serve i j r) → f₀ ≡ to n₀ (serve i₀ j₀ r₀)
    → (i ≡ i₀ → j ≡ j₀ → ⊥) × (n ≡ n₀ → (book h n).lap ≡ (book h₀ n₀).lap → ⊥)

-- "a reply handed over is demand 2's reading of the one entry that served its call while it waited": an earlier accepted reply
-- entry to the tag and to the call of this lap reads it; `apart` says that it is the one, `needs` that its call waited
abbrev pub source : ℕ → ℕ → Response → List Fact → Fact → Type 0
source n l r h₀ f₀ = (i : ℕ) × (j : ℕ) × (f₀ ≡ to n (serve i j r)) × ((book h₀ n).lap ≡ l)

abbrev pub sourced : List Fact → Fact → Type 0
sourced h f = (n : ℕ) (r : Response) → f ≡ to n (pass r) → Some (source n (book h n).lap r) h

-- "a wake hands it over exactly when it is well-formed [its call's tag and caller, killed 0 or 1], its call by then served, not
-- yet handed the reply and not returned, its caller not ended"
abbrev pub due : Stage → Call → ℕ → ℕ → Bool
due free k c killed = false
due reserved k c killed = false
due waits k c killed = false
due (replied r) k c killed = leb killed 1 && (eqb k.caller c && (not k.returned && not k.ended))
due mapping k c killed = false

-- the layer's cancel message, 64 bytes: opcode 25, flags ONEWAY, the tag in bytes 4 to 7, all else 0
abbrev pub cancel_bytes : ℕ → List ℕ
cancel_bytes n = (25 ∷ sqe_oneway ∷ 0 ∷ 0 ∷ bytes4 n) ++ replicate 56 0

-- what an event owes
pub record Owed : Type 0 where
  pub hands : Bool  -- whether it hands a reply over
  pub removes : ℕ  -- so many bytes leave the queue's front
  pub adds : List ℕ  -- these join its end

abbrev pub owed : Bool → ℕ → List ℕ → Owed
owed b n new = record { hands = b; removes = n; adds = new }

-- only a wake hands over; a read takes whole entries; an accepted event queues its own entry, and a wake nothing but the Cancel:
-- "The layer itself queues one cancel message for a call, while it waits, exactly at its first wake answered still blocked"
abbrev pub owes : Turn → View → Owed
owes t (tells f) = owed false 0 []
owes t (sends f e flags) = owed false 0 (on_ok t.outcome.answer (λ v. bytes_of (sqe_words (e v))) [])
owes t (wakes n c killed span) =
    let k = book t.past n in
    owed (due k.stage k c killed) 0 (cond (is_blocked t.outcome.answer && not k.was_blocked) (cancel_bytes n) [])
owes t reads = owed false (on_ok t.outcome.answer (λ v. v / 64 * 64) 0) []
owes t (writes words bs) = owed false 0 []
owes t (moves ds) = owed false 0 []
owes t (supplies n) = owed false 0 []

pub record Right (t : Turn) (o : Owed) : Type 0 where  -- the turn's outcome is what is owed
  pub hand : is_reply t.outcome.answer ≡ o.hands  -- a reply exactly where due
  pub queue : unread_in t.outcome.world ≡ drop o.removes (unread_in t.before) ++ o.adds  -- the unread bytes afterwards

-- of what happens to a tag: a for an accepted reply entry, p for a hand-over, else z
abbrev pub on_reply : {A : Type 0} → What → A → A → A → A
on_reply (gave m c) a p z = z
on_reply took a p z = z
on_reply (serve i j r) a p z = a
on_reply block a p z = z
on_reply interrupt a p z = z
on_reply (pass r) a p z = p
on_reply filled a p z = z

-- adds up, over all that happened, a of each accepted reply entry (by its call before it) and p of each hand-over
abbrev pub sum : (Call → ℕ) → ℕ → List Fact → ℕ
sum a p [] = 0
sum a p (to n x ∷ h) = on_reply x (a (book h n)) p 0 + sum a p h
sum a p (end c ∷ h) = sum a p h

-- reply entries accepted; replies handed over; reply entries accepted when their call's caller had already ended
abbrev pub accepted_entries : List Fact → ℕ
accepted_entries h = sum (λ k. 1) 0 h

abbrev pub handed_replies : List Fact → ℕ
handed_replies h = sum (λ k. 0) 1 h

abbrev pub dropped_entries : List Fact → ℕ
dropped_entries h = sum (λ k. cond k.ended 1 0) 0 h

-- still held: the count of ones in the status word Responded, one bit a slot; read from the state
abbrev pub held : World → ℕ
held w = ones (word_of (is_in status.Responded) (table_of w).slots)

pub record Demanded (r : Run) : Type 0 where
  pub facts : Every fair r.facts  -- each thing found its call in the stage that it needs
  pub entries : Every (λ h f. Every (apart h f) h) r.facts  -- any two accepted reply entries are apart
  pub replies : Every sourced r.facts  -- each reply handed over has its entry
  pub turn : (e : Event) → Right (turn_of r e) (owes (turn_of r e) (view_of e))  -- whatever event comes next; so every event of a run, as each beginning of a run is a run
  -- "Accepted reply entries = replies handed over + still held + dropped for ended callers"
  pub balance : accepted_entries r.facts ≡ handed_replies r.facts + (held r.world + dropped_entries r.facts)

-- of every run: any scheme number, any 1,024 words lent for the queue, any events, each on the state that the last step returned
abbrev pub Demand3 : Type 0
Demand3 = (r : Run) → Steps r → Demanded r
