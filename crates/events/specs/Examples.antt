-- Runs that reach each clause of the claims, and the slips that 01 rules out: what each event answers, makes and stores, what
-- happened, and what is left. proofs/Examples.antt computes them. Flags go by their names: no example rests on a value.
use Rattle.std.specs.Prelude.{ℕ, cond, List, [], ◌∷◌, replicate}
use Rattle.flag.specs.Flags.{event_read}
use Rattle.schemev2.specs.Entry.{cqe_bytes}
use Rattle.events.specs.World.{World, fresh_world}
use Rattle.events.specs.Outcome.{Answer, Outcome}
use Rattle.events.specs.Submit.{args6}
use Rattle.events.specs.Event.{call, Event, on, step}
use Rattle.events.specs.History.{Fact}
use Rattle.events.specs.Run.{Run, run}
use Rattle.events.specs.Demand3.{sum, held}

-- a line of a run's output: the answer, the words of its effects, the bytes that it stored
pub record Line : Type 0 where
  pub answer : Answer
  pub effects : List ℕ
  pub bytes : List ℕ

abbrev pub line : Answer → List ℕ → Line
line a fx = record { answer = a; effects = fx; bytes = [] }

abbrev pub line_of : Outcome → Line
line_of o = record { answer = o.answer; effects = o.effects; bytes = o.bytes }

abbrev pub lines_from : World → List Event → List Line
lines_from w [] = []
lines_from w (e ∷ es) = line_of (step w e) ∷ lines_from (step w e).world es

-- scheme number 7, the queue's words all 0
abbrev pub start : World
start = fresh_world 7 (replicate 1024 0)

abbrev pub lines_of : List Event → List Line
lines_of es = lines_from start es

abbrev pub run_of : List Event → Run
run_of es = run 7 (replicate 1024 0) es

abbrev pub facts_of : List Event → List Fact
facts_of es = (run_of es).facts

-- accepted, handed over, held, dropped
abbrev pub counts_of : List Event → List ℕ
counts_of es =
    sum (λ k. 1) 0 (run_of es).facts
    ∷ sum (λ k. 0) 1 (run_of es).facts
    ∷ held (run_of es).world
    ∷ sum (λ k. cond k.ended 1 0) 0 (run_of es).facts
    ∷ []

abbrev pub leaves : List Event → World
leaves es = (run_of es).world

-- a plain call of a caller, with a list; a completion entry by kind, tag and result
abbrev pub call_by : ℕ → List ℕ → Event
call_by c ds = on (call c 6 (args6 0 0 0 0 0 0) 0 0 c ds)

abbrev pub completion : ℕ → ℕ → ℕ → List ℕ
completion kind tag result = cqe_bytes (record { flags = kind; extra_raw = record { 0 = 0; 1 = 0; 2 = 0 }; tag = tag; result = result })

-- effects: the caller is woken, the queue has an entry
abbrev pub woke : ℕ → ℕ → List ℕ
woke caller tag = 1 ∷ caller ∷ tag ∷ []

abbrev pub more : List ℕ
more = 5 ∷ 7 ∷ event_read ∷ []
