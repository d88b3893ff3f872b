-- What the function of an event promises: on any words, its answer and effects are those of the plain step on the state that is
-- read from them, and every word afterwards is the one that the step on words stores.
use Rattle.std.specs.Prelude.{ℕ, false, ◌≡◌, cond, Result, Ok, Err, List, [], ◌∷◌}
use Rattle.answer.specs.declared.Refusal.{Refusal}
use Rattle.answer.specs.Numbered.{refusal_number}
use Rattle.effect.specs.Effect.{effect_words}
use Rattle.events.specs.Outcome.{Response, success, Answer, no, said_with, Row}
use Rattle.events.specs.Event.{Event, step}
use Rattle.layout.specs.Layout.{plain_of}
use Rattle.packed.specs.Step.{words_after}
use Rattle.step.specs.declared.Step.{Step}

-- the answer that the function of an event returns, a reply handed over beside it; and its effects, which a refusal has none of
abbrev pub answer_with : Response → Result Step Refusal → Answer
answer_with r (Ok s) = said_with r (Ok s.accepted)
answer_with r (Err e) = no (refusal_number e)

abbrev pub answer_of : Result Step Refusal → Answer
answer_of d = answer_with (success 0 0 false) d

abbrev pub effects_of : Result Step Refusal → List ℕ
effects_of (Ok s) = effect_words s.effect
effects_of (Err e) = []

-- from the words ws to the words xs, with answer a and effects fx
pub record Does (ws xs : List ℕ) (e : Event) (a : Answer) (fx : List ℕ) : Type 0 where
  pub answer : a ≡ (step (plain_of ws) e).answer
  pub effects : fx ≡ (step (plain_of ws) e).effects
  pub words : xs ≡ words_after ws e

-- the row that is due first
abbrev pub Due : List Row → ℕ → Type 0
Due [] k = ◌≡◌ {A = ℕ} 0 1
Due (r ∷ rs) k = cond r.due (r.number ≡ k) (Due rs k)
