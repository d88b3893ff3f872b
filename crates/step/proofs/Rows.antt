-- An event by its refusal table: turned down by the first row that is due, or carried out. Assumes nothing.
use Prim.Native.Nat.{ℕ}
use mathlib.Core.Path.{◌≡◌, refl, sym, ap, ◌∙◌, subst}
use Rattle.std.specs.Prelude.{Result, Ok, Err}
use mathlib.Core.Bool.{Bool, true, false, cond}
use mathlib.Core.List.{List, [], ◌∷◌}
use native.Mathlib.Omega.{arith}
use Rattle.answer.specs.declared.Accepted.{Accepted}
use Rattle.answer.specs.declared.Refusal.{Refusal}
use Rattle.answer.specs.Numbered.{refusal_number}
use Rattle.effect.specs.Effect.{effect_words}
use Rattle.events.specs.Outcome.{Response, Answer, no, said_with, said, Outcome, Row, checked, refuse}
use Rattle.events.specs.Event.{Event, step}
use Rattle.events.proofs.Checked.{Passed}
use Rattle.layout.specs.Layout.{plain_of}
use Rattle.layout.specs.Store.{Store, stored_all}
use Rattle.packed.specs.Stores.{unless, stores_of}
use Rattle.step.specs.declared.Step.{Step}
use Rattle.step.specs.Does.{Due, answer_with, effects_of, Does}

pub checked_due : {A : Type 0} (f : ℕ → A) (rows : List Row) (x : A) (k : ℕ) → Due rows k → checked f rows x ≡ f k
checked_due f [] x k d = absurd (omega (arith, d))
checked_due f (r ∷ rs) x k d = go r.due d (checked_due f rs x k)
  where
    go : (b : Bool) → cond b (r.number ≡ k) (Due rs k) → (Due rs k → checked f rs x ≡ f k) → cond b (f r.number) (checked f rs x) ≡ f k
    go true e more = ap f e
    go false e more = more e

pub checked_passed : {A : Type 0} (f : ℕ → A) (rows : List Row) (x : A) → Passed rows → checked f rows x ≡ x
checked_passed f [] x p = refl
checked_passed f (r ∷ rs) x p = ap (λ (b : Bool). cond b (f r.number) (checked f rs x)) p.0 ∙ checked_passed f rs x p.1

-- an event whose step and stores go by the same rows
module _
    (ws : List ℕ) (e : Event) (rows : List Row) (o : Outcome) (ss : List Store)
    (is : step (plain_of ws) e ≡ checked (refuse (plain_of ws)) rows o) (stores : stores_of (plain_of ws) e ≡ unless rows ss)
  where
    pub turned : (k : ℕ) → Due rows k → (a : Answer) (fx : List ℕ) → a ≡ no k → fx ≡ [] → Does ws ws e a fx
    turned k d a fx p q =
        let r : step (plain_of ws) e ≡ refuse (plain_of ws) k = is ∙ checked_due (refuse (plain_of ws)) rows o k d in
        record {
          answer = p ∙ sym (ap (λ (x : Outcome). x.answer) r);
          effects = q ∙ sym (ap (λ (x : Outcome). x.effects) r);
          words = sym (ap (stored_all ws) (stores ∙ checked_due (λ j. []) rows ss k d));
        }

    pub carried : Passed rows → (xs : List ℕ) (a : Answer) (fx : List ℕ) → a ≡ o.answer → fx ≡ o.effects → xs ≡ stored_all ws ss → Does ws xs e a fx
    carried p xs a fx q g h =
        let r : step (plain_of ws) e ≡ o = is ∙ checked_passed (refuse (plain_of ws)) rows o p in
        record {
          answer = q ∙ sym (ap (λ (x : Outcome). x.answer) r);
          effects = g ∙ sym (ap (λ (x : Outcome). x.effects) r);
          words = h ∙ sym (ap (stored_all ws) (stores ∙ checked_passed (λ j. []) rows ss p));
        }

pub told : (p a : Accepted) → p ≡ a → said (Ok p) ≡ said (Ok a)
told p a q = ap (λ (x : Accepted). said (Ok x)) q

-- what a function hands on: a refusal, and what it answers with no effect
module _ (ws xs : List ℕ) (e : Event) (v : Response) where
  pub down : (r : Result Step Refusal) (k : Refusal) → r ≡ Err k → Does ws xs e (no (refusal_number k)) [] → Does ws xs e (answer_with v r) (effects_of r)
  down r k q d = subst (λ (x : Result Step Refusal). Does ws xs e (answer_with v x) (effects_of x)) (sym q) d

  pub quiet : (s : Step) (a : Accepted) → s.accepted ≡ a → effect_words s.effect ≡ [] → Does ws xs e (said_with v (Ok a)) [] → Does ws xs e (answer_with v (Ok s)) (effects_of (Ok s))
  quiet s a p q d = record { answer = ap (λ (x : Accepted). said_with v (Ok x)) p ∙ d.answer; effects = q ∙ d.effects; words = d.words }
