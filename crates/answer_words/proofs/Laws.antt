-- What is handed to a host settles an outcome. Assumes nothing.
use Prim.Native.Nat.{ℕ, zero, suc, ◌<◌, ◌≤◌}
use mathlib.Core.Path.{◌≡◌, refl, sym, ap, ◌∙◌}
use mathlib.Core.Bool.{Bool, true, false, cond}
use lib.Dec.{eqb}
use mathlib.Core.List.{List, [], ◌∷◌}
use native.Mathlib.Omega.{arith}
use borrow.Author.Tests.{eq-eqb, ne_eqb}
use Rattle.std.specs.Prelude.{Result, Ok, Err}
use Rattle.answer.specs.declared.Accepted.{Accepted}
use Rattle.answer.specs.declared.Refusal.{Refusal}
use Rattle.answer.specs.declared.Accepted.TheVariants.{Done, Given, Submitted, Bytes, Descriptions, WouldWait, Blocked, Replied}
use Rattle.effect.specs.declared.EffectWords.{EffectWords}
use Rattle.effect.specs.Effect.{effect_of, crossed}
use Rattle.fd_list.specs.declared.List.{List as Fds}
use Rattle.fd_list.specs.Lists.{list_of, numbers}
use Rattle.slot.specs.declared.Reply.{Reply}
use Rattle.slot.specs.Slots.{no_reply}
use Rattle.events.specs.Event.{Event}
use Rattle.events.specs.Outcome.{Response, many, Answer, ok, no, wait, blocked, reply, said_with}
use Rattle.events.specs.Wake.{response_by, response_from}
use Rattle.step.specs.declared.Step.{Step}
use Rattle.step.specs.Does.{answer_with, Does}
use Rattle.answer_words.specs.declared.AnswerWords.{AnswerWords}
use Rattle.answer_words.specs.declared.StepWords.{StepWords}
use Rattle.answer_words.specs.declared.WakeWords.{WakeWords}
use Rattle.answer_words.specs.Words.{words_of, response_words, reply_of, many_in, fds_of, Settled, SettledWake}

-- the words of an answer and an effect settle the event that they are of
module _ (ws xs : List ℕ) (e : Event) (a : Answer) (fx : List ℕ) (d : Does ws xs e a fx) where
  pub settled : (r : StepWords) → r.answer ≡ words_of a → r.effect ≡ effect_of fx → crossed r.effect ≡ fx → Settled r ws xs e
  settled r p q all =
      record {
        answer = p ∙ ap words_of d.answer;
        effect = q ∙ ap effect_of d.effects;
        effects = all ∙ d.effects;
        words = d.words;
      }

  pub settled_wake :
      (r : WakeWords) → r.answer ≡ words_of a → r.reply ≡ reply_of a → r.fds ≡ fds_of a → r.effect ≡ effect_of fx → crossed r.effect ≡ fx → SettledWake r ws xs e
  settled_wake r p m l q all =
      record {
        answer = p ∙ ap words_of d.answer;
        reply = m ∙ ap reply_of d.answer;
        fds = l ∙ ap fds_of d.answer;
        effect = q ∙ ap effect_of d.effects;
        effects = all ∙ d.effects;
        words = d.words;
      }

-- what an event comes to, told otherwise
pub told_as : (ws xs : List ℕ) (e : Event) (a b : Answer) (fx gx : List ℕ) → b ≡ a → gx ≡ fx → Does ws xs e a fx → Does ws xs e b gx
told_as ws xs e a b fx gx p q d = record { answer = p ∙ d.answer; effects = q ∙ d.effects; words = d.words }

-- a reply is handed over where the kind is 4
pub is_reply_lem : (r : Response) (a : Result Accepted Refusal) → (words_of (said_with r a)).kind ≡ 4 → said_with r a ≡ reply r
is_reply_lem r (Ok Done) e = absurd (omega (arith, e))
is_reply_lem r (Ok (Given t)) e = absurd (omega (arith, e))
is_reply_lem r (Ok (Submitted t)) e = absurd (omega (arith, e))
is_reply_lem r (Ok (Bytes n)) e = absurd (omega (arith, e))
is_reply_lem r (Ok (Descriptions n)) e = absurd (omega (arith, e))
is_reply_lem r (Ok WouldWait) e = absurd (omega (arith, e))
is_reply_lem r (Ok Blocked) e = absurd (omega (arith, e))
is_reply_lem r (Ok Replied) e = refl
is_reply_lem r (Err k) e = absurd (omega (arith, e))

no_reply_lem : (x : Answer) → ((words_of x).kind ≡ 4 → ⊥) → (no_reply ≡ reply_of x) × (list_of [] ≡ fds_of x)
no_reply_lem (ok v) z = (refl, refl)
no_reply_lem (no k) z = (refl, refl)
no_reply_lem wait z = (refl, refl)
no_reply_lem blocked z = (refl, refl)
no_reply_lem (reply r) z = absurd (z refl)

module _ (r : Response) (a : Result Accepted Refusal) (w : AnswerWords) (p : w ≡ words_of (said_with r a)) where
  pub with_reply : w.kind ≡ 4 → said_with r a ≡ reply r
  with_reply e = is_reply_lem r a (sym (ap (λ (x : AnswerWords). x.kind) p) ∙ e)

  pub without_reply : (w.kind ≡ 4 → ⊥) → (no_reply ≡ reply_of (said_with r a)) × (list_of [] ≡ fds_of (said_with r a))
  without_reply z = no_reply_lem (said_with r a) (λ e. z (ap (λ (x : AnswerWords). x.kind) p ∙ e))

-- the same of what the function of an event returns
module _ (r : Response) (w : AnswerWords) where
  pub step_reply : (s : Result Step Refusal) → w ≡ words_of (answer_with r s) → w.kind ≡ 4 → answer_with r s ≡ reply r
  step_reply (Ok t) p e = with_reply r (Ok t.accepted) w p e
  step_reply (Err k) p e = with_reply r (Err k) w p e

  pub step_no_reply : (s : Result Step Refusal) → w ≡ words_of (answer_with r s) → (w.kind ≡ 4 → ⊥) → (no_reply ≡ reply_of (answer_with r s)) × (list_of [] ≡ fds_of (answer_with r s))
  step_no_reply (Ok t) p z = without_reply r (Ok t.accepted) w p z
  step_no_reply (Err k) p z = without_reply r (Err k) w p z

-- a stored reply by its kind
module _ (r : Reply) (l : Fds) where
  by_kind : (k : ℕ) (x : Reply) → r.kind ≡ k → x ≡ response_words (response_by k r l) → x ≡ response_words (response_from r l)
  by_kind k x e p = p ∙ ap (λ (j : ℕ). response_words (response_by j r l)) (sym e)

  pub regular_words : r.kind < 2 → r ≡ response_words (response_from r l)
  regular_words b = go r.kind refl b
    where
      go : (k : ℕ) → r.kind ≡ k → k < 2 → r ≡ response_words (response_from r l)
      go zero e b = by_kind 0 r e (ap (λ (j : ℕ). record { kind = j; extra0 = r.extra0; notice = r.notice; word = r.word }) e)
      go (suc zero) e b = by_kind 1 r e (ap (λ (j : ℕ). record { kind = j; extra0 = r.extra0; notice = r.notice; word = r.word }) e)
      go (suc (suc k)) e b = absurd (omega (arith, b))

  pub descriptor_words : r.kind ≡ 2 → record { kind = 2; extra0 = 0; notice = false; word = r.word } ≡ response_words (response_from r l)
  descriptor_words e = by_kind 2 _ e refl

  others : (k : ℕ) → (k ≡ 0 → ⊥) → (k ≡ 1 → ⊥) → (k ≡ 2 → ⊥) → many (numbers l) ≡ response_by k r l
  others zero a b c = absurd (a refl)
  others (suc zero) a b c = absurd (b refl)
  others (suc (suc zero)) a b c = absurd (c refl)
  others (suc (suc (suc k))) a b c = refl

  pub many_words : 2 ≤ r.kind → (r.kind ≡ 2 → ⊥) → record { kind = 3; extra0 = 0; notice = false; word = 0 } ≡ response_words (response_from r l)
  many_words b c = ap response_words (others r.kind (λ e. omega (arith, b, e)) (λ e. omega (arith, b, e)) c)

  -- only many have a list
  pub no_list : r.kind < 3 → list_of [] ≡ list_of (many_in (response_from r l))
  no_list b = go r.kind b
    where
      go : (k : ℕ) → k < 3 → list_of [] ≡ list_of (many_in (response_by k r l))
      go zero b = refl
      go (suc zero) b = refl
      go (suc (suc zero)) b = refl
      go (suc (suc (suc k))) b = absurd (omega (arith, b))

  pub many_list : 3 ≤ r.kind → list_of (numbers l) ≡ list_of (many_in (response_from r l))
  many_list b = ap (λ (v : Response). list_of (many_in v)) (others r.kind (λ e. omega (arith, b, e)) (λ e. omega (arith, b, e)) (λ e. omega (arith, b, e)))

-- effects
pub same_effect : (e : EffectWords) → crossed (effect_of (crossed e)) ≡ crossed e
same_effect e = go (eqb e.kind 0) refl
  where
    go : (b : Bool) → eqb e.kind 0 ≡ b → crossed (effect_of (cond b [] (e.kind ∷ e.a ∷ e.b ∷ []))) ≡ cond b [] (e.kind ∷ e.a ∷ e.b ∷ [])
    go true p = refl
    go false p = ap (λ (x : Bool). cond x [] (e.kind ∷ e.a ∷ e.b ∷ [])) p

pub no_effect : (e : EffectWords) → e.kind ≡ 0 → record { kind = 0; a = 0; b = 0 } ≡ effect_of (crossed e)
no_effect e z = sym (ap (λ (b : Bool). effect_of (cond b [] (e.kind ∷ e.a ∷ e.b ∷ []))) (eq-eqb e.kind 0 z))

pub an_effect : (e : EffectWords) → (e.kind ≡ 0 → ⊥) → e ≡ effect_of (crossed e)
an_effect e z = sym (ap (λ (b : Bool). effect_of (cond b [] (e.kind ∷ e.a ∷ e.b ∷ []))) (ne_eqb e.kind 0 z))
