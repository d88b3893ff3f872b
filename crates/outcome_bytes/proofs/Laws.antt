-- The parts of what is told of an event, one behind the other. Assumes nothing.
use Prim.Native.Nat.{ℕ, zero, suc, ◌+◌, ◌*◌, ◌<◌, ◌≤◌}
use mathlib.Core.Path.{◌≡◌, refl, sym, ap, ◌∙◌, subst}
use mathlib.Core.Bool.{false}
use mathlib.Core.List.{List, [], ◌∷◌, ◌++◌, append_assoc, append-nil}
use native.Mathlib.Omega.{arith}
use lib.ListN.{length, length-append}
use lib.Seq.{sets}
use Rattle.std.specs.Prelude.{Option, Some, Result}
use Rattle.answer.specs.declared.Accepted.{Accepted}
use Rattle.answer.specs.declared.Refusal.{Refusal}
use Rattle.effect.specs.declared.Effect.{Effect}
use Rattle.effect.specs.declared.Effect.TheVariants.{Wake, Event, Root}
use Rattle.effect.specs.declared.EffectWords.{EffectWords}
use Rattle.effect.specs.Effect.{effect_words, effect_of}
use Rattle.fd_list.specs.declared.List.{List as Fds}
use Rattle.fd_list.specs.Lists.{numbers}
use Rattle.slot.specs.declared.Reply.{Reply}
use Rattle.status.specs.Status.{bit}
use Rattle.answer_words.specs.declared.AnswerWords.{AnswerWords}
use Rattle.answer_words.specs.Words.{words_of}
use Rattle.answer_words.proofs.Laws.{with_reply, step_reply}
use Rattle.events.specs.Outcome.{Response, success, many, Answer, ok, no, wait, blocked, reply, said}
use Rattle.events.specs.Wake.{response_by, response_from}
use Rattle.step.specs.declared.Step.{Step}
use Rattle.step.specs.Does.{answer_with}
use Rattle.outcome_bytes.specs.Output.{answer_words, told}
use Rattle.le.specs.Le.{bytes8, bytes_of}
use Rattle.word_put.proofs.Stores.{two_runs}
use Rattle.wait_queue.proofs.Unread.{length_bytes}

-- an effect's three words behind their number
pub one_effect :
    (e : Option Effect) (x : Effect) → e ≡ Some x → (w : EffectWords) → w ≡ effect_of (effect_words e) → (l m n : List ℕ) (at : ℕ)
    → m ≡ sets l at (bytes_of (3 ∷ w.kind ∷ [])) → n ≡ sets m (at + 16) (bytes_of (w.a ∷ w.b ∷ []))
    → (n ≡ sets l at (bytes_of (length (effect_words e) ∷ effect_words e))) × (32 ≡ length (bytes_of (length (effect_words e) ∷ effect_words e)))
one_effect e x q w ew l m n at p r =
    subst (λ (y : Option Effect). (n ≡ sets l at (bytes_of (length (effect_words y) ∷ effect_words y))) × (32 ≡ length (bytes_of (length (effect_words y) ∷ effect_words y)))) (sym q)
    (go x (p ∙ ap (λ (y : EffectWords). sets l at (bytes_of (3 ∷ y.kind ∷ []))) f) (r ∙ ap (λ (y : EffectWords). sets m (at + 16) (bytes_of (y.a ∷ y.b ∷ []))) f))
  where
    f : w ≡ effect_of (effect_words (Some x))
    f = ew ∙ ap (λ (y : Option Effect). effect_of (effect_words y)) q

    go :
        (y : Effect) → m ≡ sets l at (bytes_of (3 ∷ (effect_of (effect_words (Some y))).kind ∷ []))
        → n ≡ sets m (at + 16) (bytes_of ((effect_of (effect_words (Some y))).a ∷ (effect_of (effect_words (Some y))).b ∷ []))
        → (n ≡ sets l at (bytes_of (length (effect_words (Some y)) ∷ effect_words (Some y)))) × (32 ≡ length (bytes_of (length (effect_words (Some y)) ∷ effect_words (Some y))))
    go (Wake c t) a b = (two_runs l m n (bytes_of (3 ∷ 1 ∷ [])) (bytes_of (c ∷ t ∷ [])) at (at + 16) a refl b, refl)
    go (Event k g) a b = (two_runs l m n (bytes_of (3 ∷ 4 ∷ [])) (bytes_of (k ∷ g ∷ [])) at (at + 16) a refl b, refl)
    go (Root k g) a b = (two_runs l m n (bytes_of (3 ∷ 5 ∷ [])) (bytes_of (k ∷ g ∷ [])) at (at + 16) a refl b, refl)

-- the effect and no bytes, behind what stands before them
pub rest_runs :
    (l m n xs ys : List ℕ) (at k : ℕ) → m ≡ sets l at xs → k ≡ length xs → n ≡ sets m (at + k) ys
    → (n ≡ sets l at (xs ++ ys)) × (at + k + length ys ≡ at + length (xs ++ ys))
rest_runs l m n xs ys at k em ek en =
    (two_runs l m n xs ys at (at + k) em (omega (arith, ek)) en, omega (arith, ek, length-append xs ys))

-- an answer, and what stands behind it
joined : (xs ys zs : List ℕ) → xs ++ (ys ++ zs) ≡ xs ++ ys ++ zs ++ []
joined xs ys zs = sym (append_assoc xs ys zs) ∙ sym (append-nil (xs ++ ys ++ zs))

pub step_runs :
    (l m n xs ys zs : List ℕ) (k r : ℕ) → m ≡ sets l 0 xs → k ≡ length xs → n ≡ sets m k (ys ++ zs) → r ≡ k + length (ys ++ zs)
    → (n ≡ sets l 0 (xs ++ ys ++ zs ++ [])) × (r ≡ length (xs ++ ys ++ zs ++ []))
step_runs l m n xs ys zs k r em ek en er = (
  two_runs l m n xs (ys ++ zs) 0 k em (omega (arith, ek)) en ∙ ap (sets l 0) (joined xs ys zs),
  let z : r ≡ length (xs ++ (ys ++ zs)) = omega (arith, ek, er, length-append xs (ys ++ zs)) in z ∙ ap length (joined xs ys zs),
)

-- a write: the answer, how many words of effects, these, and no bytes
pub write_runs :
    (l m n o p xs fx : List ℕ) (k : ℕ) → m ≡ sets l 0 xs → k ≡ length xs → n ≡ sets m k (bytes8 (length fx)) → o ≡ sets n (k + 8) (bytes_of fx)
    → p ≡ sets o (k + 8 + 8 * length fx) (bytes8 0)
    → (p ≡ sets l 0 (xs ++ bytes_of (length fx ∷ fx) ++ bytes8 0 ++ [])) × (k + 16 + 8 * length fx ≡ length (xs ++ bytes_of (length fx ∷ fx) ++ bytes8 0 ++ []))
write_runs l m n o p xs fx k em ek en eo ep =
    let ys : List ℕ = bytes_of (length fx ∷ fx) in
    let behind : o ≡ sets m k ys = two_runs m n o (bytes8 (length fx)) (bytes_of fx) k (k + 8) en refl eo in
    let size : length ys ≡ 8 + 8 * length fx = length_bytes (length fx ∷ fx) ∙ (let z : suc (length fx) * 8 ≡ 8 + 8 * length fx = omega arith in z) in
    step_runs l m p xs ys (bytes8 0) k (k + 16 + 8 * length fx) em ek
    (two_runs m o p ys (bytes8 0) k (k + 8 + 8 * length fx) behind (omega (arith, size)) ep)
    (omega (arith, size, length-append ys (bytes8 0)))

-- a reply by its kind
abbrev pub Replied : List ℕ → List ℕ → ℕ → Response → Type 0
Replied l n k a = (n ≡ sets l 0 (bytes_of (answer_words (reply a)))) × ((k ≡ length (bytes_of (answer_words (reply a)))) × (k ≤ 144))

module _ (r : Reply) (fds : Fds) (l m n : List ℕ) where
  by_kind : (k a : ℕ) → r.kind ≡ k → Replied l n a (response_by k r fds) → Replied l n a (response_from r fds)
  by_kind k a e p = subst (λ (j : ℕ). Replied l n a (response_by j r fds)) (sym e) p

  pub regular_runs :
      (x b : ℕ) → r.kind < 2 → m ≡ sets l 0 (bytes_of (x ∷ r.word ∷ [])) → x ≡ 4 + r.kind → b ≡ bit r.notice → n ≡ sets m 16 (bytes_of (r.extra0 ∷ b ∷ []))
      → Replied l n 32 (response_from r fds)
  regular_runs x b few p ex q s = go r.kind refl few
    where
      words : n ≡ sets l 0 (bytes_of ((4 + r.kind) ∷ r.word ∷ r.extra0 ∷ bit r.notice ∷ []))
      words =
          two_runs l m n (bytes_of ((4 + r.kind) ∷ r.word ∷ [])) (bytes_of (r.extra0 ∷ bit r.notice ∷ [])) 0 16 (p ∙ ap (λ (y : ℕ). sets l 0 (bytes_of (y ∷ r.word ∷ []))) ex) refl
          (s ∙ ap (λ (y : ℕ). sets m 16 (bytes_of (r.extra0 ∷ y ∷ []))) q)

      told : (k : ℕ) → r.kind ≡ k → n ≡ sets l 0 (bytes_of ((4 + k) ∷ r.word ∷ r.extra0 ∷ bit r.notice ∷ []))
      told k e = words ∙ ap (λ (y : ℕ). sets l 0 (bytes_of ((4 + y) ∷ r.word ∷ r.extra0 ∷ bit r.notice ∷ []))) e

      go : (k : ℕ) → r.kind ≡ k → k < 2 → Replied l n 32 (response_from r fds)
      go zero e h = by_kind 0 32 e (told 0 e, (refl, omega arith))
      go (suc zero) e h = by_kind 1 32 e (told 1 e, (refl, omega arith))
      go (suc (suc k)) e h = absurd (let z : ⊥ = omega (arith, h) in z)

  pub descriptor_runs : r.kind ≡ 2 → n ≡ sets l 0 (bytes_of (6 ∷ r.word ∷ [])) → Replied l n 16 (response_from r fds)
  descriptor_runs e p = by_kind 2 16 e (p, (refl, omega arith))

  others : (k : ℕ) → (k ≡ 0 → ⊥) → (k ≡ 1 → ⊥) → (k ≡ 2 → ⊥) → response_by k r fds ≡ many (numbers fds)
  others zero a b c = absurd (a refl)
  others (suc zero) a b c = absurd (b refl)
  others (suc (suc zero)) a b c = absurd (c refl)
  others (suc (suc (suc k))) a b c = refl

  pub many_runs :
      (k : ℕ) → 2 ≤ r.kind → (r.kind ≡ 2 → ⊥) → k ≡ length (numbers fds) → k ≤ 16 → m ≡ sets l 0 (bytes_of (7 ∷ k ∷ []))
      → n ≡ sets m 16 (bytes_of (numbers fds)) → Replied l n (16 + 8 * k) (response_from r fds)
  many_runs k a c ek most p q =
      subst (Replied l n (16 + 8 * k)) (sym (others r.kind (λ e. omega (arith, a, e)) (λ e. omega (arith, a, e)) c)) (
        two_runs l m n (bytes_of (7 ∷ k ∷ [])) (bytes_of (numbers fds)) 0 16 p refl q ∙ ap (λ (j : ℕ). sets l 0 (bytes_of (7 ∷ j ∷ numbers fds))) ek,
        (
          (let z : 16 + 8 * k ≡ suc (suc (length (numbers fds))) * 8 = omega (arith, ek) in z) ∙ sym (length_bytes (7 ∷ length (numbers fds) ∷ numbers fds)),
          omega (arith, most),
        ),
      )

-- an answer that is no reply has two words, one that is has the reply's
two_words : (x : Answer) → ((words_of x).kind ≡ 4 → ⊥) → ((words_of x).kind ∷ (words_of x).value ∷ []) ≡ answer_words x
two_words (ok v) z = refl
two_words (no k) z = refl
two_words wait z = refl
two_words blocked z = refl
two_words (reply r) z = absurd (z refl)

module _ (w : AnswerWords) (x : Answer) (p : w ≡ words_of x) where
  pub plain_words : (w.kind ≡ 4 → ⊥) → (w.kind ∷ w.value ∷ []) ≡ answer_words x
  plain_words z = ap (λ (y : AnswerWords). y.kind ∷ y.value ∷ []) p ∙ two_words x (λ e. z (ap (λ (y : AnswerWords). y.kind) p ∙ e))

  -- a reply handed over by an event that has none
  pub blank_words : w.kind ≡ 4 → x ≡ reply (success 0 0 false) → (w.kind ∷ w.value ∷ 0 ∷ 0 ∷ []) ≡ answer_words x
  blank_words e h = ap (λ (y : AnswerWords). y.kind ∷ y.value ∷ 0 ∷ 0 ∷ []) (p ∙ ap words_of h) ∙ ap answer_words (sym h)

pub reply_words : (w : AnswerWords) (r : Response) (s : Result Step Refusal) → w ≡ words_of (answer_with r s) → w.kind ≡ 4 → answer_words (reply r) ≡ answer_words (answer_with r s)
reply_words w r s p e = ap answer_words (sym (step_reply r w s p e))

-- no event but a wake hands a reply over
pub blank : (w : AnswerWords) (a : Result Accepted Refusal) → w ≡ words_of (said a) → w.kind ≡ 4 → (w.kind ∷ w.value ∷ 0 ∷ 0 ∷ []) ≡ answer_words (said a)
blank w a p e = blank_words w (said a) p e (with_reply (success 0 0 false) a w p e)
