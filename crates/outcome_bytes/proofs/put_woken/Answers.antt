-- What `outcome_bytes::put_woken` leaves open. Assumes nothing.
use mathlib.Core.Path.{ap, ◌∙◌}
use mathlib.Core.List.{List, [], ◌∷◌}
use Prim.Native.Nat.{ℕ}
use lib.ListN.{length}
use lib.Seq.{sets}
use Rattle.le.specs.Le.{bytes8, bytes_of}
use Rattle.answer_words.specs.Words.{words_of}
use Rattle.events.specs.Wake.{response_from}
use Rattle.effect.specs.Effect.{effect_words}
use Rattle.step.specs.Does.{answer_with}
use Rattle.outcome_bytes.specs.Output.{answer_words, told}
use Rattle.outcome_bytes.proofs.Laws.{step_runs, plain_words, reply_words}
use Rattle.outcome_bytes.proofs.put_woken.Goals as goal

pub returns-then-w-eq4-clause-out_after : goal.returns-then-w-eq4-clause-out_after
returns-then-w-eq4-clause-out_after c = let a = c.args in
    let fx = effect_words c.effect_in-e.result in
    let v = response_from a.r a.fds in
    let w = c.words-w.ensures v ∙ ap words_of (c.answer_in.ensures v) in
    let e = ap bytes_of (reply_words _ v a.done w c.if-w-eq4.true) in
    let p = c.put_reply-k.ensures in
    let r = c.put_rest.ensures in
    let t = step_runs a.out.now _ _ (bytes_of (answer_words (answer_with v a.done))) (bytes_of (length fx ∷ fx)) (bytes8 0) _ _ (p.out_after ∙ ap (sets a.out.now 0) e) (p.value ∙ ap length e) (r.out_after) r.value in t.0 ∙ ap (λ (f : List ℕ). sets a.out.now 0 (told (answer_with v a.done) f [])) c.effect_in-e.ensures

pub returns-then-w-eq4-clause-value : goal.returns-then-w-eq4-clause-value
returns-then-w-eq4-clause-value c = let a = c.args in
    let fx = effect_words c.effect_in-e.result in
    let v = response_from a.r a.fds in
    let w = c.words-w.ensures v ∙ ap words_of (c.answer_in.ensures v) in
    let e = ap bytes_of (reply_words _ v a.done w c.if-w-eq4.true) in
    let p = c.put_reply-k.ensures in
    let r = c.put_rest.ensures in
    let t = step_runs a.out.now _ _ (bytes_of (answer_words (answer_with v a.done))) (bytes_of (length fx ∷ fx)) (bytes8 0) _ _ (p.out_after ∙ ap (sets a.out.now 0) e) (p.value ∙ ap length e) (r.out_after) r.value in t.1 ∙ ap (λ (f : List ℕ). length (told (answer_with v a.done) f [])) c.effect_in-e.ensures

pub returns-clause-out_after : goal.returns-clause-out_after
returns-clause-out_after c = let a = c.args in
    let fx = effect_words c.effect_in-e.result in
    let v = response_from a.r a.fds in
    let w = c.words-w.ensures v ∙ ap words_of (c.answer_in.ensures v) in
    let e = ap bytes_of (plain_words _ (answer_with v a.done) w c.if-w-eq4.false) in
    let r = c.put_rest-2.ensures in
    let t = step_runs a.out.now _ _ (bytes_of (answer_words (answer_with v a.done))) (bytes_of (length fx ∷ fx)) (bytes8 0) 16 _ (c.put_two.ensures ∙ ap (sets a.out.now 0) e) (ap length e) r.out_after r.value in t.0 ∙ ap (λ (f : List ℕ). sets a.out.now 0 (told (answer_with v a.done) f [])) c.effect_in-e.ensures

pub returns-clause-value : goal.returns-clause-value
returns-clause-value c = let a = c.args in
    let fx = effect_words c.effect_in-e.result in
    let v = response_from a.r a.fds in
    let w = c.words-w.ensures v ∙ ap words_of (c.answer_in.ensures v) in
    let e = ap bytes_of (plain_words _ (answer_with v a.done) w c.if-w-eq4.false) in
    let r = c.put_rest-2.ensures in
    let t = step_runs a.out.now _ _ (bytes_of (answer_words (answer_with v a.done))) (bytes_of (length fx ∷ fx)) (bytes8 0) 16 _ (c.put_two.ensures ∙ ap (sets a.out.now 0) e) (ap length e) r.out_after r.value in t.1 ∙ ap (λ (f : List ℕ). length (told (answer_with v a.done) f [])) c.effect_in-e.ensures
