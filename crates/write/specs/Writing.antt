-- What an entry of a write comes to, the numbers that refuse one, and a write.
use Rattle.std.specs.Prelude.{ℕ, ◌≡◌, Bool, List, [], ◌∷◌, eqb, length}
use Rattle.std.proofs.lemmas.List.Edits.{sets}
use Rattle.counts.specs.Counts.{any}
use Rattle.parse_cqe.specs.Parsed.{parsed_of}
use Rattle.schemev2.specs.declared.Cqe.{Cqe}
use Rattle.events.specs.World.{World, holds_of, handles_of, slot_in}
use Rattle.events.specs.Outcome.{Answer}
use Rattle.events.specs.Entry.{Decision, decision_of}
use Rattle.events.specs.Complete.{after}
use Rattle.events.specs.Event.{on, write, step}
use Rattle.layout.specs.Layout.{plain_of}
use Rattle.layout.specs.Store.{stored_all}
use Rattle.packed.specs.Stores.{entry_stores}
use Rattle.packed.specs.Step.{words_after}

abbrev pub refusals : List ℕ
refusals = 77 ∷ 22 ∷ 2 ∷ []

abbrev pub is_refusal : ℕ → Bool
is_refusal k = any (eqb k) refusals

-- the decision on an entry
abbrev pub decision_at : World → Cqe → Decision
decision_at w e = decision_of (parsed_of e) (slot_in w e.tag) (holds_of w) (handles_of w)

-- from the words ws to xs and the lent words fx to gx, effects from word `at` on: 0 or the refusal k, and j words of effects
pub record Enters (ws xs fx gx : List ℕ) (at : ℕ) (e : Cqe) (k j : ℕ) : Type 0 where
  pub number : k ≡ (decision_at (plain_of ws) e).number
  pub words : j ≡ length (decision_at (plain_of ws) e).effects
  pub lent : gx ≡ sets fx at (decision_at (plain_of ws) e).effects
  pub stored : xs ≡ stored_all ws (entry_stores (plain_of ws) e)
  pub left : plain_of xs ≡ after (plain_of ws) e.tag (decision_at (plain_of ws) e)

-- a write: its answer, the effects in the lent words and how many words these are, every word of the state, and so the plain state
pub record Writes (ws xs fx gx bs : List ℕ) (a : Answer) (j : ℕ) : Type 0 where
  pub answer : a ≡ (step (plain_of ws) (on (write (length fx) bs))).answer
  pub lent : gx ≡ sets fx 0 (step (plain_of ws) (on (write (length fx) bs))).effects
  pub count : j ≡ length (step (plain_of ws) (on (write (length fx) bs))).effects
  pub words : xs ≡ words_after ws (on (write (length fx) bs))
  pub left : plain_of xs ≡ (step (plain_of ws) (on (write (length fx) bs))).world
