-- The status words (01, "What changes shape"; 02, T-02): bit n is set where slot n passes a test; the count is the number of such
-- slots.
use Rattle.std.specs.Prelude.{◌≡◌, Bool, true, false, not, ◌||◌, ◌&&◌, List, [], ◌∷◌, ℕ, ◌+◌, ◌*◌, eqb}
use Rattle.std.specs.Int.Bits.{bit_and, bit_or}
use Rattle.std.specs.Int.Count.{ones}
use Rattle.slot.specs.declared.Slot.{Slot}
use Rattle.status.specs.declared.Status.{Status}
use Rattle.status.specs.declared.Status.TheVariants.{Placeholder, Outstanding, Responded, Fmap, Orphans}

abbrev pub bit : Bool → ℕ
bit true = 1
bit false = 0

-- nobody will collect its reply
abbrev pub is_abandoned : Slot → Bool
is_abandoned v = v.ended || v.returned

abbrev pub is_waiting : Slot → Bool
is_waiting v = eqb v.state 2

-- the test of each word: "the Waiting slots whose caller has not ended and whose call has not returned", and "the other Waiting slots"
abbrev pub passes : Status → Slot → Bool
passes Placeholder v = eqb v.state 1
passes Outstanding v = is_waiting v && not (is_abandoned v)
passes Responded v = eqb v.state 3
passes Fmap v = eqb v.state 4
passes Orphans v = is_waiting v && is_abandoned v

abbrev pub is_in : Status → Slot → ℕ
is_in s v = bit (passes s v)

-- over any test: the word, the first in the lowest bit, and how many pass
abbrev pub word_of : {A : Type 0} → (A → ℕ) → List A → ℕ
word_of f [] = 0
word_of f (v ∷ s) = word_of f s * 2 + f v

abbrev pub count_of : {A : Type 0} → (A → ℕ) → List A → ℕ
count_of f [] = 0
count_of f (v ∷ s) = f v + count_of f s

-- the word of all Waiting slots, which is no status word any more
abbrev pub waiting_word : List Slot → ℕ
waiting_word s = word_of (λ v. bit (is_waiting v)) s

-- what the words have to do with each other and with the slots, whatever these are
pub record Parted (s : List Slot) : Type 0 where
  pub count : (k : Status) → ones (word_of (is_in k) s) ≡ count_of (is_in k) s
  -- "The two words share no bit, and together they are the old Waiting word"
  pub apart : bit_and (word_of (is_in Outstanding) s) (word_of (is_in Orphans) s) ≡ 0
  pub together : bit_or (word_of (is_in Outstanding) s) (word_of (is_in Orphans) s) ≡ waiting_word s
  pub sum : word_of (is_in Outstanding) s + word_of (is_in Orphans) s ≡ waiting_word s
  pub total : ones (word_of (is_in Outstanding) s) + ones (word_of (is_in Orphans) s) ≡ ones (waiting_word s)
