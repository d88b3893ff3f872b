-- The status words of every run (01, "What changes shape"; 02, T-02), told by what happened: bit n is set exactly where tag n's call
-- counts in the word.
use Rattle.std.specs.Prelude.{ℕ, ◌/◌, ◌%◌, ◌^◌, ◌<◌, ◌≡◌, Bool, not, cond, ◌||◌, ◌&&◌, List}
use Rattle.std.specs.Int.Count.{ones}
use Rattle.status.specs.declared.Status.{Status}
use Rattle.status.specs.declared.Status.TheVariants.{Placeholder, Outstanding, Responded, Fmap, Orphans}
use Rattle.status.specs.Status.{is_in, word_of, count_of}
use Rattle.table.specs.Table.{rising}
use Rattle.events.specs.World.{World, table_of}
use Rattle.events.specs.History.{Fact, book}
use Rattle.events.specs.Run.{Run, Steps}
use Rattle.events.specs.Exactly.{in_state}

-- its caller was reported ended since it was given out, or a wake of it was refused with EINTR
abbrev pub abandoned_at : List Fact → ℕ → Bool
abandoned_at h n = (book h n).ended || (book h n).returned

-- does tag n's call count in the word?
abbrev pub counts_in : Status → List Fact → ℕ → Bool
counts_in Placeholder h n = in_state 1 h n
-- "Outstanding calls become the Waiting slots whose caller has not ended and whose call has not returned"
counts_in Outstanding h n = in_state 2 h n && not (abandoned_at h n)
counts_in Responded h n = in_state 3 h n
counts_in Fmap h n = in_state 4 h n
-- "The other Waiting slots become a fifth status word, orphans"
counts_in Orphans h n = in_state 2 h n && abandoned_at h n

abbrev pub status_word : World → Status → ℕ
status_word w s = word_of (is_in s) (table_of w).slots

pub record Shown (r : Run) (s : Status) : Type 0 where
  pub bits : (n : ℕ) → n < 64 → status_word r.world s / 2 ^ n % 2 ≡ cond (counts_in s r.facts n) 1 0
  pub most : status_word r.world s < 2 ^ 64  -- so it has no other bits
  pub count : ones (status_word r.world s) ≡ count_of (λ n. cond (counts_in s r.facts n) 1 0) (rising 0 64)  -- "with its own count"

abbrev pub Statuses : Type 0
Statuses = (r : Run) → Steps r → (s : Status) → Shown r s
