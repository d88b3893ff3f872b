-- The queue of submission entries (01, "Queue"; src/sync/wait_queue.rs): a ring of 1,024 words, eight to an entry.
-- A queue is the place of its oldest entry and how many are unread; its words are lent beside it.
use Rattle.std.specs.Prelude.{Bool, true, false, cond, Ok, Err, List, [], ◌∷◌, ℕ, zero, suc, ◌+◌, ◌-◌, ◌*◌, ◌%◌, leb, get_or}
use Rattle.std.proofs.lemmas.List.Edits.{sets}
use Rattle.answer.specs.declared.Accepted.TheVariants.{Done}
use Rattle.answer.specs.declared.Refusal.TheVariants.{QueueFull}
use Rattle.le.specs.Le.{bytes_of}
use Rattle.schemev2.specs.declared.Sqe.{Sqe}
use Rattle.schemev2.specs.Entry.{sqe_words}
use Rattle.wait_queue.specs.declared.WaitQueue.{WaitQueue}
use Rattle.wait_queue.specs.declared.QueueLeft.{QueueLeft}

-- word number i of the unread ones
abbrev pub word_at : WaitQueue → List ℕ → ℕ → ℕ
word_at q ws i = get_or ws ((q.first * 8 + i) % 1024) 0

-- n words from number i on
unfoldable pub words_from : WaitQueue → List ℕ → ℕ → ℕ → List ℕ
words_from q ws i zero = []
words_from q ws i (suc n) = word_at q ws i ∷ words_from q ws (suc i) n

-- the unread bytes, oldest first
abbrev pub unread : WaitQueue → List ℕ → List ℕ
unread q ws = bytes_of (words_from q ws 0 (q.len * 8))

-- `send`: 203 at 128 unread
abbrev pub sent_if : Bool → WaitQueue → QueueLeft
sent_if true q = record { answer = Err QueueFull; queue = q }
sent_if false q = record { answer = Ok Done; queue = record { first = q.first; len = q.len + 1 } }

abbrev pub sent_of : WaitQueue → QueueLeft
sent_of q = sent_if (leb 128 q.len) q

-- where the next entry's words go
abbrev pub place_of : WaitQueue → ℕ
place_of q = (q.first + q.len) % 128 * 8

abbrev pub head_of : Sqe → ℕ
head_of e = e.opcode + e.sqe_flags * 0x100 + e.tag * 0x1_0000_0000

abbrev pub sent_words : WaitQueue → List ℕ → Sqe → List ℕ
sent_words q ws e = cond (leb 128 q.len) ws (sets ws (place_of q) (sqe_words e))

-- whole entries are removed
abbrev pub removed : WaitQueue → ℕ → WaitQueue
removed q k = record { first = (q.first + k) % 128; len = q.len - k }
