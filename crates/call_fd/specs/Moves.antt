-- A move whose list was looked at and is good: what its request decides.
use Rattle.std.specs.Prelude.{ℕ, min, ◌≡◌, cond, List, [], ◌∷◌, ◌++◌}
use Rattle.counts.specs.Counts.{less_all}
use Rattle.fd_list.specs.declared.List.{List as Fds}
use Rattle.fd_list.specs.Lists.{numbers, list_of}
use Rattle.slot.specs.Slots.{with_fds_of}
use Rattle.events.specs.World.{World, holds_of, slot_in}
use Rattle.events.specs.Outcome.{Answer, Outcome, checked, refuse}
use Rattle.events.specs.Submit.{taken_holds}
use Rattle.events.specs.Entry.{dropped}
use Rattle.events.specs.Descriptors.{request_of, wrong_words, request_rows, brought_back, moved}
use Rattle.layout.specs.Layout.{plain_of}
use Rattle.layout.specs.Store.{Store, put, stored_all}
use Rattle.packed.specs.Stores.{counts}

-- the slot number that the metadata name, 64 for none
abbrev pub request_slot : ℕ → List ℕ → ℕ
request_slot verb ms = cond (wrong_words verb ms) 64 (min (request_of ms) 64)

abbrev pub moved_of : World → List ℕ → List ℕ → Outcome
moved_of w ms ds = checked (refuse (brought_back w ds)) (request_rows w 1 ms) (moved w (request_of ms) ds)

abbrev pub moved_stores : World → List ℕ → List ℕ → List Store
moved_stores w ms ds =
    checked (λ k. counts (dropped (taken_holds w ds) ds)) (request_rows w 1 ms)
    (counts (dropped (taken_holds w ds) (numbers (slot_in w (request_of ms)).fds)) ++ put (request_of ms) (with_fds_of (slot_in w (request_of ms)) (list_of ds)) ∷ [])

-- a list that is good: its holds are those that it takes
pub record Good (w : World) (ds : List ℕ) (l : Fds) : Type 0 where
  pub list : l ≡ list_of ds
  pub numbers : numbers l ≡ ds
  pub taken : (taken_holds w ds).outside ≡ less_all (holds_of w).outside ds

pub record Moves (ws xs ms ds : List ℕ) (a : Answer) (fx : List ℕ) : Type 0 where
  pub answer : a ≡ (moved_of (plain_of ws) ms ds).answer
  pub effects : fx ≡ (moved_of (plain_of ws) ms ds).effects
  pub words : xs ≡ stored_all ws (moved_stores (plain_of ws) ms ds)
