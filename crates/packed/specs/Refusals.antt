-- Demand 1 on words: a refusal leaves every word as it was, but for the four cases that 01 names; and so does a read that would wait.
use Rattle.std.specs.Prelude.{ℕ, ◌*◌, ◌/◌, ◌≡◌, cond, ◌||◌, List, [], ◌∷◌, eqb, ltb, length, Option, Some, None}
use Rattle.fd_list.specs.Lists.{numbers}
use Rattle.handles.specs.Handles.{held_at, emptied}
use Rattle.schemev2.specs.declared.Cqe.{Cqe}
use Rattle.schemev2.specs.declared.CqeOpcode.{CqeOpcode}
use Rattle.schemev2.specs.declared.CqeOpcode.TheVariants.{RespondRegular, RespondWithFd, SendFevent, ObtainFd, RespondWithMultipleFds, RespondAndNotifyOnDetach}
use Rattle.schemev2.specs.Entry.{kind_of, cqe_of, cqe_opcode_of}
use Rattle.slot.specs.Slots.{interrupted_of}
use Rattle.events.specs.World.{World, holds_of, handles_of, slot_in}
use Rattle.events.specs.Outcome.{no, wait}
use Rattle.events.specs.Submit.{taken_holds}
use Rattle.events.specs.Entry.{dropped, named_of, in_handle}
use Rattle.events.specs.Event.{Event, step}
use Rattle.events.specs.History.{View, tells, sends, wakes, reads, writes, moves, supplies, view_of}
use Rattle.layout.specs.Layout.{size, plain_of}
use Rattle.layout.specs.Store.{Store, put, vacate, all, handles, stored_all}
use Rattle.packed.specs.Stores.{counts}
use Rattle.packed.specs.Step.{words_after}

-- what a refused entry stores: a descriptor response refused by its tag has emptied its handle and dropped the hold
abbrev pub left_by : Option CqeOpcode → World → Cqe → List Store
left_by (Some RespondRegular) w e = []
left_by (Some RespondWithFd) w e =
    cond (eqb (held_at (handles_of w) e.result) 0) []
    (all (dropped (holds_of w) (numbers (named_of (in_handle (handles_of w) e.result)))).holds ∷ handles (emptied (handles_of w) e.result).at ∷ [])
left_by (Some SendFevent) w e = []
left_by (Some ObtainFd) w e = []
left_by (Some RespondWithMultipleFds) w e = []
left_by (Some RespondAndNotifyOnDetach) w e = []
left_by None w e = []

-- what a refusal with number k stores
abbrev pub left_stores : World → View → ℕ → List Store
left_stores w (tells f) k = []
left_stores w (sends f e flags) k = []
left_stores w (wakes n c killed span) k = cond (eqb k 4) (put n (interrupted_of (slot_in w n) span) ∷ []) []
left_stores w reads k = []
left_stores w (writes words bs) k = cond (ltb words (54 * (length bs / 16))) [] (left_by (cqe_opcode_of (kind_of (cqe_of bs))) w (cqe_of bs))
left_stores w (moves ds) k = cond (eqb k 22 || eqb k 2) (counts (dropped (taken_holds w ds) ds)) []
left_stores w (supplies n) k = cond (eqb k 3) (vacate n ∷ []) []

pub record WordsStay : Type 0 where
  pub refused :
      (ws : List ℕ) → length ws ≡ size → (e : Event) (k : ℕ) → (step (plain_of ws) e).answer ≡ no k → words_after ws e ≡ stored_all ws (left_stores (plain_of ws) (view_of e) k)
  pub waiting : (ws : List ℕ) → length ws ≡ size → (e : Event) → (step (plain_of ws) e).answer ≡ wait → words_after ws e ≡ ws
