-- What else an event does, told by what happened (01, "Submitting", "Completions"): the bytes that it stores, its effects, the
-- scheme number. A part of Exactly. Of a write only the wakes are told, not its unmaps, closes and events.
use Rattle.std.specs.Prelude.{ℕ, ◌≡◌, Bool, true, false, not, cond, ◌&&◌, List, [], ◌∷◌, ◌++◌, eqb, take}
use Rattle.flag.specs.Flags.{event_read}
use Rattle.events.specs.World.{scheme_of, unread_in}
use Rattle.events.specs.Outcome.{is_blocked, on_ok}
use Rattle.events.specs.History.{Fact, to, end, book, View, tells, sends, wakes, reads, writes, moves, supplies, news}
use Rattle.events.specs.Run.{Turn}
use Rattle.events.specs.Demand3.{on_reply}

-- an accepted reply makes effect 1 with its call's caller and tag, a returned call's too, and none for an ended caller
abbrev pub wakes_for : List Fact → List Fact → List ℕ
wakes_for h [] = []
wakes_for h (to n x ∷ fs) =
    let k = book (fs ++ h) n in wakes_for h fs ++ on_reply x (cond k.ended [] (1 ∷ k.caller ∷ n ∷ [])) [] []
wakes_for h (end c ∷ fs) = wakes_for h fs

-- of effects, three words each, those of kind 1
abbrev pub wakes_in : List ℕ → List ℕ
wakes_in [] = []
wakes_in (k ∷ []) = []
wakes_in (k ∷ a ∷ []) = []
wakes_in (k ∷ a ∷ b ∷ fx) = cond (eqb k 1) (k ∷ a ∷ b ∷ wakes_in fx) (wakes_in fx)

-- what a read stores in the bytes that it is lent
abbrev pub stores : Turn → View → List ℕ
stores t (tells f) = []
stores t (sends f e flags) = []
stores t (wakes n c killed span) = []
stores t reads = on_ok t.outcome.answer (λ v. take v (unread_in t.before)) []
stores t (writes words bs) = []
stores t (moves ds) = []
stores t (supplies n) = []

-- "Each entry queued here or by a wake makes effect 5 [scheme number, flags], with the Rust's flags"
abbrev pub root : Turn → ℕ → List ℕ
root t flags = 5 ∷ scheme_of t.before ∷ flags ∷ []

abbrev pub makes : Turn → View → List ℕ
makes t (tells f) = []
makes t (sends f e flags) = on_ok t.outcome.answer (λ v. root t flags) []
makes t (wakes n c killed span) = cond (is_blocked t.outcome.answer && not (book t.past n).was_blocked) (root t event_read) []
makes t reads = []
makes t (writes words bs) = wakes_for t.past (news t.number t.before (writes words bs) t.outcome.answer)
makes t (moves ds) = []
makes t (supplies n) = []

abbrev pub is_write : View → Bool
is_write (tells f) = false
is_write (sends f e flags) = false
is_write (wakes n c killed span) = false
is_write reads = false
is_write (writes words bs) = true
is_write (moves ds) = false
is_write (supplies n) = false

pub record Rest (t : Turn) (v : View) : Type 0 where
  pub bytes : t.outcome.bytes ≡ stores t v
  pub effects : cond (is_write v) (wakes_in t.outcome.effects) t.outcome.effects ≡ makes t v
  pub scheme : scheme_of t.outcome.world ≡ scheme_of t.before
