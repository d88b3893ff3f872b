-- A completion entry as a decision on the slot that its tag names, the hold counts and the driver's handles (01, "Completions";
-- src/scheme/user.rs: `handle_parsed` 792 to 848 and 920 to 925, `respond` 926 to 1008).
use Rattle.std.specs.Prelude.{ℕ, ◌-◌, Bool, true, false, not, cond, ◌||◌, List, [], ◌∷◌, ◌++◌, ltb, eqb, length, Result, Ok, Err}
use Rattle.closes.specs.declared.Reason.{Reason}
use Rattle.closes.specs.declared.Reason.TheVariants.{Replied, Ended, Refused}
use Rattle.closes.specs.Closes.{closing, only, closes}
use Rattle.counts.specs.Counts.{lasts}
use Rattle.error.specs.declared.Error.{Error}
use Rattle.error.specs.Reference.{as_usize}
use Rattle.fd_list.specs.declared.List.{List as Fds}
use Rattle.fd_list.specs.Lists.{numbers, list_of}
use Rattle.handles.specs.declared.Handles.{Handles}
use Rattle.handles.specs.Handles.{Gained, held_at, emptied, obtain_of, obtain_closes}
use Rattle.holds.specs.declared.Holds.{Holds}
use Rattle.holds.specs.Holds.{discarded_of}
use Rattle.parse_cqe.specs.declared.ParsedCqe.{ParsedCqe}
use Rattle.parse_cqe.specs.declared.ParsedCqe.TheVariants as parsed
use Rattle.parse_cqe.specs.declared.CqeError.{CqeError}
use Rattle.slot.specs.declared.Act.{Act}
use Rattle.slot.specs.declared.Act.TheVariants.{Leave, Store, Vacate}
use Rattle.slot.specs.declared.PageSpan.{PageSpan}
use Rattle.slot.specs.declared.Phase.{Phase}
use Rattle.slot.specs.declared.Phase.TheVariants.{Vacant, Placeholder, Waiting, Responded, Fmap}
use Rattle.slot.specs.declared.Reply.{Reply}
use Rattle.slot.specs.declared.Slot.{Slot}
use Rattle.slot.specs.Slots.{phase_of, no_fds, vacant_slot, responded_of, with_fds_of}
use Rattle.events.specs.Outcome.{Response, success, error, descriptor, many, Row, row, checked, wake_effect, unmap_effect, event_effect}

-- what is decided: 0 or the refusal's number; what becomes of the slot, and the one to store; counts and handles afterwards;
-- the effects, three words each
pub record Decision : Type 0 where
  pub number : ℕ
  pub act : Act
  pub slot : Slot
  pub holds : Holds
  pub handles : Handles
  pub effects : List ℕ

abbrev pub decided : ℕ → Act → Slot → Holds → Handles → List ℕ → Decision
decided k a v h n fx = record { number = k; act = a; slot = v; holds = h; handles = n; effects = fx }

-- refused: nothing changes
abbrev pub refused_of : Slot → Holds → Handles → ℕ → Decision
refused_of v h n k = decided k Leave v h n []

-- holds dropped in list order: what is left of the counts, and the closes that follow
abbrev pub dropped : Holds → List ℕ → Holds
dropped h ds = discarded_of h ds

abbrev pub closes_of : Reason → Holds → List ℕ → List ℕ
closes_of why h ds = closes (only (closing why) (lasts h.holds ds))

-- what a reply entry brings: a result with extra0 and the notice, a description out of a handle, or the slot's own list
pub data Offer : Type 0 where
  result : Result ℕ Error → ℕ → Bool → Offer
  one : ℕ → Offer
  listed : Offer

-- cancelling and ECANCELED is stored as EINTR; not cancelling and EINTR as EIO (lines 948 to 966)
abbrev pub stored_errno : Bool → ℕ → ℕ
stored_errno true e = cond (eqb e 125) 4 e
stored_errno false e = cond (eqb e 4) 5 e

abbrev pub stored_result : Bool → Result ℕ Error → ℕ → Bool → Response
stored_result canceling (Ok w) x b = success w x b
stored_result canceling (Err e) x b = error (stored_errno canceling (as_usize e.errno)) x b

-- the reply that is stored for it
abbrev pub response_to : Slot → Offer → Response
response_to v (result r x b) = stored_result v.canceling r x b
response_to v (one d) = descriptor d
response_to v listed = many (numbers v.fds)

-- how a slot holds it: kind, word, extra0, notice
abbrev pub stored_as : Response → Reply
stored_as (success w x b) = record { kind = 0; extra0 = x; notice = b; word = w }
stored_as (error e x b) = record { kind = 1; extra0 = x; notice = b; word = e }
stored_as (descriptor d) = record { kind = 2; extra0 = 0; notice = false; word = d }
stored_as (many ds) = record { kind = 3; extra0 = 0; notice = false; word = 0 }

-- the list is kept by "many" alone, every other response drops it (968 to 977)
abbrev pub kept_fds : Offer → Slot → Fds
kept_fds (result r x b) v = no_fds
kept_fds (one d) v = no_fds
kept_fds listed v = v.fds

abbrev pub gone_fds : Offer → Slot → Fds
gone_fds (result r x b) v = v.fds
gone_fds (one d) v = v.fds
gone_fds listed v = no_fds

-- a word over 63 names no description and has no holds
abbrev pub named_of : ℕ → Fds
named_of d = cond (ltb 63 d) no_fds (list_of (d ∷ []))

-- the response's own holds
abbrev pub own_fds : Offer → Slot → Fds
own_fds (result r x b) v = no_fds
own_fds (one d) v = named_of d
own_fds listed v = v.fds

abbrev pub unmap_of : Bool → PageSpan → List ℕ
unmap_of true s = []
unmap_of false s = unmap_effect s.base s.count

-- a slot that is answered: its span is unmapped, where it has pages, and the list that goes is closed (991 to 1006)
abbrev pub release_of : Slot → List ℕ → Holds → List ℕ
release_of v gone h = unmap_of (eqb v.span.count 0) v.span ++ closes_of Replied h gone

-- the caller lives: the reply is stored and the caller woken (980 to 983)
abbrev pub stored_of : Slot → ℕ → Reply → Fds → List ℕ → Holds → Handles → Decision
stored_of v t reply kept gone h n =
    decided 0 Store (responded_of v reply kept) (dropped h gone) n (wake_effect v.caller t ++ release_of v gone h)

-- the caller has ended: the slot is vacated (984 to 986), and the response's own holds are dropped after the list's
abbrev pub lost_of : Slot → List ℕ → List ℕ → Holds → Handles → Decision
lost_of v gone own h n =
    decided 0 Vacate vacant_slot (dropped (dropped h gone) own) n (release_of v gone h ++ closes_of Ended (dropped h gone) own)

-- to a Waiting slot: has its caller ended
abbrev pub served_by : Bool → Slot → ℕ → Offer → Holds → Handles → Decision
served_by false v t o h n = stored_of v t (stored_as (response_to v o)) (kept_fds o v) (numbers (gone_fds o v)) h n
served_by true v t o h n = lost_of v (numbers (gone_fds o v)) (numbers (own_fds o v)) h n

-- by the slot's phase (932 to 1001), where `turn` is what a refusal leaves
abbrev pub respond_by : Phase → (ℕ → Decision) → Slot → ℕ → Offer → Holds → Handles → Decision
respond_by Vacant turn v t o h n = turn 77
respond_by Placeholder turn v t o h n = turn 77
respond_by Waiting turn v t o h n = served_by v.ended v t o h n
respond_by Responded turn v t o h n = turn 22
respond_by Fmap turn v t o h n = turn 22

-- `respond` keeps the handles
abbrev pub respond_of : Slot → ℕ → Offer → Holds → Handles → Decision
respond_of v t o h n = respond_by (phase_of v) (refused_of v h n) v t o h n

-- with descriptor: the description in a handle; with none the entry is refused before its tag is looked at (800 to 813)
abbrev pub in_handle : Handles → ℕ → ℕ
in_handle n k = held_at n k - 1

abbrev pub handle_rows : Handles → ℕ → List Row
handle_rows n k = row 22 (eqb (held_at n k) 0) ∷ []

-- refused by its tag: the description has left its handle, so its hold is dropped
abbrev pub taken_out : Slot → ℕ → Holds → Handles → ℕ → Decision
taken_out v k h n m =
    decided m Leave v (dropped h (numbers (named_of (in_handle n k)))) (emptied n k) (closes_of Refused h (numbers (named_of (in_handle n k))))

abbrev pub by_descriptor : Slot → ℕ → ℕ → Holds → Handles → Decision
by_descriptor v t k h n = respond_by (phase_of v) (taken_out v k h n) v t (one (in_handle n k)) h (emptied n k)

abbrev pub descriptor_of : Slot → ℕ → ℕ → Holds → Handles → Decision
descriptor_of v t k h n = checked (refused_of v h n) (handle_rows n k) (by_descriptor v t k h n)

abbrev pub is_vacant : Phase → Bool
is_vacant Vacant = true
is_vacant Placeholder = false
is_vacant Waiting = false
is_vacant Responded = false
is_vacant Fmap = false

abbrev pub is_waiting : Phase → Bool
is_waiting Vacant = false
is_waiting Placeholder = false
is_waiting Waiting = true
is_waiting Responded = false
is_waiting Fmap = false

-- an obtain entry: the first listed description into the handle (817 to 848)
abbrev pub obtain_rows : Slot → List Row
obtain_rows v = row 22 (is_vacant (phase_of v)) ∷ row 2 (not (is_waiting (phase_of v)) || eqb (length (numbers v.fds)) 0) ∷ []

abbrev pub obtained_as : Slot → Gained → List ℕ → Decision
obtained_as v o fx = decided 0 Store (with_fds_of v o.list) o.holds o.handles fx

abbrev pub obtained : Slot → ℕ → Holds → Handles → Decision
obtained v k h n = obtained_as v (obtain_of h n v.fds k) (obtain_closes h n v.fds k)

abbrev pub obtain_entry_of : Slot → ℕ → Holds → Handles → Decision
obtain_entry_of v k h n = checked (refused_of v h n) (obtain_rows v) (obtained v k h n)

-- `handle_parsed`
abbrev pub decision_of : Result ParsedCqe CqeError → Slot → Holds → Handles → Decision
decision_of (Ok (parsed.TriggerFevent number flags)) v h n = decided 0 Leave v h n (event_effect number flags)
decision_of (Ok (parsed.RegularResponse t r x)) v h n = respond_of v t.0 (result r x false) h n
decision_of (Ok (parsed.ResponseWithFd t k)) v h n = descriptor_of v t.0 k.0 h n
decision_of (Ok (parsed.ResponseWithMultipleFds t c)) v h n = respond_of v t.0 listed h n
decision_of (Ok (parsed.ObtainFd t flags k)) v h n = obtain_entry_of v k.0 h n
decision_of (Ok (parsed.RespondAndNotifyOnDetach t r x)) v h n = respond_of v t.0 (result r x true) h n
decision_of (Err e) v h n = refused_of v h n 22
