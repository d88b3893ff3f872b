-- What an event stores fits its place, where the event's numbers fit their types. Assumes nothing.
use Prim.Native.Nat.{ℕ, zero, suc, ◌+◌, ◌<◌, ◌≤◌}
use mathlib.Core.Path.{◌≡◌, refl, ap, ◌∙◌}
use mathlib.Core.Bool.{Bool, true, false, not, cond, ◌||◌, true≢false}
use mathlib.Core.List.{List, [], ◌∷◌, ◌++◌, map}
use native.Mathlib.Omega.{arith}
use native.Mathlib.Nat.{not-suc-le-zero, le_of_suc-le-suc}
use lib.Dec.{ltb, eqb}
use lib.ListN.{get_or, set, take, drop, length, length-set, length-drop}
use lib.Seq.{sets, get_or-drop}
use borrow.Author.Tests.{ltb-true, ltb-false}
use Rattle.answer.specs.declared.Accepted.TheVariants.{Done}
use Rattle.answer.specs.declared.Refusal.TheVariants.{BadArgument, TooManyHolds}
use Rattle.counts.specs.Counts.{any, more, less_all, times}
use Rattle.counts.proofs.Laws.{less_length, less_all_length, more_length, more_all_length}
use Rattle.fd_list.specs.declared.List.{List as Fds}
use Rattle.fd_list.specs.Lists.{desc, num, numbers, blank, list_of, rest_of}
use Rattle.fd_list.proofs.Laws.{list_of_length, numbers_most}
use Rattle.handles.specs.declared.Handles.{Handles}
use Rattle.handles.specs.Handles.{Gained, into, emptied, is_free, obtain_by, obtain_in}
use Rattle.holds.specs.declared.Holds.{Holds}
use Rattle.holds.specs.Holds.{holds_with, unheld}
use Rattle.flag.specs.Flags.{within, event_flags, fobtain_fd_flags}
use Rattle.host_holds.specs.Host.{one_more, one_fewer, left_as, open_of, copy_of, drop_of}
use Rattle.host_put.specs.declared.HoldPut.{HoldPut}
use Rattle.host_put.specs.Put.{inside, put as put-hold}
use Rattle.ids.specs.declared.Description.{Description}
use Rattle.parse_cqe.specs.declared.ParsedCqe.{ParsedCqe}
use Rattle.parse_cqe.specs.declared.ParsedCqe.TheVariants as parsed
use Rattle.parse_cqe.specs.declared.CqeError.{CqeError}
use Rattle.parse_cqe.specs.Parsed.{event_if, obtain_if, parsed_by, parsed_of}
use Rattle.schemev2.specs.declared.Cqe.{Cqe}
use Rattle.schemev2.specs.declared.CqeOpcode.{CqeOpcode}
use Rattle.schemev2.specs.declared.CqeOpcode.TheVariants as kind
use Rattle.schemev2.specs.Entry.{kind_of, extra_of, cqe_opcode_of}
use Rattle.slot.specs.declared.Act.{Act}
use Rattle.slot.specs.declared.Act.TheVariants as act
use Rattle.slot.specs.declared.PageSpan.{PageSpan}
use Rattle.slot.specs.declared.Phase.{Phase}
use Rattle.slot.specs.declared.Phase.TheVariants.{Vacant, Placeholder, Waiting, Responded, Fmap}
use Rattle.slot.specs.declared.Reply.{Reply}
use Rattle.slot.specs.declared.Slot.{Slot}
use Rattle.slot.specs.Slots.{phase_of, vacant_slot, made_of, ended_of, with_fds_of}
use Rattle.table.specs.Table.{no_slot}
use Rattle.std.specs.Prelude.{Ok, Err, Option, Some, None, Result}
use Rattle.answer.specs.declared.Refusal.TheVariants.{BadArgument, TooManyFds}
use Rattle.take_holds.specs.Take.{taken_as, bad}
use Rattle.events.specs.World.{World, table_of, holds_of, handles_of, slot_in, queue_full}
use Rattle.events.specs.Outcome.{Row}
use Rattle.events.specs.Submit.{bad_list, long_list, taken_holds}
use Rattle.events.specs.Wake.{response_of, held_in}
use Rattle.events.specs.Entry.{Decision, Offer, result, one, listed, response_to, stored_as, kept_fds, gone_fds, named_of, own_fds, refused_of, served_by, respond_by, in_handle, handle_rows, taken_out, by_descriptor, descriptor_of, obtain_rows, obtained, obtain_entry_of, decision_of}
use Rattle.events.specs.Event.{host_put}
use Rattle.events.proofs.Checked.{Passed, checked_cases}
use Rattle.layout.specs.Fits.{ListFits, SlotFits, SlotsFit, Fits}
use Rattle.layout.specs.Store.{Store, put, handles, StoresFit}
use Rattle.layout.proofs.Back.{none_fits, vacant_fits}
use Rattle.packed.specs.Stores.{unless, counts, has, marks, blocked_stores, waited_stores, woken_stores, act_stores, decided_stores, entry_stores, supplied_stores, driver_stores}
use Rattle.packed.proofs.Changes.{taken_all}

-- lists of bytes
abbrev pub Small : List ℕ → Type 0
Small l = (i : ℕ) → get_or l i 0 < 256

set_small : (l : List Description) (k d : ℕ) → Small (map num l) → d < 256 → Small (map num (set l k (desc d)))
set_small [] k d f h i = f i
set_small (x ∷ l) zero d f h zero = h
set_small (x ∷ l) zero d f h (suc i) = f (suc i)
set_small (x ∷ l) (suc k) d f h zero = f zero
set_small (x ∷ l) (suc k) d f h (suc i) = set_small l k d (λ j. f (suc j)) h i

sets_small : (ds : List ℕ) (l : List Description) (k : ℕ) → Small (map num l) → Small ds → Small (map num (sets l k (map desc ds)))
sets_small [] l k f g = f
sets_small (d ∷ ds) l k f g = sets_small ds (set l k (desc d)) (suc k) (set_small l k d f (g 0)) (λ i. g (suc i))

take_small : (n : ℕ) (l : List Description) → Small (map num l) → Small (map num (take n l))
take_small zero l f i = omega arith
take_small (suc n) [] f i = omega arith
take_small (suc n) (x ∷ l) f zero = f zero
take_small (suc n) (x ∷ l) f (suc i) = take_small n l (λ j. f (suc j)) i

drop_small : (k : ℕ) (l : List ℕ) → Small l → Small (drop k l)
drop_small k l f i = rw (get_or-drop k l i 0) (f (k + i))

-- none of a list fails a test that small numbers pass
any_small : (p : ℕ → Bool) → ((d : ℕ) → p d ≡ false → d < 256) → (ds : List ℕ) → any p ds ≡ false → Small ds
any_small p f [] e i = omega arith
any_small p f (d ∷ ds) e i = go (p d) refl e (any_small p f ds) i
  where
    go : (b : Bool) → p d ≡ b → b || any p ds ≡ false → (any p ds ≡ false → Small ds) → (i : ℕ) → get_or (d ∷ ds) i 0 < 256
    go true q r more i = absurd (true≢false r)
    go false q r more zero = f d q
    go false q r more (suc i) = more r i

pub list_fits : (ds : List ℕ) → length ds ≤ 16 → Small ds → ListFits (list_of ds)
list_fits ds h f = record { sixteen = list_of_length ds; bytes = sets_small ds blank 0 none_fits.bytes f; len = omega (arith, h) }

rest_fits : (l : Fds) → ListFits l → ListFits (rest_of l)
rest_fits l r =
    list_fits (drop 1 (numbers l)) (omega (arith, length-drop 1 (numbers l), numbers_most l r.sixteen)) (drop_small 1 (numbers l) (take_small l.len l.at r.bytes))

-- slots
slot_at_fits : (vs : List Slot) (n : ℕ) → n < length vs → SlotsFit vs → SlotFits (get_or vs n no_slot)
slot_at_fits [] n h f = absurd (not-suc-le-zero h)
slot_at_fits (v ∷ vs) zero h f = f.0
slot_at_fits (v ∷ vs) (suc n) h f = slot_at_fits vs n (le_of_suc-le-suc h) f.1

pub slot_in_fits : (w : World) → Fits w → (n : ℕ) → SlotFits (slot_in w n)
slot_in_fits w f n = go (ltb n 64) refl
  where
    go : (b : Bool) → ltb n 64 ≡ b → SlotFits (cond b (get_or (table_of w).slots n no_slot) vacant_slot)
    go true e = slot_at_fits (table_of w).slots n (omega (arith, ltb-true n 64 e, f.slots)) f.each
    go false e = vacant_fits

pub made_fits : (state caller : ℕ) (l : Fds) → state < 256 → caller < 4294967296 → ListFits l → SlotFits (made_of state caller l)
made_fits state caller l h c f = record { state = h; caller = c; kind = omega arith; extra0 = omega arith; fds = f }

pub fds_changed : (v : Slot) (l : Fds) → SlotFits v → ListFits l → SlotFits (with_fds_of v l)
fds_changed v l r f = record { state = r.state; caller = r.caller; kind = r.kind; extra0 = r.extra0; fds = f }

-- a completion entry
abbrev ReplyFits : Reply → Type 0
ReplyFits r = (r.kind < 256) × (r.extra0 < 256)

abbrev OfferFits : Offer → Type 0
OfferFits (result r x b) = x < 256
OfferFits (one d) = Unit {0}
OfferFits listed = Unit {0}

reply_fits : (v : Slot) (o : Offer) → OfferFits o → ReplyFits (stored_as (response_to v o))
reply_fits v (result (Ok w) x b) h = (omega arith, h)
reply_fits v (result (Err e) x b) h = (omega arith, h)
reply_fits v (one d) h = (omega arith, omega arith)
reply_fits v listed h = (omega arith, omega arith)

kept_fits : (v : Slot) (o : Offer) → ListFits v.fds → ListFits (kept_fds o v)
kept_fits v (result r x b) f = none_fits
kept_fits v (one d) f = none_fits
kept_fits v listed f = f

abbrev ParsedFits : Result ParsedCqe CqeError → Type 0
ParsedFits (Ok (parsed.TriggerFevent number flags)) = Unit {0}
ParsedFits (Ok (parsed.RegularResponse t r x)) = x < 256
ParsedFits (Ok (parsed.ResponseWithFd t k)) = Unit {0}
ParsedFits (Ok (parsed.ResponseWithMultipleFds t c)) = Unit {0}
ParsedFits (Ok (parsed.ObtainFd t flags k)) = Unit {0}
ParsedFits (Ok (parsed.RespondAndNotifyOnDetach t r x)) = x < 256
ParsedFits (Err e) = Unit {0}

pub record DecisionFits (d : Decision) : Type 0 where
  pub slot : SlotFits d.slot
  pub all : length d.holds.holds ≡ 64
  pub outside : length d.holds.outside ≡ 64
  pub handles : length d.handles.at ≡ 64

module _ (v : Slot) (h : Holds) (fv : SlotFits v) (fa : length h.holds ≡ 64) (fo : length h.outside ≡ 64) where
  served_fits : (b : Bool) (t : ℕ) (o : Offer) (n : Handles) → OfferFits o → length n.at ≡ 64 → DecisionFits (served_by b v t o h n)
  served_fits false t o n g fn =
      let r = reply_fits v o g in
      record {
        slot = record { state = omega arith; caller = fv.caller; kind = r.0; extra0 = r.1; fds = kept_fits v o fv.fds };
        all = less_all_length (numbers (gone_fds o v)) h.holds ∙ fa;
        outside = fo;
        handles = fn;
      }
  served_fits true t o n g fn =
      record {
        slot = vacant_fits;
        all = less_all_length (numbers (own_fds o v)) (less_all h.holds (numbers (gone_fds o v))) ∙ less_all_length (numbers (gone_fds o v)) h.holds ∙ fa;
        outside = fo;
        handles = fn;
      }

  respond_fits :
      (p : Phase) (turn : ℕ → Decision) (t : ℕ) (o : Offer) (n : Handles) → ((k : ℕ) → DecisionFits (turn k)) → OfferFits o → length n.at ≡ 64
      → DecisionFits (respond_by p turn v t o h n)
  respond_fits Vacant turn t o n f g fn = f 77
  respond_fits Placeholder turn t o n f g fn = f 77
  respond_fits Waiting turn t o n f g fn = served_fits v.ended t o n g fn
  respond_fits Responded turn t o n f g fn = f 22
  respond_fits Fmap turn t o n f g fn = f 22

  module _ (n : Handles) (fn : length n.at ≡ 64) where
    refused_fits : (k : ℕ) → DecisionFits (refused_of v h n k)
    refused_fits k = record { slot = fv; all = fa; outside = fo; handles = fn }

    emptied_fits : (k : ℕ) → length (emptied n k).at ≡ 64
    emptied_fits k = length-set n.at k 0 ∙ fn

    taken_fits : (k m : ℕ) → DecisionFits (taken_out v k h n m)
    taken_fits k m = record { slot = fv; all = less_all_length (numbers (named_of (in_handle n k))) h.holds ∙ fa; outside = fo; handles = emptied_fits k }

    descriptor_fits : (t k : ℕ) → DecisionFits (descriptor_of v t k h n)
    descriptor_fits t k =
        checked_cases DecisionFits (refused_of v h n) (handle_rows n k) (by_descriptor v t k h n) refused_fits
        (λ p. respond_fits (phase_of v) (taken_out v k h n) t (one (in_handle n k)) (emptied n k) (taken_fits k) tt (emptied_fits k))

    gained_fits : (k : ℕ) (ds : List ℕ) → let o : Gained = obtain_in ds h n v.fds k in ListFits o.list × (length o.holds.holds ≡ 64) × (length o.holds.outside ≡ 64) × (length o.handles.at ≡ 64)
    gained_fits k [] = (fv.fds, fa, fo, fn)
    gained_fits k (d ∷ ds) = go (is_free n k)
      where
        go : (b : Bool) → let o : Gained = obtain_by b h n v.fds k d in ListFits o.list × (length o.holds.holds ≡ 64) × (length o.holds.outside ≡ 64) × (length o.handles.at ≡ 64)
        go true = (rest_fits v.fds fv.fds, fa, fo, length-set n.at k (suc d) ∙ fn)
        go false = (rest_fits v.fds fv.fds, less_length h.holds d ∙ fa, fo, fn)

    obtain_fits : (k : ℕ) → DecisionFits (obtain_entry_of v k h n)
    obtain_fits k =
        let g = gained_fits k (numbers v.fds) in
        checked_cases DecisionFits (refused_of v h n) (obtain_rows v) (obtained v k h n) refused_fits
        (λ p. record { slot = fds_changed v _ fv g.0; all = g.1; outside = g.2; handles = g.3 })

    decision_fits : (p : Result ParsedCqe CqeError) → ParsedFits p → DecisionFits (decision_of p v h n)
    decision_fits (Ok (parsed.TriggerFevent number flags)) f = record { slot = fv; all = fa; outside = fo; handles = fn }
    decision_fits (Ok (parsed.RegularResponse t r x)) f = respond_fits (phase_of v) (refused_of v h n) t.0 (result r x false) n refused_fits f fn
    decision_fits (Ok (parsed.ResponseWithFd t k)) f = descriptor_fits t.0 k.0
    decision_fits (Ok (parsed.ResponseWithMultipleFds t c)) f = respond_fits (phase_of v) (refused_of v h n) t.0 listed n refused_fits tt fn
    decision_fits (Ok (parsed.ObtainFd t flags k)) f = obtain_fits k.0
    decision_fits (Ok (parsed.RespondAndNotifyOnDetach t r x)) f = respond_fits (phase_of v) (refused_of v h n) t.0 (result r x true) n refused_fits f fn
    decision_fits (Err e) f = refused_fits 22

-- what it asks for
parsed_fits : (e : Cqe) → e.extra_raw.0 < 256 → ParsedFits (parsed_of e)
parsed_fits e h = go (cqe_opcode_of (kind_of e))
  where
    event : (b : Bool) → ParsedFits (event_if b e)
    event true = tt
    event false = tt

    obtaining : (b : Bool) → ParsedFits (obtain_if b e)
    obtaining true = tt
    obtaining false = tt

    go : (k : Option CqeOpcode) → ParsedFits (parsed_by k e)
    go (Some kind.RespondRegular) = h
    go (Some kind.RespondWithFd) = tt
    go (Some kind.SendFevent) = event (within event_flags e.tag)
    go (Some kind.ObtainFd) = obtaining (within fobtain_fd_flags (extra_of e))
    go (Some kind.RespondWithMultipleFds) = tt
    go (Some kind.RespondAndNotifyOnDetach) = h
    go None = tt

pub append_fits : (ss ts : List Store) → StoresFit ss → StoresFit ts → StoresFit (ss ++ ts)
append_fits [] ts f g = g
append_fits (s ∷ ss) ts f g = (f.0, append_fits ss ts f.1 g)

pub decided_fits : (n : ℕ) (d : Decision) → DecisionFits d → StoresFit (decided_stores n d)
decided_fits n d f = (f.outside, (f.all, (f.handles, go d.act)))
  where
    go : (a : Act) → StoresFit (act_stores a n d.slot)
    go act.Leave = tt
    go act.Store = (f.slot, tt)
    go act.Vacate = (tt, tt)

module _ (w : World) (f : Fits w) where
  pub entry_fits : (e : Cqe) → e.extra_raw.0 < 256 → StoresFit (entry_stores w e)
  entry_fits e h =
      decided_fits e.tag (decision_of (parsed_of e) (slot_in w e.tag) (holds_of w) (handles_of w))
      (decision_fits (slot_in w e.tag) (holds_of w) (slot_in_fits w f e.tag) f.all f.outside (handles_of w) f.handles (parsed_of e) (parsed_fits e h))

  pub unless_fits : (rows : List Row) (ss : List Store) → (Passed rows → StoresFit ss) → StoresFit (unless rows ss)
  unless_fits rows ss g = checked_cases StoresFit (λ k. []) rows ss (λ k. tt) g

  counts_fit : (h : Holds) → length h.outside ≡ 64 → length h.holds ≡ 64 → StoresFit (counts h)
  counts_fit h o a = (o, (a, tt))

  pub taken_long : (ds : List ℕ) → length (taken_holds w ds).outside ≡ 64
  taken_long ds = go (any (bad (holds_of w) ds) ds) (ltb 16 (length ds))
    where
      go :
          (a b : Bool)
          → length (cond a (taken_as (Err BadArgument) (holds_of w)) (cond b (taken_as (Err TooManyFds) (holds_of w)) (taken_as (Ok (list_of ds)) (holds_with (holds_of w).holds (less_all (holds_of w).outside ds))))).holds.outside ≡ 64
      go true b = f.outside
      go false true = f.outside
      go false false = less_all_length ds (holds_of w).outside ∙ f.outside

  pub all_long : (ds : List ℕ) → length (taken_holds w ds).holds ≡ 64
  all_long ds = ap (λ (h : Holds). length h.holds) (taken_all w ds) ∙ f.all

  -- a list that is not refused
  pub listed_fits : (ds : List ℕ) → bad_list w ds ≡ false → long_list ds ≡ false → ListFits (list_of ds)
  listed_fits ds q r = list_fits ds (ltb-false 16 (length ds) r) (any_small (bad (holds_of w) ds) (λ d e. below d (ltb 63 d) refl e) ds q)
    where
      below : (d : ℕ) (b : Bool) → ltb 63 d ≡ b → b || (eqb (get_or (holds_of w).holds d 0) 0 || ltb (get_or (holds_of w).outside d 0) (times d ds)) ≡ false → d < 256
      below d true q e = absurd (true≢false e)
      below d false q e = omega (arith, ltb-false 63 d q)

  pub woken_fits : (p : Phase) (n killed : ℕ) (span : PageSpan) → StoresFit (woken_stores p w n killed span)
  woken_fits Vacant n killed span = tt
  woken_fits Placeholder n killed span = tt
  woken_fits Waiting n killed span = waited (eqb killed 1)
    where
      blocked : (a b : Bool) → StoresFit (blocked_stores a b w n)
      blocked true b = tt
      blocked false true = tt
      blocked false false = let v = slot_in_fits w f n in (record { state = v.state; caller = v.caller; kind = v.kind; extra0 = v.extra0; fds = v.fds }, (tt, tt))

      waited : (b : Bool) → StoresFit (waited_stores b w n span)
      waited true = let v = slot_in_fits w f n in (record { state = v.state; caller = v.caller; kind = v.kind; extra0 = v.extra0; fds = v.fds }, tt)
      waited false = blocked (slot_in w n).canceling (queue_full w)
  woken_fits Responded n killed span = (more_all_length (held_in (response_of (slot_in w n))) (holds_of w).outside ∙ f.outside, (tt, tt))
  woken_fits Fmap n killed span = tt

  pub supplied_fits : (p : Phase) (n : ℕ) → StoresFit (supplied_stores p n)
  supplied_fits Vacant n = tt
  supplied_fits Placeholder n = tt
  supplied_fits Waiting n = tt
  supplied_fits Responded n = tt
  supplied_fits Fmap n = (tt, tt)

  pub marks_fit : (c k n : ℕ) → StoresFit (marks k n w c)
  marks_fit c zero n = tt
  marks_fit c (suc k) n = go (has c (slot_in w n)) (marks_fit c k (suc n))
    where
      go : (b : Bool) → StoresFit (marks k (suc n) w c) → StoresFit (cond b (put n (ended_of (slot_in w n)) ∷ marks k (suc n) w c) (marks k (suc n) w c))
      go true more = let v = slot_in_fits w f n in (record { state = v.state; caller = v.caller; kind = v.kind; extra0 = v.extra0; fds = v.fds }, more)
      go false more = more

  -- the host's events
  abbrev Counted : Holds → Type 0
  Counted h = StoresFit (counts h)

  more_fits : (d : ℕ) → Counted (one_more (holds_of w) d)
  more_fits d = counts_fit (one_more (holds_of w) d) (more_length (holds_of w).outside d ∙ f.outside) (more_length (holds_of w).holds d ∙ f.all)

  same_fits : Counted (holds_of w)
  same_fits = counts_fit (holds_of w) f.outside f.all

  pub open_fits : (d : ℕ) → Counted (open_of (holds_of w) d).holds
  open_fits d = go (ltb 63 d || not (eqb (get_or (holds_of w).holds d 0) 0))
    where
      go : (b : Bool) → Counted (cond b (left_as (Err BadArgument) (holds_of w)) (left_as (Ok Done) (one_more (holds_of w) d))).holds
      go true = same_fits
      go false = more_fits d

  pub copy_fits : (d : ℕ) → Counted (copy_of (holds_of w) d).holds
  copy_fits d = go (unheld (holds_of w).holds (holds_of w).outside d) (eqb (get_or (holds_of w).holds d 0) 65535)
    where
      go : (a b : Bool) → Counted (cond a (left_as (Err BadArgument) (holds_of w)) (cond b (left_as (Err TooManyHolds) (holds_of w)) (left_as (Ok Done) (one_more (holds_of w) d)))).holds
      go true b = same_fits
      go false true = same_fits
      go false false = more_fits d

  pub drop_fits : (d : ℕ) → Counted (drop_of (holds_of w) d).holds
  drop_fits d = go (unheld (holds_of w).holds (holds_of w).outside d)
    where
      go : (b : Bool) → Counted (cond b (left_as (Err BadArgument) (holds_of w)) (left_as (Ok Done) (one_fewer (holds_of w) d))).holds
      go true = same_fits
      go false = counts_fit (one_fewer (holds_of w) d) (less_length (holds_of w).outside d ∙ f.outside) (less_length (holds_of w).holds d ∙ f.all)

  pub put_fits : (d k : ℕ) → StoresFit (driver_stores w (host_put d k))
  put_fits d k = go (unheld (holds_of w).holds (holds_of w).outside d || not (is_free (handles_of w) k))
    where
      go :
          (b : Bool)
          → let r : HoldPut = cond b (put-hold (Err BadArgument) (handles_of w) (holds_of w)) (put-hold (Ok Done) (into (handles_of w) k d) (inside (holds_of w) d)) in
          StoresFit (counts r.holds ++ handles r.handles.at ∷ [])
      go true = (f.outside, (f.all, (f.handles, tt)))
      go false = (less_length (holds_of w).outside d ∙ f.outside, (f.all, (length-set (handles_of w).at k (suc d) ∙ f.handles, tt)))
