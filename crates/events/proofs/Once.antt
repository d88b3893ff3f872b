-- What a history alone says of its entries: none is accepted twice, no call is served twice, and a reply has its source.
-- Assumes nothing.
use Rattle.std.specs.Prelude.{Option, Some as Kind, None}
use Prim.Native.Nat.{ℕ, zero, suc, ◌/◌, ◌≤◌, ◌<◌}
use mathlib.Core.Path.{◌≡◌, refl, sym, ap, ◌∙◌, subst}
use mathlib.Core.Logic.{inl, inr}
use mathlib.Core.Bool.{Bool, true, false, cond}
use mathlib.Core.List.{List, [], ◌∷◌, ◌++◌, map, append_assoc}
use native.Mathlib.Omega.{arith}
use lib.Dec.{eqb}
use borrow.Author.Tests.{eq-eqb, eqb-true}
use Rattle.schemev2.specs.declared.Cqe.{Cqe}
use Rattle.schemev2.specs.declared.CqeOpcode.{CqeOpcode}
use Rattle.schemev2.specs.declared.CqeOpcode.TheVariants.{RespondRegular, RespondWithFd, SendFevent, ObtainFd, RespondWithMultipleFds, RespondAndNotifyOnDetach}
use Rattle.schemev2.specs.Entry.{kind_of, cqe_opcode_of}
use Rattle.events.specs.World.{World, slot_in}
use Rattle.events.specs.Outcome.{Response, success, Answer, ok, no, wait, blocked, reply, on_ok}
use Rattle.events.specs.Entry.{response_to}
use Rattle.events.specs.Event.{DriverEvent, host_put, reserve, submit, call, fdwrite, fdread, generic, stdfs, fmap, close, detach, wake, read, write, move, obtain, supply, Event, host_open, host_copy, host_drop, host_ended, on}
use Rattle.events.specs.History.{What, Fact, to, end, gave, took, serve, block, interrupt, pass, filled, Stage, free, reserved, waits, replied, mapping, Call, change, book, View, tells, sends, wakes, reads, writes, moves, supplies, view_of, entry_at, after_entries, offers, served, poured, told_by_wake, told_by_supply, news}
use Rattle.events.specs.Demand3.{needs, fair, Every, Some, apart, source, sourced, on_reply, sum}
use Rattle.events.proofs.Stage.{num}
use Rattle.events.proofs.Sane.{either, at_tag}

every_map : (P Q : List Fact → Fact → Type 0) → ((h : List Fact) (f : Fact) → P h f → Q h f) → (h : List Fact) → Every P h → Every Q h
every_map P Q g [] e = tt
every_map P Q g (f ∷ h) e = (g h f e.0, every_map P Q g h e.1)

-- 1 where a reply entry to the call was accepted, as long as the tag is not given out again
abbrev done : Stage → ℕ
done free = 1
done reserved = 0
done waits = 0
done (replied r) = 1
done mapping = 0

done_served : (b : Bool) (r : Response) → done (cond b free (replied r)) ≡ 1
done_served true r = refl
done_served false r = refl

-- a lap never falls, and within a lap what is served stays served
abbrev Grows : Call → Call → Type 0
Grows k j = (k.lap ≤ j.lap) × (j.lap ≡ k.lap → done k.stage ≡ 1 → done j.stage ≡ 1)

grows_by : (x : What) (k : Call) → k.stage ≡ needs x → Grows k (change x k)
grows_by (gave m c) k q = (omega arith, λ e. absurd (omega arith))
grows_by took k q = (omega arith, λ e s. absurd (omega (arith, s, ap done q)))
grows_by (serve i j r) k q = (omega arith, λ e s. done_served k.ended r)
grows_by block k q = (omega arith, λ e s. s)
grows_by interrupt k q = (omega arith, λ e s. s)
grows_by (pass r) k q = (omega arith, λ e s. refl)
grows_by filled k q = (omega arith, λ e s. refl)

grows : (f : Fact) (h : List Fact) → fair h f → (n : ℕ) → Grows (book h n) (book (f ∷ h) n)
grows (to t x) h q n =
    either (Grows (book h n)) (eqb t n) _ (book h n) (λ b. grows_by x (book h n) (sym (at_tag h t n (λ (k : Call). k.stage) b) ∙ q)) (omega arith, λ e s. s)
grows (end c) h q n = (omega arith, λ e s. s)

-- the call that an accepted entry served is, in its lap, served ever after
abbrev stay : List Fact → List Fact → Fact → Type 0
stay h h₀ f₀ =
    (i j n : ℕ) (r : Response) → f₀ ≡ to n (serve i j r)
    → ((book h₀ n).lap ≤ (book h n).lap) × ((book h n).lap ≡ (book h₀ n).lap → done (book h n).stage ≡ 1)

-- what serves serves its own tag
stay_top : (f : Fact) (h : List Fact) → stay (f ∷ h) h f
stay_top f h i j n r s =
    subst (λ (g : Fact). ((book h n).lap ≤ (book (g ∷ h) n).lap) × ((book (g ∷ h) n).lap ≡ (book h n).lap → done (book (g ∷ h) n).stage ≡ 1)) (sym s)
    (rw (eq-eqb n n refl) (omega arith, λ e. done_served (book h n).ended r))

stay_on : (f : Fact) (h h₀ : List Fact) (f₀ : Fact) → fair h f → stay h h₀ f₀ → stay (f ∷ h) h₀ f₀
stay_on f h h₀ f₀ a s i j n r q =
    let g = grows f h a n in
    let k = s i j n r q in
    (omega (arith, g.0, k.0), λ e. g.1 (omega (arith, g.0, k.0, e)) (k.1 (omega (arith, g.0, k.0, e))))

stays : (h : List Fact) → Every fair h → Every (stay h) h
stays [] e = tt
stays (f ∷ h) e = (stay_top f h, every_map (stay h) (stay (f ∷ h)) (λ h₀ f₀. stay_on f h h₀ f₀ e.0) h (stays h e.1))

-- places: every accepted entry stands before entry q of event e, and no two at one place
abbrev earlier : ℕ → ℕ → List Fact → Fact → Type 0
earlier e q h₀ f₀ = (i j n : ℕ) (r : Response) → f₀ ≡ to n (serve i j r) → (i ≤ e) × (i ≡ e → j < q)

abbrev placed : List Fact → Fact → List Fact → Fact → Type 0
placed h f h₀ f₀ =
    (i i₀ j j₀ n n₀ : ℕ) (r r₀ : Response) → f ≡ to n (serve i j r) → f₀ ≡ to n₀ (serve i₀ j₀ r₀) → i ≡ i₀ → j ≡ j₀ → ⊥

abbrev pub Sorted : ℕ → ℕ → List Fact → Type 0
Sorted e q h = Every (earlier e q) h × Every (λ h f. Every (placed h f) h) h

-- an accepted entry's place
abbrev event_in : What → ℕ
event_in (gave m c) = 0
event_in took = 0
event_in (serve i j r) = i
event_in block = 0
event_in interrupt = 0
event_in (pass r) = 0
event_in filled = 0

abbrev entry_in : What → ℕ
entry_in (gave m c) = 0
entry_in took = 0
entry_in (serve i j r) = j
entry_in block = 0
entry_in interrupt = 0
entry_in (pass r) = 0
entry_in filled = 0

abbrev on_what : (What → ℕ) → Fact → ℕ
on_what g (to n x) = g x
on_what g (end c) = 0

abbrev is_serve : Fact → ℕ
is_serve f = on_what (λ x. on_reply x 1 0 0) f

-- a fact that is no accepted entry
unserved : {A : Type 0} (f : Fact) (i j n : ℕ) (r : Response) → is_serve f ≡ 0 → f ≡ to n (serve i j r) → A
unserved f i j n r z s = absurd (omega (arith, z, ap is_serve s))

module _ (e : ℕ) where
  up : (q : ℕ) (h : List Fact) → Sorted e q h → Sorted (suc e) 0 h
  up q h s =
      (every_map (earlier e q) (earlier (suc e) 0) (λ h₀ f₀ b i j n r k. let c = b i j n r k in (omega (arith, c.0), λ z. absurd (omega (arith, c.0)))) h s.0, s.1)

  plain : (q : ℕ) (f : Fact) (h : List Fact) → is_serve f ≡ 0 → Sorted e q h → Sorted e q (f ∷ h)
  plain q f h z s = (
    (λ i j n r k. unserved f i j n r z k, s.0),
    (every_map (earlier e q) (placed h f) (λ h₀ f₀ b i i₀ j j₀ n n₀ r r₀ k. unserved f i j n r z k) h s.0, s.1),
  )

  served_at : (q t : ℕ) (v : Response) (h : List Fact) → Sorted e q h → Sorted e (suc q) (to t (serve e q v) ∷ h)
  served_at q t v h s = (
    (
      λ i j n r k. let a = ap (on_what event_in) k in let d = ap (on_what entry_in) k in (omega (arith, a), λ z. omega (arith, d)),
      every_map (earlier e q) (earlier e (suc q)) (λ h₀ f₀ b i j n r k. let c = b i j n r k in (c.0, λ z. omega (arith, c.1 z))) h s.0,
    ),
    (
      every_map (earlier e q) (placed h (to t (serve e q v)))
          (λ h₀ f₀ b i i₀ j j₀ n n₀ r r₀ k k₀ x y.
          let c = b i₀ j₀ n₀ r₀ k₀ in
          let a = ap (on_what event_in) k in
          let d = ap (on_what entry_in) k in
          omega (arith, d, y, c.1 (sym x ∙ sym a))) h s.0,
      s.1,
    ),
  )

  more : (q : ℕ) (h : List Fact) → Sorted e q h → Sorted e (suc q) h
  more q h s = (every_map (earlier e q) (earlier e (suc q)) (λ h₀ f₀ b i j n r k. let c = b i j n r k in (c.0, λ z. omega (arith, c.1 z))) h s.0, s.1)

  -- one entry: a reply entry or another
  entry_sorted : (q : ℕ) (w : World) (c : Cqe) (h : List Fact) → Sorted e q h → Sorted e (suc q) (served e q w c ++ h)
  entry_sorted q w c h s = go (cqe_opcode_of (kind_of c))
    where
      go : (k : Option CqeOpcode) → Sorted e (suc q) (map (λ o. to c.tag (serve e q (response_to (slot_in w c.tag) o))) (offers k w c) ++ h)
      go (Kind RespondRegular) = served_at q c.tag _ h s
      go (Kind RespondWithFd) = served_at q c.tag _ h s
      go (Kind SendFevent) = more q h s
      go (Kind ObtainFd) = more q h s
      go (Kind RespondWithMultipleFds) = served_at q c.tag _ h s
      go (Kind RespondAndNotifyOnDetach) = served_at q c.tag _ h s
      go None = more q h s

  poured_sorted : (m : ℕ) (bs : List ℕ) (w : World) (h : List Fact) → Sorted e 0 h → Sorted e m (poured e bs w m ++ h)
  poured_sorted zero bs w h s = s
  poured_sorted (suc m) bs w h s =
      subst (Sorted e (suc m)) (sym (append_assoc (served e m (after_entries bs w m) (entry_at bs m)) (poured e bs w m) h))
      (entry_sorted m (after_entries bs w m) (entry_at bs m) (poured e bs w m ++ h) (poured_sorted m bs w h s))

  -- facts among which there is no accepted entry
  quiet : (fs h : List Fact) → sum (λ k. 1) 0 fs ≡ 0 → Sorted e 0 h → Sorted e 0 (fs ++ h)
  quiet [] h z s = s
  quiet (to n x ∷ fs) h z s = plain 0 (to n x) (fs ++ h) (omega (arith, z)) (quiet fs h (omega (arith, z)) s)
  quiet (end c ∷ fs) h z s = plain 0 (end c) (fs ++ h) refl (quiet fs h z s)

  abbrev Later : List Fact → Type 0
  Later h = Sorted (suc e) 0 h

  over : (fs h : List Fact) → sum (λ k. 1) 0 fs ≡ 0 → Sorted e 0 h → Later (fs ++ h)
  over fs h z s = up 0 (fs ++ h) (quiet fs h z s)

  -- an event that is no write tells of no accepted entry
  abbrev Quiet : View → Type 0
  Quiet (tells f) = (v : ℕ) → sum (λ k. 1) 0 (f v) ≡ 0
  Quiet (sends f s flags) = (v : ℕ) → sum (λ k. 1) 0 (f v) ≡ 0
  Quiet (wakes n c killed span) = Unit {0}
  Quiet reads = Unit {0}
  Quiet (writes words bs) = Unit {0}
  Quiet (moves ds) = Unit {0}
  Quiet (supplies n) = Unit {0}

  driver_quiet : (d : DriverEvent) → Quiet (view_of (on d))
  driver_quiet (host_put d k) = λ v. refl
  driver_quiet (reserve c) = λ v. refl
  driver_quiet (submit n c op fl args pid ds) = λ v. refl
  driver_quiet (call c op args uid gid pid ds) = λ v. refl
  driver_quiet (fdwrite c number flags ms uid gid pid ds) = λ v. refl
  driver_quiet (fdread c number len flags ms uid gid pid) = λ v. refl
  driver_quiet (generic c pid fds base len ms) = λ v. refl
  driver_quiet (stdfs c pid fds base len ms) = λ v. refl
  driver_quiet (fmap c id pages flags uid gid pid) = λ v. refl
  driver_quiet (close id) = λ v. refl
  driver_quiet (detach id pid) = λ v. refl
  driver_quiet (wake n c killed base count) = tt
  driver_quiet (read len flags) = tt
  driver_quiet (write words bs) = tt
  driver_quiet (move ms ds) = tt
  driver_quiet (obtain ms) = λ v. refl
  driver_quiet (supply n offset base count) = tt

  view_quiet : (x : Event) → Quiet (view_of x)
  view_quiet (host_open d) = λ v. refl
  view_quiet (host_copy d) = λ v. refl
  view_quiet (host_drop d) = λ v. refl
  view_quiet (host_ended c) = λ v. refl
  view_quiet (on d) = driver_quiet d

  -- an accepted event tells fs of its value, any other nothing
  on_ok_lem : (a : Answer) (f : ℕ → List Fact) (h : List Fact) → ((v : ℕ) → Later (f v ++ h)) → Later h → Later (on_ok a f [] ++ h)
  on_ok_lem (ok v) f h p q = p v
  on_ok_lem (no k) f h p q = q
  on_ok_lem wait f h p q = q
  on_ok_lem blocked f h p q = q
  on_ok_lem (reply r) f h p q = q

  on_test : (P : List Fact → Type 0) (b : Bool) (g h : List Fact) → P g → P h → P (cond b g h)
  on_test P true g h p r = p
  on_test P false g h p r = r

  woke_sorted : (n : ℕ) (a : Answer) (h : List Fact) → Sorted e 0 h → Later (told_by_wake n a ++ h)
  woke_sorted n (ok v) h s = up 0 h s
  woke_sorted n (no k) h s = on_test (λ fs. Later (fs ++ h)) (eqb k 4) _ [] (over (to n interrupt ∷ []) h refl s) (up 0 h s)
  woke_sorted n wait h s = up 0 h s
  woke_sorted n blocked h s = over (to n block ∷ []) h refl s
  woke_sorted n (reply r) h s = over (to n (pass r) ∷ []) h refl s

  supplied_sorted : (n : ℕ) (a : Answer) (h : List Fact) → Sorted e 0 h → Later (told_by_supply n a ++ h)
  supplied_sorted n (ok v) h s = over (to n filled ∷ []) h refl s
  supplied_sorted n (no k) h s = on_test (λ fs. Later (fs ++ h)) (eqb k 3) _ [] (over (to n filled ∷ []) h refl s) (up 0 h s)
  supplied_sorted n wait h s = up 0 h s
  supplied_sorted n blocked h s = up 0 h s
  supplied_sorted n (reply r) h s = up 0 h s

  news_sorted : (v : View) (w : World) (a : Answer) (h : List Fact) → Quiet v → Sorted e 0 h → Later (news e w v a ++ h)
  news_sorted (tells f) w a h z s = on_ok_lem a f h (λ v. over (f v) h (z v) s) (up 0 h s)
  news_sorted (sends f x flags) w a h z s = on_ok_lem a f h (λ v. over (f v) h (z v) s) (up 0 h s)
  news_sorted (wakes n c killed span) w a h z s = woke_sorted n a h s
  news_sorted reads w a h z s = up 0 h s
  news_sorted (writes words bs) w a h z s = let m = on_ok a (λ v. v / 16) 0 in up m (poured e bs w m ++ h) (poured_sorted m bs w h s)
  news_sorted (moves ds) w a h z s = up 0 h s
  news_sorted (supplies n) w a h z s = supplied_sorted n a h s

  pub event_sorted : (x : Event) (w : World) (a : Answer) (h : List Fact) → Sorted e 0 h → Later (news e w (view_of x) a ++ h)
  event_sorted x w a h s = news_sorted (view_of x) w a h (view_quiet x) s

-- both
join : (P Q R : List Fact → Fact → Type 0) → ((h : List Fact) (f : Fact) → P h f → Q h f → R h f) → (h : List Fact) → Every P h → Every Q h → Every R h
join P Q R g [] p q = tt
join P Q R g (f ∷ h) p q = (g h f p.0 q.0, join P Q R g h p.1 q.1)

apart_one : (f : Fact) (h h₀ : List Fact) (f₀ : Fact) → fair h f → stay h h₀ f₀ → placed h f h₀ f₀ → apart h f h₀ f₀
apart_one f h h₀ f₀ a s g i i₀ j j₀ n n₀ r r₀ k k₀ = (
  g i i₀ j j₀ n n₀ r r₀ k k₀,
  λ e l.
      let one = (s i₀ j₀ n₀ r₀ k₀).1 (ap (λ (m : ℕ). (book h m).lap) (sym e) ∙ l) in
      let none = subst (fair h) k a in
      omega (arith, one, ap done none, ap (λ (m : ℕ). done (book h m).stage) e),
)

pub all_apart : (h : List Fact) → Every fair h → Every (λ h f. Every (placed h f) h) h → Every (λ h f. Every (apart h f) h) h
all_apart [] e s = tt
all_apart (f ∷ h) e s =
    (join (stay h) (placed h f) (apart h f) (λ h₀ f₀. apart_one f h h₀ f₀ e.0) h (stays h e.1) s.0, all_apart h e.1 s.1)

-- where a served call's reply comes from
abbrev Come : ℕ → List Fact → Call → Type 0
Come n h k = (r : Response) → k.stage ≡ replied r → Some (source n k.lap r) h

abbrev reply_in : Stage → Response
reply_in free = success 0 0 false
reply_in reserved = success 0 0 false
reply_in waits = success 0 0 false
reply_in (replied r) = r
reply_in mapping = success 0 0 false

come_by : (x : What) (t n : ℕ) (h : List Fact) → eqb t n ≡ true → Come n h (book h n) → Come n (to t x ∷ h) (change x (book h n))
come_by (gave m c) t n h b o r e = go m e
  where
    go : (m : Bool) → cond m mapping reserved ≡ replied r → Some (source n (suc (book h n).lap) r) (to t (gave m c) ∷ h)
    go true e = absurd (omega (arith, ap num e))
    go false e = absurd (omega (arith, ap num e))
come_by took t n h b o r e = absurd (omega (arith, ap num e))
come_by (serve i j v) t n h b o r e = go (book h n).ended e
  where
    go : (y : Bool) → cond y free (replied v) ≡ replied r → Some (source n (book h n).lap r) (to t (serve i j v) ∷ h)
    go true e = absurd (omega (arith, ap num e))
    go false e = inl (i, j, λ z. to (eqb-true t n b z) (serve i j (ap reply_in e z)), refl)
come_by block t n h b o r e = inr (o r e)
come_by interrupt t n h b o r e = inr (o r e)
come_by (pass v) t n h b o r e = absurd (omega (arith, ap num e))
come_by filled t n h b o r e = absurd (omega (arith, ap num e))

origin : (h : List Fact) (n : ℕ) → Come n h (book h n)
origin [] n = λ r e. absurd (omega (arith, ap num e))
origin (to t x ∷ h) n =
    either (Come n (to t x ∷ h)) (eqb t n) _ _ (λ b. come_by x t n h b (origin h n)) (λ r e. inr (origin h n r e))
origin (end c ∷ h) n = λ r e. inr (origin h n r e)

sourced_one : (h : List Fact) (f : Fact) → fair h f → sourced h f
sourced_one h f a n r k = origin h n r (subst (fair h) k a)

pub all_sourced : (h : List Fact) → Every fair h → Every sourced h
all_sourced h e = every_map fair sourced sourced_one h e
