-- The host's events on counts and handles, by their tests. Assumes nothing.
use Rattle.std.specs.Prelude.{Ok, Err, Option, Some, None}
use Prim.Native.Nat.{ℕ, suc, ◌<◌, ◌≤◌}
use mathlib.Core.Path.{◌≡◌, refl, sym, ap, ap₂, ◌∙◌}
use mathlib.Core.Bool.{true, false}
use mathlib.Core.List.{List, [], ◌∷◌, ◌++◌}
use native.Mathlib.Omega.{arith}
use lib.ListN.{get_or, set, length}
use lib.Seq.{sets}
use borrow.Author.Tests.{eq-eqb, ne_eqb}
use Rattle.answer.specs.declared.Accepted.TheVariants.{Done}
use Rattle.answer.specs.declared.Refusal.TheVariants.{BadArgument, TooManyHolds}
use Rattle.counts.specs.Counts.{less, more}
use Rattle.counts.proofs.Laws.{less_length}
use Rattle.handles.specs.declared.Handles.{Handles}
use Rattle.handles.specs.Handles.{held_at, is_free, into}
use Rattle.handles.proofs.Cases.{free_over, free_in}
use Rattle.holds.specs.declared.Holds.{Holds}
use Rattle.holds.specs.Holds.{held_of}
use Rattle.host_holds.specs.declared.HoldsLeft.{HoldsLeft}
use Rattle.host_holds.specs.Host.{one_more, one_fewer, left_as, open_of, copy_of, drop_of}
use Rattle.host_holds.proofs.Cases.{open_over, open_shut, open_in, copy_bad, copy_full, copy_in, drop_bad, drop_in}
use Rattle.host_put.specs.declared.HoldPut.{HoldPut}
use Rattle.host_put.specs.Put.{inside, put as putAs, put_of}
use Rattle.host_put.proofs.Cases.{put_bad, put_full, put_in}
use Rattle.ids.specs.declared.Description.{Description}
use Rattle.ids.specs.declared.Handle.{Handle}
use Rattle.ids.specs.Ids.{description_of, handle_of}
use Rattle.events.specs.World.{holds_of, handles_of}
use Rattle.events.specs.Outcome.{Answer, ok, no, said}
use Rattle.events.specs.Event.{host_open, host_copy, host_drop, on, host_put}
use Rattle.layout.specs.Layout.{plain_of}
use Rattle.layout.specs.Store.{outside, all, handles, stored, stored_all}
use Rattle.layout.proofs.Regions.{same_part}
use Rattle.layout.proofs.Worlds.{all_is, outside_is, handles_is, stored_length}
use Rattle.packed.specs.Stores.{counts}
use Rattle.step.specs.Does.{Does}
use Rattle.step.proofs.Frames.{outside_short, all_outside, handles_outside}

-- what stands there, stored again
module _ (ws : List ℕ) (size : length ws ≡ 2060) where
  same_outside : stored ws (outside (holds_of (plain_of ws)).outside) ≡ ws
  same_outside = ap (sets ws 904) (sym (outside_is ws)) ∙ same_part ws 904 64 (omega (arith, size))

  same_all : stored ws (all (holds_of (plain_of ws)).holds) ≡ ws
  same_all = ap (sets ws 840) (sym (all_is ws)) ∙ same_part ws 840 64 (omega (arith, size))

  same_handles : stored ws (handles (handles_of (plain_of ws)).at) ≡ ws
  same_handles = ap (sets ws 972) (sym (handles_is ws)) ∙ same_part ws 972 64 (omega (arith, size))

  same_counts : stored_all ws (counts (holds_of (plain_of ws))) ≡ ws
  same_counts = ap (λ (x : List ℕ). stored x (all (holds_of (plain_of ws)).holds)) same_outside ∙ same_all

  same_put : stored_all ws (counts (holds_of (plain_of ws)) ++ handles (handles_of (plain_of ws)).at ∷ []) ≡ ws
  same_put = ap (λ (x : List ℕ). stored x (handles (handles_of (plain_of ws)).at)) same_counts ∙ same_handles

-- two stores, the second of what is read behind the first
module _ (ws : List ℕ) (d : ℕ) where
  abbrev h : Holds
  h = holds_of (plain_of ws)

  behind : (f : List ℕ → ℕ → List ℕ) (xs ys : List ℕ) → xs ≡ stored ws (outside (f h.outside d)) → ys ≡ stored xs (all (f (holds_of (plain_of xs)).holds d)) → ys ≡ stored (stored ws (outside (f h.outside d))) (all (f h.holds d))
  behind f xs ys ex ey =
      let q : (holds_of (plain_of xs)).holds ≡ h.holds = ap (λ (x : List ℕ). (holds_of (plain_of x)).holds) ex ∙ all_outside ws (f h.outside d) in
      ey ∙ ap₂ (λ (x y : List ℕ). stored x (all (f y d))) ex q

  one_more_lem : (xs ys : List ℕ) → xs ≡ stored ws (outside (more h.outside d)) → ys ≡ stored xs (all (more (holds_of (plain_of xs)).holds d)) → ys ≡ stored_all ws (counts (one_more h d))
  one_more_lem xs ys ex ey = behind more xs ys ex ey

  one_fewer_lem : (xs ys : List ℕ) → xs ≡ stored ws (outside (less h.outside d)) → ys ≡ stored xs (all (less (holds_of (plain_of xs)).holds d)) → ys ≡ stored_all ws (counts (one_fewer h d))
  one_fewer_lem xs ys ex ey = behind less xs ys ex ey

  moved_in :
      length ws ≡ 2060 → (k : ℕ) (xs ys : List ℕ) → xs ≡ stored ws (outside (less h.outside d)) → ys ≡ stored xs (handles (into (handles_of (plain_of xs)) k d).at)
      → ys ≡ stored_all ws (counts (inside h d) ++ handles (into (handles_of (plain_of ws)) k d).at ∷ [])
  moved_in size k xs ys ex ey =
      let o : List ℕ = less h.outside d in
      let zs : List ℕ = stored ws (outside o) in
      let a : stored zs (all h.holds) ≡ zs = ap (λ (x : List ℕ). stored zs (all x)) (sym (all_outside ws o)) ∙ same_all zs (stored_length ws (outside o) ∙ size) in
      let q : (handles_of (plain_of xs)).at ≡ (handles_of (plain_of ws)).at = ap (λ (x : List ℕ). (handles_of (plain_of x)).at) ex ∙ handles_outside ws o (omega (arith, less_length h.outside d, outside_short ws)) in
      ey ∙ ap₂ (λ (x y : List ℕ). stored x (handles (set y k (suc d)))) (ex ∙ sym a) q

-- each event by its tests: what the plain definition answers and leaves
module _ (ws : List ℕ) (size : length ws ≡ 2060) (t : ℕ) (f : Option Description) where
  abbrev hs : Holds
  hs = holds_of (plain_of ws)

  abbrev ks : Handles
  ks = handles_of (plain_of ws)

  opened : (o : HoldsLeft) → o ≡ open_of hs t → (a : Answer) (fx xs : List ℕ) → a ≡ said o.answer → fx ≡ [] → xs ≡ stored_all ws (counts o.holds) → Does ws xs (host_open t) a fx
  opened o is a fx xs ea ef ex = record { answer = ea ∙ ap (λ (x : HoldsLeft). said x.answer) is; effects = ef; words = ex ∙ ap (λ (x : HoldsLeft). stored_all ws (counts x.holds)) is }

  copied : (o : HoldsLeft) → o ≡ copy_of hs t → (a : Answer) (fx xs : List ℕ) → a ≡ said o.answer → fx ≡ [] → xs ≡ stored_all ws (counts o.holds) → Does ws xs (host_copy t) a fx
  copied o is a fx xs ea ef ex = record { answer = ea ∙ ap (λ (x : HoldsLeft). said x.answer) is; effects = ef; words = ex ∙ ap (λ (x : HoldsLeft). stored_all ws (counts x.holds)) is }

  dropped : (o : HoldsLeft) → o ≡ drop_of hs t → (a : Answer) (fx xs : List ℕ) → a ≡ said o.answer → fx ≡ [] → xs ≡ stored_all ws (counts o.holds) → Does ws xs (host_drop t) a fx
  dropped o is a fx xs ea ef ex = record { answer = ea ∙ ap (λ (x : HoldsLeft). said x.answer) is; effects = ef; words = ex ∙ ap (λ (x : HoldsLeft). stored_all ws (counts x.holds)) is }

  placed :
      (k : ℕ) (o : HoldPut) → o ≡ put_of hs ks t k → (a : Answer) (fx xs : List ℕ) → a ≡ said o.answer → fx ≡ [] → xs ≡ stored_all ws (counts o.holds ++ handles o.handles.at ∷ [])
      → Does ws xs (on (host_put t k)) a fx
  placed k o is a fx xs ea ef ex =
      record { answer = ea ∙ ap (λ (x : HoldPut). said x.answer) is; effects = ef; words = ex ∙ ap (λ (x : HoldPut). stored_all ws (counts x.holds ++ handles x.handles.at ∷ [])) is }

  module _ (q : f ≡ description_of t) where
    pub no_description : f ≡ None → (a : Answer) (fx : List ℕ) → a ≡ no 205 → fx ≡ [] → Does ws ws (host_open t) a fx
    no_description e a fx ea ef = opened (left_as (Err BadArgument) hs) (open_over hs t f q e) a fx ws ea ef (sym (same_counts ws size))

    module _ (d : Description) (e : f ≡ Some d) (r : ℕ) (c : r ≡ get_or hs.holds d.0 0) where
      pub open_already : (r ≡ 0 → ⊥) → (a : Answer) (fx : List ℕ) → a ≡ no 205 → fx ≡ [] → Does ws ws (host_open t) a fx
      open_already z a fx ea ef = opened (left_as (Err BadArgument) hs) (open_shut hs t f q d e r c z) a fx ws ea ef (sym (same_counts ws size))

      pub opens :
          r ≡ 0 → (xs ys : List ℕ) (a : Answer) (fx : List ℕ) → xs ≡ stored ws (outside (more hs.outside d.0)) → ys ≡ stored xs (all (more (holds_of (plain_of xs)).holds d.0))
          → a ≡ ok 0 → fx ≡ [] → Does ws ys (host_open t) a fx
      opens z xs ys a fx ex ey ea ef =
          opened (left_as (Ok Done) (one_more hs d.0)) (open_in hs t f q d e r c z (one_more hs d.0) refl) a fx ys ea ef (one_more_lem ws d.0 xs ys ex ey)

  module _ (q : f ≡ held_of hs.holds hs.outside t) where
    module _ (e : f ≡ None) (a : Answer) (fx : List ℕ) (ea : a ≡ no 205) (ef : fx ≡ []) where
      pub copies_none : Does ws ws (host_copy t) a fx
      copies_none = copied (left_as (Err BadArgument) hs) (copy_bad hs t f q e) a fx ws ea ef (sym (same_counts ws size))

      pub drops_none : Does ws ws (host_drop t) a fx
      drops_none = dropped (left_as (Err BadArgument) hs) (drop_bad hs t f q e) a fx ws ea ef (sym (same_counts ws size))

      pub puts_none : (k : ℕ) → Does ws ws (on (host_put t k)) a fx
      puts_none k = placed k (putAs (Err BadArgument) ks hs) (put_bad hs t f q e ks k) a fx ws ea ef (sym (same_put ws size))

    module _ (d : Description) (e : f ≡ Some d) where
      pub copies_full : (r : ℕ) → r ≡ get_or hs.holds d.0 0 → r ≡ 65535 → (a : Answer) (fx : List ℕ) → a ≡ no 207 → fx ≡ [] → Does ws ws (host_copy t) a fx
      copies_full r c z a fx ea ef = copied (left_as (Err TooManyHolds) hs) (copy_full hs t f q d e r c z) a fx ws ea ef (sym (same_counts ws size))

      pub copies :
          (r : ℕ) → r ≡ get_or hs.holds d.0 0 → (r ≡ 65535 → ⊥) → (xs ys : List ℕ) (a : Answer) (fx : List ℕ) → xs ≡ stored ws (outside (more hs.outside d.0))
          → ys ≡ stored xs (all (more (holds_of (plain_of xs)).holds d.0)) → a ≡ ok 0 → fx ≡ [] → Does ws ys (host_copy t) a fx
      copies r c z xs ys a fx ex ey ea ef =
          copied (left_as (Ok Done) (one_more hs d.0)) (copy_in hs t f q d e r c z (one_more hs d.0) refl) a fx ys ea ef (one_more_lem ws d.0 xs ys ex ey)

      pub drops :
          (xs ys : List ℕ) (a : Answer) (fx : List ℕ) → xs ≡ stored ws (outside (less hs.outside d.0)) → ys ≡ stored xs (all (less (holds_of (plain_of xs)).holds d.0))
          → a ≡ ok 0 → fx ≡ [] → Does ws ys (host_drop t) a fx
      drops xs ys a fx ex ey ea ef =
          dropped (left_as (Ok Done) (one_fewer hs d.0)) (drop_in hs t f q d e (one_fewer hs d.0) refl) a fx ys ea ef (one_fewer_lem ws d.0 xs ys ex ey)

      module _ (k : ℕ) where
        unfree : false ≡ is_free ks k → (a : Answer) (fx : List ℕ) → a ≡ no 205 → fx ≡ [] → Does ws ws (on (host_put t k)) a fx
        unfree u a fx ea ef = placed k (putAs (Err BadArgument) ks hs) (put_full hs t f q d e ks k false u refl) a fx ws ea ef (sym (same_put ws size))

        pub puts_over : 63 < k → (a : Answer) (fx : List ℕ) → a ≡ no 205 → fx ≡ [] → Does ws ws (on (host_put t k)) a fx
        puts_over b = unfree (free_over ks k b)

        module _ (b : k ≤ 63) (h : Handle) (eh : h ≡ handle_of k) (r : ℕ) (c : r ≡ held_at ks h.0) where
          found_there : r ≡ held_at ks k
          found_there = c ∙ ap (λ (x : Handle). held_at ks x.0) eh

          pub puts_full : (r ≡ 0 → ⊥) → (a : Answer) (fx : List ℕ) → a ≡ no 205 → fx ≡ [] → Does ws ws (on (host_put t k)) a fx
          puts_full z = unfree (sym (ne_eqb r 0 z) ∙ free_in ks k r b found_there)

          pub puts :
              r ≡ 0 → (xs ys : List ℕ) (a : Answer) (fx : List ℕ) → xs ≡ stored ws (outside (less hs.outside d.0))
              → ys ≡ stored xs (handles (into (handles_of (plain_of xs)) h.0 d.0).at) → a ≡ ok 0 → fx ≡ [] → Does ws ys (on (host_put t k)) a fx
          puts z xs ys a fx ex ey ea ef =
              placed k (putAs (Ok Done) (into ks k d.0) (inside hs d.0)) (put_in hs t f q d e ks k true (sym (eq-eqb r 0 z) ∙ free_in ks k r b found_there) refl (into ks k d.0) (inside hs d.0) refl refl) a fx ys ea ef
              (moved_in ws d.0 size k xs ys ex (ey ∙ ap (λ (x : Handle). stored xs (handles (into (handles_of (plain_of xs)) x.0 d.0).at)) eh))
