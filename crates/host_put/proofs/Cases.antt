-- Each way through the code gives the definition's case. Assumes nothing.
use Rattle.std.specs.Prelude.{Option, Some, None, Ok, Err}
use Prim.Native.Nat.{ℕ}
use mathlib.Core.Path.{◌≡◌, refl, sym, ◌∙◌}
use mathlib.Core.Bool.{Bool, true, false}
use Rattle.ids.specs.declared.Description.{Description}
use Rattle.fd_list.specs.Lists.{desc}
use Rattle.holds.specs.declared.Holds.{Holds}
use Rattle.holds.specs.Holds.{unheld, held_of}
use Rattle.holds.proofs.Laws.{held_not, held_is}
use Rattle.handles.specs.declared.Handles.{Handles}
use Rattle.handles.specs.Handles.{is_free, into}
use Rattle.answer.specs.declared.Accepted.TheVariants.{Done}
use Rattle.answer.specs.declared.Refusal.TheVariants.{BadArgument}
use Rattle.host_put.specs.Put.{inside, put, put_of}

module _ (h : Holds) (w : ℕ) (f : Option Description) (q : f ≡ held_of h.holds h.outside w) where
  pub put_bad : f ≡ None → (n : Handles) (k : ℕ) → put (Err BadArgument) n h ≡ put_of h n w k
  put_bad e n k = rw (held_not h.holds h.outside w f q e) refl

  module _ (d : Description) (e : f ≡ Some d) (n : Handles) (k : ℕ) (b : Bool) (u : b ≡ is_free n k) where
    good : (unheld h.holds h.outside w ≡ false) × (d ≡ desc w)
    good = held_is h.holds h.outside w f q d e

    pub put_full : b ≡ false → put (Err BadArgument) n h ≡ put_of h n w k
    put_full z = rw (good.0, sym u ∙ z) refl

    pub put_in : b ≡ true → (m : Handles) (t : Holds) → m ≡ into n k d.0 → t ≡ inside h d.0 → put (Ok Done) m t ≡ put_of h n w k
    put_in z m t p s = rw (good.0, sym u ∙ z, p, s, good.1) refl
