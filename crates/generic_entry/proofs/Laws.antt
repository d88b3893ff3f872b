-- The entry and the kind by their tests. Assumes nothing.
use Prim.Native.Nat.{ℕ, ◌<◌, ◌≤◌}
use mathlib.Core.Path.{◌≡◌, refl, sym, ◌∙◌}
use mathlib.Core.Bool.{true}
use mathlib.Core.List.{List}
use native.Mathlib.Omega.{arith}
use lib.Dec.{ltb}
use lib.ListN.{get_or, length, get_or-eq_default}
use borrow.Author.Tests.{eq-eqb, ne_eqb}
use Rattle.flag.specs.Flags.{sqe_multiple_ids}
use Rattle.events.specs.Submit.{args6, sqe, wrong_kind, generic_entry}
use Rattle.events.proofs.Conditions.{kind_same}

pub no_word : (ws : List ℕ) (i : ℕ) → length ws ≤ i → 0 ≡ get_or ws i 0
no_word ws i h = sym (get_or-eq_default ws 0 {n = i} h)

-- the kind's three tests
module _ (k : ℕ) where
  pub kind_none : k < 1 → true ≡ wrong_kind k
  kind_none h = sym (kind_same k ∙ rw (eq-eqb k 0 (omega (arith, h))) refl)

  pub kind_nine : 1 ≤ k → k ≡ 9 → true ≡ wrong_kind k
  kind_nine h e = sym (kind_same k ∙ rw (ne_eqb k 0 (λ z. omega (arith, h)), eq-eqb k 9 e) refl)

  pub kind_some : 1 ≤ k → (k ≡ 9 → ⊥) → ltb 16 k ≡ wrong_kind k
  kind_some h e = sym (kind_same k ∙ rw (ne_eqb k 0 (λ z. omega (arith, h)), ne_eqb k 9 e) refl)

module _ (op n pid base len : ℕ) (fds ms : List ℕ) (f m o : ℕ) (ef : f ≡ get_or fds 0 0) (em : m ≡ get_or ms 0 0) (eo : o ≡ get_or ms 1 0) where
  pub entry_two :
      (g b : ℕ) → length fds ≡ 2 → g ≡ get_or fds 1 0 → b ≡ sqe_multiple_ids
      → sqe op b n (args6 f base len m o g) pid ≡ generic_entry op pid fds base len ms n
  entry_two g b q eg eb = rw (eq-eqb (length fds) 2 q, ef, em, eo, eg, eb) refl

  pub entry_one :
      (p : ℕ) → (length fds ≡ 2 → ⊥) → p ≡ get_or ms 2 0 → sqe op 0 n (args6 f base len m o p) pid ≡ generic_entry op pid fds base len ms n
  entry_one p q ep = rw (ne_eqb (length fds) 2 q, ef, em, eo, ep) refl
