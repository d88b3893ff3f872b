-- The generic calls by their tests. Assumes nothing.
use Prim.Native.Nat.{ℕ, min, ◌<◌, ◌≤◌}
use mathlib.Core.Path.{◌≡◌, refl, ap, ◌∙◌}
use mathlib.Core.Bool.{true, false}
use mathlib.Core.List.{List, [], ◌∷◌}
use lib.ListN.{length}
use borrow.Author.Tests.{eq-eqb, ne_eqb, lt-ltb, le-ltb}
use Rattle.fd_list.specs.declared.List.{List as Fds}
use Rattle.opcode.specs.Opcodes.{call, std_fs_call}
use Rattle.schemev2.specs.declared.Sqe.{Sqe}
use Rattle.slot.specs.declared.Slot.{Slot}
use Rattle.slot.specs.Slots.{no_fds, waiting_of}
use Rattle.events.specs.World.{World, table_of, holds_of, queue_full}
use Rattle.events.specs.Outcome.{Answer, ok, no, readable}
use Rattle.events.specs.Submit.{wrong_kind, kind_byte, std_meta, table_full, begun, generic_rows, generic_entry, stdfs_rows}
use Rattle.events.specs.Event.{Event, on, generic, stdfs}
use Rattle.layout.specs.Layout.{plain_of}
use Rattle.layout.specs.Store.{stored_all, give, send}
use Rattle.step.specs.Does.{Due, Does}
use Rattle.step.proofs.Rows.{turned}
use Rattle.step.proofs.Given.{does}
use Rattle.call_generic.specs.Generic.{DoesWith}

module _ (op : ℕ) (ws : List ℕ) (c pid : ℕ) (fds : List ℕ) (base len : ℕ) (ms : List ℕ) where
  abbrev w : World
  w = plain_of ws

  abbrev f : ℕ → Sqe
  f = generic_entry op pid fds base len ms

  abbrev v : Slot
  v = waiting_of c no_fds

  module _ (a : Answer) (fx : List ℕ) where
    abbrev Down : Type 0
    Down = DoesWith op ws ws c pid fds base len ms a fx

    down : (k : ℕ) → Due (generic_rows w fds) k → a ≡ no k → fx ≡ [] → Down
    down k d p q e is stores = turned ws e (generic_rows w fds) (begun w v (holds_of w) f) (give v ∷ send (f (table_of w).head) ∷ []) is stores k d a fx p q

    pub no_fds_lem : length fds ≡ 0 → a ≡ no 22 → fx ≡ [] → Down
    no_fds_lem q = down 22 (rw (eq-eqb (length fds) 0 q) refl)

    pub many_fds : (length fds ≡ 0 → ⊥) → 2 < length fds → a ≡ no 22 → fx ≡ [] → Down
    many_fds q r = down 22 (rw (ne_eqb (length fds) 0 q, lt-ltb 2 (length fds) r) refl)

    pub full : (length fds ≡ 0 → ⊥) → length fds ≤ 2 → table_full w ≡ true → a ≡ no 202 → fx ≡ [] → Down
    full q r t = down 202 (rw (ne_eqb (length fds) 0 q, le-ltb 2 (length fds) r, t) refl)

    pub queue_full_lem : (length fds ≡ 0 → ⊥) → length fds ≤ 2 → table_full w ≡ false → queue_full w ≡ true → a ≡ no 203 → fx ≡ [] → Down
    queue_full_lem q r t u = down 203 (rw (ne_eqb (length fds) 0 q, le-ltb 2 (length fds) r, t, u) refl)

  pub called :
      (length fds ≡ 0 → ⊥) → length fds ≤ 2 → table_full w ≡ false → queue_full w ≡ false → (n : ℕ) → n ≡ min (table_of w).head 64 → (l : Fds) → l ≡ no_fds
      → (u : Slot) → u ≡ waiting_of c l → (g : Sqe) → g ≡ f n → (a : Answer) (fx xs : List ℕ) → a ≡ ok (min (table_of w).head 64) → fx ≡ readable w
      → xs ≡ stored_all ws (give u ∷ send g ∷ []) → DoesWith op ws xs c pid fds base len ms a fx
  called q r t x n h l el u eu g eg a fx xs ea ef ex e is stores =
      does ws e (generic_rows w fds) v f is stores n u g xs fx a (rw (ne_eqb (length fds) 0 q, le-ltb 2 (length fds) r) refl, (t, (x, tt))) t h (eu ∙ ap (waiting_of c) el) eg ea ef ex

module _ (ws xs : List ℕ) (c pid : ℕ) (fds : List ℕ) (base len : ℕ) (ms : List ℕ) (a : Answer) (fx : List ℕ) where
  pub as_call : (op : ℕ) → op ≡ call → DoesWith op ws xs c pid fds base len ms a fx → Does ws xs (on (generic c pid fds base len ms)) a fx
  as_call op q e = e (on (generic c pid fds base len ms)) (rw q refl) (rw q refl)

  abbrev std : Event
  std = on (stdfs c pid fds base len ms)

  abbrev g : ℕ → Sqe
  g = generic_entry std_fs_call pid fds base len (std_meta ms)

  abbrev world : World
  world = plain_of ws

  stopped : (k : ℕ) → Due (stdfs_rows world fds ms) k → a ≡ no k → fx ≡ [] → Does ws ws std a fx
  stopped k d =
      turned ws std (stdfs_rows world fds ms) (begun world (waiting_of c no_fds) (holds_of world) g) (give (waiting_of c no_fds) ∷ send (g (table_of world).head) ∷ []) refl refl k d a fx

  pub few_words : length ms < 3 → a ≡ no 22 → fx ≡ [] → Does ws ws std a fx
  few_words q = stopped 22 (rw (lt-ltb (length ms) 3 q) refl)

  pub no_kind : 3 ≤ length ms → wrong_kind (kind_byte ms) ≡ true → a ≡ no 95 → fx ≡ [] → Does ws ws std a fx
  no_kind q r = stopped 95 (rw (le-ltb (length ms) 3 q, r) refl)

  pub translated :
      (op : ℕ) → op ≡ std_fs_call → 3 ≤ length ms → wrong_kind (kind_byte ms) ≡ false
      → DoesWith op ws xs c pid fds base len (std_meta ms) a fx → Does ws xs std a fx
  translated op p q r e = e std (rw (p, le-ltb (length ms) 3 q, r) refl) (rw (p, le-ltb (length ms) 3 q, r) refl)
