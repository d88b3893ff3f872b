-- The driver writes completions: each entry's decision carried out (01, "Completions"; src/scheme/user.rs, lines 743 to 755).
use Rattle.std.specs.Prelude.{ℕ, zero, suc, ◌*◌, ◌/◌, Bool, cond, List, [], ◌∷◌, ◌++◌, ltb, eqb, length, drop, Result}
use Rattle.parse_cqe.specs.declared.ParsedCqe.{ParsedCqe}
use Rattle.parse_cqe.specs.declared.CqeError.{CqeError}
use Rattle.parse_cqe.specs.Parsed.{parsed_of}
use Rattle.schemev2.specs.declared.Cqe.{Cqe}
use Rattle.schemev2.specs.Entry.{cqe_of}
use Rattle.slot.specs.declared.Act.{Act}
use Rattle.slot.specs.declared.Act.TheVariants.{Leave, Store, Vacate}
use Rattle.slot.specs.declared.Slot.{Slot}
use Rattle.table.specs.declared.Table.{Table}
use Rattle.table.specs.Table.{put_at, vacate_at}
use Rattle.events.specs.World.{World, table_of, holds_of, handles_of, slot_in, with_table, table_with, with_handles}
use Rattle.events.specs.Outcome.{Answer, Outcome, outcome, ok, no, refuse, Row, row, checked}
use Rattle.events.specs.Entry.{Decision, decision_of}

-- what one entry does: accepted with its effects, or turned down with a number
pub data Entered : Type 0 where
  accepted : List ℕ → World → Entered
  rejected : ℕ → List ℕ → World → Entered

-- the state that it leaves
abbrev pub world_of : Entered → World
world_of (accepted fx w) = w
world_of (rejected k fx w) = w

-- a decision carried out at the place of its tag
abbrev pub act_on : Act → Table → ℕ → Slot → Table
act_on Leave t n v = t
act_on Store t n v = put_at t n v
act_on Vacate t n v = vacate_at t n

abbrev pub after : World → ℕ → Decision → World
after w n d = with_handles (with_table w (table_with (act_on d.act (table_of w) n d.slot) d.holds)) d.handles

abbrev pub carried : World → ℕ → Decision → Entered
carried w n d =
    cond (eqb d.number 0) (accepted d.effects (after w n d)) (rejected d.number d.effects (after w n d))

-- an entry with tag n, by what it asks for
abbrev pub entry_by : Result ParsedCqe CqeError → World → ℕ → Entered
entry_by p w n = carried w n (decision_of p (slot_in w n) (holds_of w) (handles_of w))

abbrev pub entry_of : World → Cqe → Entered
entry_of w e = entry_by (parsed_of e) w e.tag

-- the whole entries of some bytes: 1 to 15 left over are unread
abbrev pub cut : ℕ → List ℕ → List Cqe
cut zero bs = []
cut (suc n) bs = cqe_of bs ∷ cut n (drop 16 bs)

abbrev pub entries_of : List ℕ → List Cqe
entries_of bs = cut (length bs / 16) bs

-- a refusal after a good entry returns the bytes so far, a first one its number
abbrev pub stopped : ℕ → ℕ → Answer
stopped zero k = no k
stopped (suc n) k = ok (16 * suc n)

abbrev pub on_entered : Entered → (List ℕ → World → Outcome) → (ℕ → List ℕ → World → Outcome) → Outcome
on_entered (accepted fx w) f g = f fx w
on_entered (rejected k fx w) f g = g k fx w

-- entry after entry, up to the first refusal: n were accepted and made the effects fx
abbrev pub write_on : World → List Cqe → ℕ → List ℕ → Outcome
write_on w [] n fx = outcome (ok (16 * n)) fx w
write_on w (e ∷ es) n fx =
    on_entered (entry_of w e) (λ gx u. write_on u es (suc n) (fx ++ gx)) (λ k gx u. outcome (stopped n k) (fx ++ gx) u)

-- room for 18 effects an entry
abbrev pub short_words : ℕ → List ℕ → Bool
short_words words bs = ltb words (54 * (length bs / 16))

abbrev pub write_rows : ℕ → List ℕ → List Row
write_rows words bs = row 204 (short_words words bs) ∷ []

abbrev pub write_of : World → ℕ → List ℕ → Outcome
write_of w words bs = checked (refuse w) (write_rows words bs) (write_on w (entries_of bs) 0 [])
