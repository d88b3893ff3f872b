-- A plain state whose numbers fit their words: what the types of its fields say of it.
use Rattle.std.specs.Prelude.{ℕ, ◌<◌, ◌≡◌, List, [], ◌∷◌, map, get_or, length}
use Rattle.fd_list.specs.declared.List.{List as Fds}
use Rattle.fd_list.specs.Lists.{num}
use Rattle.slot.specs.declared.Slot.{Slot}
use Rattle.events.specs.World.{World, table_of, holds_of, handles_of}

pub record ListFits (l : Fds) : Type 0 where
  pub sixteen : length l.at ≡ 16
  pub bytes : (i : ℕ) → get_or (map num l.at) i 0 < 256
  pub len : l.len < 256

pub record SlotFits (v : Slot) : Type 0 where
  pub state : v.state < 256
  pub caller : v.caller < 4294967296
  pub kind : v.reply.kind < 256
  pub extra0 : v.reply.extra0 < 256
  pub fds : ListFits v.fds

abbrev pub SlotsFit : List Slot → Type 0
SlotsFit [] = Unit {0}
SlotsFit (v ∷ vs) = SlotFits v × SlotsFit vs

pub record Fits (w : World) : Type 0 where
  pub slots : length (table_of w).slots ≡ 64
  pub each : SlotsFit (table_of w).slots
  pub next : length (table_of w).next ≡ 64
  pub all : length (holds_of w).holds ≡ 64
  pub outside : length (holds_of w).outside ≡ 64
  pub handles : length (handles_of w).at ≡ 64
  pub words : length w.words ≡ 1024
