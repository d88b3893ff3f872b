-- A slot and the few ways in which one is made (01, "Slots and holds"; src/scheme/user.rs, lines 51 to 68).
use Rattle.std.specs.Prelude.{true, false, [], ◌∷◌, ℕ, get_or}
use Rattle.fd_list.specs.declared.List.{List as Fds}
use Rattle.fd_list.specs.Lists.{list_of}
use Rattle.slot.specs.declared.PageSpan.{PageSpan}
use Rattle.slot.specs.declared.Reply.{Reply}
use Rattle.slot.specs.declared.Slot.{Slot}
use Rattle.slot.specs.declared.Phase.{Phase}
use Rattle.slot.specs.declared.Phase.TheVariants.{Vacant, Placeholder, Waiting, Responded, Fmap}

-- a number that names no phase reads as Vacant
abbrev pub phase_named : ℕ → Phase
phase_named n = get_or (Vacant ∷ Placeholder ∷ Waiting ∷ Responded ∷ Fmap ∷ []) n Vacant

abbrev pub phase_of : Slot → Phase
phase_of v = phase_named v.state

abbrev pub no_span : PageSpan
no_span = record { base = 0; count = 0 }

abbrev pub no_reply : Reply
no_reply = record { kind = 0; extra0 = 0; notice = false; word = 0 }

abbrev pub no_fds : Fds
no_fds = list_of []

-- a slot with no marks, no span and no reply
abbrev pub made_of : ℕ → ℕ → Fds → Slot
made_of state caller fds =
    record { state = state; caller = caller; canceling = false; ended = false; returned = false; span = no_span; reply = no_reply; fds = fds }

abbrev pub vacant_slot : Slot
vacant_slot = made_of 0 0 no_fds

abbrev pub placeholder_of : ℕ → Slot
placeholder_of caller = made_of 1 caller no_fds

abbrev pub waiting_of : ℕ → Fds → Slot
waiting_of caller fds = made_of 2 caller fds

abbrev pub map_request_of : ℕ → Slot
map_request_of caller = made_of 4 caller no_fds

-- a wake found it still blocked
abbrev pub canceled_of : Slot → Slot
canceled_of v =
    record { state = v.state; caller = v.caller; canceling = true; ended = v.ended; returned = v.returned; span = v.span; reply = v.reply; fds = v.fds }

-- its caller was killed: whoever responds unmaps the span
abbrev pub interrupted_of : Slot → PageSpan → Slot
interrupted_of v span =
    record { state = v.state; caller = v.caller; canceling = true; ended = v.ended; returned = true; span = span; reply = v.reply; fds = v.fds }

-- the reply and the list that it holds; a call that returned stays returned
abbrev pub responded_of : Slot → Reply → Fds → Slot
responded_of v reply fds =
    record { state = 3; caller = v.caller; canceling = false; ended = false; returned = v.returned; span = no_span; reply = reply; fds = fds }

abbrev pub ended_of : Slot → Slot
ended_of v =
    record { state = v.state; caller = v.caller; canceling = v.canceling; ended = true; returned = v.returned; span = v.span; reply = v.reply; fds = v.fds }

abbrev pub with_fds_of : Slot → Fds → Slot
with_fds_of v fds =
    record { state = v.state; caller = v.caller; canceling = v.canceling; ended = v.ended; returned = v.returned; span = v.span; reply = v.reply; fds = fds }
