-- What a wake hands over, looked at before it: the reply in a slot as it stands, and its list where it is one of many.
use Rattle.std.specs.Prelude.{ℕ, zero, suc, []}
use Rattle.fd_list.specs.declared.List.{List as Fds}
use Rattle.fd_list.specs.Lists.{list_of}
use Rattle.slot.specs.declared.Slot.{Slot}
use Rattle.call_inner.specs.declared.Stored.{Stored}

-- by the reply's kind: a list beside another reply is not handed over
abbrev pub list_beside : ℕ → Fds → Fds
list_beside zero l = list_of []
list_beside (suc zero) l = list_of []
list_beside (suc (suc zero)) l = list_of []
list_beside (suc (suc (suc k))) l = l

abbrev pub kept_in : Slot → Stored
kept_in v = record { reply = v.reply; fds = list_beside v.reply.kind v.fds }
