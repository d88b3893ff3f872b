-- The code's offer and parts as the decision on an entry has them.
use Rattle.slot.specs.declared.Slot.{Slot}
use Rattle.events.specs.Entry as entry
use Rattle.events.specs.Entry.{response_to, stored_as, kept_fds, gone_fds, own_fds}
use Rattle.reply_parts.specs.declared.Offer.{Offer}
use Rattle.reply_parts.specs.declared.Offer.TheVariants.{Regular, Fd, Listed}
use Rattle.reply_parts.specs.declared.Parts.{Parts}

abbrev pub offered : Offer → entry.Offer
offered (Regular r x b) = entry.result r x b
offered (Fd d) = entry.one d
offered Listed = entry.listed

abbrev pub parts_of : Slot → entry.Offer → Parts
parts_of v o = record { reply = stored_as (response_to v o); kept = kept_fds o v; gone = gone_fds o v; own = own_fds o v }
