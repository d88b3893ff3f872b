-- What a completion entry wishes, and the handle that it names.
use Rattle.std.specs.Prelude.{ℕ, ◌-◌, true, false, cond, eqb, Option, Some, None, Result, Ok, Err}
use Rattle.parse_cqe.specs.declared.ParsedCqe.{ParsedCqe}
use Rattle.parse_cqe.specs.declared.ParsedCqe.TheVariants as parsed
use Rattle.parse_cqe.specs.declared.CqeError.{CqeError}
use Rattle.reply_parts.specs.declared.Offer.TheVariants as offer
use Rattle.wish.specs.declared.Wish.{Wish}
use Rattle.wish.specs.declared.Wish.TheVariants as wish

-- the handle that an entry names, 64 for none
abbrev pub handle_in : Result ParsedCqe CqeError → ℕ
handle_in (Ok (parsed.TriggerFevent number flags)) = 64
handle_in (Ok (parsed.RegularResponse t r x)) = 64
handle_in (Ok (parsed.ResponseWithFd t k)) = k.0
handle_in (Ok (parsed.ResponseWithMultipleFds t c)) = 64
handle_in (Ok (parsed.ObtainFd t flags k)) = k.0
handle_in (Ok (parsed.RespondAndNotifyOnDetach t r x)) = 64
handle_in (Err e) = 64

-- what an entry wishes, where its handle holds x
abbrev pub wish_of : Result ParsedCqe CqeError → ℕ → Option Wish
wish_of (Ok (parsed.TriggerFevent number flags)) x = Some (wish.Event number flags)
wish_of (Ok (parsed.RegularResponse t r e)) x = Some (wish.Reply t.0 (offer.Regular r e false))
wish_of (Ok (parsed.ResponseWithFd t k)) x = cond (eqb x 0) None (Some (wish.Reply t.0 (offer.Fd (x - 1))))
wish_of (Ok (parsed.ResponseWithMultipleFds t c)) x = Some (wish.Reply t.0 offer.Listed)
wish_of (Ok (parsed.ObtainFd t flags k)) x = Some wish.Obtain
wish_of (Ok (parsed.RespondAndNotifyOnDetach t r e)) x = Some (wish.Reply t.0 (offer.Regular r e true))
wish_of (Err e) x = None
