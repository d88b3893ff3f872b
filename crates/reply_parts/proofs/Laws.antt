-- The parts by the tests that the code makes. Assumes nothing.
use Prim.Native.Nat.{ℕ, ◌<◌}
use mathlib.Core.Path.{◌≡◌, refl, sym, ap, ◌∙◌}
use mathlib.Core.Bool.{Bool, true, false, cond}
use mathlib.Core.List.{[], ◌∷◌}
use native.Mathlib.Omega.{arith}
use lib.Dec.{eqb}
use borrow.Author.Tests.{lt-ltb, le-ltb}
use Rattle.ids.specs.declared.Description.{Description}
use Rattle.ids.specs.Ids.{description_in}
use Rattle.answer.specs.Numbered.{number_of}
use Rattle.error.specs.declared.Error.{Error}
use Rattle.std.specs.Prelude.{Result, Ok, Err}
use Rattle.error.specs.Errors.{result_answer}
use Rattle.fd_list.specs.declared.List.{List as Fds}
use Rattle.fd_list.specs.Lists.{list_of}
use Rattle.slot.specs.declared.Reply.{Reply}
use Rattle.slot.specs.declared.Slot.{Slot}
use Rattle.slot.specs.Slots.{no_fds}
use Rattle.events.specs.Entry.{stored_errno, stored_result, stored_as, named_of}
use Rattle.reply_parts.specs.declared.Offer.{Offer}
use Rattle.reply_parts.specs.declared.Offer.TheVariants.{Regular, Fd, Listed}
use Rattle.reply_parts.specs.declared.Parts.{Parts}
use Rattle.reply_parts.specs.Parts.{offered, parts_of}

pub errno_is : (c : Bool) (e : ℕ) (x y : Bool) → c ≡ x → (x ≡ true → eqb e 125 ≡ y) → (x ≡ false → eqb e 4 ≡ y) → cond x (cond y 4 e) (cond y 5 e) ≡ stored_errno c e
errno_is c e true y q f g = rw (q, f refl) refl
errno_is c e false y q f g = rw (q, g refl) refl

pub stored_ok : (c : Bool) (r : Result ℕ Error) (w x : ℕ) (b : Bool) → r ≡ Ok w → ◌≡◌ {A = Reply} (record { kind = 0; extra0 = x; notice = b; word = w }) (stored_as (stored_result c r x b))
stored_ok c r w x b e = rw e refl

pub stored_err :
    (c : Bool) (r : Result ℕ Error) (f : Error) (k n x : ℕ) (b : Bool) → r ≡ Err f → k ≡ number_of (result_answer r) → n ≡ stored_errno c k
    → ◌≡◌ {A = Reply} (record { kind = 1; extra0 = x; notice = b; word = n }) (stored_as (stored_result c r x b))
stored_err c r f k n x b e ek en = rw (en, ek, e) refl

pub named_none : (d : ℕ) (l : Fds) → 63 < d → l ≡ list_of [] → l ≡ named_of d
named_none d l q e = e ∙ sym (ap (λ (b : Bool). cond b (list_of []) (list_of (d ∷ []))) (lt-ltb 63 d q))

pub named_one : (w : ℕ) (d : Description) (l : Fds) → (w < 64) × (d ≡ description_in w) → l ≡ list_of (d.0 ∷ []) → l ≡ named_of w
named_one w d l q e =
    e ∙ ap (λ (x : Description). list_of (x.0 ∷ [])) q.1 ∙ sym (ap (λ (b : Bool). cond b (list_of []) (list_of (w ∷ []))) (le-ltb 63 w (omega (arith, q.0))))

-- the parts by the offer
pub parts_regular :
    (v : Slot) (o : Offer) (r : Result ℕ Error) (x : ℕ) (b : Bool) (y : Reply) (n m : Fds) → o ≡ Regular r x b → y ≡ stored_as (stored_result v.canceling r x b)
    → n ≡ no_fds → m ≡ no_fds → ◌≡◌ {A = Parts} (record { reply = y; kept = n; gone = v.fds; own = m }) (parts_of v (offered o))
parts_regular v o r x b y n m e ey en em = rw (e, ey, en, em) refl

pub parts_fd :
    (v : Slot) (o : Offer) (d : ℕ) (n own : Fds) → o ≡ Fd d → n ≡ no_fds → own ≡ named_of d
    → ◌≡◌ {A = Parts} (record { reply = record { kind = 2; extra0 = 0; notice = false; word = d }; kept = n; gone = v.fds; own = own }) (parts_of v (offered o))
parts_fd v o d n own e en eo = rw (e, en, eo) refl

pub parts_listed :
    (v : Slot) (o : Offer) (n : Fds) → o ≡ Listed → n ≡ no_fds
    → ◌≡◌ {A = Parts} (record { reply = record { kind = 3; extra0 = 0; notice = false; word = 0 }; kept = v.fds; gone = n; own = v.fds }) (parts_of v (offered o))
parts_listed v o n e en = rw (e, en) refl
