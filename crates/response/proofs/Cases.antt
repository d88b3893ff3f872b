-- The readings by the reply's kind. Assumes nothing.
use Prim.Native.Nat.{ℕ, zero, suc}
use mathlib.Core.Path.{◌≡◌, refl, ap, ◌∙◌}
use mathlib.Core.Logic.{◌≢◌}
use mathlib.Core.Bool.{Bool}
use lib.ListN.{length}
use Rattle.fd_list.specs.declared.List.{List as Fds}
use Rattle.fd_list.specs.Lists.{numbers}
use Rattle.flag.specs.Flags.{within, new_fd_flags}
use Rattle.slot.specs.declared.Reply.{Reply}
use Rattle.events.specs.Outcome.{ok}
use Rattle.events.specs.Replies.{into_regular_of, notice_of, kfdread_of, local_if, kopenat_of}
use Rattle.events.specs.Wake.{response_by, response_from}
use Rattle.response.specs.declared.Kind.{Kind}
use Rattle.response.specs.declared.Kind.TheVariants.{Success, Error, Fd, MultipleFds}
use Rattle.response.specs.Response.{kind_named}

pub other : (n : ℕ) → n ≢ 0 → n ≢ 1 → n ≢ 2 → MultipleFds ≡ kind_named n
other zero h₀ h₁ h₂ = absurd (h₀ refl)
other (suc zero) h₀ h₁ h₂ = absurd (h₁ refl)
other (suc (suc zero)) h₀ h₁ h₂ = absurd (h₂ refl)
other (suc (suc (suc k))) h₀ h₁ h₂ = refl

abbrev pub number_of : Kind → ℕ
number_of Success = 0
number_of Error = 1
number_of Fd = 2
number_of MultipleFds = 3

module _ (r : Reply) (l : Fds) where
  by_kind : (n : ℕ) → response_by (number_of (kind_named n)) r l ≡ response_by n r l
  by_kind zero = refl
  by_kind (suc zero) = refl
  by_kind (suc (suc zero)) = refl
  by_kind (suc (suc (suc k))) = refl

  module _ (k : Kind) (e : k ≡ kind_named r.kind) where
    pub reply_in_lem : (x : Kind) → k ≡ x → response_by (number_of x) r l ≡ response_from r l
    reply_in_lem x q = rw (← q, e) (by_kind r.kind)

    pub regular_in : (x : Kind) → k ≡ x → into_regular_of (response_by (number_of x) r l) ≡ into_regular_of (response_from r l)
    regular_in x q = ap into_regular_of (reply_in_lem x q)

    pub notice_in : (x : Kind) → k ≡ x → notice_of (response_by (number_of x) r l) ≡ notice_of (response_from r l)
    notice_in x q = ap notice_of (reply_in_lem x q)

    pub received_in : (x : Kind) → k ≡ x → kfdread_of (response_by (number_of x) r l) ≡ kfdread_of (response_from r l)
    received_in x q = ap kfdread_of (reply_in_lem x q)

    -- so many descriptors
    pub received_many : k ≡ MultipleFds → (n : ℕ) → n ≡ length (numbers l) → ok n ≡ kfdread_of (response_from r l)
    received_many q n s = ap ok s ∙ received_in MultipleFds q

    pub opened_in : (x : Kind) → k ≡ x → kopenat_of (response_by (number_of x) r l) ≡ kopenat_of (response_from r l)
    opened_in x q = ap kopenat_of (reply_in_lem x q)

    -- are the flags known
    pub opened_local :
        k ≡ Success → (b : Bool) → b ≡ within new_fd_flags r.extra0 → (y : Bool) → b ≡ y
        → local_if y r.word r.extra0 ≡ kopenat_of (response_from r l)
    opened_local q b f y g = rw (← g, f) (opened_in Success q)
