-- `kfdwrite` and `kfdread` as the `call` that each is. Assumes nothing.
use Prim.Native.Nat.{ℕ, ◌/◌, ◌%◌}
use mathlib.Core.Path.{◌≡◌, refl, ◌∙◌}
use mathlib.Core.List.{List, []}
use borrow.Author.Tests.{eq-eqb, ne_eqb}
use lib.ListN.{get_or, length}
use Rattle.flag.specs.Flags.{send_fd_flags, recv_fd_flags}
use Rattle.opcode.specs.Opcodes.{sendfd, recvfd}
use Rattle.schemev2.specs.declared.Args.{Args}
use Rattle.events.specs.Outcome.{Answer, no}
use Rattle.events.specs.Submit.{args6, length_rows, fdwrite_args, fdread_args, call_of}
use Rattle.events.specs.Event.{on, call, fdwrite, fdread}
use Rattle.layout.specs.Layout.{plain_of}
use Rattle.packed.specs.Stores.{call_stores}
use Rattle.step.specs.Does.{Does}
use Rattle.step.proofs.Rows.{turned}

pub sent_args :
    (number flags told first : ℕ) (ms ds : List ℕ) → told ≡ send_fd_flags flags → first ≡ get_or ms 0 0
    → args6 number told first (length ds) 0 0 ≡ fdwrite_args number flags ms ds
sent_args number flags told first ms ds et ef = λ i. args6 number (et i) (ef i) (length ds) 0 0

pub received_args :
    (number len flags told first second : ℕ) (ms : List ℕ) → told ≡ recv_fd_flags flags → first ≡ get_or ms 0 0 → second ≡ get_or ms 1 0
    → args6 number told (len / 8) first second 0 ≡ fdread_args number len flags ms
received_args number len flags told first second ms et ef es = λ i. args6 number (et i) (len / 8) (ef i) (es i) 0

module _ (ws : List ℕ) (c number flags : ℕ) (ms : List ℕ) (uid gid pid : ℕ) (a : Answer) (fx : List ℕ) where
  pub sent :
      (xs ds : List ℕ) (op : ℕ) (args : Args) → op ≡ sendfd → args ≡ fdwrite_args number flags ms ds
      → Does ws xs (on (call c op args uid gid pid ds)) a fx → Does ws xs (on (fdwrite c number flags ms uid gid pid ds)) a fx
  sent xs ds op args eo ea d =
      let e : Does ws xs (on (call c sendfd (fdwrite_args number flags ms ds) uid gid pid ds)) a fx = rw (← eo, ← ea) d in
      record { answer = e.answer; effects = e.effects; words = e.words }

  module _ (len : ℕ) where
    pub no_length : (len % 8 ≡ 0 → ⊥) → a ≡ no 22 → fx ≡ [] → Does ws ws (on (fdread c number len flags ms uid gid pid)) a fx
    no_length q =
        turned ws (on (fdread c number len flags ms uid gid pid)) (length_rows len) (call_of (plain_of ws) c recvfd (fdread_args number len flags ms) uid gid pid [])
        (call_stores (plain_of ws) c recvfd (fdread_args number len flags ms) uid gid pid []) refl refl 22 (rw (ne_eqb (len % 8) 0 q) refl) a fx

    pub received :
        (xs : List ℕ) (op : ℕ) (args : Args) → len % 8 ≡ 0 → op ≡ recvfd → args ≡ fdread_args number len flags ms
        → Does ws xs (on (call c op args uid gid pid [])) a fx → Does ws xs (on (fdread c number len flags ms uid gid pid)) a fx
    received xs op args q eo ea d =
        let e : Does ws xs (on (call c recvfd (fdread_args number len flags ms) uid gid pid [])) a fx = rw (← eo, ← ea) d in
        record { answer = e.answer ∙ rw (eq-eqb (len % 8) 0 q) refl; effects = e.effects ∙ rw (eq-eqb (len % 8) 0 q) refl; words = e.words ∙ rw (eq-eqb (len % 8) 0 q) refl }
