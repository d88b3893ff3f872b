-- The definitions that the claims take over are as they are spelled out. Assumes nothing.
use Rattle.std.specs.Prelude.{Err}
use Prim.Native.Nat.{ℕ, zero, suc, ◌+◌, ◌-◌, ◌*◌, ◌/◌, ◌%◌}
use mathlib.Core.Path.{◌≡◌, refl, ap}
use mathlib.Core.Bool.{Bool, true, false, not, cond}
use mathlib.Core.List.{List, []}
use native.Mathlib.Omega.{arith}
use lib.Dec.{eqb, ltb}
use lib.ListN.{length, get_or, replicate}
use borrow.Author.Tests.{eq-eqb, ne_eqb}
use Rattle.error.specs.declared.Error.{Error}
use Rattle.error.specs.Reference.{as_usize}
use Rattle.flag.specs.Flags.{recv_fd_flags}
use Rattle.handles.specs.Handles.{held_at}
use Rattle.schemev2.specs.Entry.{sqe_words}
use Rattle.slot.specs.declared.Phase.TheVariants.{Vacant}
use Rattle.slot.specs.Slots.{phase_of, vacant_slot}
use Rattle.table.specs.Table.{no_slot}
use Rattle.wait_queue.specs.Queue.{words_from}
use Rattle.events.specs.World.{World}
use Rattle.events.specs.Outcome.{refuse, error, descriptor}
use Rattle.events.specs.Submit.{args6, sqe, call_of, fdread_args, fdread_of, generic_args, generic_entry}
use Rattle.events.specs.Entry.{stored_result}
use Rattle.events.specs.Spelled.{Started, words8, last, many_ids, AreCalls, Spelled}

started : (scheme : ℕ) (words : List ℕ) → Started scheme words
unfolding words_from
started scheme words = record { slots = λ n. go (ltb n 64) n; queue = refl; handles = refl; holds = refl; outside = refl; number = refl }
  where
    at : (k n : ℕ) → phase_of (get_or (replicate k vacant_slot) n no_slot) ≡ Vacant
    at zero n = refl
    at (suc k) zero = refl
    at (suc k) (suc n) = at k n

    go : (b : Bool) (n : ℕ) → phase_of (cond b (get_or (replicate 64 vacant_slot) n no_slot) vacant_slot) ≡ Vacant
    go true n = at 64 n
    go false n = refl

generic_is :
    (op pid : ℕ) (fds : List ℕ) (base len : ℕ) (ms : List ℕ) (n : ℕ)
    → sqe_words (generic_entry op pid fds base len ms n)
    ≡ words8 op (many_ids fds) n (get_or fds 0 0) base len (get_or ms 0 0) (get_or ms 1 0) (last fds ms) pid
generic_is op pid fds base len ms n = go (eqb (length fds) 2) (many_ids fds)
  where
    go :
        (b : Bool) (fl : ℕ)
        → sqe_words (sqe op fl n (generic_args b fds base len ms) pid)
        ≡ words8 op fl n (get_or fds 0 0) base len (get_or ms 0 0) (get_or ms 1 0) (cond b (get_or fds 1 0) (get_or ms 2 0)) pid
    go true fl = refl
    go false fl = refl

calls_are : AreCalls
calls_are =
    record {
      kfdwrite = λ w c number flags ms uid gid pid ds. refl;
      kfdread = λ w c number words flags ms uid gid pid.
          even w c number (8 * words) words flags ms uid gid pid (let z : 8 * words % 8 ≡ 0 = omega arith in z) (let z : 8 * words / 8 ≡ words = omega arith in z);
      refused = λ w c number words k flags ms uid gid pid p q.
          odd w c number (8 * words + k) flags ms uid gid pid (λ e. let z : ⊥ = omega (arith, p, q, e) in z);
    }
  where
    even :
        (w : World) (c number len words flags : ℕ) (ms : List ℕ) (uid gid pid : ℕ) → len % 8 ≡ 0 → len / 8 ≡ words
        → fdread_of w c number len flags ms uid gid pid ≡ call_of w c 31 (args6 number (recv_fd_flags flags) words (get_or ms 0 0) (get_or ms 1 0) 0) uid gid pid []
    even w c number len words flags ms uid gid pid e d i =
        cond (not (eq-eqb (len % 8) 0 e i)) (refuse w 22) (call_of w c 31 (args6 number (recv_fd_flags flags) (d i) (get_or ms 0 0) (get_or ms 1 0) 0) uid gid pid [])

    odd :
        (w : World) (c number len flags : ℕ) (ms : List ℕ) (uid gid pid : ℕ) → (len % 8 ≡ 0 → ⊥)
        → fdread_of w c number len flags ms uid gid pid ≡ refuse w 22
    odd w c number len flags ms uid gid pid e i =
        cond (not (ne_eqb (len % 8) 0 e i)) (refuse w 22) (call_of w c 31 (fdread_args number len flags ms) uid gid pid [])

error_is :
    (c : Bool) (e : Error) (x : ℕ) (b : Bool)
    → stored_result c (Err e) x b
    ≡ error (cond c (cond (eqb (as_usize e.errno) 125) 4 (as_usize e.errno)) (cond (eqb (as_usize e.errno) 4) 5 (as_usize e.errno))) x b
error_is true e x b = refl
error_is false e x b = refl

pub spelled : Spelled
spelled =
    record {
      started = started;
      queued =
          record {
            submit = λ n op fl a pid. refl;
            call = λ op a uid gid pid n. refl;
            generic = generic_is;
            stdfs = λ ms. refl;
            fmap = λ id pages flags uid gid pid n. refl;
            close = λ id. refl;
            detach = λ id pid. refl;
          };
      calls = calls_are;
      fronts =
          record {
            kfdwrite = record { success = λ w x b. refl; error = λ e x b. refl; descriptor = λ d. refl; many = λ ds. refl };
            kfdread = record { success = λ w x b. refl; error = λ e x b. refl; descriptor = λ d. refl; many = λ ds. refl };
          };
      readings =
          record {
            success = λ v w x b. refl;
            error = λ v e x b. error_is v.canceling e x b;
            descriptor = λ v n k d e. ap descriptor (let z : held_at n k - 1 ≡ d = omega (arith, e) in z);
            many = λ v. refl;
          };
      interrupted = λ v s. refl;
    }
