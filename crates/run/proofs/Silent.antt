-- Only a read stores bytes. Assumes nothing.
use Prim.Native.Nat.{ℕ, suc, ◌+◌}
use mathlib.Core.Path.{◌≡◌, refl}
use mathlib.Core.Bool.{Bool, true, false, cond, true≢false}
use mathlib.Core.List.{List, [], ◌∷◌, ◌++◌}
use lib.Dec.{eqb, ltb}
use Rattle.fd_list.specs.Lists.{list_of}
use Rattle.flag.specs.Flags.{event_read, event_hup}
use Rattle.opcode.specs.Opcodes as opcode
use Rattle.schemev2.specs.declared.Args.{Args}
use Rattle.schemev2.specs.declared.Cqe.{Cqe}
use Rattle.slot.specs.declared.PageSpan.{PageSpan}
use Rattle.slot.specs.declared.Phase.{Phase}
use Rattle.slot.specs.declared.Phase.TheVariants.{Vacant, Placeholder, Waiting, Responded, Fmap}
use Rattle.slot.specs.Slots.{waiting_of, map_request_of}
use Rattle.events.specs.World.{World, holds_of, slot_in, phase_in, queue_full}
use Rattle.events.specs.Outcome.{Row, Outcome, outcome, refuse, checked}
use Rattle.events.specs.Submit.{taken_holds, reserve_rows, reserved, submit_rows, submit_entry, submitted, begun, call_rows, call_entry, call_of, fdwrite_args, fdread_args, length_rows, generic_rows, generic_entry, stdfs_rows, std_meta, fmap_rows, fmap_entry, queue_rows, notified, close_entry, detach_entry}
use Rattle.events.specs.Wake.{blocked_by, waited_by, woken_by, wakeable, wake_rows}
use Rattle.events.specs.Complete.{Entered, accepted, rejected, entry_of, entries_of, stopped, on_entered, write_rows, write_on}
use Rattle.events.specs.Descriptors.{request_of, request_rows, list_rows, brought_back, moved, given_up}
use Rattle.events.specs.Supply.{supplied_by, page_rows}
use Rattle.events.specs.Event.{DriverEvent, host_put, reserve, submit, call, fdwrite, fdread, generic, stdfs, fmap, close, detach, wake, read, write, move, obtain, supply, driver_step}

-- a refusal stores none
unless : (f : ℕ → Outcome) (rows : List Row) (o : Outcome) → ((k : ℕ) → [] ≡ (f k).bytes) → [] ≡ o.bytes → [] ≡ (checked f rows o).bytes
unless f [] o a b = b
unless f (r ∷ rs) o a b = go r.due (unless f rs o a b)
  where
    go : (x : Bool) → [] ≡ (checked f rs o).bytes → [] ≡ (cond x (f r.number) (checked f rs o)).bytes
    go true c = a r.number
    go false c = c

blocked_silent : (a b : Bool) (w : World) (n : ℕ) → [] ≡ (blocked_by a b w n).bytes
blocked_silent true b w n = refl
blocked_silent false true w n = refl
blocked_silent false false w n = refl

waited_silent : (a : Bool) (w : World) (n : ℕ) (span : PageSpan) → [] ≡ (waited_by a w n span).bytes
waited_silent true w n span = refl
waited_silent false w n span = blocked_silent (slot_in w n).canceling (queue_full w) w n

woken_silent : (p : Phase) (w : World) (n killed : ℕ) (span : PageSpan) → [] ≡ (woken_by p w n killed span).bytes
woken_silent Vacant w n killed span = refl
woken_silent Placeholder w n killed span = refl
woken_silent Waiting w n killed span = waited_silent (eqb killed 1) w n span
woken_silent Responded w n killed span = refl
woken_silent Fmap w n killed span = refl

supplied_silent : (p : Phase) (w : World) (n : ℕ) → [] ≡ (supplied_by p w n).bytes
supplied_silent Vacant w n = refl
supplied_silent Placeholder w n = refl
supplied_silent Waiting w n = refl
supplied_silent Responded w n = refl
supplied_silent Fmap w n = refl

on_silent : (es : List Cqe) (w : World) (n : ℕ) (fx : List ℕ) → [] ≡ (write_on w es n fx).bytes
on_silent [] w n fx = refl
on_silent (e ∷ es) w n fx = go (λ u gx. on_silent es u (suc n) (fx ++ gx)) (entry_of w e)
  where
    go : ((u : World) (gx : List ℕ) → [] ≡ (write_on u es (suc n) (fx ++ gx)).bytes) → (x : Entered) → [] ≡ (on_entered x (λ gx u. write_on u es (suc n) (fx ++ gx)) (λ k gx u. outcome (stopped n k) (fx ++ gx) u)).bytes
    go more (accepted gx u) = more u gx
    go more (rejected k gx u) = refl

-- any event but a read
abbrev pub is_read : DriverEvent → Bool
is_read (host_put d k) = false
is_read (reserve c) = false
is_read (submit n c op fl args pid ds) = false
is_read (call c op args uid gid pid ds) = false
is_read (fdwrite c number flags ms uid gid pid ds) = false
is_read (fdread c number len flags ms uid gid pid) = false
is_read (generic c pid fds base len ms) = false
is_read (stdfs c pid fds base len ms) = false
is_read (fmap c id pages flags uid gid pid) = false
is_read (close id) = false
is_read (detach id pid) = false
is_read (wake n c killed base count) = false
is_read (read len flags) = true
is_read (write words bs) = false
is_read (move ms ds) = false
is_read (obtain ms) = false
is_read (supply n offset base count) = false

module _ (w : World) where
  behind : (rows : List Row) (o : Outcome) → [] ≡ o.bytes → [] ≡ (checked (refuse w) rows o).bytes
  behind rows o b = unless (refuse w) rows o (λ k. refl) b

  call_silent : (c op : ℕ) (args : Args) (uid gid pid : ℕ) (ds : List ℕ) → [] ≡ (call_of w c op args uid gid pid ds).bytes
  call_silent c op args uid gid pid ds = behind (call_rows w op ds) (begun w (waiting_of c (list_of ds)) (taken_holds w ds) (call_entry op args uid gid pid)) refl

  pub silent : (e : DriverEvent) → is_read e ≡ false → [] ≡ (driver_step w e).bytes
  silent (host_put d k) z = refl
  silent (reserve c) z = behind (reserve_rows w) (reserved w c) refl
  silent (submit n c op fl args pid ds) z = behind (submit_rows w n c op ds) (submitted w n c ds (submit_entry n op fl args pid)) refl
  silent (call c op args uid gid pid ds) z = call_silent c op args uid gid pid ds
  silent (fdwrite c number flags ms uid gid pid ds) z = call_silent c opcode.sendfd (fdwrite_args number flags ms ds) uid gid pid ds
  silent (fdread c number len flags ms uid gid pid) z =
      behind (length_rows len) (call_of w c opcode.recvfd (fdread_args number len flags ms) uid gid pid []) (call_silent c opcode.recvfd (fdread_args number len flags ms) uid gid pid [])
  silent (generic c pid fds base len ms) z = behind (generic_rows w fds) (begun w (waiting_of c (list_of [])) (holds_of w) (generic_entry opcode.call pid fds base len ms)) refl
  silent (stdfs c pid fds base len ms) z =
      behind (stdfs_rows w fds ms) (begun w (waiting_of c (list_of [])) (holds_of w) (generic_entry opcode.std_fs_call pid fds base len (std_meta ms))) refl
  silent (fmap c id pages flags uid gid pid) z = behind (fmap_rows w) (begun w (map_request_of c) (holds_of w) (fmap_entry id pages flags uid gid pid)) refl
  silent (close id) z = behind (queue_rows w) (notified w (event_read + event_hup) (close_entry id)) refl
  silent (detach id pid) z = behind (queue_rows w) (notified w event_read (detach_entry id pid)) refl
  silent (wake n c killed base count) z =
      let span : PageSpan = record { base = base; count = count } in
      behind (wake_rows (ltb 1 killed) (phase_in w n) (wakeable (slot_in w n) c)) (woken_by (phase_in w n) w n killed span) (woken_silent (phase_in w n) w n killed span)
  silent (read len flags) z = absurd (true≢false z)
  silent (write words bs) z = behind (write_rows words bs) (write_on w (entries_of bs) 0 []) (on_silent (entries_of bs) w 0 [])
  silent (move ms ds) z =
      behind (list_rows w ds) (checked (refuse (brought_back w ds)) (request_rows w 1 ms) (moved w (request_of ms) ds))
      (unless (refuse (brought_back w ds)) (request_rows w 1 ms) (moved w (request_of ms) ds) (λ k. refl) refl)
  silent (obtain ms) z = behind (request_rows w 0 ms) (given_up w (request_of ms)) refl
  silent (supply n offset base count) z = behind (page_rows offset base count) (supplied_by (phase_in w n) w n) (supplied_silent (phase_in w n) w n)
