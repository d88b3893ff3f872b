-- Runs that reach each clause of the claims, computed. Assumes nothing.
use Prim.Native.Nat.{◌+◌, ◌*◌}
use mathlib.Core.Path.{◌≡◌, refl}
use mathlib.Core.Bool.{true, false}
use mathlib.Core.List.{List, [], ◌∷◌, ◌++◌, map}
use lib.Count.{ones}
use lib.ListN.{replicate, drop}
use Rattle.flag.specs.Flags.{event_read, event_hup, event_flags, new_fd_flags, fd_exclusive, fd_upper, send_fd_exclusive, recv_fd_upper_tbl, sqe_oneway, sqe_multiple_ids}
use Rattle.handles.specs.Handles.{held_at}
use Rattle.le.specs.Le.{bytes_of}
use Rattle.schemev2.specs.Entry.{sqe_bytes}
use Rattle.slot.specs.declared.Phase.TheVariants.{Vacant}
use Rattle.wait_queue.specs.Queue.{words_from}
use Rattle.events.specs.World.{handles_of, queue_of, phase_in}
use Rattle.events.specs.Outcome.{ok, no, blocked, reply, success, error, descriptor, many}
use Rattle.events.specs.Submit.{args6}
use Rattle.events.specs.Wake.{cancel_entry}
use Rattle.events.specs.Replies.{into_regular_of, call_generic_of, notice_of, kfdwrite_of, kfdread_of, scheme_local, external, failed, kopenat_of, kdup_of}
use Rattle.events.specs.Event.{host_put, reserve, submit, call, fdwrite, fdread, generic, stdfs, fmap, close, detach, wake, read, write, move, supply, Event, host_open, host_copy, host_drop, host_ended, on}
use Rattle.events.specs.History.{to, end, gave, took, serve, block, interrupt, pass, filled}
use Rattle.events.specs.Examples.{Line, line, lines_of, facts_of, counts_of, leaves, call_by, completion, woke, more}

-- The accident: a killed dosing call keeps its slot until its driver has replied, and the late reply serves it, not the valve call.
abbrev accident : List Event
accident =
    on (call 100 6 (args6 1 2 3 4 5 0) 0 0 100 [])
    ∷ on (read 64 0)
    ∷ on (wake 0 100 1 0 0)
    ∷ on (call 200 6 (args6 9 0 0 0 0 0) 0 0 200 [])
    ∷ on (write 54 (completion 0 0 0))
    ∷ on (wake 0 200 0 0 0)
    ∷ on (wake 1 200 0 0 0)
    ∷ []

accident_lines :
    lines_of accident
    ≡ line (ok 0) more
    ∷ record {
      answer = ok 64;
      effects = [];
      bytes =
          (6 ∷ replicate 7 0) ++ (1 ∷ replicate 7 0) ++ (2 ∷ replicate 7 0) ++ (3 ∷ replicate 7 0) ++ (4 ∷ replicate 7 0) ++ (5 ∷ replicate 7 0) ++ replicate 8 0
          ++ (100 ∷ replicate 7 0);
    }
    ∷ line (no 4) []
    ∷ line (ok 1) more
    ∷ line (ok 16) (woke 100 0)
    ∷ line (no 201) []
    ∷ line blocked more
    ∷ []
unfolding words_from
accident_lines = refl

accident_facts :
    facts_of accident
    ≡ to 1 block
    ∷ to 0 (serve 4 0 (success 0 0 false))
    ∷ to 1 took
    ∷ to 1 (gave false 200)
    ∷ to 0 interrupt
    ∷ to 0 took
    ∷ to 0 (gave false 100)
    ∷ []
accident_facts = refl

-- a reply that nobody will fetch is held
accident_counts : counts_of accident ≡ 1 ∷ 0 ∷ 1 ∷ 0 ∷ []
unfolding ones
accident_counts = refl

-- A hand-over, and the slot given out again: the same tag, the next call.
abbrev again : List Event
again = call_by 1 [] ∷ on (write 54 (completion 5 0 9)) ∷ on (wake 0 1 1 0 0) ∷ on (reserve 2) ∷ []

again_lines : lines_of again ≡ line (ok 0) more ∷ line (ok 16) (woke 1 0) ∷ line (reply (success 9 0 true)) [] ∷ line (ok 0) [] ∷ []
again_lines = refl

again_facts :
    facts_of again ≡ to 0 (gave false 2) ∷ to 0 (pass (success 9 0 true)) ∷ to 0 (serve 1 0 (success 9 0 true)) ∷ to 0 took ∷ to 0 (gave false 1) ∷ []
again_facts = refl

-- Two replies to one tag in one write: the second is refused, its bytes not counted.
twice : lines_of (call_by 1 [] ∷ on (write 108 (completion 0 0 1 ++ completion 0 0 2)) ∷ on (wake 0 1 0 0 0) ∷ []) ≡ line (ok 0) more ∷ line (ok 16) (woke 1 0) ∷ line (reply (success 1 0 false)) [] ∷ []
twice = refl

-- A drop for an ended caller: no wake, the slot is vacated.
abbrev gone : List Event
gone = call_by 1 [] ∷ host_ended 1 ∷ on (write 54 (completion 0 0 1)) ∷ []

gone_lines : lines_of gone ≡ line (ok 0) more ∷ line (ok 0) [] ∷ line (ok 16) [] ∷ []
gone_lines = refl

gone_counts : counts_of gone ≡ 1 ∷ 0 ∷ 0 ∷ 1 ∷ []
unfolding ones
gone_counts = refl

gone_slot : phase_in (leaves gone) 0 ≡ Vacant
gone_slot = refl

-- A map request takes no reply, and is vacated by a success and by ESRCH.
abbrev mapped : List Event
mapped =
    on (fmap 1 5 1 0 0 0 1)
    ∷ on (write 54 (completion 0 0 1))
    ∷ on (reserve 3)
    ∷ on (supply 0 4096 8192 1)
    ∷ on (fmap 2 5 1 0 0 0 2)
    ∷ host_ended 2
    ∷ on (supply 0 0 0 1)
    ∷ on (reserve 3)
    ∷ []

mapped_lines :
    lines_of mapped
    ≡ line (ok 0) more
    ∷ line (no 22) []
    ∷ line (ok 1) []
    ∷ line (ok 0) []
    ∷ line (ok 0) more
    ∷ line (ok 0) []
    ∷ line (no 3) []
    ∷ line (ok 0) []
    ∷ []
mapped_lines = refl

mapped_facts : facts_of mapped ≡ to 0 (gave false 3) ∷ to 0 filled ∷ end 2 ∷ to 0 (gave true 2) ∷ to 0 filled ∷ to 1 (gave false 3) ∷ to 0 (gave true 1) ∷ []
mapped_facts = refl

-- One Cancel, at the first wake answered still blocked; ECANCELED is then stored as EINTR, and a reply that reads EINTR leaves the
-- call free to fetch it.
abbrev canceled : List Event
canceled = call_by 1 [] ∷ on (read 64 0) ∷ on (wake 0 1 0 0 0) ∷ on (wake 0 1 0 0 0) ∷ on (read 64 0) ∷ on (write 54 (completion 0 0 0xffff_ff83)) ∷ on (wake 0 1 0 0 0) ∷ []

canceled_lines :
    lines_of canceled
    ≡ line (ok 0) more
    ∷ record { answer = ok 64; effects = []; bytes = (6 ∷ replicate 55 0) ++ (1 ∷ replicate 7 0) }
    ∷ line blocked more
    ∷ line blocked []
    ∷ record { answer = ok 64; effects = []; bytes = sqe_bytes (cancel_entry 0) }
    ∷ line (ok 16) (woke 1 0)
    ∷ line (reply (error 4 0 false)) []
    ∷ []
unfolding words_from
canceled_lines = refl

cancel_bytes_lem : sqe_bytes (cancel_entry 3) ≡ (25 ∷ sqe_oneway ∷ 0 ∷ 0 ∷ 3 ∷ replicate 59 0)
cancel_bytes_lem = refl

-- Not cancelling, EINTR is stored as EIO.
uncanceled : lines_of (call_by 1 [] ∷ on (write 54 (completion 0 0 0xffff_fffc)) ∷ on (wake 0 1 0 0 0) ∷ []) ≡ line (ok 0) more ∷ line (ok 16) (woke 1 0) ∷ line (reply (error 5 0 false)) [] ∷ []
uncanceled = refl

-- Kind 4 stores the slot's list.
listed :
    lines_of (host_open 3 ∷ host_open 4 ∷ call_by 1 (4 ∷ 3 ∷ []) ∷ on (write 54 (completion 4 0 0)) ∷ on (wake 0 1 0 0 0) ∷ [])
    ≡ line (ok 0) [] ∷ line (ok 0) [] ∷ line (ok 0) more ∷ line (ok 16) (woke 1 0) ∷ line (reply (many (4 ∷ 3 ∷ []))) [] ∷ []
listed = refl

-- Kind 1 takes the description out of the driver's handle.
by_handle :
    lines_of (host_open 9 ∷ on (host_put 9 2) ∷ call_by 1 [] ∷ on (write 54 (completion 1 0 2)) ∷ on (wake 0 1 0 0 0) ∷ [])
    ≡ line (ok 0) [] ∷ line (ok 0) [] ∷ line (ok 0) more ∷ line (ok 16) (woke 1 0) ∷ line (reply (descriptor 9)) [] ∷ []
by_handle = refl

-- An event entry makes its event, and no reply: its flags stand in the tag's place.
evented : lines_of (on (write 108 (completion 2 (event_read + event_hup) 99 ++ completion 2 (event_flags + 1) 99)) ∷ []) ≡ line (ok 16) (4 ∷ 99 ∷ (event_read + event_hup) ∷ []) ∷ []
evented = refl

-- The slips that 01 rules out.

-- Testing all 64 bits for an error: the low 32 decide.
low_bits : lines_of (call_by 1 [] ∷ on (write 54 (completion 0 0 0x1_ffff_ff83)) ∷ on (wake 0 1 0 0 0) ∷ []) ≡ line (ok 0) more ∷ line (ok 16) (woke 1 0) ∷ line (reply (error 125 0 false)) [] ∷ []
low_bits = refl

-- Queuing Cancel for a killed caller: one entry is unread, the call's own.
killed : (queue_of (leaves (call_by 1 [] ∷ on (wake 0 1 1 0 0) ∷ []))).len ≡ 1
killed = refl

-- Answering EBADFD for a vacant tag in an obtain entry.
obtain_vacant : lines_of (on (write 54 (completion 3 5 0)) ∷ []) ≡ line (no 22) [] ∷ []
obtain_vacant = refl

-- Cutting the request id to 32 bits: 2^32 is no tag, though tag 0 waits; what the move brought is dropped.
whole_request :
    lines_of (call_by 1 [] ∷ host_open 8 ∷ on (move (1 ∷ 0x1_0000_0000 ∷ []) (8 ∷ [])) ∷ host_open 8 ∷ on (move (1 ∷ 0 ∷ []) (8 ∷ [])) ∷ [])
    ≡ line (ok 0) more ∷ line (ok 0) [] ∷ line (no 22) [] ∷ line (ok 0) [] ∷ line (ok 1) [] ∷ []
whole_request = refl

-- Closing a twice_listed description twice: of 2, 5, 2 the closes are 5, 2.
closed_once :
    lines_of (host_open 2 ∷ host_copy 2 ∷ host_open 5 ∷ call_by 1 (2 ∷ 5 ∷ 2 ∷ []) ∷ on (write 54 (completion 0 0 0)) ∷ [])
    ≡ line (ok 0) [] ∷ line (ok 0) [] ∷ line (ok 0) [] ∷ line (ok 0) more ∷ line (ok 16) (woke 1 0 ++ 3 ∷ 5 ∷ 0 ∷ 3 ∷ 2 ∷ 0 ∷ []) ∷ []
closed_once = refl

-- Obtaining the last description first: handle 0 gets 6, and is stored as 7.
first_obtained : held_at (handles_of (leaves (host_open 6 ∷ host_open 5 ∷ call_by 1 (6 ∷ 5 ∷ []) ∷ on (write 54 (completion 3 0 0)) ∷ []))) 0 ≡ 7
first_obtained = refl

-- An ended caller's span and list: unmap, then the closes, no wake.
ended_span :
    lines_of (host_open 2 ∷ call_by 1 (2 ∷ []) ∷ on (wake 0 1 1 16 3) ∷ host_ended 1 ∷ on (write 54 (completion 0 0 0)) ∷ [])
    ≡ line (ok 0) [] ∷ line (ok 0) more ∷ line (no 4) [] ∷ line (ok 0) [] ∷ line (ok 16) (2 ∷ 16 ∷ 3 ∷ 3 ∷ 2 ∷ 0 ∷ []) ∷ []
ended_span = refl

-- 15 bytes written: 0.
fifteen : lines_of (on (write 0 (replicate 15 9)) ∷ []) ≡ line (ok 0) [] ∷ []
fifteen = refl

-- Each event's entry as a driver reads it, eight words each: opcode, flags and tag; six arguments; the pid.
abbrev entries : List Event
entries =
    on (reserve 9)
    ∷ on (submit 0 9 5 3 (args6 1 2 3 4 5 6) 77 [])
    ∷ on (call 9 6 (args6 1 2 3 4 5 6) 1 2 50 [])
    ∷ on (generic 9 51 (11 ∷ []) 12 13 (14 ∷ 15 ∷ 16 ∷ 17 ∷ []))
    ∷ on (generic 9 52 (21 ∷ 22 ∷ []) 23 24 (25 ∷ 26 ∷ 27 ∷ []))
    ∷ on (generic 9 53 (31 ∷ []) 32 33 [])
    ∷ on (stdfs 9 54 (41 ∷ []) 42 43 (0x101 ∷ 45 ∷ 46 ∷ []))
    ∷ on (stdfs 9 55 (51 ∷ 52 ∷ []) 53 54 (16 ∷ 55 ∷ 56 ∷ []))
    ∷ on (fmap 9 61 62 63 1 2 64)
    ∷ on (close 71)
    ∷ on (detach 81 82)
    ∷ on (read 704 0)
    ∷ []

entries_lines :
    lines_of entries
    ≡ line (ok 0) []
    ∷ line (ok 0) more
    ∷ line (ok 1) more
    ∷ line (ok 2) more
    ∷ line (ok 3) more
    ∷ line (ok 4) more
    ∷ line (ok 5) more
    ∷ line (ok 6) more
    ∷ line (ok 7) more
    ∷ line (ok 0) (5 ∷ 7 ∷ (event_read + event_hup) ∷ [])
    ∷ line (ok 0) more
    ∷ record {
      answer = ok 640;
      effects = [];
      bytes =
          bytes_of
          ((0x305 ∷ 1 ∷ 2 ∷ 3 ∷ 4 ∷ 5 ∷ 6 ∷ 77 ∷ [])
          ++ (0x1_0000_0006 ∷ 1 ∷ 2 ∷ 3 ∷ 4 ∷ 5 ∷ 8589934593 ∷ 50 ∷ [])
          ++ (0x2_0000_001c ∷ 11 ∷ 12 ∷ 13 ∷ 14 ∷ 15 ∷ 16 ∷ 51 ∷ [])
          ++ ((0x3_0000_001c + sqe_multiple_ids * 0x100) ∷ 21 ∷ 23 ∷ 24 ∷ 25 ∷ 26 ∷ 22 ∷ 52 ∷ [])
          ++ (0x4_0000_001c ∷ 31 ∷ 32 ∷ 33 ∷ 0 ∷ 0 ∷ 0 ∷ 53 ∷ [])
          ++ (0x5_0000_0021 ∷ 41 ∷ 42 ∷ 43 ∷ 1 ∷ 45 ∷ 46 ∷ 54 ∷ [])
          ++ ((0x6_0000_0021 + sqe_multiple_ids * 0x100) ∷ 51 ∷ 53 ∷ 54 ∷ 16 ∷ 55 ∷ 52 ∷ 55 ∷ [])
          ++ (0x7_0000_0015 ∷ 61 ∷ 63 ∷ 62 ∷ 0 ∷ 0 ∷ 8589934593 ∷ 64 ∷ [])
          ++ (0x1b ∷ 71 ∷ 0 ∷ 0 ∷ 0 ∷ 0 ∷ 0 ∷ 0 ∷ [])
          ++ (0x22 ∷ 81 ∷ 0 ∷ 0 ∷ 0 ∷ 0 ∷ 0 ∷ 82 ∷ []));
    }
    ∷ []
unfolding words_from
entries_lines = refl

-- 02's T-01. A single descriptor in reply to `kfdread` is handed over once, reads EIO, and is the host's to drop.
abbrev received : List Event
received =
    host_open 9
    ∷ on (host_put 9 2)
    ∷ on (fdread 1 20 16 fd_upper (5 ∷ 6 ∷ []) 7 8 9)
    ∷ on (read 64 0)
    ∷ on (write 54 (completion 1 0 2))
    ∷ on (wake 0 1 0 0 0)
    ∷ on (wake 0 1 0 0 0)
    ∷ host_drop 9
    ∷ host_drop 9
    ∷ []

received_lines :
    lines_of received
    ≡ line (ok 0) []
    ∷ line (ok 0) []
    ∷ line (ok 0) more
    ∷ record { answer = ok 64; effects = []; bytes = bytes_of (31 ∷ 20 ∷ recv_fd_upper_tbl ∷ 2 ∷ 5 ∷ 6 ∷ 0x8_0000_0007 ∷ 9 ∷ []) }
    ∷ line (ok 16) (woke 1 0)
    ∷ line (reply (descriptor 9)) []
    ∷ line (no 77) []
    ∷ line (ok 0) []
    ∷ line (no 205) []
    ∷ []
unfolding words_from
received_lines = refl

received_front : kfdread_of (descriptor 9) ≡ no 5
received_front = refl

received_facts :
    facts_of received ≡ to 0 (pass (descriptor 9)) ∷ to 0 (serve 4 0 (descriptor 9)) ∷ to 0 took ∷ to 0 (gave false 1) ∷ []
received_facts = refl

-- accepted, handed over; none is held, none was dropped
received_counts : counts_of received ≡ 1 ∷ 1 ∷ 0 ∷ 0 ∷ []
unfolding ones
received_counts = refl

-- What a driver reads: all bits but the one are kept from it, metadata is 0 where absent, the list's length is an argument.
abbrev sent : List Event
sent =
    host_open 3
    ∷ host_copy 3
    ∷ on (fdwrite 1 20 (fd_exclusive + fd_upper) (5 ∷ 6 ∷ []) 7 8 9 (3 ∷ 3 ∷ []))
    ∷ on (fdwrite 1 21 fd_upper [] 0 0 0 [])
    ∷ on (fdread 1 22 8 (fd_exclusive + fd_upper) (5 ∷ 6 ∷ 7 ∷ []) 0 0 0)
    ∷ on (fdread 1 23 0 fd_exclusive [] 0 0 0)
    ∷ on (read 256 0)
    ∷ []

sent_lines :
    lines_of sent
    ≡ line (ok 0) []
    ∷ line (ok 0) []
    ∷ line (ok 0) more
    ∷ line (ok 1) more
    ∷ line (ok 2) more
    ∷ line (ok 3) more
    ∷ record {
      answer = ok 256;
      effects = [];
      bytes =
          bytes_of
          ((12 ∷ 20 ∷ send_fd_exclusive ∷ 5 ∷ 2 ∷ 0 ∷ 0x8_0000_0007 ∷ 9 ∷ [])
          ++ (0x1_0000_000c ∷ 21 ∷ 0 ∷ 0 ∷ 0 ∷ 0 ∷ 0 ∷ 0 ∷ [])
          ++ (0x2_0000_001f ∷ 22 ∷ recv_fd_upper_tbl ∷ 1 ∷ 5 ∷ 6 ∷ 0 ∷ 0 ∷ [])
          ++ (0x3_0000_001f ∷ 23 ∷ 0 ∷ 0 ∷ 0 ∷ 0 ∷ 0 ∷ 0 ∷ []));
    }
    ∷ []
unfolding words_from
sent_lines = refl

-- A length that is no multiple of 8, on a full table: 22, before 202.
odd_length :
    map (λ (l : Line). l.answer) (drop 64 (lines_of (replicate 64 (on (reserve 1)) ++ on (fdread 1 20 23 0 [] 0 0 0) ∷ on (fdread 1 20 24 0 [] 0 0 0) ∷ [])))
    ≡ no 22 ∷ no 202 ∷ []
odd_length = refl

-- Descriptors that were waited for are their count; where they were not, and where a success came in their place: EIO.
received_read :
    map kfdread_of (success 9 0 false ∷ error 7 0 true ∷ descriptor 3 ∷ many [] ∷ many (3 ∷ 3 ∷ 4 ∷ []) ∷ []) ≡ no 5 ∷ no 7 ∷ no 5 ∷ ok 0 ∷ ok 3 ∷ []
received_read = refl

sent_read : map kfdwrite_of (success 9 0 true ∷ error 7 0 true ∷ descriptor 3 ∷ many [] ∷ []) ≡ ok 9 ∷ no 7 ∷ no 5 ∷ no 5 ∷ []
sent_read = refl

-- Reading replies: the error before extra0's bits, the notice even with an error, descriptors where none are expected.
regular : map into_regular_of (success 9 0 false ∷ error 7 0 false ∷ descriptor 3 ∷ many [] ∷ []) ≡ ok 9 ∷ no 7 ∷ no 5 ∷ no 5 ∷ []
regular = refl

generic_read : map call_generic_of (success 9 0 true ∷ error 7 0 true ∷ descriptor 3 ∷ many [] ∷ []) ≡ ok 9 ∷ no 7 ∷ no 5 ∷ no 5 ∷ []
generic_read = refl

notices : map notice_of (success 9 0 true ∷ error 7 0 true ∷ success 9 0 false ∷ descriptor 3 ∷ many [] ∷ []) ≡ true ∷ true ∷ false ∷ false ∷ false ∷ []
notices = refl

opened :
    map kopenat_of (success 9 new_fd_flags false ∷ success 9 (new_fd_flags + 1) false ∷ error 7 (new_fd_flags + 1) false ∷ descriptor 3 ∷ many [] ∷ [])
    ≡ scheme_local 9 new_fd_flags ∷ failed 22 ∷ failed 7 ∷ external 3 ∷ failed 5 ∷ []
opened = refl

duplicated : map kdup_of (success 9 new_fd_flags false ∷ error 7 (new_fd_flags + 1) false ∷ many [] ∷ []) ≡ scheme_local 9 new_fd_flags ∷ failed 7 ∷ failed 5 ∷ []
duplicated = refl
