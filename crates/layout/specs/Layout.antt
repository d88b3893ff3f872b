-- The state as 2,060 words that are changed in place (02, T-11): where each thing stands, a slot as its twelve words, and the
-- plain state that is read from any words and written as words.
-- Words out of their range are read so:
--   state (the low byte of a slot's first word): 5 to 255 as Vacant; marks: one bit each, other bits are not looked at
--   caller: its low 32 bits; reply kind: its low byte, 3 to 255 as many descriptors; extra0 and notice: a byte, a bit
--   list length: its low byte, over 16 as 16; head and chain over 63: the chain ends
--   first: where the oldest entry stands, modulo 128; unread over 128: the queue is full
--   counts: as they are, 65,535 and more are not raised; handles over 64: a description over 63, which has no holds
use Rattle.std.specs.Prelude.{ℕ, zero, suc, ◌+◌, ◌*◌, ◌/◌, ◌%◌, Bool, cond, List, [], ◌∷◌, ◌++◌, map, eqb, get_or, take, drop, replicate}
use Rattle.le.specs.Le.{word, bytes8}
use Rattle.fd_list.specs.declared.List.{List as Fds}
use Rattle.fd_list.specs.Lists.{desc, num}
use Rattle.slot.specs.declared.Reply.{Reply}
use Rattle.slot.specs.declared.Slot.{Slot}
use Rattle.events.specs.World.{World, world, table_of, holds_of, queue_of, handles_of, scheme_of}

abbrev pub size : ℕ
size = 2060

-- slot n, twelve words; the slot after n in the chain of vacated ones; the chain's head, and seven words that are 0
abbrev pub slot_place : ℕ → ℕ
slot_place n = 12 * n

abbrev pub chain_place : ℕ → ℕ
chain_place n = 768 + n

abbrev pub head_place : ℕ
head_place = 832

-- all holds of description d, and those outside
abbrev pub all_place : ℕ → ℕ
all_place d = 840 + d

abbrev pub outside_place : ℕ → ℕ
outside_place d = 904 + d

-- the driver's block of 1,092 words: scheme number, oldest entry, unread entries, 0; handle k; word i of the queue
abbrev pub scheme_place : ℕ
scheme_place = 968

abbrev pub first_place : ℕ
first_place = 969

abbrev pub unread_place : ℕ
unread_place = 970

abbrev pub handle_place : ℕ → ℕ
handle_place k = 972 + k

abbrev pub queue_place : ℕ → ℕ
queue_place i = 1036 + i

-- a mark in a word: its bit of weight k
abbrev pub bit : ℕ → ℕ → Bool
bit w k = eqb (w / k % 2) 1

abbrev pub one : Bool → ℕ
one b = cond b 1 0

-- the twelve words of a slot: its state and marks (driver 2,048 and retired 4,096 are to come); caller; 0 for its opcode; 0 for
-- its call number; span; the reply's kind, extra0 and notice; the reply's word; 0 for its lap; the list as sixteen bytes in two
-- words; its length
abbrev pub marks_word : Slot → ℕ
marks_word v = v.state + one v.canceling * 256 + one v.ended * 512 + one v.returned * 1024

abbrev pub reply_word : Reply → ℕ
reply_word r = r.kind + r.extra0 * 256 + one r.notice * 65536

unfoldable pub low_word : Fds → ℕ
low_word l = word (map num l.at) 0

unfoldable pub high_word : Fds → ℕ
high_word l = word (map num l.at) 8

abbrev pub slot_words : Slot → List ℕ
slot_words v =
    marks_word v
    ∷ v.caller
    ∷ 0
    ∷ 0
    ∷ v.span.base
    ∷ v.span.count
    ∷ reply_word v.reply
    ∷ v.reply.word
    ∷ 0
    ∷ low_word v.fds
    ∷ high_word v.fds
    ∷ v.fds.len
    ∷ []

-- and back, from any words
abbrev pub fds_from : ℕ → ℕ → ℕ → Fds
fds_from low high n = record { at = map desc (bytes8 low ++ bytes8 high); len = n % 256 }

abbrev pub slot_from : ℕ → ℕ → ℕ → ℕ → ℕ → ℕ → ℕ → ℕ → ℕ → Slot
slot_from m c b k r x low high n =
    record {
      state = m % 256;
      caller = c % 4294967296;
      canceling = bit m 256;
      ended = bit m 512;
      returned = bit m 1024;
      span = record { base = b; count = k };
      reply = record { kind = r % 256; extra0 = r / 256 % 256; notice = bit r 65536; word = x };
      fds = fds_from low high n;
    }

unfoldable pub slot_of : List ℕ → ℕ → Slot
slot_of ws at =
    slot_from (get_or ws at 0) (get_or ws (at + 1) 0) (get_or ws (at + 4) 0) (get_or ws (at + 5) 0) (get_or ws (at + 6) 0) (get_or ws (at + 7) 0) (get_or ws (at + 9) 0) (get_or ws (at + 10) 0) (get_or ws (at + 11) 0)

-- k slots from word `at` on
unfoldable pub slots_from : ℕ → ℕ → List ℕ → List Slot
slots_from zero at ws = []
slots_from (suc k) at ws = slot_of ws at ∷ slots_from k (12 + at) ws

-- n words from place a on
unfoldable pub part : ℕ → ℕ → List ℕ → List ℕ
part a n ws = take n (drop a ws)

abbrev pub built : List Slot → List ℕ → ℕ → List ℕ → List ℕ → ℕ → ℕ → ℕ → List ℕ → List ℕ → World
built slots next head all outside scheme first len handles words =
    world
    (record {
      driver = record { scheme = scheme; handles = record { at = handles }; queue = record { first = first; len = len } };
      table = record { slots = slots; next = next; head = head; holds = record { holds = all; outside = outside } };
    })
    words

-- the plain state in some words
unfoldable pub plain_of : List ℕ → World
plain_of ws =
    built
    (slots_from 64 (slot_place 0) ws)
    (part (chain_place 0) 64 ws)
    (get_or ws head_place 0)
    (part (all_place 0) 64 ws)
    (part (outside_place 0) 64 ws)
    (get_or ws scheme_place 0)
    (get_or ws first_place 0)
    (get_or ws unread_place 0)
    (part (handle_place 0) 64 ws)
    (part (queue_place 0) 1024 ws)

-- a plain state as words
abbrev pub slots_words : List Slot → List ℕ
slots_words [] = []
slots_words (v ∷ vs) = slot_words v ++ slots_words vs

-- one part after the other
abbrev pub laid : List (List ℕ) → List ℕ
laid [] = []
laid (l ∷ ls) = l ++ laid ls

unfoldable pub packed_of : World → List ℕ
packed_of w =
    laid
    (slots_words (table_of w).slots
    ∷ (table_of w).next
    ∷ ((table_of w).head ∷ replicate 7 0)
    ∷ (holds_of w).holds
    ∷ (holds_of w).outside
    ∷ (scheme_of w ∷ (queue_of w).first ∷ (queue_of w).len ∷ 0 ∷ [])
    ∷ (handles_of w).at
    ∷ w.words
    ∷ [])
