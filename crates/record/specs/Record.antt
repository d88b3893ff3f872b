-- The format of a run's events. A record is 16 bytes, then words, a first and a second list of words, and bytes:
--   byte 0 the kind, 1 to 21 in the order of `event_named`; byte 1 how many words the first list has, byte 2 the second; byte 3 a submit's
--   flags; bytes 4 to 7 the caller, a read's flags or how many bytes a write has; bytes 8 to 11 uid, 12 to 15 gid.
-- Numbers are little-endian, words have eight bytes. What an event lacks must be 0.
use Rattle.std.specs.Prelude.{ℕ, zero, suc, ◌+◌, ◌*◌, min, Bool, cond, ◌&&◌, List, [], ◌∷◌, ◌++◌, eqb, leb, length, get_or, take, drop}
use Rattle.le.specs.Le.{byte, half, word}
use Rattle.events.specs.Event.{host_put, reserve, submit, call, fdwrite, fdread, generic, stdfs, fmap, close, detach, wake, read, write, move, obtain, supply, Event, host_open, host_copy, host_drop, host_ended, on}
use Rattle.record.specs.declared.Nine.{Nine}
use Rattle.record.specs.declared.Record.{Record}

abbrev pub nine_of : List ℕ → Nine
nine_of bs =
    record {
      0 = word bs 16;
      1 = word bs 24;
      2 = word bs 32;
      3 = word bs 40;
      4 = word bs 48;
      5 = word bs 56;
      6 = word bs 64;
      7 = word bs 72;
      8 = word bs 80;
    }

-- the record at the start of bytes
abbrev pub record_of : List ℕ → Record
record_of bs =
    record {
      kind = byte bs 0;
      first = byte bs 1;
      second = byte bs 2;
      flags = byte bs 3;
      number = half bs 4;
      uid = half bs 8;
      gid = half bs 12;
      words = nine_of bs;
    }

-- its head alone, which tells its size and whether it is an event
abbrev pub no_words : Nine
no_words = record { 0 = 0; 1 = 0; 2 = 0; 3 = 0; 4 = 0; 5 = 0; 6 = 0; 7 = 0; 8 = 0 }

abbrev pub head_of : List ℕ → Record
head_of bs =
    record {
      kind = byte bs 0;
      first = byte bs 1;
      second = byte bs 2;
      flags = byte bs 3;
      number = half bs 4;
      uid = half bs 8;
      gid = half bs 12;
      words = no_words;
    }

-- by kind: how many words, and the most that each field may hold
abbrev pub word_table : List ℕ
word_table = 0 ∷ 1 ∷ 1 ∷ 1 ∷ 2 ∷ 0 ∷ 0 ∷ 9 ∷ 8 ∷ 3 ∷ 3 ∷ 4 ∷ 1 ∷ 2 ∷ 4 ∷ 1 ∷ 1 ∷ 0 ∷ 0 ∷ 4 ∷ 3 ∷ 4 ∷ []

abbrev pub first_table : List ℕ
first_table = 0 ∷ 0 ∷ 0 ∷ 0 ∷ 0 ∷ 0 ∷ 0 ∷ 255 ∷ 255 ∷ 255 ∷ 255 ∷ 0 ∷ 0 ∷ 0 ∷ 0 ∷ 0 ∷ 0 ∷ 255 ∷ 255 ∷ 0 ∷ 255 ∷ 255 ∷ []

abbrev pub second_table : List ℕ
second_table = 0 ∷ 0 ∷ 0 ∷ 0 ∷ 0 ∷ 0 ∷ 0 ∷ 0 ∷ 0 ∷ 255 ∷ 255 ∷ 0 ∷ 0 ∷ 0 ∷ 0 ∷ 0 ∷ 0 ∷ 255 ∷ 0 ∷ 0 ∷ 255 ∷ 0 ∷ []

abbrev pub flag_table : List ℕ
flag_table = 0 ∷ 0 ∷ 0 ∷ 0 ∷ 0 ∷ 0 ∷ 0 ∷ 255 ∷ 0 ∷ 0 ∷ 0 ∷ 0 ∷ 0 ∷ 0 ∷ 0 ∷ 0 ∷ 0 ∷ 0 ∷ 0 ∷ 0 ∷ 0 ∷ 0 ∷ []

abbrev most : ℕ
most = 0xffff_ffff

abbrev pub number_table : List ℕ
number_table = 0 ∷ 0 ∷ 0 ∷ 0 ∷ 0 ∷ most ∷ most ∷ most ∷ most ∷ most ∷ most ∷ most ∷ 0 ∷ 0 ∷ most ∷ most ∷ most ∷ 0 ∷ 0 ∷ 0 ∷ most ∷ most ∷ []

abbrev pub user_table : List ℕ
user_table = 0 ∷ 0 ∷ 0 ∷ 0 ∷ 0 ∷ 0 ∷ 0 ∷ 0 ∷ most ∷ 0 ∷ 0 ∷ most ∷ 0 ∷ 0 ∷ 0 ∷ 0 ∷ 0 ∷ 0 ∷ 0 ∷ 0 ∷ most ∷ most ∷ []

-- how many bytes a write has
abbrev pub tail_by : ℕ → ℕ → ℕ
tail_by kind number = cond (eqb kind 16) number 0

abbrev pub tail_of : Record → ℕ
tail_of r = tail_by r.kind r.number

-- where the lists, then the bytes begin, and where the record ends
abbrev pub first_by : ℕ → ℕ
first_by kind = 16 + 8 * get_or word_table kind 0

abbrev pub first_at : Record → ℕ
first_at r = first_by r.kind

abbrev pub second_at : Record → ℕ
second_at r = first_at r + 8 * r.first

abbrev pub tail_at : Record → ℕ
tail_at r = second_at r + 8 * r.second

abbrev pub size_by : ℕ → ℕ → ℕ → ℕ → ℕ
size_by kind first second number = first_by kind + 8 * first + 8 * second + tail_by kind number

abbrev pub size_of : Record → ℕ
size_of r = tail_at r + tail_of r

-- a kind, nothing that its event lacks, and all its bytes among the n that there are
abbrev pub is_event : Record → ℕ → Bool
is_event r n =
    leb 1 r.kind
    && (leb r.kind 21
    && (leb r.first (get_or first_table r.kind 0)
    && (leb r.second (get_or second_table r.kind 0)
    && (leb r.flags (get_or flag_table r.kind 0)
    && (leb r.number (get_or number_table r.kind 0)
    && (leb r.uid (get_or user_table r.kind 0)
    && (leb r.gid (get_or user_table r.kind 0)
    && leb (size_of r) n)))))))

-- the size of the event at the start of bytes, 0 where there is none
abbrev pub next_of : List ℕ → ℕ
next_of bs = cond (is_event (record_of bs) (length bs)) (size_of (record_of bs)) 0

-- f of 0, 1 and so on, n in all
abbrev pub each : (ℕ → ℕ) → ℕ → List ℕ
each f zero = []
each f (suc n) = each f n ++ (f n ∷ [])

-- n words from place k
abbrev pub words_at : List ℕ → ℕ → ℕ → List ℕ
words_at bs k n = each (λ i. word bs (k + 8 * i)) n

-- the event of a record with lists xs and ys and bytes bs. A write is lent at most the words that there are.
abbrev pub supply_of : Nine → Event
supply_of a = on (supply a.0 a.1 a.2 a.3)

abbrev pub event_table : Record → List ℕ → List ℕ → List ℕ → ℕ → List Event
event_table r xs ys bs lent =
    let a = r.words in
    let c = r.number in
    (supply_of a
    ∷ host_open a.0
    ∷ host_copy a.0
    ∷ host_drop a.0
    ∷ on (host_put a.0 a.1)
    ∷ host_ended c
    ∷ on (reserve c)
    ∷ on (submit a.0 c a.1 r.flags (record { 0 = a.2; 1 = a.3; 2 = a.4; 3 = a.5; 4 = a.6; 5 = a.7 }) a.8 xs)
    ∷ on (call c a.0 (record { 0 = a.1; 1 = a.2; 2 = a.3; 3 = a.4; 4 = a.5; 5 = a.6 }) r.uid r.gid a.7 xs)
    ∷ on (generic c a.0 xs a.1 a.2 ys)
    ∷ on (stdfs c a.0 xs a.1 a.2 ys)
    ∷ on (fmap c a.0 a.1 a.2 r.uid r.gid a.3)
    ∷ on (close a.0)
    ∷ on (detach a.0 a.1)
    ∷ on (wake a.0 c a.1 a.2 a.3)
    ∷ on (read a.0 c)
    ∷ on (write (min a.0 lent) bs)
    ∷ on (move xs ys)
    ∷ on (obtain xs)
    ∷ supply_of a
    ∷ on (fdwrite c a.0 a.1 xs r.uid r.gid a.2 ys)
    ∷ on (fdread c a.0 a.1 a.2 xs r.uid r.gid a.3)
    ∷ [])

abbrev pub event_named : ℕ → Record → List ℕ → List ℕ → List ℕ → ℕ → Event
event_named kind r xs ys bs lent = get_or (event_table r xs ys bs lent) kind (supply_of r.words)

abbrev pub event_of : Record → List ℕ → List ℕ → List ℕ → ℕ → Event
event_of r xs ys bs lent = event_named r.kind r xs ys bs lent

-- the event of the record at the start of bytes
abbrev pub event_at : ℕ → List ℕ → Event
event_at lent bs =
    let r = record_of bs in event_of r (words_at bs (first_at r) r.first) (words_at bs (second_at r) r.second) (take (tail_of r) (drop (tail_at r) bs)) lent

-- over records one after the other, up to the first that is no event; a record has at least 16 bytes, so that as many turns as
-- there are bytes are enough
abbrev pub walk : {A : Type 0} → (List ℕ → A) → (List ℕ → A → A) → ℕ → List ℕ → A
walk stop more zero bs = stop bs
walk stop more (suc f) bs = cond (eqb (next_of bs) 0) (stop bs) (more bs (walk stop more f (drop (next_of bs) bs)))

-- bytes as events, and how many bytes are left from the first record on that is none
pub record Decoded : Type 0 where
  pub events : List Event
  pub left : ℕ

abbrev pub stops : List ℕ → Decoded
stops bs = record { events = []; left = length bs }

abbrev pub before : Event → Decoded → Decoded
before e d = record { events = e ∷ d.events; left = d.left }

abbrev pub decoded : ℕ → List ℕ → Decoded
decoded lent bs = walk stops (λ rest d. before (event_at lent rest) d) (length bs) bs
