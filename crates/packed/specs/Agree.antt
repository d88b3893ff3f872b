-- Both layouts agree (02, T-11): over every run the plain state and the words give the same answers, effects and bytes.
use Rattle.std.specs.Prelude.{ℕ, ◌<◌, ◌≡◌, List, [], ◌∷◌, get_or, length}
use Rattle.events.specs.World.{fresh_world}
use Rattle.events.specs.Event.{DriverEvent, host_put, reserve, submit, call, fdwrite, fdread, generic, stdfs, fmap, close, detach, wake, read, write, move, obtain, supply, Event, host_open, host_copy, host_drop, host_ended, on, step}
use Rattle.layout.specs.Layout.{size, plain_of, packed_of}
use Rattle.packed.specs.Step.{words_after, packed_run, plain_run, fresh_words, words_run}

-- an event's numbers fit their types: a caller who is given a slot has 32 bits, a byte has eight
abbrev pub CallerFits : ℕ → Type 0
CallerFits c = c < 4294967296

abbrev pub DriverEventFits : DriverEvent → Type 0
DriverEventFits (host_put d k) = Unit {0}
DriverEventFits (reserve c) = CallerFits c
DriverEventFits (submit n c op fl args pid ds) = CallerFits c
DriverEventFits (call c op args uid gid pid ds) = CallerFits c
DriverEventFits (fdwrite c number flags ms uid gid pid ds) = CallerFits c
DriverEventFits (fdread c number len flags ms uid gid pid) = CallerFits c
DriverEventFits (generic c pid fds base len ms) = CallerFits c
DriverEventFits (stdfs c pid fds base len ms) = CallerFits c
DriverEventFits (fmap c id pages flags uid gid pid) = CallerFits c
DriverEventFits (close id) = Unit {0}
DriverEventFits (detach id pid) = Unit {0}
DriverEventFits (wake n c killed base count) = Unit {0}
DriverEventFits (read len flags) = Unit {0}
DriverEventFits (write words bs) = (i : ℕ) → get_or bs i 0 < 256
DriverEventFits (move ms ds) = Unit {0}
DriverEventFits (obtain ms) = Unit {0}
DriverEventFits (supply n offset base count) = Unit {0}

abbrev pub EventFits : Event → Type 0
EventFits (host_open d) = Unit {0}
EventFits (host_copy d) = Unit {0}
EventFits (host_drop d) = Unit {0}
EventFits (host_ended c) = Unit {0}
EventFits (on e) = DriverEventFits e

abbrev pub EventsFit : List Event → Type 0
EventsFit [] = Unit {0}
EventsFit (e ∷ es) = EventFits e × EventsFit es

-- one step, on any words: the plain state that is read from them afterwards is the one that the plain step leaves
abbrev pub StepsAgree : Type 0
StepsAgree = (ws : List ℕ) → length ws ≡ size → (e : Event) → EventFits e → plain_of (words_after ws e) ≡ (step (plain_of ws) e).world

-- every run from a fresh state, event by event
abbrev pub LayoutsAgree : Type 0
LayoutsAgree =
    (scheme : ℕ) (words : List ℕ) → length words ≡ 1024 → (es : List Event) → EventsFit es
    → packed_run (fresh_words scheme words) es ≡ plain_run (fresh_world scheme words) es

-- the words of every run are those of the plain state in them: no word holds anything else
abbrev pub WordsReturn : Type 0
WordsReturn =
    (scheme : ℕ) (words : List ℕ) → length words ≡ 1024 → (es : List Event) → EventsFit es
    → let ws : List ℕ = words_run (fresh_words scheme words) es in packed_of (plain_of ws) ≡ ws
