-- An answer as the words that are handed to a host: from the answer to each of them, what it does not use is 0.
use Rattle.std.specs.Prelude.{ℕ, ◌≡◌, false, List, []}
use Rattle.effect.specs.Effect.{effect_of, crossed}
use Rattle.fd_list.specs.declared.List.{List as Fds}
use Rattle.fd_list.specs.Lists.{list_of}
use Rattle.slot.specs.declared.Reply.{Reply}
use Rattle.slot.specs.Slots.{no_reply}
use Rattle.events.specs.Outcome.{Response, success, error, descriptor, many, Answer, ok, no, wait, blocked, reply}
use Rattle.events.specs.Event.{Event, step}
use Rattle.layout.specs.Layout.{plain_of}
use Rattle.packed.specs.Step.{words_after}
use Rattle.answer_words.specs.declared.AnswerWords.{AnswerWords}
use Rattle.answer_words.specs.declared.StepWords.{StepWords}
use Rattle.answer_words.specs.declared.WakeWords.{WakeWords}

-- 0 done, with a value; 1 refused, with its number; 2 would wait; 3 still blocked; 4 a reply, which stands beside it
abbrev pub words_of : Answer → AnswerWords
words_of (ok v) = record { kind = 0; value = v }
words_of (no k) = record { kind = 1; value = k }
words_of wait = record { kind = 2; value = 0 }
words_of blocked = record { kind = 3; value = 0 }
words_of (reply r) = record { kind = 4; value = 0 }

-- the reply: 0 a success, 1 an error, 2 a descriptor, 3 many, which stand in the list
abbrev pub response_words : Response → Reply
response_words (success w x n) = record { kind = 0; extra0 = x; notice = n; word = w }
response_words (error e x n) = record { kind = 1; extra0 = x; notice = n; word = e }
response_words (descriptor d) = record { kind = 2; extra0 = 0; notice = false; word = d }
response_words (many ds) = record { kind = 3; extra0 = 0; notice = false; word = 0 }

abbrev pub reply_of : Answer → Reply
reply_of (ok v) = no_reply
reply_of (no k) = no_reply
reply_of wait = no_reply
reply_of blocked = no_reply
reply_of (reply r) = response_words r

-- the descriptions that a reply of many brings
abbrev pub many_in : Response → List ℕ
many_in (success w x n) = []
many_in (error e x n) = []
many_in (descriptor d) = []
many_in (many ds) = ds

abbrev pub fds_of : Answer → Fds
fds_of (ok v) = list_of []
fds_of (no k) = list_of []
fds_of wait = list_of []
fds_of blocked = list_of []
fds_of (reply r) = list_of (many_in r)

-- an event with at most one effect: answer, effect and every word of the state are settled
pub record Settled (r : StepWords) (ws xs : List ℕ) (e : Event) : Type 0 where
  pub answer : r.answer ≡ words_of (step (plain_of ws) e).answer
  pub effect : r.effect ≡ effect_of (step (plain_of ws) e).effects
  pub effects : crossed r.effect ≡ (step (plain_of ws) e).effects
  pub words : xs ≡ words_after ws e

-- a wake: reply and list as well
pub record SettledWake (r : WakeWords) (ws xs : List ℕ) (e : Event) : Type 0 where
  pub answer : r.answer ≡ words_of (step (plain_of ws) e).answer
  pub reply : r.reply ≡ reply_of (step (plain_of ws) e).answer
  pub fds : r.fds ≡ fds_of (step (plain_of ws) e).answer
  pub effect : r.effect ≡ effect_of (step (plain_of ws) e).effects
  pub effects : crossed r.effect ≡ (step (plain_of ws) e).effects
  pub words : xs ≡ words_after ws e
