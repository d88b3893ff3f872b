-- Reading the queue (01, "Queue"; `receive_into_user`, src/sync/wait_queue.rs, lines 28 to 73).
use Rattle.std.specs.Prelude.{Bool, true, false, Result, Ok, Err, List, ℕ, min, ◌*◌, ◌/◌, ◌%◌, ltb, eqb, length, take}
use Rattle.std.proofs.lemmas.List.Edits.{sets}
use Rattle.answer.specs.declared.Accepted.{Accepted}
use Rattle.answer.specs.declared.Accepted.TheVariants.{Bytes, WouldWait}
use Rattle.answer.specs.declared.Refusal.{Refusal}
use Rattle.answer.specs.declared.Refusal.TheVariants.{Again, Invalid}
use Rattle.wait_queue.specs.declared.WaitQueue.{WaitQueue}
use Rattle.wait_queue.specs.Queue.{unread, removed}
use Rattle.wait_queue.specs.declared.QueueLeft.{QueueLeft}

-- `receive_into_user` of an empty queue: by the length of the lent bytes and the non-blocking flag, 0x00040000
abbrev pub empty_by : Bool → Bool → Bool → Result Accepted Refusal
empty_by true none short = Ok WouldWait
empty_by false true short = Ok (Bytes 0)
empty_by false false true = Err Invalid
empty_by false false false = Err Again

abbrev pub empty_of : ℕ → ℕ → Result Accepted Refusal
empty_of n flags = empty_by (eqb (flags / 0x4_0000 % 2) 0) (eqb n 0) (ltb n 64)

-- how many bytes are copied into n
abbrev pub copied : WaitQueue → ℕ → ℕ
copied q n = min n (q.len * 64)

abbrev pub received_if : Bool → WaitQueue → ℕ → ℕ → QueueLeft
received_if true q n flags = record { answer = empty_of n flags; queue = q }
received_if false q n flags = record { answer = Ok (Bytes (copied q n)); queue = removed q (copied q n / 64) }

abbrev pub received_of : WaitQueue → ℕ → ℕ → QueueLeft
received_of q n flags = received_if (eqb q.len 0) q n flags

-- the lent bytes afterwards: those beyond keep what they held
abbrev pub copied_of : WaitQueue → List ℕ → List ℕ → List ℕ
copied_of q ws out = sets out 0 (take (copied q (length out)) (unread q ws))
