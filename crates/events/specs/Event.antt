-- The nineteen events of 01's runs and the two of 02's T-01, with any numbers, lists and bytes, and the step that each makes.
use Rattle.std.specs.Prelude.{ℕ, List}
use Rattle.schemev2.specs.declared.Args.{Args}
use Rattle.events.specs.World.{World}
use Rattle.events.specs.Outcome.{Outcome}
use Rattle.events.specs.Host.{host_open_of, host_copy_of, host_drop_of, host_put_of, host_ended_of}
use Rattle.events.specs.Submit.{reserve_of, submit_of, call_of, fdwrite_of, fdread_of, generic_of, stdfs_of, fmap_of, close_of, detach_of}
use Rattle.events.specs.Wake.{wake_of}
use Rattle.events.specs.Read.{read_of}
use Rattle.events.specs.Complete.{write_of}
use Rattle.events.specs.Descriptors.{move_of, obtain_call_of}
use Rattle.events.specs.Supply.{supply_of}

-- what concerns a driver: its handles, its callers, its own reads and writes
pub data DriverEvent : Type 0 where
  host_put : (d k : ℕ) → DriverEvent  -- an outside hold of description d into its handle k
  -- callers: fds and ms (metadata) are lists of words, ds a list of descriptions
  reserve : (c : ℕ) → DriverEvent
  submit : (n c op fl : ℕ) (args : Args) (pid : ℕ) (ds : List ℕ) → DriverEvent
  call : (c op : ℕ) (args : Args) (uid gid pid : ℕ) (ds : List ℕ) → DriverEvent
  fdwrite : (c number flags : ℕ) (ms : List ℕ) (uid gid pid : ℕ) (ds : List ℕ) → DriverEvent
  fdread : (c number len flags : ℕ) (ms : List ℕ) (uid gid pid : ℕ) → DriverEvent
  generic : (c pid : ℕ) (fds : List ℕ) (base len : ℕ) (ms : List ℕ) → DriverEvent
  stdfs : (c pid : ℕ) (fds : List ℕ) (base len : ℕ) (ms : List ℕ) → DriverEvent
  fmap : (c id pages flags uid gid pid : ℕ) → DriverEvent
  close : (id : ℕ) → DriverEvent
  detach : (id pid : ℕ) → DriverEvent
  wake : (n c killed base count : ℕ) → DriverEvent
  -- the driver: a read into len bytes; a write of bytes with so many words lent for effects
  read : (len flags : ℕ) → DriverEvent
  write : (words : ℕ) (bs : List ℕ) → DriverEvent
  move : (ms ds : List ℕ) → DriverEvent
  obtain : (ms : List ℕ) → DriverEvent
  supply : (n offset base count : ℕ) → DriverEvent

pub data Event : Type 0 where
  -- the host: a description; a caller
  host_open : (d : ℕ) → Event
  host_copy : (d : ℕ) → Event
  host_drop : (d : ℕ) → Event
  host_ended : (c : ℕ) → Event
  on : (e : DriverEvent) → Event

abbrev pub driver_step : World → DriverEvent → Outcome
driver_step w (host_put d k) = host_put_of w d k
driver_step w (reserve c) = reserve_of w c
driver_step w (submit n c op fl args pid ds) = submit_of w n c op fl args pid ds
driver_step w (call c op args uid gid pid ds) = call_of w c op args uid gid pid ds
driver_step w (fdwrite c number flags ms uid gid pid ds) = fdwrite_of w c number flags ms uid gid pid ds
driver_step w (fdread c number len flags ms uid gid pid) = fdread_of w c number len flags ms uid gid pid
driver_step w (generic c pid fds base len ms) = generic_of w c pid fds base len ms
driver_step w (stdfs c pid fds base len ms) = stdfs_of w c pid fds base len ms
driver_step w (fmap c id pages flags uid gid pid) = fmap_of w c id pages flags uid gid pid
driver_step w (close id) = close_of w id
driver_step w (detach id pid) = detach_of w id pid
driver_step w (wake n c killed base count) = wake_of w n c killed base count
driver_step w (read len flags) = read_of w len flags
driver_step w (write words bs) = write_of w words bs
driver_step w (move ms ds) = move_of w ms ds
driver_step w (obtain ms) = obtain_call_of w ms
driver_step w (supply n offset base count) = supply_of w n offset base count

abbrev pub step : World → Event → Outcome
step w (host_open d) = host_open_of w d
step w (host_copy d) = host_copy_of w d
step w (host_drop d) = host_drop_of w d
step w (host_ended c) = host_ended_of w c
step w (on e) = driver_step w e
