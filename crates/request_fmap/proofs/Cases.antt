-- A map request by its tests. Assumes nothing.
use Prim.Native.Nat.{ℕ}
use mathlib.Core.Path.{◌≡◌}
use Rattle.opcode.specs.Opcodes as opcode
use Rattle.user_args.specs.Args.{merge_of}
use Rattle.events.specs.Submit.{args6, sqe, fmap_entry}

pub entry_is :
    (id pages flags uid gid pid op who n m : ℕ) → op ≡ opcode.request_mmap → who ≡ merge_of uid gid → n ≡ m
    → sqe op 0 n (args6 id flags pages 0 0 who) pid ≡ fmap_entry id pages flags uid gid pid m
entry_is id pages flags uid gid pid op who n m e q h = λ i. sqe (e i) 0 (h i) (args6 id flags pages 0 0 (q i)) pid
