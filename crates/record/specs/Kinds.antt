-- The kinds of events, each with its number in a record.
use Rattle.std.specs.Prelude.{ℕ, Option, Some, None, List, [], ◌∷◌, get_or}
use Rattle.record.specs.declared.EventKind.{EventKind}
use Rattle.record.specs.declared.EventKind.TheVariants.{HostOpen, HostCopy, HostDrop, HostPut, HostEnded, Reserve, Submit, Call, Generic, StdFs, Fmap, Close, Detach, Wake, Read, Write, Move, Obtain, Supply, FdWrite, FdRead}

abbrev pub number_of : EventKind → ℕ
number_of HostOpen = 1
number_of HostCopy = 2
number_of HostDrop = 3
number_of HostPut = 4
number_of HostEnded = 5
number_of Reserve = 6
number_of Submit = 7
number_of Call = 8
number_of Generic = 9
number_of StdFs = 10
number_of Fmap = 11
number_of Close = 12
number_of Detach = 13
number_of Wake = 14
number_of Read = 15
number_of Write = 16
number_of Move = 17
number_of Obtain = 18
number_of Supply = 19
number_of FdWrite = 20
number_of FdRead = 21

-- by number, from 0 on
abbrev pub kinds : List (Option EventKind)
kinds =
    None
    ∷ Some HostOpen
    ∷ Some HostCopy
    ∷ Some HostDrop
    ∷ Some HostPut
    ∷ Some HostEnded
    ∷ Some Reserve
    ∷ Some Submit
    ∷ Some Call
    ∷ Some Generic
    ∷ Some StdFs
    ∷ Some Fmap
    ∷ Some Close
    ∷ Some Detach
    ∷ Some Wake
    ∷ Some Read
    ∷ Some Write
    ∷ Some Move
    ∷ Some Obtain
    ∷ Some Supply
    ∷ Some FdWrite
    ∷ Some FdRead
    ∷ []

-- the kind that a number names; 0 and those from 22 on name none
abbrev pub kind_of : ℕ → Option EventKind
kind_of n = get_or kinds n None
