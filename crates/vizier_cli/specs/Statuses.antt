-- The statuses of the program: their numbers and names.
use Rattle.std.specs.Prelude.{ℕ, List, codes, Bool, true, false}
use Rattle.report_words.specs.declared.status.SessionStatus.{SessionStatus}
use Rattle.report_words.specs.declared.status.SessionStatus.TheVariants as session
use Rattle.vizier_cli.specs.declared.status.Status.{Status}
use Rattle.vizier_cli.specs.declared.status.Status.TheVariants as status

-- the number with which the program ends
abbrev pub number_of : Status → ℕ
number_of status.Done = 0
number_of status.BadWords = 1
number_of status.ReadFault = 2
number_of status.WriteFault = 3
number_of status.NoMemory = 4
number_of (status.BadPicks line) = 5
number_of status.StreamTooLong = 6
number_of status.PicksFault = 7

-- the name that is printed on standard error
abbrev pub name_of : Status → List ℕ
name_of status.Done = codes "Done"
name_of status.BadWords = codes "BadWords"
name_of status.ReadFault = codes "ReadFault"
name_of status.WriteFault = codes "WriteFault"
name_of status.NoMemory = codes "NoMemory"
name_of (status.BadPicks line) = codes "BadPicks"
name_of status.StreamTooLong = codes "StreamTooLong"
name_of status.PicksFault = codes "PicksFault"

-- the program's status at the end of a session
abbrev pub status_of : SessionStatus → Status
status_of session.Done = status.Done
status_of session.ReadFault = status.ReadFault
status_of session.WriteFault = status.WriteFault
status_of session.NoMemory = status.NoMemory
status_of session.StreamTooLong = status.StreamTooLong

-- whether the program ended before it read the stream, for another cause than want of memory
abbrev pub is_early : Status → Bool
is_early status.Done = false
is_early status.BadWords = true
is_early status.ReadFault = false
is_early status.WriteFault = false
is_early status.NoMemory = false
is_early (status.BadPicks line) = true
is_early status.StreamTooLong = false
is_early status.PicksFault = true
