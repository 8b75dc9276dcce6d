-- What comes before the stream is read: the picks of a file that the words name.
use Rattle.std.specs.Prelude.{◌≡◌, ◌⊎◌, ℕ, List, [], Option, Some, None, Result, Ok, Err}
use Rattle.outside_io.specs.Files.{answer_for}
use Rattle.outside_io.specs.declared.shelf.Fetched.{Fetched}
use Rattle.outside_io.specs.declared.shelf.Fetched.TheVariants as fetched
use Rattle.dataset_types.specs.declared.picks.Pick.{Pick}
use Rattle.edit_wire.specs.PicksFile.{picks_of}
use Rattle.version_tree.specs.Calls.{file_limit}
use Rattle.version_tree.specs.declared.told.Told.{Told}
use Rattle.version_tree.specs.declared.told.Told.TheVariants as told
use Rattle.vizier_cli.specs.declared.status.Status.{Status}
use Rattle.vizier_cli.specs.declared.status.Status.TheVariants as status

-- the picks, or the status that names the first line that is none
abbrev pub read_picks : Result (List Pick) ℕ → Result (List Pick) Status
read_picks (Ok picks) = Ok picks
read_picks (Err line) = Err (status.BadPicks line)

-- the picks of what the shelf has; a file that is missing or too long is bad before its first line
abbrev pub found : Fetched → Result (List Pick) Status
found (fetched.Bytes bytes) = read_picks (picks_of bytes)
found fetched.Missing = Err (status.BadPicks 0)
found fetched.TooLong = Err (status.BadPicks 0)

-- the picks of what the shelf told, or the status with which the program ends; none where it wasn't asked
abbrev pub opened : Told → Result (List Pick) Status
opened told.NotAsked = Ok []
opened told.Failed = Err status.PicksFault
opened (told.Got f) = found f

-- what a call answers of it, unless memory ran out
abbrev pub Opens : Result (List Pick) Status → Result (List Pick) Status → Type 0
Opens (Ok picks) given = given ≡ Ok picks
Opens (Err s) given = (s ≡ status.NoMemory) ⊎ (given ≡ Err s)

-- no picks file, or one that the shelf has, and in which each line is blank or a pick
abbrev pub CanOpen : Option (List (List ℕ × List ℕ)) → Option (List ℕ) → Type 0
CanOpen files None = Unit {0}
CanOpen files (Some name) =
    (fs : List (List ℕ × List ℕ)) × (picks : List Pick) × (files ≡ Some fs)
    × (found (answer_for fs name file_limit) ≡ Ok picks)
