-- Spreadsheet commands on a dataset as a whole, in JSON (docs/FORMATS.md, "Spreadsheet commands").
use Rattle.std.specs.Prelude.{ℕ, List, codes, if◌then◌else◌, Option, Some, None, option_map}
use Rattle.std.specs.Str.{bytes_eq}
use Rattle.serde_json.specs.Data.{Data}
use Rattle.sheet_commands.specs.declared.command.Command.{Command}
use Rattle.sheet_commands.specs.declared.command.Command.TheVariants as command
use Rattle.json_fields.specs.Json.{with_members, field}
use Rattle.json_fields.specs.Values.{name_in}

-- the fields that a command on a dataset has, beside `vizual` and `dataset`, where it has no others

-- `to`
abbrev pub rename_dataset_of : List ℕ → Data → Option Command
rename_dataset_of dataset d =
    with_members 3 d (option_map (command.RenameDataset dataset) (field name_in (codes "to") d))

-- `to`
abbrev pub copy_dataset_of : List ℕ → Data → Option Command
copy_dataset_of dataset d =
    with_members 3 d (option_map (command.CopyDataset dataset) (field name_in (codes "to") d))

-- none
abbrev pub drop_dataset_of : List ℕ → Data → Option Command
drop_dataset_of dataset d = with_members 2 d (Some (command.DropDataset dataset))

-- what the word of the field `vizual` asks for, where it is one of these
abbrev pub dataset_command : List ℕ → List ℕ → Data → Option Command
dataset_command word dataset d =
    if bytes_eq word (codes "rename_dataset") then rename_dataset_of dataset d
    else (if bytes_eq word (codes "copy_dataset") then copy_dataset_of dataset d
    else (if bytes_eq word (codes "drop_dataset") then drop_dataset_of dataset d
    else None))
