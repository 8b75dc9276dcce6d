-- Spreadsheet commands on the columns of a dataset, in JSON (docs/FORMATS.md, "Spreadsheet commands").
use Rattle.std.specs.Prelude.{ℕ, List, codes, if◌then◌else◌}
use Rattle.std.specs.Prelude.{Option, None, option_map, option_and_then}
use Rattle.std.specs.Str.{bytes_eq}
use Rattle.serde_json.specs.Data.{Data}
use Rattle.serde_json.specs.Find.{as_str}
use Rattle.sheet_commands.specs.declared.command.Command.{Command}
use Rattle.sheet_commands.specs.declared.command.Command.TheVariants as command
use Rattle.json_fields.specs.Json.{with_members, field}
use Rattle.json_fields.specs.Columns.{type_in}
use Rattle.json_fields.specs.Numbers.{position_in}
use Rattle.json_fields.specs.Values.{name_in}
use Rattle.json_fields.specs.Lists.{kept_in}

-- the fields that a command on a dataset has, beside `vizual` and `dataset`, where it has no others

-- `name`, `type` and `at`
abbrev pub insert_column_of : List ℕ → Data → Option Command
insert_column_of dataset d =
    with_members 5 d
    (option_and_then (λ name. option_and_then (λ kind.
    option_map (command.InsertColumn dataset name kind) (field position_in (codes "at") d))
    (field type_in (codes "type") d)) (field name_in (codes "name") d))

-- `name`
abbrev pub delete_column_of : List ℕ → Data → Option Command
delete_column_of dataset d =
    with_members 3 d (option_map (command.DeleteColumn dataset) (field name_in (codes "name") d))

-- `name` and `to`
abbrev pub rename_column_of : List ℕ → Data → Option Command
rename_column_of dataset d =
    with_members 4 d
    (option_and_then (λ name. option_map (command.RenameColumn dataset name) (field name_in (codes "to") d))
    (field name_in (codes "name") d))

-- `name` and `at`
abbrev pub move_column_of : List ℕ → Data → Option Command
move_column_of dataset d =
    with_members 4 d
    (option_and_then (λ name. option_map (command.MoveColumn dataset name) (field position_in (codes "at") d))
    (field name_in (codes "name") d))

-- `names`
abbrev pub keep_columns_of : List ℕ → Data → Option Command
keep_columns_of dataset d =
    with_members 3 d (option_map (command.KeepColumns dataset) (field kept_in (codes "names") d))

-- `column` and `text`
abbrev pub formula_of : List ℕ → Data → Option Command
formula_of dataset d =
    with_members 4 d
    (option_and_then (λ column. option_map (command.Formula dataset column) (field as_str (codes "text") d))
    (field name_in (codes "column") d))

-- what the word of the field `vizual` asks for, where it is one of these
abbrev pub column_command : List ℕ → List ℕ → Data → Option Command
column_command word dataset d =
    if bytes_eq word (codes "insert_column") then insert_column_of dataset d
    else (if bytes_eq word (codes "delete_column") then delete_column_of dataset d
    else (if bytes_eq word (codes "rename_column") then rename_column_of dataset d
    else (if bytes_eq word (codes "move_column") then move_column_of dataset d
    else (if bytes_eq word (codes "keep_columns") then keep_columns_of dataset d
    else (if bytes_eq word (codes "formula") then formula_of dataset d
    else None)))))
