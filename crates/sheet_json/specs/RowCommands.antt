-- Spreadsheet commands on the rows of a dataset, in JSON (docs/FORMATS.md, "Spreadsheet commands").
use Rattle.std.specs.Prelude.{ℕ, List, codes, if◌then◌else◌}
use Rattle.std.specs.Prelude.{Option, None, option_map, option_and_then}
use Rattle.std.specs.Str.{bytes_eq}
use Rattle.serde_json.specs.Data.{Data}
use Rattle.serde_json.specs.Find.{as_str}
use Rattle.sheet_commands.specs.declared.command.Command.{Command}
use Rattle.sheet_commands.specs.declared.command.Command.TheVariants as command
use Rattle.json_fields.specs.Json.{with_members, field}
use Rattle.json_fields.specs.Values.{name_in, value_of, after_in}
use Rattle.json_fields.specs.Lists.{by_in}

-- the fields that a command on a dataset has, beside `vizual` and `dataset`, where it has no others

-- `row`, which is a name, and `after`
abbrev pub insert_row_of : List ℕ → Data → Option Command
insert_row_of dataset d =
    with_members 4 d
    (option_and_then (λ row. option_map (command.InsertRow dataset row) (field after_in (codes "after") d))
    (field name_in (codes "row") d))

-- `row`
abbrev pub delete_row_of : List ℕ → Data → Option Command
delete_row_of dataset d = with_members 3 d (option_map (command.DeleteRow dataset) (field as_str (codes "row") d))

-- `row` and `after`
abbrev pub move_row_of : List ℕ → Data → Option Command
move_row_of dataset d =
    with_members 4 d
    (option_and_then (λ row. option_map (command.MoveRow dataset row) (field after_in (codes "after") d))
    (field as_str (codes "row") d))

-- `row`, `column` and `value`
abbrev pub set_value_of : List ℕ → Data → Option Command
set_value_of dataset d =
    with_members 5 d
    (option_and_then (λ row. option_and_then (λ column.
    option_map (command.SetValue dataset row column) (field value_of (codes "value") d))
    (field name_in (codes "column") d)) (field as_str (codes "row") d))

-- `by`
abbrev pub sort_of : List ℕ → Data → Option Command
sort_of dataset d = with_members 3 d (option_map (command.Sort dataset) (field by_in (codes "by") d))

-- what the word of the field `vizual` asks for, where it is one of these
abbrev pub row_command : List ℕ → List ℕ → Data → Option Command
row_command word dataset d =
    if bytes_eq word (codes "insert_row") then insert_row_of dataset d
    else (if bytes_eq word (codes "delete_row") then delete_row_of dataset d
    else (if bytes_eq word (codes "move_row") then move_row_of dataset d
    else (if bytes_eq word (codes "set_value") then set_value_of dataset d
    else (if bytes_eq word (codes "sort") then sort_of dataset d
    else None))))
