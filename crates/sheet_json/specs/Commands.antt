-- Spreadsheet cells in JSON (docs/FORMATS.md, "Spreadsheet commands").
use Rattle.std.specs.Prelude.{ℕ, List, codes, Option, option_and_then}
use Rattle.std.specs.Option.{option_or}
use Rattle.serde_json.specs.Data.{Data}
use Rattle.serde_json.specs.Find.{as_str}
use Rattle.sheet_commands.specs.declared.command.Command.{Command}
use Rattle.json_fields.specs.Json.{field}
use Rattle.json_fields.specs.Values.{name_in}
use Rattle.sheet_json.specs.ColumnCommands.{column_command}
use Rattle.sheet_json.specs.RowCommands.{row_command}
use Rattle.sheet_json.specs.DatasetCommands.{dataset_command}

-- what a word asks for on a dataset
abbrev pub command_named : List ℕ → List ℕ → Data → Option Command
command_named word dataset d =
    option_or (column_command word dataset d)
    (option_or (row_command word dataset d) (dataset_command word dataset d))

-- the command of a spreadsheet cell: `vizual`, `dataset` and the fields that the word has
unfoldable pub command_of : Data → Option Command
command_of d =
    option_and_then (λ word. option_and_then (λ dataset. command_named word dataset d)
    (field name_in (codes "dataset") d)) (field as_str (codes "vizual") d)
