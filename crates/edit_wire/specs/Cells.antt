-- The cell of an edit (docs/FORMATS.md, "Edit lines").
use Rattle.std.specs.Prelude.{Option, option_map}
use Rattle.std.specs.Option.{option_or}
use Rattle.serde_json.specs.Data.{Data}
use Rattle.sheet_commands.specs.declared.command.Command.{Command}
use Rattle.cell_model.specs.declared.cell.CellKind.TheVariants as kind
use Rattle.edit_wire.specs.declared.edit.EditCell.{EditCell}
use Rattle.edit_wire.specs.declared.edit.EditCell.TheVariants as from
use Rattle.edit_wire.specs.Make.{make_of}
use Rattle.edit_wire.specs.Loads.{load_of}
use Rattle.sheet_json.specs.Commands.{command_of}
use Rattle.edit_wire.specs.Sql.{sql_of}

-- the spreadsheet cell of a command
abbrev pub vizual : Command → EditCell
vizual c = from.Other (kind.Vizual c)

-- the cell of an edit: a make cell, a load, a spreadsheet command or a SELECT
abbrev pub cell_of : Data → Option EditCell
cell_of d =
    option_or (option_map from.Other (make_of d))
    (option_or (load_of d) (option_or (option_map vizual (command_of d)) (option_map from.Other (sql_of d))))
