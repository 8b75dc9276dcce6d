-- Which commands are copied together.
use Rattle.std.specs.Prelude.{Bool, true, false}
use Rattle.sheet_commands.specs.declared.command.Command.{Command}
use Rattle.sheet_commands.specs.declared.command.Command.TheVariants as command

-- puts a column in, takes one out, renames or moves one, or chooses some
abbrev pub is_on_columns : Command → Bool
is_on_columns (command.InsertColumn d name k at) = true
is_on_columns (command.DeleteColumn d name) = true
is_on_columns (command.RenameColumn d name to) = true
is_on_columns (command.MoveColumn d name at) = true
is_on_columns (command.KeepColumns d names) = true
is_on_columns _ = false

-- puts a row in, takes one out or moves one, or sets a value of one
abbrev pub is_on_a_row : Command → Bool
is_on_a_row (command.InsertRow d row after) = true
is_on_a_row (command.DeleteRow d row) = true
is_on_a_row (command.MoveRow d row after) = true
is_on_a_row (command.SetValue d row column v) = true
is_on_a_row _ = false
