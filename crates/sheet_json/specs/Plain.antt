-- The commands that have a line.
use Rattle.std.specs.Prelude.{◌≤◌, length}
use Rattle.sheet_commands.specs.declared.command.Command.{Command}
use Rattle.sheet_commands.specs.declared.command.Command.TheVariants as command

-- of the columns that are kept or sorted by, 1 to 32
abbrev pub IsPlainCommand : Command → Type 0
IsPlainCommand (command.KeepColumns dataset names) = (1 ≤ length names) × (length names ≤ 32)
IsPlainCommand (command.Sort dataset by) = (1 ≤ length by) × (length by ≤ 32)
IsPlainCommand c = Unit {0}
