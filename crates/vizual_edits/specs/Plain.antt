-- What a spreadsheet command gives without marks, doubt and flags.
use Rattle.std.specs.Prelude.{ℕ, if◌then◌else◌, is_some, Option, Some, None, option_map, Ok, Err}
use Rattle.std.specs.Prelude.{List, [], ◌∷◌}
use Rattle.cell_errors.specs.Answers.{Answer, and_then}
use Rattle.cell_errors.specs.declared.fault.CellError.TheVariants as error
use Rattle.dataset_types.specs.declared.picks.Pick.{Pick}
use Rattle.dataset_types.specs.declared.slot.Named.{Named}
use Rattle.dataset_types.specs.Plain.{PlainTable, PlainEnv, erased}
use Rattle.sheet_commands.specs.declared.command.Command.{Command}
use Rattle.sheet_commands.specs.declared.command.Command.TheVariants as command
use Rattle.column_edits.specs.Plans.{insertion, deletion, renaming, moving, keeping}
use Rattle.column_edits.specs.Changes.{plain_changed}
use Rattle.column_edits.specs.Formula.{plain_formula}
use Rattle.row_edits.specs.Insert.{plain_row_inserted}
use Rattle.row_edits.specs.Delete.{plain_row_deleted}
use Rattle.row_edits.specs.Move.{plain_row_moved}
use Rattle.row_edits.specs.Set.{plain_value_set}
use Rattle.row_edits.specs.Sort.{plain_rows_sorted}
use Rattle.text_answers.specs.Answers.{expr_of}
use Rattle.vizual_edits.specs.Commands.{found, dataset_of}

-- a name with its dataset, or without one
pub record PlainNamed : Type 0 where
  pub name : List ℕ
  pub table : Option PlainTable

-- a name with its dataset
abbrev pub plain_entry : List ℕ → Option PlainTable → PlainNamed
plain_entry name table = record { name = name; table = table }

-- a write without marks, doubt and flags
abbrev pub erased_write : Named → PlainNamed
erased_write w = plain_entry w.name (option_map erased w.slot.table)

-- the dataset of a name, changed
abbrev pub plain_edited : List ℕ → (PlainTable → Answer PlainTable) → PlainEnv → Answer (List PlainNamed)
plain_edited name change env =
    and_then (found (env name)) (λ t.
    and_then (change t) (λ u. Ok (plain_entry name (Some u) ∷ [])))

-- the dataset of a name, where another name has none
abbrev pub plain_alone : List ℕ → List ℕ → PlainEnv → Answer PlainTable
plain_alone name to env =
    and_then (found (env name)) (λ t.
    if is_some (env to) then Err error.NameTaken else Ok t)

-- what a command on columns or rows makes of its dataset; the four with equations of their own in `plain_applied` leave it as it is
abbrev pub plain_table_edit : Command → PlainTable → Answer PlainTable
plain_table_edit (command.InsertColumn d name k at) t = plain_changed (insertion name k at) t
plain_table_edit (command.DeleteColumn d name) t = plain_changed (deletion name) t
plain_table_edit (command.RenameColumn d name to) t = plain_changed (renaming name to) t
plain_table_edit (command.MoveColumn d name at) t = plain_changed (moving name at) t
plain_table_edit (command.KeepColumns d names) t = plain_changed (keeping names) t
plain_table_edit (command.InsertRow d row after) t = plain_row_inserted t row after
plain_table_edit (command.DeleteRow d row) t = plain_row_deleted t row
plain_table_edit (command.MoveRow d row after) t = plain_row_moved t row after
plain_table_edit (command.SetValue d row column v) t = plain_value_set t row column v
plain_table_edit (command.Formula d column words) t = Ok t
plain_table_edit (command.Sort d by) t = plain_rows_sorted t by
plain_table_edit (command.RenameDataset d to) t = Ok t
plain_table_edit (command.CopyDataset d to) t = Ok t
plain_table_edit (command.DropDataset d) t = Ok t

-- what a command of the cell with an id writes, under these picks
abbrev pub plain_applied : Command → ℕ → List Pick → PlainEnv → Answer (List PlainNamed)
plain_applied (command.Formula d column words) cell picks env =
    and_then (expr_of words) (λ e. plain_edited d (plain_formula column e picks cell) env)
plain_applied (command.RenameDataset d to) cell picks env =
    and_then (plain_alone d to env) (λ t. Ok (plain_entry to (Some t) ∷ plain_entry d None ∷ []))
plain_applied (command.CopyDataset d to) cell picks env =
    and_then (plain_alone d to env) (λ t. Ok (plain_entry to (Some t) ∷ []))
plain_applied (command.DropDataset d) cell picks env =
    and_then (found (env d)) (λ t. Ok (plain_entry d None ∷ []))
plain_applied c cell picks env = plain_edited (dataset_of c) (plain_table_edit c) env
