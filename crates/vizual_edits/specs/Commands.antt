-- What a spreadsheet command gives in an environment, and which names it reads there.
use Rattle.std.specs.Prelude.{ℕ, not, ◌&&◌, Bool, if◌then◌else◌, is_some, Option, Some, None, Ok, Err}
use Rattle.std.specs.Prelude.{List, [], ◌∷◌}
use Rattle.std.specs.Str.{bytes_eq}
use Rattle.cell_errors.specs.Answers.{Answer, and_then}
use Rattle.cell_errors.specs.declared.fault.CellError.TheVariants as error
use Rattle.dataset_types.specs.declared.picks.Pick.{Pick}
use Rattle.dataset_types.specs.declared.slot.Slot.{Slot}
use Rattle.dataset_types.specs.declared.slot.Named.{Named}
use Rattle.dataset_types.specs.Slots.{absent}
use Rattle.dataset_types.specs.Tables.{TableData}
use Rattle.expr_lang.specs.declared.expr.Expr.{Expr}
use Rattle.sheet_commands.specs.declared.command.Command.{Command}
use Rattle.sheet_commands.specs.declared.command.Command.TheVariants as command
use Rattle.text_answers.specs.Answers.{expr_of}
use Rattle.vizual_edits.specs.declared.reading.There.{There}
use Rattle.column_edits.specs.Plans.{insertion, deletion, renaming, moving, keeping}
use Rattle.column_edits.specs.Changes.{changed}
use Rattle.column_edits.specs.Formula.{formula}
use Rattle.row_edits.specs.Insert.{row_inserted}
use Rattle.row_edits.specs.Delete.{row_deleted}
use Rattle.row_edits.specs.Move.{row_moved}
use Rattle.row_edits.specs.Set.{value_set}
use Rattle.row_edits.specs.Sort.{rows_sorted}

-- a name with its slot
abbrev pub entry : List ℕ → Slot → Named
entry name slot = record { name = name; slot = slot }

-- a name that has no dataset, without doubt
abbrev pub gone : List ℕ → Named
gone name = entry name absent

-- a name that has this dataset, doubtful or not
abbrev pub filled : List ℕ → TableData → Bool → Named
filled name t doubt = entry name (record { table = Some t; doubt = doubt })

-- the dataset, where there is one
abbrev pub found : {T : Type 0} → Option T → Answer T
found None = Err error.NoDataset
found (Some t) = Ok t

-- the dataset of a slot, and its doubt
abbrev pub there : Slot → Answer There
there slot = and_then (found slot.table) (λ t. Ok (record { table = t; doubt = slot.doubt }))

-- the dataset of a name, changed; it is as doubtful as it was
abbrev pub edited : List ℕ → (TableData → Answer TableData) → (List ℕ → Slot) → Answer (List Named)
edited name change look =
    and_then (there (look name)) (λ s.
    and_then (change s.table) (λ t. Ok (filled name t s.doubt ∷ [])))

-- the dataset of a name, where another name has none
abbrev pub there_alone : List ℕ → List ℕ → (List ℕ → Slot) → Answer There
there_alone name to look =
    and_then (there (look name)) (λ s.
    if is_some (look to).table then Err error.NameTaken else Ok s)

-- the dataset that a command is on
abbrev pub dataset_of : Command → List ℕ
dataset_of (command.InsertColumn d name k at) = d
dataset_of (command.DeleteColumn d name) = d
dataset_of (command.RenameColumn d name to) = d
dataset_of (command.MoveColumn d name at) = d
dataset_of (command.KeepColumns d names) = d
dataset_of (command.InsertRow d row after) = d
dataset_of (command.DeleteRow d row) = d
dataset_of (command.MoveRow d row after) = d
dataset_of (command.SetValue d row column v) = d
dataset_of (command.Formula d column words) = d
dataset_of (command.Sort d by) = d
dataset_of (command.RenameDataset d to) = d
dataset_of (command.CopyDataset d to) = d
dataset_of (command.DropDataset d) = d

-- what a command on columns or rows makes of its dataset; the four with equations of their own in `applied` leave it as it is
abbrev pub table_edit : Command → TableData → Answer TableData
table_edit (command.InsertColumn d name k at) t = changed (insertion name k at) t
table_edit (command.DeleteColumn d name) t = changed (deletion name) t
table_edit (command.RenameColumn d name to) t = changed (renaming name to) t
table_edit (command.MoveColumn d name at) t = changed (moving name at) t
table_edit (command.KeepColumns d names) t = changed (keeping names) t
table_edit (command.InsertRow d row after) t = row_inserted t row after
table_edit (command.DeleteRow d row) t = row_deleted t row
table_edit (command.MoveRow d row after) t = row_moved t row after
table_edit (command.SetValue d row column v) t = value_set t row column v
table_edit (command.Formula d column words) t = Ok t
table_edit (command.Sort d by) t = rows_sorted t by
table_edit (command.RenameDataset d to) t = Ok t
table_edit (command.CopyDataset d to) t = Ok t
table_edit (command.DropDataset d) t = Ok t

-- what a command of the cell with an id writes, under these picks
abbrev pub applied : Command → ℕ → List Pick → (List ℕ → Slot) → Answer (List Named)
applied (command.Formula d column words) cell picks look =
    and_then (expr_of words) (λ e. edited d (formula column e picks cell) look)
applied (command.RenameDataset d to) cell picks look =
    and_then (there_alone d to look) (λ s. Ok (filled to s.table s.doubt ∷ gone d ∷ []))
applied (command.CopyDataset d to) cell picks look =
    and_then (there_alone d to look) (λ s. Ok (filled to s.table s.doubt ∷ []))
applied (command.DropDataset d) cell picks look =
    and_then (there (look d)) (λ s. Ok (gone d ∷ []))
applied c cell picks look = edited (dataset_of c) (table_edit c) look

-- ---- the names that are read

-- the name, where a text is an expression
abbrev pub if_text : Answer Expr → List ℕ → List (List ℕ)
if_text (Ok e) name = name ∷ []
if_text (Err e) name = []

-- another name after the first, where that has a dataset
abbrev pub both_names : List ℕ → List ℕ → (List ℕ → Slot) → List (List ℕ)
both_names name to look =
    name ∷ (if is_some (look name).table && not (bytes_eq name to) then to ∷ [] else [])

-- the names that a command reads, each once, in order
abbrev pub names_read : Command → (List ℕ → Slot) → List (List ℕ)
names_read (command.Formula d column words) look = if_text (expr_of words) d
names_read (command.RenameDataset d to) look = both_names d to look
names_read (command.CopyDataset d to) look = both_names d to look
names_read c look = dataset_of c ∷ []
