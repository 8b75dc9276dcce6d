-- The laws of the commands: erasure, what is shown, and other picks.
use Rattle.std.specs.Prelude.{◌≡◌, Ok, List}
use Rattle.std.specs.Result.{result_map_both}
use Rattle.cell_errors.specs.Answers.{Answer}
use Rattle.dataset_types.specs.declared.column.Column.{Column}
use Rattle.dataset_types.specs.Tables.{TableData}
use Rattle.dataset_types.specs.Plain.{PlainTable, erased}
use Rattle.caveat_marks.specs.Shown.{ShownTable, shown}
use Rattle.column_edits.specs.declared.layout.LaidColumn.{LaidColumn}
use Rattle.column_edits.specs.Changes.{changed, plain_changed, shown_changed}

-- dropping marks and flags after the command or before it is one thing, errors included
abbrev pub Erases : (TableData → Answer TableData) → (PlainTable → Answer PlainTable) → Type 0
Erases command plain = (t : TableData) → result_map_both erased (λ e. e) (command t) ≡ plain (erased t)

-- what is shown of the result is what the command makes of what is shown
abbrev pub Shows : (TableData → Answer TableData) → (ShownTable → Answer ShownTable) → Type 0
Shows command over_shown = (t out : TableData) → command t ≡ Ok out → over_shown (shown t) ≡ Ok (shown out)

-- where two tables show the same, so do their results
abbrev pub KeepsShown : (TableData → Answer TableData) → (TableData → Answer TableData) → Type 0
KeepsShown command other = (a b x y : TableData) → shown a ≡ shown b → command a ≡ Ok x → other b ≡ Ok y → shown x ≡ shown y

-- a command by layouts erases
abbrev pub ChangeErases : (List Column → Answer (List LaidColumn)) → Type 0
ChangeErases plan = Erases (changed plan) (plain_changed plan)

-- what a command by layouts shows
abbrev pub ChangeShows : (List Column → Answer (List LaidColumn)) → Type 0
ChangeShows plan = Shows (changed plan) (shown_changed plan)

-- a command by layouts of what shows the same
abbrev pub ChangeKeepsShown : (List Column → Answer (List LaidColumn)) → Type 0
ChangeKeepsShown plan = KeepsShown (changed plan) (changed plan)
