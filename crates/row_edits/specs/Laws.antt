-- The laws of the commands on rows: erasure, and other picks.
use Rattle.std.specs.Prelude.{◌≡◌, ℕ, Option, List, Ok}
use Rattle.std.specs.Result.{result_map_both}
use Rattle.value_types.specs.declared.value.Value.{Value}
use Rattle.dataset_types.specs.Tables.{TableData, IsTable}
use Rattle.dataset_types.specs.Plain.{PlainTable, erased}
use Rattle.caveat_marks.specs.Shown.{ShownTable, shown}
use Rattle.cell_errors.specs.Answers.{Answer}
use Rattle.sheet_commands.specs.declared.sort_names.SortName.{SortName}
use Rattle.row_edits.specs.Insert.{row_inserted, plain_row_inserted, shown_row_inserted}
use Rattle.row_edits.specs.Delete.{row_deleted, plain_row_deleted, shown_row_deleted}
use Rattle.row_edits.specs.Move.{row_moved, plain_row_moved, shown_row_moved}
use Rattle.row_edits.specs.Set.{value_set, plain_value_set, shown_value_set}
use Rattle.row_edits.specs.Sort.{rows_sorted, plain_rows_sorted, shown_rows_sorted}

-- ---- what a law says of a command

-- dropping marks and flags after the command or before it is one thing, errors included
abbrev pub Erases : (TableData → Answer TableData) → (PlainTable → Answer PlainTable) → Type 0
Erases step plain_step = (t : TableData) → result_map_both erased (λ e. e) (step t) ≡ plain_step (erased t)

-- what is shown of the result is what the command makes of what is shown
abbrev pub Shows : (TableData → Answer TableData) → (ShownTable → ShownTable) → Type 0
Shows step shown_step = (t out : TableData) → IsTable t → step t ≡ Ok out → shown out ≡ shown_step (shown t)

-- where two datasets show the same, so do their results
abbrev pub KeepsShown : (TableData → Answer TableData) → Type 0
KeepsShown step =
    (a b x y : TableData) → IsTable a → IsTable b → shown a ≡ shown b → step a ≡ Ok x → step b ≡ Ok y → shown x ≡ shown y

-- the result keeps the rules and limits of a dataset
abbrev pub KeepsRules : (TableData → Answer TableData) → Type 0
KeepsRules step = (t out : TableData) → IsTable t → step t ≡ Ok out → IsTable out

-- ---- insert_row

-- inserting a row erases
abbrev pub InsertErases : List ℕ → Option (List ℕ) → Type 0
InsertErases name place = Erases (λ t. row_inserted t name place) (λ t. plain_row_inserted t name place)

-- what it shows
abbrev pub InsertShows : List ℕ → Option (List ℕ) → Type 0
InsertShows name place = Shows (λ t. row_inserted t name place) (λ t. shown_row_inserted t name place)

-- into what shows the same
abbrev pub InsertKeepsShown : List ℕ → Option (List ℕ) → Type 0
InsertKeepsShown name place = KeepsShown (λ t. row_inserted t name place)

-- into a dataset it gives one
abbrev pub InsertKeepsRules : List ℕ → Option (List ℕ) → Type 0
InsertKeepsRules name place = KeepsRules (λ t. row_inserted t name place)

-- ---- delete_row

-- deleting a row erases
abbrev pub DeleteErases : List ℕ → Type 0
DeleteErases row = Erases (λ t. row_deleted t row) (λ t. plain_row_deleted t row)

-- what it shows
abbrev pub DeleteShows : List ℕ → Type 0
DeleteShows row = Shows (λ t. row_deleted t row) (λ t. shown_row_deleted t row)

-- from what shows the same
abbrev pub DeleteKeepsShown : List ℕ → Type 0
DeleteKeepsShown row = KeepsShown (λ t. row_deleted t row)

-- from a dataset it leaves one
abbrev pub DeleteKeepsRules : List ℕ → Type 0
DeleteKeepsRules row = KeepsRules (λ t. row_deleted t row)

-- ---- move_row

-- moving a row erases
abbrev pub MoveErases : List ℕ → Option (List ℕ) → Type 0
MoveErases row place = Erases (λ t. row_moved t row place) (λ t. plain_row_moved t row place)

-- what it shows
abbrev pub MoveShows : List ℕ → Option (List ℕ) → Type 0
MoveShows row place = Shows (λ t. row_moved t row place) (λ t. shown_row_moved t row place)

-- in what shows the same
abbrev pub MoveKeepsShown : List ℕ → Option (List ℕ) → Type 0
MoveKeepsShown row place = KeepsShown (λ t. row_moved t row place)

-- in a dataset it leaves one
abbrev pub MoveKeepsRules : List ℕ → Option (List ℕ) → Type 0
MoveKeepsRules row place = KeepsRules (λ t. row_moved t row place)

-- ---- set_value

-- setting a value erases
abbrev pub SetErases : List ℕ → List ℕ → Value → Type 0
SetErases row column v = Erases (λ t. value_set t row column v) (λ t. plain_value_set t row column v)

-- what it shows
abbrev pub SetShows : List ℕ → List ℕ → Value → Type 0
SetShows row column v = Shows (λ t. value_set t row column v) (λ t. shown_value_set t row column v)

-- in what shows the same
abbrev pub SetKeepsShown : List ℕ → List ℕ → Value → Type 0
SetKeepsShown row column v = KeepsShown (λ t. value_set t row column v)

-- in a dataset it leaves one
abbrev pub SetKeepsRules : List ℕ → List ℕ → Value → Type 0
SetKeepsRules row column v = KeepsRules (λ t. value_set t row column v)

-- ---- sort

-- sorting erases
abbrev pub SortErases : List SortName → Type 0
SortErases by = Erases (λ t. rows_sorted t by) (λ t. plain_rows_sorted t by)

-- what it shows
abbrev pub SortShows : List SortName → Type 0
SortShows by = Shows (λ t. rows_sorted t by) (λ t. shown_rows_sorted t by)

-- of what shows the same
abbrev pub SortKeepsShown : List SortName → Type 0
SortKeepsShown by = KeepsShown (λ t. rows_sorted t by)

-- of a dataset it gives one
abbrev pub SortKeepsRules : List SortName → Type 0
SortKeepsRules by = KeepsRules (λ t. rows_sorted t by)
