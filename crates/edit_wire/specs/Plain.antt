-- The edits that have a line.
use Rattle.std.specs.Prelude.{◌≡◌, ◌≤◌, ◌==◌, ℕ, List, length, Bool, not, false, IsTrue}
use Rattle.std.specs.List.{list_all}
use Rattle.dataset_types.specs.Tables.{TableData, row_ids, numbered}
use Rattle.dataset_types.specs.declared.row.Marked.{Marked}
use Rattle.cell_model.specs.declared.cell.CellKind.TheVariants as cell
use Rattle.sheet_json.specs.Plain.{IsPlainCommand}
use Rattle.edit_wire.specs.declared.edit.Edit.{Edit}
use Rattle.edit_wire.specs.declared.edit.EditCell.{EditCell}
use Rattle.edit_wire.specs.declared.edit.EditCell.TheVariants as from
use Rattle.edit_wire.specs.declared.edit.EditKind.{EditKind}
use Rattle.edit_wire.specs.declared.edit.EditKind.TheVariants as edit

-- none of the values is marked
abbrev pub unmarked : List Marked → Bool
unmarked values = list_all (λ m. not m.marked) values

-- with columns, closed, in certain order, its rows numbered from 1 and nothing in them marked.
-- Such a table has no unsure row
pub record IsPlainTable (t : TableData) : Type 0 where
  pub columns : 1 ≤ length t.columns
  pub closed : t.is_open ≡ false
  pub ordered : t.is_loose ≡ false
  pub numbers : row_ids t.rows ≡ numbered (length t.rows)
  pub certain : IsTrue (list_all (λ row. unmarked row.values) t.rows)

-- a load of a file's name and types within their limits, a make cell of such a table, such a command, or any SELECT
abbrev pub IsPlainCell : EditCell → Type 0
IsPlainCell (from.Load name file types repair) = (1 ≤ length file) × (length file ≤ 255) × (length types ≤ 32)
IsPlainCell (from.Other (cell.Make name table)) = IsPlainTable table
IsPlainCell (from.Other (cell.Load name bytes types repair)) = ⊥
IsPlainCell (from.Other (cell.Vizual c)) = IsPlainCommand c
IsPlainCell (from.Other (cell.Sql text into)) = Unit {0}

-- the same of what an edit does
abbrev pub IsPlainKind : EditKind → Type 0
IsPlainKind (edit.Append cell) = IsPlainCell cell
IsPlainKind (edit.Insert at cell) = IsPlainCell cell
IsPlainKind (edit.Update at cell) = IsPlainCell cell
IsPlainKind (edit.Delete at) = Unit {0}
IsPlainKind (edit.Branch version) = Unit {0}

-- an edit that some line gives
abbrev pub IsPlainEdit : Edit → Type 0
IsPlainEdit e = IsPlainKind e.kind

-- no line feed stands in it
abbrev pub IsOneLine : List ℕ → Type 0
IsOneLine line = IsTrue (list_all (λ b. not (b == 10)) line)
