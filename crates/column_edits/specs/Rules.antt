-- What a layout has to keep.
use Rattle.std.specs.Prelude.{IsTrue, List, map}
use Rattle.dataset_types.specs.declared.column.Column.{Column}
use Rattle.dataset_types.specs.declared.row.Row.{Row}
use Rattle.dataset_types.specs.Tables.{Distinct, row_fits}
use Rattle.expr_meaning.specs.Names.{Name}
use Rattle.column_edits.specs.declared.layout.LaidColumn.{LaidColumn}
use Rattle.column_edits.specs.Layout.{columns_of}
use Rattle.column_edits.specs.Changes.{blank, laid_row}

-- the names of the columns of a layout
abbrev pub names_of : List LaidColumn → List Name
names_of layout = map (λ c. c.column.name) layout

-- a layout for tables of these columns: its names are distinct, and under it rows that fit the columns fit
pub record IsLayout (columns : List Column) (layout : List LaidColumn) : Type 0 where
  pub names : Distinct (names_of layout)
  pub fitting : (r : Row) → IsTrue (row_fits columns r) → IsTrue (row_fits (columns_of layout) (laid_row layout blank r))
