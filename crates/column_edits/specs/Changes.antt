-- A table under a layout: with marks, without them, and over what is shown.
use Rattle.std.specs.Prelude.{false, Option, Some, option_map, Ok, List, map}
use Rattle.value_types.specs.declared.value.Value.{Value}
use Rattle.value_types.specs.declared.value.Value.TheVariants.{Null}
use Rattle.cell_errors.specs.Answers.{Answer, and_then}
use Rattle.dataset_types.specs.declared.column.Column.{Column}
use Rattle.dataset_types.specs.declared.row.Marked.{Marked}
use Rattle.dataset_types.specs.declared.row.Row.{Row}
use Rattle.dataset_types.specs.Tables.{TableData, table_of}
use Rattle.dataset_types.specs.Plain.{PlainRow, PlainTable}
use Rattle.caveat_marks.specs.Shown.{ShownRows, InOrder, ById, ShownTable}
use Rattle.edit_results.specs.Results.{whole, plain_whole}
use Rattle.column_edits.specs.declared.layout.LaidColumn.{LaidColumn}
use Rattle.column_edits.specs.Layout.{columns_of, laid}

-- ---- with marks

-- a NULL without a caveat
abbrev pub blank : Marked
blank = record { value = Null; marked = false }

-- a row under a layout, with this value in the columns without a source
abbrev pub laid_row : List LaidColumn → Marked → Row → Row
laid_row layout new r = record { id = r.id; sure = r.sure; values = laid new layout r.values }

-- a table under a layout, with NULL in the columns without a source
abbrev pub laid_out : List LaidColumn → TableData → TableData
laid_out layout t = table_of (columns_of layout) (map (laid_row layout blank) t.rows) t.is_open t.is_loose

-- a table under the layout that a plan makes of its columns
abbrev pub changed : (List Column → Answer (List LaidColumn)) → TableData → Answer TableData
changed plan t = and_then (plan t.columns) (λ layout. whole (laid_out layout t))

-- ---- without marks

-- a row under a layout
abbrev pub plain_laid_row : List LaidColumn → Value → PlainRow → PlainRow
plain_laid_row layout new r = record { id = r.id; values = laid new layout r.values }

-- a table under a layout
abbrev pub plain_laid_out : List LaidColumn → PlainTable → PlainTable
plain_laid_out layout t = record { columns = columns_of layout; rows = map (plain_laid_row layout Null) t.rows }

-- a table under the layout that a plan makes of its columns
abbrev pub plain_changed : (List Column → Answer (List LaidColumn)) → PlainTable → Answer PlainTable
plain_changed plan t = and_then (plan t.columns) (λ layout. plain_whole (plain_laid_out layout t))

-- ---- over what is shown

-- the rows with other values, in their order or by their ids
abbrev pub with_values : (List (Option Value) → List (Option Value)) → ShownRows → ShownRows
with_values f (InOrder rows) = InOrder (map (λ r. record { id = r.id; values = f r.values }) rows)
with_values f (ById values) = ById (λ id. option_map f (values id))

-- a table with these columns, and with other values in its rows
abbrev pub shown_with : List Column → (List (Option Value) → List (Option Value)) → ShownTable → ShownTable
shown_with columns f s = record { columns = columns; rows = with_values f s.rows; is_open = s.is_open; is_loose = s.is_loose }

-- a table under the layout that a plan makes of its columns
abbrev pub shown_changed : (List Column → Answer (List LaidColumn)) → ShownTable → Answer ShownTable
shown_changed plan s = and_then (plan s.columns) (λ layout. Ok (shown_with (columns_of layout) (laid (Some Null) layout) s))
