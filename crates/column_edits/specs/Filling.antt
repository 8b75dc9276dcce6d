-- A formula in two steps: the values of its column, and the table that has them.
use Rattle.std.specs.Prelude.{ℕ, Bool, ◌||◌, List, map, zip}
use Rattle.std.specs.List.{list_all}
use Rattle.std.specs.Option.{is_some}
use Rattle.cell_errors.specs.Answers.{Answer, and_then, collect}
use Rattle.dataset_types.specs.declared.picks.Pick.{Pick}
use Rattle.dataset_types.specs.declared.row.Marked.{Marked}
use Rattle.dataset_types.specs.declared.row.Row.{Row}
use Rattle.dataset_types.specs.Same.{same_marked}
use Rattle.dataset_types.specs.Tables.{TableData, table_of}
use Rattle.expr_lang.specs.declared.expr.Expr.{Expr}
use Rattle.expr_meaning.specs.Names.{Name}
use Rattle.column_edits.specs.declared.computing.InRow.{InRow}
use Rattle.column_edits.specs.declared.layout.LaidColumn.{LaidColumn}
use Rattle.column_edits.specs.Changes.{laid_row}
use Rattle.column_edits.specs.Formula.{scope, formula_type, value_over, refilled}

-- the value of a formula over a row
abbrev pub value_by : InRow → Row → Answer Marked
value_by how = value_over how.scope.now how.expr.now how.picks.now how.cell how.kind

-- the types first, then the value of each row
abbrev pub values_of : Name → Expr → List Pick → ℕ → TableData → Answer (List Marked)
values_of name expr picks cell t =
    and_then (formula_type name expr t.columns) (λ k. collect (value_over (scope t.columns) expr picks cell k) t.rows)

-- each row under a layout, with a new value of its own in the columns without a source
abbrev pub refilled_rows : List LaidColumn → List Marked → List Row → List Row
refilled_rows layout new rows = map (λ p. laid_row layout p.0 p.1) (zip new rows)

-- a table with a new value for each row in the column of a name
abbrev pub filled : Name → List Marked → TableData → TableData
filled name new t = table_of t.columns (refilled_rows (refilled name t.columns) new t.rows) t.is_open t.is_loose

-- whether each column without a source has this value at its place already
abbrev pub stay : List LaidColumn → Marked → List Marked → Bool
stay layout new values = list_all (λ p. is_some p.0.source || same_marked p.1 new) (zip layout values)

-- whether they do in each row, with a new value of its own
abbrev pub all_stay : List LaidColumn → List Marked → List Row → Bool
all_stay layout new rows = list_all (λ p. stay layout p.0 p.1.values) (zip new rows)
