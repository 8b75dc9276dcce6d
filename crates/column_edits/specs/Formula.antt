-- The command formula: a column whose value in each row is an expression's over that row.
use Rattle.std.specs.Prelude.{ℕ, if◌then◌else◌, Bool, true, Option, Some, None, Ok, Err, List, map}
use Rattle.value_types.specs.Order.{same_type}
use Rattle.value_types.specs.declared.value.ColumnType.{ColumnType}
use Rattle.value_types.specs.declared.value.ColumnType.TheVariants as kind
use Rattle.value_types.specs.declared.value.Value.{Value}
use Rattle.value_types.specs.declared.value.Value.TheVariants as value
use Rattle.cell_errors.specs.declared.fault.CellError.TheVariants as error
use Rattle.cell_errors.specs.Answers.{Answer, and_then, collect}
use Rattle.cell_errors.specs.Seen.{Seen}
use Rattle.dataset_types.specs.declared.column.Column.{Column}
use Rattle.dataset_types.specs.declared.picks.Pick.{Pick}
use Rattle.dataset_types.specs.declared.row.Marked.{Marked}
use Rattle.dataset_types.specs.declared.row.Row.{Row}
use Rattle.dataset_types.specs.Tables.{TableData, table_of}
use Rattle.dataset_types.specs.Plain.{PlainRow, PlainTable}
use Rattle.caveat_marks.specs.Shown.{ShownTable}
use Rattle.expr_lang.specs.declared.expr.Expr.{Expr}
use Rattle.expr_meaning.specs.declared.bindings.ScopeColumn.{ScopeColumn}
use Rattle.expr_meaning.specs.declared.expr_type.ExprType.{ExprType}
use Rattle.expr_meaning.specs.declared.expr_type.ExprType.TheVariants.{Null, Of}
use Rattle.expr_meaning.specs.Known.{Known}
use Rattle.expr_meaning.specs.Meaning.{marked_over_row, plain_over_row, known_over_row}
use Rattle.expr_meaning.specs.Names.{Name}
use Rattle.expr_meaning.specs.Types.{type_over}
use Rattle.relations.specs.Bound.{bindings, plain_bindings, known_bindings}
use Rattle.relations.specs.Rels.{qualified}
use Rattle.edit_results.specs.Results.{whole, plain_whole}
use Rattle.edit_results.specs.Widening.{as_fixed}
use Rattle.column_edits.specs.declared.layout.LaidColumn.{LaidColumn}
use Rattle.column_edits.specs.Layout.{as_they_stand, laid}
use Rattle.column_edits.specs.Plans.{has_name, find}
use Rattle.column_edits.specs.Changes.{laid_row, plain_laid_row, shown_with}

-- ---- types

-- what the names of the expression may be: the columns, without a qualifier
abbrev pub scope : List Column → List ScopeColumn
scope columns = map (qualified None) columns

-- whether an expression of a type goes into a column: NULL, one type, or an Int into a Fixed
abbrev pub goes_into : ColumnType → ExprType → Bool
goes_into k Null = true
goes_into kind.Fixed (Of kind.Int) = true
goes_into k (Of l) = same_type k l

-- the type, where an expression of the other goes into a column of it
abbrev pub open_to : ColumnType → ExprType → Answer ColumnType
open_to k t = if goes_into k t then Ok k else Err error.TypeFault

-- the type of the column, where there is one and the expression goes into it
abbrev pub formula_type : Name → Expr → List Column → Answer ColumnType
formula_type name expr columns =
    and_then (find name (as_they_stand columns)) (λ c.
    and_then (type_over (scope columns) expr) (λ t. open_to c.column.kind t))

-- ---- values

-- a value as one of a column's type: an Int is widened into a Fixed, and all else stays
abbrev pub entered : ColumnType → Value → Answer Value
entered kind.Fixed (value.Int n) = as_fixed n
entered k v = Ok v

-- a value as one of a column's type, with its mark
abbrev pub entered_seen : ColumnType → Seen Value → Answer Marked
entered_seen k s = and_then s.answer (λ v. and_then (entered k v) (λ w. Ok (record { value = w; marked = s.marked })))

-- the expression's value over a row, as one of the column's type
abbrev pub value_over : List ScopeColumn → Expr → List Pick → ℕ → ColumnType → Row → Answer Marked
value_over names expr picks cell k r = entered_seen k (marked_over_row (bindings names r.values) picks cell expr)

-- a column that takes a new value in each row
abbrev pub emptied : LaidColumn → LaidColumn
emptied c = record { column = c.column; source = None }

-- the columns, that of a name with a new value in each row
abbrev pub emptied_at : Name → List LaidColumn → List LaidColumn
emptied_at name layout = map (λ c. if has_name name c then emptied c else c) layout

-- the columns as they stand, but that of a name takes a new value
abbrev pub refilled : Name → List Column → List LaidColumn
refilled name columns = emptied_at name (as_they_stand columns)

-- ---- with marks

-- a row under a layout, with the expression's value in the column without a source
abbrev pub row_with : List ScopeColumn → List LaidColumn → Expr → List Pick → ℕ → ColumnType → Row → Answer Row
row_with names layout expr picks cell k r =
    and_then (value_over names expr picks cell k r) (λ m. Ok (laid_row layout m r))

-- a row with the expression's value in the column
abbrev pub formula_row : Name → Expr → List Pick → ℕ → List Column → ColumnType → Row → Answer Row
formula_row name expr picks cell columns k = row_with (scope columns) (refilled name columns) expr picks cell k

-- the types first, then row by row, then the limits
abbrev pub formula : Name → Expr → List Pick → ℕ → TableData → Answer TableData
formula name expr picks cell t =
    and_then (formula_type name expr t.columns) (λ k.
    and_then (collect (formula_row name expr picks cell t.columns k) t.rows) (λ rows.
    whole (table_of t.columns rows t.is_open t.is_loose)))

-- ---- without marks

-- a row with the expression's value in the column
abbrev pub plain_formula_row : Name → Expr → List Pick → ℕ → List Column → ColumnType → PlainRow → Answer PlainRow
plain_formula_row name expr picks cell columns k r =
    and_then (plain_over_row (plain_bindings (scope columns) r.values) picks cell expr) (λ v.
    and_then (entered k v) (λ w. Ok (plain_laid_row (refilled name columns) w r)))

-- the types first, then row by row, then the limits
abbrev pub plain_formula : Name → Expr → List Pick → ℕ → PlainTable → Answer PlainTable
plain_formula name expr picks cell t =
    and_then (formula_type name expr t.columns) (λ k.
    and_then (collect (plain_formula_row name expr picks cell t.columns k) t.rows) (λ rows.
    plain_whole (record { columns = t.columns; rows = rows })))

-- ---- over what is shown

-- a value, where there is no error
abbrev pub value_in : Answer Value → Option Value
value_in (Ok v) = Some v
value_in (Err e) = None

-- a value as one of a column's type, where it is known
abbrev pub entered_known : ColumnType → Known Value → Option Value
entered_known k None = None
entered_known k (Some a) = value_in (and_then a (entered k))

-- the values of a row, with what is known of the expression in the column
abbrev pub shown_refilled : Name → Expr → List Column → ColumnType → List (Option Value) → List (Option Value)
shown_refilled name expr columns k values =
    laid (entered_known k (known_over_row (known_bindings (scope columns) values) expr)) (refilled name columns) values

-- the types first, then row by row
abbrev pub shown_formula : Name → Expr → ShownTable → Answer ShownTable
shown_formula name expr s =
    and_then (formula_type name expr s.columns) (λ k. Ok (shown_with s.columns (shown_refilled name expr s.columns k) s))
