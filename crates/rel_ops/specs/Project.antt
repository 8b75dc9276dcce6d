-- The items: one value for each of them in each row.
use Rattle.std.specs.Prelude.{ℕ, false, Option, Some, None, Ok, Err, List, [], ◌∷◌, map}
use Rattle.value_types.specs.declared.value.Value.{Value}
use Rattle.value_types.specs.declared.value.ColumnType.{ColumnType}
use Rattle.value_types.specs.declared.value.ColumnType.TheVariants as kind
use Rattle.dataset_types.specs.declared.picks.Pick.{Pick}
use Rattle.dataset_types.specs.declared.row.Marked.{Marked}
use Rattle.dataset_types.specs.declared.row.Row.{Row}
use Rattle.dataset_types.specs.Plain.{PlainRow}
use Rattle.caveat_marks.specs.Shown.{ShownRow}
use Rattle.cell_errors.specs.Answers.{Answer, and_then, collect}
use Rattle.cell_errors.specs.Seen.{Seen}
use Rattle.expr_meaning.specs.declared.bindings.Binding.{Binding}
use Rattle.expr_meaning.specs.declared.bindings.ScopeColumn.{ScopeColumn}
use Rattle.expr_meaning.specs.declared.expr_type.ExprType.{ExprType}
use Rattle.expr_meaning.specs.declared.expr_type.ExprType.TheVariants.{Null, Of}
use Rattle.expr_meaning.specs.Known.{Known}
use Rattle.expr_meaning.specs.Names.{Name}
use Rattle.expr_meaning.specs.Settings.{PlainBinding}
use Rattle.expr_meaning.specs.Meaning.{marked_over_row, plain_over_row, known_over_row}
use Rattle.expr_meaning.specs.Types.{TypeSetting, type_at, over_columns}
use Rattle.relations.specs.declared.batch.Batch.{Batch}
use Rattle.relations.specs.declared.parts.Item.{Item}
use Rattle.relations.specs.Rels.{RelData, rel_of, whole}
use Rattle.relations.specs.Bound.{bindings, plain_bindings, known_bindings}
use Rattle.relations.specs.Batches.{gathered}
use Rattle.relations.specs.Plain.{PlainRel, listed, plain_whole}
use Rattle.relations.specs.Shown.{ShownRel}

-- the names of the output columns
abbrev pub item_names : List Item → List Name
item_names items = map (λ i. i.name) items

-- the type of a column for an expression's type: an output that is NULL alone is Text
abbrev pub kind_of : ExprType → ColumnType
kind_of Null = kind.Text
kind_of (Of k) = k

-- an output column, which has no qualifier
abbrev pub output_column : Name → ExprType → ScopeColumn
output_column name t = record { qualifier = None; column = record { name = name; kind = kind_of t } }

-- the output column of an item, over a row or in groups
abbrev pub item_column : TypeSetting → Item → Answer ScopeColumn
item_column types i = and_then (type_at types i.expr) (λ t. Ok (output_column i.name t))

-- the output columns, or the first error of types
abbrev pub item_columns : TypeSetting → List Item → Answer (List ScopeColumn)
item_columns types items = collect (item_column types) items

-- a value with its mark
abbrev pub marked_value : Seen Value → Answer Marked
marked_value s = and_then s.answer (λ v. Ok (record { value = v; marked = s.marked }))

-- the value of an item over a row
abbrev pub item_value : List Binding → List Pick → ℕ → Item → Answer Marked
item_value row picks cell i = marked_value (marked_over_row row picks cell i.expr)

-- the values of all items, or the first error
abbrev pub values_over : List Binding → List Item → List Pick → ℕ → Answer (List Marked)
values_over row items picks cell = collect (item_value row picks cell) items

-- the row with these values, which opens nothing
abbrev pub with_values : Row → List Marked → Batch
with_values r values = record { rows = record { id = r.id; sure = r.sure; values = values } ∷ []; marked = false }

-- the values of the items of a row, or the first error
abbrev pub values_at : List ScopeColumn → List Item → List Pick → ℕ → Row → Answer (List Marked)
values_at columns items picks cell r = values_over (bindings columns r.values) items picks cell

-- the row of the items' values, or the first error
abbrev pub item_row : List ScopeColumn → List Item → List Pick → ℕ → Row → Answer Batch
item_row columns items picks cell r = and_then (values_at columns items picks cell r) (λ values. Ok (with_values r values))

-- that there is no error, or the first
abbrev pub no_error : Answer Batch → Answer (Unit {0})
no_error (Ok b) = Ok tt
no_error (Err e) = Err e

-- one row for each, under these columns
abbrev pub projected_to : List ScopeColumn → RelData → List Item → List Pick → ℕ → Answer RelData
projected_to columns rel items picks cell =
    and_then (gathered (item_row rel.columns items picks cell) rel.rows) (λ b.
    whole (rel_of columns b.rows rel.is_open rel.is_loose))

-- the columns first, and then the rows
abbrev pub projected : RelData → List Item → List Pick → ℕ → Answer RelData
projected rel items picks cell = and_then (item_columns (over_columns rel.columns) items) (λ columns. projected_to columns rel items picks cell)

-- ---- without marks

-- the value of an item over a row
abbrev pub plain_value : List PlainBinding → List Pick → ℕ → Item → Answer Value
plain_value row picks cell i = plain_over_row row picks cell i.expr

-- the row of the items' values
abbrev pub plain_item : List ScopeColumn → List Item → List Pick → ℕ → PlainRow → Answer (List PlainRow)
plain_item columns items picks cell r =
    and_then (collect (plain_value (plain_bindings columns r.values) picks cell) items) (λ values.
    Ok (record { id = r.id; values = values } ∷ []))

-- one row for each, under the items' columns
abbrev pub plain_projected : PlainRel → List Item → List Pick → ℕ → Answer PlainRel
plain_projected rel items picks cell =
    and_then (item_columns (over_columns rel.columns) items) (λ columns.
    and_then (listed (plain_item rel.columns items picks cell) rel.rows) (λ rows.
    plain_whole (record { columns = columns; rows = rows })))

-- ---- over what is shown

-- a value, where it is known
abbrev pub value_known : Known Value → Option Value
value_known None = None
value_known (Some (Ok v)) = Some v
value_known (Some (Err e)) = None

-- what is known of the items' values
abbrev pub shown_values : List ScopeColumn → List Item → List (Option Value) → List (Option Value)
shown_values columns items values = map (λ i. value_known (known_over_row (known_bindings columns values) i.expr)) items

-- what is known of a row's items
abbrev pub shown_item : List ScopeColumn → List Item → ShownRow → ShownRow
shown_item columns items r = record { id = r.id; values = shown_values columns items r.values }

-- the columns, where there is no error
abbrev pub columns_in : Answer (List ScopeColumn) → List ScopeColumn
columns_in (Ok columns) = columns
columns_in (Err e) = []

-- one row for each, under the items' columns
abbrev pub shown_projected : ShownRel → List Item → ShownRel
shown_projected rel items = record {
  columns = columns_in (item_columns (over_columns rel.columns) items);
  rows = map (shown_item rel.columns items) rel.rows;
  is_open = rel.is_open;
  is_loose = rel.is_loose;
}
