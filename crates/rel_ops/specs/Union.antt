-- UNION ALL: the rows of the left side, and then those of the right.
use Rattle.std.specs.Prelude.{Bool, ◌||◌, ◌++◌, List, map}
use Rattle.std.specs.Cmp.Lexicographic.{pointwise}
use Rattle.value_types.specs.Order.{same_type}
use Rattle.value_types.specs.declared.row_id.RowId.{RowId, First, Second}
use Rattle.value_types.specs.declared.value.ColumnType.{ColumnType}
use Rattle.dataset_types.specs.declared.row.Row.{Row}
use Rattle.dataset_types.specs.Plain.{PlainRow}
use Rattle.caveat_marks.specs.Shown.{ShownRow}
use Rattle.cell_errors.specs.Answers.{Answer}
use Rattle.expr_meaning.specs.declared.bindings.ScopeColumn.{ScopeColumn}
use Rattle.relations.specs.Rels.{RelData, rel_of, whole}
use Rattle.relations.specs.Plain.{PlainRel, plain_whole}
use Rattle.relations.specs.Shown.{ShownRel}

-- the types of columns
abbrev pub column_types : List ScopeColumn → List ColumnType
column_types columns = map (λ c. c.column.kind) columns

-- as many columns, each of the type of the other side's
abbrev pub types_agree : List ScopeColumn → List ScopeColumn → Bool
types_agree a b = pointwise same_type (column_types a) (column_types b)

-- a row of one side
abbrev pub sided : (RowId → RowId) → Row → Row
sided side r = record { id = side r.id; sure = r.sure; values = r.values }

-- the columns are those of the left side
abbrev pub united : RelData → RelData → Answer RelData
united a b =
    whole (rel_of a.columns (map (sided First) a.rows ++ map (sided Second) b.rows) (a.is_open || b.is_open) (a.is_loose || b.is_loose))

-- without marks
abbrev pub plain_sided : (RowId → RowId) → PlainRow → PlainRow
plain_sided side r = record { id = side r.id; values = r.values }

-- the rows of both sides
abbrev pub plain_united : PlainRel → PlainRel → Answer PlainRel
plain_united a b =
    plain_whole (record { columns = a.columns; rows = map (plain_sided First) a.rows ++ map (plain_sided Second) b.rows })

-- over what is shown
abbrev pub shown_sided : (RowId → RowId) → ShownRow → ShownRow
shown_sided side r = record { id = side r.id; values = r.values }

-- the rows of both sides that are shown
abbrev pub shown_united : ShownRel → ShownRel → ShownRel
shown_united a b = record {
  columns = a.columns;
  rows = map (shown_sided First) a.rows ++ map (shown_sided Second) b.rows;
  is_open = a.is_open || b.is_open;
  is_loose = a.is_loose || b.is_loose;
}
