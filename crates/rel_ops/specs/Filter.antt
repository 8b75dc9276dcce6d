-- WHERE: the rows for which the condition is TRUE.
use Rattle.std.specs.Prelude.{ℕ, ◌||◌, is_none, Ok, List, filter}
use Rattle.std.specs.List.{list_any}
use Rattle.value_types.specs.declared.value.Value.{Value}
use Rattle.dataset_types.specs.declared.picks.Pick.{Pick}
use Rattle.dataset_types.specs.declared.row.Row.{Row}
use Rattle.dataset_types.specs.Plain.{PlainRow}
use Rattle.caveat_marks.specs.Shown.{ShownRow}
use Rattle.cell_errors.specs.Answers.{Answer, and_then}
use Rattle.expr_lang.specs.declared.expr.Expr.{Expr}
use Rattle.expr_meaning.specs.declared.bindings.ScopeColumn.{ScopeColumn}
use Rattle.expr_meaning.specs.Known.{Known}
use Rattle.expr_meaning.specs.Meaning.{marked_over_row, plain_over_row, known_over_row}
use Rattle.relations.specs.declared.batch.Batch.{Batch}
use Rattle.relations.specs.declared.condition.Test.{Test}
use Rattle.relations.specs.Rels.{RelData, rel_of, whole}
use Rattle.relations.specs.Bound.{bindings, plain_bindings, known_bindings}
use Rattle.relations.specs.Batches.{gathered}
use Rattle.relations.specs.Conditions.{test_of, kept, plain_kept, known_true}
use Rattle.relations.specs.Plain.{PlainRel, listed, plain_whole}
use Rattle.relations.specs.Shown.{ShownRel}

-- whether the condition is TRUE of a row
abbrev pub row_test : List ScopeColumn → Expr → List Pick → ℕ → Row → Answer Test
row_test columns condition picks cell r = test_of (marked_over_row (bindings columns r.values) picks cell condition)

-- what the condition makes of a row
abbrev pub where_row : List ScopeColumn → Expr → List Pick → ℕ → Row → Answer Batch
where_row columns condition picks cell r = and_then (row_test columns condition picks cell r) (λ t. Ok (kept r t))

-- a kept row is unsure where its condition is marked, and a marked condition on any row opens
abbrev pub filtered : RelData → Expr → List Pick → ℕ → Answer RelData
filtered rel condition picks cell =
    and_then (gathered (where_row rel.columns condition picks cell) rel.rows) (λ b.
    whole (rel_of rel.columns b.rows (rel.is_open || b.marked) rel.is_loose))

-- ---- without marks

-- the row where the condition is TRUE
abbrev pub plain_where : List ScopeColumn → Expr → List Pick → ℕ → PlainRow → Answer (List PlainRow)
plain_where columns condition picks cell r = plain_kept r (plain_over_row (plain_bindings columns r.values) picks cell condition)

-- the rows whose condition is TRUE
abbrev pub plain_filtered : PlainRel → Expr → List Pick → ℕ → Answer PlainRel
plain_filtered rel condition picks cell =
    and_then (listed (plain_where rel.columns condition picks cell) rel.rows) (λ rows.
    plain_whole (record { columns = rel.columns; rows = rows }))

-- ---- over what is shown

-- what is known of the condition of a row
abbrev pub known_where : List ScopeColumn → Expr → ShownRow → Known Value
known_where columns condition r = known_over_row (known_bindings columns r.values) condition

-- the rows whose condition is known to be TRUE; one that isn't known opens
abbrev pub shown_filtered : ShownRel → Expr → ShownRel
shown_filtered rel condition = record {
  columns = rel.columns;
  rows = filter (λ r. known_true (known_where rel.columns condition r)) rel.rows;
  is_open = rel.is_open || list_any (λ r. is_none (known_where rel.columns condition r)) rel.rows;
  is_loose = rel.is_loose;
}
