-- ON that compares two columns by their places.
use Rattle.std.specs.Prelude.{◌≡◌, ℕ, ◌||◌, length, slice_get, Some, List}
use Rattle.value_types.specs.declared.value.Value.{Value}
use Rattle.dataset_types.specs.declared.picks.Pick.{Pick}
use Rattle.dataset_types.specs.declared.row.Marked.{Marked}
use Rattle.cell_errors.specs.Answers.{Answer}
use Rattle.cell_errors.specs.Seen.{Seen}
use Rattle.expr_lang.specs.declared.expr.Expr.{Expr}
use Rattle.expr_ops.specs.Compare.{equal}
use Rattle.expr_meaning.specs.declared.bindings.ScopeColumn.{ScopeColumn}
use Rattle.expr_meaning.specs.Meaning.{marked_over_row}
use Rattle.relations.specs.declared.condition.Test.{Test}
use Rattle.relations.specs.Bound.{bindings}
use Rattle.relations.specs.Conditions.{test_of}
use Rattle.rel_join.specs.declared.equality.Equality.{Equality}

-- whether two values are equal, marked where one of them is
abbrev pub equal_seen : Marked → Marked → Seen Value
equal_seen x y = record { marked = x.marked || y.marked; answer = equal x.value y.value }

-- the same as a test
abbrev pub equal_test : Marked → Marked → Answer Test
equal_test x y = test_of (equal_seen x y)

-- the expression is whether the values at the two places are equal
abbrev pub ComparesPlaces : List ScopeColumn → Equality → Expr → Type 0
ComparesPlaces columns at e =
    (values : List Marked) (picks : List Pick) (cell : ℕ) (x y : Marked) → length values ≡ length columns →
    slice_get values at.first ≡ Some x → slice_get values at.second ≡ Some y →
    marked_over_row (bindings columns values) picks cell e ≡ equal_seen x y
