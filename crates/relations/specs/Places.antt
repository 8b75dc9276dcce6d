-- The places of columns, counted from 0, and expressions that are the value at a place of a row.
use Rattle.std.specs.Prelude.{◌≡◌, ℕ, ◌+◌, length, slice_get, Option, None, Some, Ok, List, [], ◌∷◌}
use Rattle.std.specs.Result.{result_ok}
use Rattle.cell_errors.specs.Answers.{Answer, and_then}
use Rattle.dataset_types.specs.declared.picks.Pick.{Pick}
use Rattle.dataset_types.specs.declared.row.Marked.{Marked}
use Rattle.expr_lang.specs.declared.expr.Expr.{Expr, out-Expr}
use Rattle.expr_lang.specs.declared.expr.Expr.TheOpen.{Expr-F}
use Rattle.expr_meaning.specs.declared.bindings.ScopeColumn.{ScopeColumn}
use Rattle.expr_meaning.specs.Names.{Name, meant}
use Rattle.expr_meaning.specs.Meaning.{marked_over_row}
use Rattle.expr_meaning.specs.Sees.{seen}
use Rattle.relations.specs.declared.places.ColumnAt.{ColumnAt}
use Rattle.relations.specs.Bound.{bindings}

-- each column with its place, from this place on
abbrev pub placed_from : ℕ → List ScopeColumn → List ColumnAt
placed_from n [] = []
placed_from n (c ∷ cs) = record { place = n; column = c } ∷ placed_from (n + 1) cs

-- the column that a name stands for, with its place
abbrev pub find_placed : List ScopeColumn → Option Name → Name → Answer ColumnAt
find_placed columns q name = meant (λ p. p.column.qualifier) (λ p. p.column.column.name) q name (placed_from 0 columns)

-- the place of the column that a name stands for
abbrev pub place_of : List ScopeColumn → Option Name → Name → Answer ℕ
place_of columns q name = and_then (find_placed columns q name) (λ p. Ok p.place)

-- the place of the column that a form of an expression names
abbrev pub form_place : {A B : Type 0} → List ScopeColumn → Expr-F A B → Option ℕ
form_place columns (Expr-F.Column q name) = result_ok (place_of columns q name)
form_place columns f = None

-- the place of the column that an expression is, where it is one of these
abbrev pub column_place : List ScopeColumn → Expr → Option ℕ
column_place columns e = form_place columns (out-Expr e)

-- the expression is the value at the place, over any values of these columns
abbrev pub ReadsPlace : List ScopeColumn → ℕ → Expr → Type 0
ReadsPlace columns place e =
    (values : List Marked) (picks : List Pick) (cell : ℕ) (m : Marked) →
    length values ≡ length columns → slice_get values place ≡ Some m → marked_over_row (bindings columns values) picks cell e ≡ seen m
