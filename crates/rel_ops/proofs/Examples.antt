-- Worked examples of the steps. Each gives the whole result, which is within the limits where these few rows are.
use Rattle.std.proofs.Common.{◌≡◌, refl, ap, ◌∙◌, true, false, ◌||◌, List, [], ◌∷◌, Ok}
use Rattle.std.specs.Prelude.{None, pos, codes}
use Rattle.value_types.specs.declared.value.ColumnType.TheVariants as kind
use Rattle.value_types.specs.declared.value.Value.{Value}
use Rattle.value_types.specs.declared.value.Value.TheVariants.{Null, Bool as Truth, Int, Fixed}
use Rattle.value_types.specs.declared.row_id.RowId.{RowId, Rec, First, Second}
use Rattle.cell_errors.specs.Answers.{and_then}
use Rattle.cell_errors.specs.Seen.{Seen, seen_then, unmarked}
use Rattle.dataset_types.specs.declared.row.Marked.{Marked}
use Rattle.dataset_types.specs.declared.row.Row.{Row}
use Rattle.expr_lang.specs.declared.ops.BinaryOp.TheVariants as binary
use Rattle.expr_lang.specs.declared.expr.Expr.{Expr, Binary, Column, Literal}
use Rattle.expr_meaning.specs.declared.bindings.ScopeColumn.{ScopeColumn}
use Rattle.expr_meaning.specs.declared.expr_type.ExprType.TheVariants.{Null as Unknown}
use Rattle.expr_meaning.specs.Settings.{at_row}
use Rattle.expr_meaning.specs.Forms.{applied}
use Rattle.expr_meaning.specs.Meaning.{find_marked, marked_over_row}
use Rattle.expr_meaning.proofs.Readings.{M-Binary, M-Column, M-Literal}
use Rattle.relations.specs.declared.parts.SortKey.{SortKey}
use Rattle.relations.specs.Rels.{RelData, rel_of, whole}
use Rattle.relations.specs.Bound.{bindings}
use Rattle.relations.specs.Batches.{gathered}
use Rattle.rel_ops.specs.Filter.{where_row, filtered}
use Rattle.rel_ops.specs.Project.{output_column}
use Rattle.rel_ops.specs.Sort.{ordered}
use Rattle.rel_ops.specs.Limit.{limited}
use Rattle.rel_ops.specs.Union.{sided, united}

-- a value without a caveat, and one with
abbrev plain : Value → Marked
plain v = record { value = v; marked = false }

abbrev repaired : Value → Marked
repaired v = record { value = v; marked = true }

abbrev row : RowId → Value → Marked → Row
row id n price = record { id = id; sure = true; values = plain n ∷ price ∷ [] }

abbrev unsure : Row → Row
unsure r = record { id = r.id; sure = false; values = r.values }

-- prices, one of which can't be read
abbrev columns : List ScopeColumn
columns =
    record { qualifier = None; column = record { name = codes "id"; kind = kind.Int } }
    ∷ record { qualifier = None; column = record { name = codes "price"; kind = kind.Fixed } } ∷ []

abbrev cheap : Row
cheap = row (Rec 1) (Int (pos 1)) (plain (Fixed (pos 25000)))

abbrev unread : Row
unread = row (Rec 2) (Int (pos 2)) (repaired Null)

abbrev prices : RelData
prices = rel_of columns (cheap ∷ unread ∷ []) false false

-- ---- WHERE price > 2: a row that isn't there leaves a caveat

abbrev over_two : Expr
over_two = Binary binary.Greater (Column None (codes "price")) (Literal (Int (pos 2)))

seen_over_two : (r : Row) → marked_over_row (bindings columns r.values) [] 1 over_two
    ≡ applied (Seen Value) seen_then unmarked binary.Greater (find_marked (bindings columns r.values) None (codes "price")) (unmarked (Ok (Int (pos 2))))
seen_over_two r =
    let s = at_row (bindings columns r.values) in
    M-Binary s [] 1 binary.Greater (Column None (codes "price")) (Literal (Int (pos 2)))
    ∙ rw (M-Column s [] 1 None (codes "price"), M-Literal s [] 1 (Int (pos 2))) refl

of_cheap : marked_over_row (bindings columns cheap.values) [] 1 over_two ≡ unmarked (Ok (Truth true))
of_cheap = seen_over_two cheap ∙ refl

of_unread : marked_over_row (bindings columns unread.values) [] 1 over_two ≡ record { marked = true; answer = Ok Null }
of_unread = seen_over_two unread ∙ refl

rows_over_two : gathered (where_row columns over_two [] 1) prices.rows ≡ Ok (record { rows = cheap ∷ []; marked = true })
rows_over_two = rw (of_cheap, of_unread) refl

prices_over_two : filtered prices over_two [] 1 ≡ whole (rel_of columns (cheap ∷ []) true false)
prices_over_two = ap (λ b. and_then b (λ c. whole (rel_of columns c.rows (prices.is_open || c.marked) prices.is_loose))) rows_over_two ∙ refl

-- ---- ORDER BY price, and LIMIT 1 after it

abbrev by_price : List SortKey
by_price = record { column = 2; descending = false } ∷ []

abbrev by_price_down : List SortKey
by_price_down = record { column = 2; descending = true } ∷ []

-- NULL comes first, and that it does rests on a guess
prices_in_order : ordered prices by_price ≡ whole (rel_of columns (unread ∷ cheap ∷ []) false true)
prices_in_order = refl

prices_downward : ordered prices by_price_down ≡ whole (rel_of columns (cheap ∷ unread ∷ []) false true)
prices_downward = refl

-- by a column without a caveat the order is certain
by_id : ordered prices (record { column = 1; descending = false } ∷ []) ≡ whole prices
by_id = refl

first_of_loose : limited (rel_of columns (unread ∷ cheap ∷ []) false true) 1 ≡ whole (rel_of columns (unsure unread ∷ []) true true)
first_of_loose = refl

-- a limit above the number of rows still leaves every row of an open relation unsure
all_of_open : limited (rel_of columns (cheap ∷ []) true false) 5 ≡ whole (rel_of columns (unsure cheap ∷ []) true false)
all_of_open = refl

first_of_certain : limited prices 1 ≡ whole (rel_of columns (cheap ∷ []) false false)
first_of_certain = refl

-- ---- UNION ALL

abbrev one_price : RelData
one_price = rel_of columns (cheap ∷ []) false false

twice : united one_price one_price ≡ whole (rel_of columns (sided First cheap ∷ sided Second cheap ∷ []) false false)
twice = refl

-- open or loose where a side is
beside_open : united one_price (rel_of columns [] true true) ≡ whole (rel_of columns (sided First cheap ∷ []) true true)
beside_open = refl

-- ---- output columns

null_is_text : output_column (codes "x") Unknown ≡ record { qualifier = None; column = record { name = codes "x"; kind = kind.Text } }
null_is_text = refl
