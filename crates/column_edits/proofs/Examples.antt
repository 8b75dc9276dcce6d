-- Worked examples of the commands. Each gives the whole result, which is within the limits where these few rows are.
use Rattle.std.proofs.Common.{◌≡◌, refl, ap, ◌∙◌, true, false, None, Ok, Err, List, [], ◌∷◌}
use Rattle.std.specs.Prelude.{pos, codes}
use Rattle.value_types.specs.declared.value.ColumnType.{ColumnType}
use Rattle.value_types.specs.declared.value.ColumnType.TheVariants as kind
use Rattle.value_types.specs.declared.value.Value.{Value}
use Rattle.value_types.specs.declared.value.Value.TheVariants.{Null, Int, Fixed}
use Rattle.value_types.specs.declared.row_id.RowId.{Rec}
use Rattle.cell_errors.specs.Answers.{and_then}
use Rattle.cell_errors.specs.declared.fault.CellError.TheVariants as error
use Rattle.dataset_types.specs.declared.column.Column.{Column}
use Rattle.dataset_types.specs.declared.row.Marked.{Marked}
use Rattle.dataset_types.specs.declared.row.Row.{Row}
use Rattle.dataset_types.specs.Tables.{TableData, table_of}
use Rattle.expr_lang.specs.declared.expr.Expr.{Expr, Column as Named}
use Rattle.expr_meaning.specs.Names.{Name}
use Rattle.expr_meaning.specs.Settings.{at_row}
use Rattle.expr_meaning.specs.Types.{over_columns}
use Rattle.expr_meaning.proofs.Readings.{M-Column}
use Rattle.expr_meaning.proofs.Typings.{T-Column}
use Rattle.relations.specs.Bound.{bindings}
use Rattle.column_edits.specs.Plans.{insertion, deletion, renaming, moving, keeping}
use Rattle.edit_results.specs.Results.{whole}
use Rattle.column_edits.specs.Changes.{changed}
use Rattle.column_edits.specs.Formula.{scope, formula_type, open_to, entered_seen, refilled, formula_row}
use Rattle.column_edits.specs.Changes.{laid_row}

abbrev named : Name → ColumnType → Column
named name k = record { name = name; kind = k }

-- a value without a caveat, and one with
abbrev sound : Value → Marked
sound v = record { value = v; marked = false }

abbrev repaired : Value → Marked
repaired v = record { value = v; marked = true }

abbrev n : Column
n = named (codes "n") kind.Int

abbrev price : Column
price = named (codes "price") kind.Fixed

-- 3 at 2.5000, and an unsure row of 4 at a price that could not be read
abbrev first : List Marked → Row
first values = record { id = Rec 1; sure = true; values = values }

abbrev second : List Marked → Row
second values = record { id = Rec 2; sure = false; values = values }

abbrev three : Marked
three = sound (Int (pos 3))

abbrev four : Marked
four = sound (Int (pos 4))

abbrev read : Marked
read = sound (Fixed (pos 25000))

abbrev unread : Marked
unread = repaired Null

-- an open table of these columns and rows
abbrev table : List Column → List Row → TableData
table columns rows = table_of columns rows true false

abbrev prices : TableData
prices = table (n ∷ price ∷ []) (first (three ∷ read ∷ []) ∷ second (four ∷ unread ∷ []) ∷ [])

-- ---- insert_column: before the first place, and at the end

put_first : changed (insertion (codes "z") kind.Bool 1) prices
    ≡ whole (table (named (codes "z") kind.Bool ∷ n ∷ price ∷ []) (first (sound Null ∷ three ∷ read ∷ []) ∷ second (sound Null ∷ four ∷ unread ∷ []) ∷ []))
put_first = refl

put_last : changed (insertion (codes "z") kind.Bool 3) prices
    ≡ whole (table (n ∷ price ∷ named (codes "z") kind.Bool ∷ []) (first (three ∷ read ∷ sound Null ∷ []) ∷ second (four ∷ unread ∷ sound Null ∷ []) ∷ []))
put_last = refl

no_place : changed (insertion (codes "z") kind.Bool 4) prices ≡ Err error.NoColumn
no_place = refl

-- a place that isn't there comes before a name that is taken
no_place_first : changed (insertion (codes "n") kind.Bool 0) prices ≡ Err error.NoColumn
no_place_first = refl

taken : changed (insertion (codes "n") kind.Bool 1) prices ≡ Err error.NameTaken
taken = refl

-- ---- delete_column

without_n : changed (deletion (codes "n")) prices ≡ whole (table (price ∷ []) (first (read ∷ []) ∷ second (unread ∷ []) ∷ []))
without_n = refl

nothing_to_delete : changed (deletion (codes "z")) prices ≡ Err error.NoColumn
nothing_to_delete = refl

-- ---- rename_column

other_name : changed (renaming (codes "n") (codes "count")) prices
    ≡ whole (table (named (codes "count") kind.Int ∷ price ∷ []) (first (three ∷ read ∷ []) ∷ second (four ∷ unread ∷ []) ∷ []))
other_name = refl

own_name : changed (renaming (codes "n") (codes "n")) prices ≡ whole prices
own_name = refl

name_of_another : changed (renaming (codes "n") (codes "price")) prices ≡ Err error.NameTaken
name_of_another = refl

-- ---- move_column

to_the_end : changed (moving (codes "n") 2) prices ≡ whole (table (price ∷ n ∷ []) (first (read ∷ three ∷ []) ∷ second (unread ∷ four ∷ []) ∷ []))
to_the_end = refl

to_its_own_place : changed (moving (codes "n") 1) prices ≡ whole prices
to_its_own_place = refl

past_the_end : changed (moving (codes "n") 3) prices ≡ Err error.NoColumn
past_the_end = refl

-- ---- keep_columns

turned : changed (keeping (codes "price" ∷ codes "n" ∷ [])) prices ≡ whole (table (price ∷ n ∷ []) (first (read ∷ three ∷ []) ∷ second (unread ∷ four ∷ []) ∷ []))
turned = refl

one_that_is_not_there : changed (keeping (codes "n" ∷ codes "z" ∷ [])) prices ≡ Err error.NoColumn
one_that_is_not_there = refl

-- ---- formula price by n: an Int is widened, and the mark of the price that stood there is gone

abbrev by_n : Expr
by_n = Named None (codes "n")

goes_in : formula_type (codes "price") by_n prices.columns ≡ Ok kind.Fixed
goes_in = ap (λ a. and_then a (λ t. open_to kind.Fixed t)) (T-Column (over_columns (scope prices.columns)) None (codes "n")) ∙ refl

four_for_it : formula_row (codes "price") by_n [] 1 prices.columns kind.Fixed (second (four ∷ unread ∷ [])) ≡ Ok (second (four ∷ sound (Fixed (pos 40000)) ∷ []))
four_for_it =
    ap (λ s. and_then (entered_seen kind.Fixed s) (λ m. Ok (laid_row (refilled (codes "price") prices.columns) m (second (four ∷ unread ∷ [])))))
    (M-Column (at_row (bindings (scope prices.columns) (four ∷ unread ∷ []))) [] 1 None (codes "n")) ∙ refl

-- ---- formula n by price: a Fixed doesn't go into an Int

abbrev by_price : Expr
by_price = Named None (codes "price")

does_not_go_in : formula_type (codes "n") by_price prices.columns ≡ Err error.TypeFault
does_not_go_in = ap (λ a. and_then a (λ t. open_to kind.Int t)) (T-Column (over_columns (scope prices.columns)) None (codes "price")) ∙ refl

-- a marked value stays marked
marked_still : formula_row (codes "price") by_price [] 1 prices.columns kind.Fixed (second (four ∷ unread ∷ [])) ≡ Ok (second (four ∷ unread ∷ []))
marked_still =
    ap (λ s. and_then (entered_seen kind.Fixed s) (λ m. Ok (laid_row (refilled (codes "price") prices.columns) m (second (four ∷ unread ∷ [])))))
    (M-Column (at_row (bindings (scope prices.columns) (four ∷ unread ∷ []))) [] 1 None (codes "price")) ∙ refl
