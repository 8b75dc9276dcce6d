-- Columns by their names, and values as those of a column.
use Rattle.std.specs.Prelude.{ℕ, suc, if◌then◌else◌, Ok, Err, List, [], ◌∷◌}
use Rattle.std.specs.Str.{bytes_eq}
use Rattle.value_types.specs.declared.value.ColumnType.{ColumnType}
use Rattle.value_types.specs.declared.value.ColumnType.TheVariants as kind
use Rattle.value_types.specs.declared.value.Value.{Value}
use Rattle.value_types.specs.declared.value.Value.TheVariants as value
use Rattle.dataset_types.specs.declared.column.Column.{Column}
use Rattle.dataset_types.specs.Tables.{fits}
use Rattle.cell_errors.specs.Answers.{Answer}
use Rattle.cell_errors.specs.declared.fault.CellError.TheVariants as error
use Rattle.edit_results.specs.Widening.{as_fixed}
use Rattle.row_edits.specs.declared.columns.Found.{Found}

-- the column of this name, where the first has this place
abbrev pub find_from : ℕ → List ℕ → List Column → Answer Found
find_from n name [] = Err error.NoColumn
find_from n name (c ∷ cs) =
    if bytes_eq c.name name then Ok (record { place = n; kind = c.kind }) else find_from (suc n) name cs

-- the column of this name: its place, counted from 0, and its type
abbrev pub find_column : List Column → List ℕ → Answer Found
find_column columns name = find_from 0 name columns

-- a value as one of a type: an Int is widened into Fixed, and any other is as it is where it fits
abbrev pub value_for : ColumnType → Value → Answer Value
value_for kind.Fixed (value.Int n) = as_fixed n
value_for k v = if fits v k then Ok v else Err error.TypeFault
