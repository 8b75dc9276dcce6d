-- The types of columns: declared, or guessed from all records (docs/FORMATS.md, "Loaded files").
use Rattle.std.specs.Prelude.{ℕ, ◌*◌, ◌&&◌, nat_lt, nat_le, if◌then◌else◌, List, [], ◌∷◌, length, map, Bool, true, false, Option, Some, None, is_some, option_map, unwrap_or, slice_get, filter, filter_map, count_by}
use Rattle.std.specs.List.{enumerate_from}
use Rattle.std.specs.Str.{is_utf8}
use Rattle.value_types.specs.Numbers.{int_of, fixed_of, bool_of}
use Rattle.value_types.specs.declared.value.ColumnType.{ColumnType}
use Rattle.value_types.specs.declared.value.ColumnType.TheVariants as kind
use Rattle.value_types.specs.declared.value.Value.{Value}
use Rattle.value_types.specs.declared.value.Value.TheVariants as value
use Rattle.dataset_types.specs.declared.column.Column.{Column}
use Rattle.csv_load.specs.Ends.{stripped}
use Rattle.csv_load.specs.Names.{names_of}

-- the value that a text is read as in a type
abbrev pub read : ColumnType → List ℕ → Option Value
read kind.Bool text = option_map value.Bool (bool_of text)
read kind.Int text = option_map value.Int (int_of text)
read kind.Fixed text = option_map value.Fixed (fixed_of text)
read kind.Text text = if is_utf8 text then Some (value.Text text) else None

-- whether a type's grammar reads a text
abbrev pub is_readable : ColumnType → List ℕ → Bool
is_readable k text = is_some (read k text)

-- whether a text has a byte
abbrev pub is_filled : List ℕ → Bool
is_filled [] = false
is_filled (b ∷ bs) = true

-- the fields at a place, counted from 0: stripped, of the records where it is there and not empty then
abbrev pub column_texts : ℕ → List (List (List ℕ)) → List (List ℕ)
column_texts j records = filter is_filled (filter_map (λ r. option_map stripped (slice_get r j)) records)

-- of so many texts, of which there is one, at least nine in ten are readable
abbrev pub mostly : ℕ → ℕ → Bool
mostly readable filled = nat_lt 0 filled && nat_le (9 * filled) (10 * readable)

-- by how many texts there are, and how many of them are readable as Int, as Fixed and as Bool: the first that mostly are
abbrev pub guess_by : ℕ → ℕ → ℕ → ℕ → ColumnType
guess_by filled ints fixeds truths =
    if mostly ints filled then kind.Int
    else (if mostly fixeds filled then kind.Fixed
    else (if mostly truths filled then kind.Bool
    else kind.Text))

-- the type of these texts
abbrev pub guess : List (List ℕ) → ColumnType
guess texts =
    guess_by (length texts) (count_by (is_readable kind.Int) texts) (count_by (is_readable kind.Fixed) texts)
    (count_by (is_readable kind.Bool) texts)

-- the type that is declared for a place, counted from 0
abbrev pub declared : List (Option ColumnType) → ℕ → Option ColumnType
declared types j = unwrap_or (slice_get types j) None

-- the type of the column at a place: the declared one, else the guess over all records
abbrev pub kind_of : List (Option ColumnType) → List (List (List ℕ)) → ℕ → ColumnType
kind_of types records j = unwrap_or (declared types j) (guess (column_texts j records))

-- the columns of a header and of the records after it
abbrev pub columns_of : List (Option ColumnType) → List (List ℕ) → List (List (List ℕ)) → List Column
columns_of types header records =
    map (λ p. record { name = p.1; kind = kind_of types records p.0 }) (enumerate_from 0 (names_of header))
