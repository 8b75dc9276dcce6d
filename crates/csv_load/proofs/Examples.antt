-- Worked examples of loading.
use Rattle.std.specs.Prelude.{◌≡◌, refl, ℕ, codes, pos, negsuc, Bool, List, [], ◌∷◌, ◌++◌, true, false, Option, Some, None, Ok, Err}
use Rattle.std.specs.Fmt.{digits}
use Rattle.std.specs.Str.{chars, is_utf8}
use lib.Utf8.{encode}
use Rattle.csv.proofs.OnLiterals.{csv_on_literals}
use Rattle.value_types.specs.Numbers.{int_of, fixed_of, bool_of}
use Rattle.value_types.specs.declared.value.ColumnType.{ColumnType}
use Rattle.value_types.specs.declared.value.ColumnType.TheVariants as kind
use Rattle.value_types.specs.declared.value.Value.{Value}
use Rattle.value_types.specs.declared.value.Value.TheVariants as value
use Rattle.value_types.specs.declared.row_id.RowId.{Rec}
use Rattle.value_types.proofs.IdTexts.{id-Rec}
use Rattle.value_types.proofs.Weights.{parts-Rec}
use Rattle.dataset_types.specs.declared.load_options.Repair.TheVariants as repair
use Rattle.dataset_types.specs.declared.picks.Site.TheVariants as site
use Rattle.dataset_types.specs.declared.picks.Choice.TheVariants as choice
use Rattle.dataset_types.specs.declared.picks.Pick.{Pick}
use Rattle.dataset_types.specs.declared.row.Marked.{Marked}
use Rattle.dataset_types.specs.declared.row.Row.{Row}
use Rattle.dataset_types.specs.declared.column.Column.{Column}
use Rattle.dataset_types.specs.Picks.{pick_of}
use Rattle.dataset_types.specs.Tables.{table_of}
use Rattle.cell_errors.specs.declared.fault.CellError.TheVariants as error
use Rattle.csv_load.specs.Ends.{stripped}
use Rattle.csv_load.specs.Names.{names_of, base_name}
use Rattle.csv_load.specs.Guess.{guess}
use Rattle.csv_load.specs.Fields.{own_value}
use Rattle.csv_load.specs.Load.{load_of, records_of}

-- ---- records

-- the last record needs no line end
some_records : records_of (codes "a,b\n1\n2,\"3\",4\r\n5") ≡ (codes "a" ∷ codes "b" ∷ []) ∷ (codes "1" ∷ []) ∷ (codes "2" ∷ codes "3" ∷ codes "4" ∷ []) ∷ (codes "5" ∷ []) ∷ []
unfolding records_of csv_on_literals
some_records = refl

after_a_mark : records_of (239 ∷ 187 ∷ 191 ∷ codes "a\n") ≡ (codes "a" ∷ []) ∷ []
unfolding records_of csv_on_literals
after_a_mark = refl

-- ---- names of columns

made_distinct : names_of (codes "A b" ∷ codes "a_b" ∷ codes "1x" ∷ [] ∷ [] ∷ []) ≡ codes "a_b" ∷ codes "a_b_2" ∷ codes "c_1x" ∷ codes "c" ∷ codes "c_2" ∷ []
unfolding digits
made_distinct = refl

-- a number is passed over where its name is taken
numbers_taken : names_of (codes "a" ∷ codes "a_2" ∷ codes "a" ∷ codes "a_2" ∷ []) ≡ codes "a" ∷ codes "a_2" ∷ codes "a_3" ∷ codes "a_2_2" ∷ []
unfolding digits
numbers_taken = refl

inner_runs : base_name (codes "__x--Y 7__") ≡ codes "x_y_7"
inner_runs = refl

longest : base_name (codes "abcdefghijklmnopqrstuvwxyz") ≡ codes "abcdefghijklmnopqrstuvwx"
longest = refl

-- the cut can leave a `_` at the end
cut_at_a_gap : base_name (codes "abcdefghijklmnopqrstuvw xyz") ≡ codes "abcdefghijklmnopqrstuvw"
cut_at_a_gap = refl

no_ascii : base_name (195 ∷ 164 ∷ 98 ∷ 255 ∷ []) ≡ codes "b"
no_ascii = refl

nothing_left : base_name (codes " -- ") ≡ codes "c"
nothing_left = refl

-- ---- guesses

nine_of_ten : guess (codes "1" ∷ codes "2" ∷ codes "3" ∷ codes "4" ∷ codes "5" ∷ codes "6" ∷ codes "7" ∷ codes "8" ∷ codes "9" ∷ codes "x" ∷ []) ≡ kind.Int
unfolding int_of
nine_of_ten = refl

eight_of_nine : guess (codes "1" ∷ codes "2" ∷ codes "3" ∷ codes "4" ∷ codes "5" ∷ codes "6" ∷ codes "7" ∷ codes "8" ∷ codes "x" ∷ []) ≡ kind.Text
unfolding int_of fixed_of bool_of
eight_of_nine = refl

whole_and_fixed : guess (codes "1" ∷ codes "2.5" ∷ []) ≡ kind.Fixed
unfolding int_of fixed_of
whole_and_fixed = refl

truths : guess (codes "True" ∷ []) ≡ kind.Bool
unfolding int_of fixed_of bool_of
truths = refl

none_filled : guess [] ≡ kind.Text
none_filled = refl

-- ---- fields

inner_spaces_stay : stripped (codes "  a b ") ≡ codes "a b"
inner_spaces_stay = refl

blank_number : own_value kind.Int (codes "   ") ≡ Some value.Null
blank_number = refl

padded_number : own_value kind.Int (codes " -7 ") ≡ Some (value.Int (negsuc 6))
unfolding int_of
padded_number = refl

five_places : own_value kind.Fixed (codes "1.00001") ≡ None
unfolding fixed_of
five_places = refl

text_as_it_stands : own_value kind.Text (codes " a ") ≡ Some (value.Text (codes " a "))
unfolding is_utf8 chars encode
text_as_it_stands = refl

no_utf8 : own_value kind.Text (255 ∷ []) ≡ None
unfolding is_utf8 chars encode
no_utf8 = refl

-- ---- files

column : List ℕ → ColumnType → Column
column name k = record { name = name; kind = k }

-- a value as the file has it, and one that stands for a field
read : Value → Marked
read v = record { value = v; marked = false }

repaired : Value → Marked
repaired v = record { value = v; marked = true }

sure_row : ℕ → List Marked → Row
sure_row n values = record { id = Rec n; sure = true; values = values }

unsure : ℕ → List Marked → Row
unsure n values = record { id = Rec n; sure = false; values = values }

no_record : load_of [] [] repair.Null [] 1 ≡ Err error.NoHeader
unfolding load_of records_of csv_on_literals
no_record = refl

prices : List ℕ
prices = codes "id,price\n1,2.50\n2,abc\n"

prices_types : List (Option ColumnType)
prices_types = Some kind.Int ∷ Some kind.Fixed ∷ []

prices_columns : List Column
prices_columns = column (codes "id") kind.Int ∷ column (codes "price") kind.Fixed ∷ []

first_price : Row
first_price = sure_row 1 (read (value.Int (pos 1)) ∷ read (value.Fixed (pos 25000)) ∷ [])

second_price : Value → Row
second_price v = sure_row 2 (read (value.Int (pos 2)) ∷ repaired v ∷ [])

repaired_by_null : load_of prices prices_types repair.Null [] 1 ≡ Ok (table_of prices_columns (first_price ∷ second_price value.Null ∷ []) false false)
unfolding load_of records_of csv_on_literals int_of fixed_of digits prices prices_types prices_columns first_price second_price column read repaired sure_row
repaired_by_null = simp (id-Rec, parts-Rec)

repaired_by_zero : load_of prices prices_types repair.Zero [] 1 ≡ Ok (table_of prices_columns (first_price ∷ second_price (value.Fixed (pos 0)) ∷ []) false false)
unfolding load_of records_of csv_on_literals int_of fixed_of digits prices prices_types prices_columns first_price second_price column read repaired sure_row
repaired_by_zero = simp (id-Rec, parts-Rec)

price_pick : Value → Pick
price_pick v = pick_of 1 (site.Field 2 2) (choice.Value v)

-- a pick is widened as the column is
picked_and_widened : load_of prices prices_types repair.Null (price_pick (value.Int (pos 7)) ∷ []) 1 ≡ Ok (table_of prices_columns (first_price ∷ second_price (value.Fixed (pos 70000)) ∷ []) false false)
unfolding load_of records_of csv_on_literals int_of fixed_of digits prices prices_types prices_columns first_price second_price column read repaired sure_row price_pick
picked_and_widened = simp (id-Rec, parts-Rec)

-- the last pick counts, also where it doesn't fit and an earlier one did
last_pick_unfit : load_of prices prices_types repair.Null (price_pick (value.Int (pos 7)) ∷ price_pick (value.Text (codes "x")) ∷ []) 1 ≡ Ok (table_of prices_columns (first_price ∷ second_price value.Null ∷ []) false false)
unfolding load_of records_of csv_on_literals int_of fixed_of digits prices prices_types prices_columns first_price second_price column read repaired sure_row price_pick
last_pick_unfit = simp (id-Rec, parts-Rec)

ragged : List ℕ
ragged = codes "a,b\n1\n2,3,4\n"

ragged_types : List (Option ColumnType)
ragged_types = Some kind.Int ∷ Some kind.Int ∷ []

ragged_columns : List Column
ragged_columns = column (codes "a") kind.Int ∷ column (codes "b") kind.Int ∷ []

short_row : Row
short_row = sure_row 1 (read (value.Int (pos 1)) ∷ repaired value.Null ∷ [])

ragged_records : load_of ragged ragged_types repair.Null [] 1 ≡ Ok (table_of ragged_columns (short_row ∷ unsure 2 (read (value.Int (pos 2)) ∷ read (value.Int (pos 3)) ∷ []) ∷ []) true false)
unfolding load_of records_of csv_on_literals int_of digits ragged ragged_types ragged_columns short_row column read repaired sure_row unsure
ragged_records = simp (id-Rec, parts-Rec)

-- the table is open also where the surplus record isn't kept
not_kept : load_of ragged ragged_types repair.Null (pick_of 1 (site.Record 2) (choice.Keep false) ∷ []) 1 ≡ Ok (table_of ragged_columns (short_row ∷ []) true false)
unfolding load_of records_of csv_on_literals int_of digits ragged ragged_types ragged_columns short_row column read repaired sure_row
not_kept = simp (id-Rec, parts-Rec)

-- a type that isn't declared is guessed, and a missing field of a Text is a site too
half_declared : load_of (codes "n,t\n1\n") (None ∷ Some kind.Text ∷ []) repair.Zero [] 1 ≡ Ok (table_of (column (codes "n") kind.Int ∷ column (codes "t") kind.Text ∷ []) (sure_row 1 (read (value.Int (pos 1)) ∷ repaired (value.Text []) ∷ []) ∷ []) false false)
unfolding load_of records_of csv_on_literals int_of fixed_of bool_of digits column read repaired sure_row
half_declared = simp (id-Rec, parts-Rec)
