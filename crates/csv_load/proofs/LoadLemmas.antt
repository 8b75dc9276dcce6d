-- What a load gives, by the records of its file.
use Rattle.std.proofs.Common.{◌≡◌, ◌≤◌, ◌<◌, ◌+◌, ◌^◌, ℕ, List, [], ◌∷◌, length, Bool, true, false, refl, sym, ◌∙◌, ap, arith}
use Rattle.std.specs.Prelude.{◌&&◌, nat_le, Option, Err, if◌then◌else◌}
use Rattle.std.proofs.lemmas.Bool.Decides.{nat_tests}
use Rattle.csv.specs.Reading.{strip_bom, is_bom}
use Rattle.csv.specs.declared.parser.State.TheVariants as st
use Rattle.value_types.specs.declared.value.ColumnType.{ColumnType}
use Rattle.dataset_types.specs.declared.load_options.Repair.{Repair}
use Rattle.dataset_types.specs.declared.picks.Pick.{Pick}
use Rattle.dataset_types.specs.Tables.{Distinct, column_names, few_columns}
use Rattle.dataset_types.specs.declared.column.Column.{Column}
use Rattle.cell_errors.specs.declared.fault.CellError.TheVariants as error
use Rattle.csv_load.specs.Guess.{columns_of}
use Rattle.csv_load.specs.Fields.{Repairs}
use Rattle.csv_load.specs.Load.{records_of, table_in, loaded, limited, load_of}
use Rattle.csv_load.proofs.Records.{few_records}
use Rattle.csv_load.proofs.RowLemmas.{past}
use Rattle.csv_load.proofs.TableParts.{columns_many, columns_distinct}

strip_short : (bytes : List ℕ) → length (strip_bom bytes) ≤ length bytes
unfolding strip_bom
strip_short [] = omega arith
strip_short (a ∷ []) = omega arith
strip_short (a ∷ b ∷ []) = omega arith
strip_short (a ∷ b ∷ c ∷ rest) = by (is_bom a b c)
  where
    by : (mark : Bool) → length (if mark then rest else a ∷ b ∷ c ∷ rest) ≤ length (a ∷ b ∷ c ∷ rest)
    by true = omega arith
    by false = omega arith

-- a file has no more records than bytes
pub records_few : (bytes : List ℕ) (header : List (List ℕ)) (rs : List (List (List ℕ))) → records_of bytes ≡ header ∷ rs → length bytes < 2 ^ 64 → length rs < 2 ^ 64
unfolding records_of
records_few bytes header rs e small =
    let few = few_records (length (strip_bom bytes) + 1) st.StartRecord (strip_bom bytes) refl in
    let short = strip_short bytes in
    let size = ap length e in
    omega arith

abbrev pub repairs : Repair → List Pick → ℕ → Repairs
repairs repair picks cell = record { repair = repair; picks = picks; cell = cell }

module _ (bytes : List ℕ) (types : List (Option ColumnType)) (repair : Repair) (picks : List Pick) (cell : ℕ) where
  pub no_header : records_of bytes ≡ [] → load_of bytes types repair picks cell ≡ Err error.NoHeader
  unfolding load_of
  no_header e = rw e refl

  pub under_header : (header : List (List ℕ)) (rs : List (List (List ℕ))) → records_of bytes ≡ header ∷ rs →
      load_of bytes types repair picks cell ≡ limited rs (loaded (repairs repair picks cell) types header rs)
  unfolding load_of
  under_header header rs e = rw e refl

  first_no : (b c d e : Bool) → (false && b && c && d && e) ≡ false
  first_no b c d e = refl

  pub too_wide : (header : List (List ℕ)) (rs : List (List (List ℕ))) → records_of bytes ≡ header ∷ rs → 32 < length header →
      load_of bytes types repair picks cell ≡ Err error.TooLarge
  too_wide header rs e wide =
      let t = loaded (repairs repair picks cell) types header rs in
      let many = columns_many types rs header in
      let no : few_columns (length (columns_of types header rs)) ≡ false = grind (arith, nat_tests) in
      under_header header rs e ∙ past (nat_le (length rs) 4294967295) rs t refl (rw no refl)

-- two readings of one list
pub same_rest : {A : Type 0} (all : List A) (x y : A) (xs ys : List A) → all ≡ x ∷ xs → all ≡ y ∷ ys → ys ≡ xs
same_rest all x y xs ys a b = cc

-- columns that are a header's are few and have distinct names
pub columns_narrow : (types : List (Option ColumnType)) (header : List (List ℕ)) (rs : List (List (List ℕ))) (columns : List Column) →
    columns ≡ columns_of types header rs → length header ≤ 32 → length columns ≤ 32
columns_narrow types header rs columns e narrow = let many = columns_many types rs header in rw (e, many) narrow

pub columns_apart : (types : List (Option ColumnType)) (header : List (List ℕ)) (rs : List (List (List ℕ))) (columns : List Column) →
    columns ≡ columns_of types header rs → length header ≤ 32 → Distinct (column_names columns)
columns_apart types header rs columns e narrow = rw e (columns_distinct types rs header narrow)

-- the table of a second reading, under the columns of the first
pub second_reading : (bytes : List ℕ) (types shown : List (Option ColumnType)) (repair : Repair) (picks : List Pick) (cell : ℕ) (header again : List (List ℕ)) (rs later : List (List (List ℕ)))
    (columns : List Column) → records_of bytes ≡ header ∷ rs → records_of bytes ≡ again ∷ later → shown ≡ types → columns ≡ columns_of shown header rs →
    limited later (table_in (repairs repair picks cell) columns later) ≡ load_of bytes types repair picks cell
second_reading bytes types shown repair picks cell header again rs later columns a b s e =
    rw (same_rest (records_of bytes) header again rs later a b, e, s) (sym (under_header bytes types repair picks cell header rs a))
