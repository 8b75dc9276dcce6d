-- The rows of records (docs/FORMATS.md, "Loaded files").
use Rattle.std.specs.Prelude.{ℕ, ◌+◌, ◌||◌, not, nat_lt, List, length, map, Bool, true, false, Option, Some, None, slice_get, filter}
use Rattle.std.specs.List.{list_any, enumerate_from}
use Rattle.value_types.specs.declared.value.ColumnType.{ColumnType}
use Rattle.value_types.specs.declared.row_id.RowId.{Rec}
use Rattle.dataset_types.specs.declared.column.Column.{Column}
use Rattle.dataset_types.specs.declared.row.Row.{Row}
use Rattle.dataset_types.specs.declared.picks.Site.{Site}
use Rattle.dataset_types.specs.declared.picks.Site.TheVariants as site
use Rattle.dataset_types.specs.declared.picks.Choice.{Choice}
use Rattle.dataset_types.specs.declared.picks.Choice.TheVariants as choice
use Rattle.dataset_types.specs.Picks.{choice_of}
use Rattle.csv_load.specs.Fields.{Repairs, marked_value}

-- a record and its number
abbrev pub Numbered : Type 0
Numbered = ℕ × List (List ℕ)

-- the records after the header, numbered from 1
abbrev pub numbered : List (List (List ℕ)) → List Numbered
numbered records = enumerate_from 1 records

-- a record with more fields than there are columns
abbrev pub is_surplus : ℕ → List (List ℕ) → Bool
is_surplus width record_fields = nat_lt width (length record_fields)

-- whether a choice says that a surplus record is not kept
abbrev pub drops : Option Choice → Bool
drops None = false
drops (Some (choice.Value v)) = false
drops (Some (choice.Keep b)) = not b

-- whether a record has a row: a surplus one has none where the pick says so
abbrev pub has_row : Repairs → ℕ → Numbered → Bool
has_row r width p = not (is_surplus width p.1) || not (drops (choice_of r.picks r.cell (site.Record p.0)))

-- what f makes of each column of a record: of its type, its site, and its field, if it is there
abbrev pub by_columns : {A : Type 0} → (ColumnType → Site → Option (List ℕ) → A) → List Column → Numbered → List A
by_columns f columns p =
    map (λ c. f c.1.kind (site.Field p.0 (c.0 + 1)) (slice_get p.1 c.0)) (enumerate_from 0 columns)

-- the row of a record, which is sure where the record isn't surplus
abbrev pub row_of : Repairs → List Column → Numbered → Row
row_of r columns p = record {
  id = Rec p.0;
  sure = not (is_surplus (length columns) p.1);
  values = by_columns (marked_value r) columns p;
}

-- the rows of the records after the header
abbrev pub rows_of : Repairs → List Column → List (List (List ℕ)) → List Row
rows_of r columns records = map (row_of r columns) (filter (has_row r (length columns)) (numbered records))

-- whether a record is surplus
abbrev pub some_surplus : ℕ → List (List (List ℕ)) → Bool
some_surplus width records = list_any (is_surplus width) records
