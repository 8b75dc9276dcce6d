-- `sort`: rows in the order of named columns, as ORDER BY gives it.
use Rattle.std.specs.Prelude.{◌+◌, ◌||◌, Bool, false, if◌then◌else◌, None, Ok, List, map}
use Rattle.std.specs.List.{list_any}
use Rattle.dataset_types.specs.declared.column.Column.{Column}
use Rattle.dataset_types.specs.Tables.{TableData}
use Rattle.dataset_types.specs.Plain.{PlainTable}
use Rattle.caveat_marks.specs.Shown.{ShownRows, InOrder, ById, ShownTable, values_at}
use Rattle.cell_errors.specs.Answers.{Answer, and_then, collect}
use Rattle.relations.specs.declared.parts.SortKey.{SortKey}
use Rattle.relations.specs.Rels.{bare_columns, qualified, table_rel, rel_table}
use Rattle.relations.specs.Plain.{PlainRel}
use Rattle.rel_ops.specs.Sorted.{sorted}
use Rattle.rel_ops.specs.Sort.{keys_lt, ordered, plain_ordered, shown_at_key, has_unknown_key}
use Rattle.sheet_commands.specs.declared.sort_names.SortName.{SortName}
use Rattle.edit_results.specs.Results.{plain_whole}
use Rattle.row_edits.specs.Columns.{find_column}
use Rattle.row_edits.specs.Set.{given_or}

-- the key of a named column; keys count columns from 1
abbrev pub sort_key : List Column → SortName → Answer SortKey
sort_key columns by =
    and_then (find_column columns by.name) (λ found. Ok (record { column = found.place + 1; descending = by.descending }))

-- the keys of all, in order
abbrev pub sort_keys : List Column → List SortName → Answer (List SortKey)
sort_keys columns by = collect (sort_key columns) by

-- the dataset as a relation, in order by these keys
abbrev pub put_in_order : TableData → List SortKey → Answer TableData
put_in_order t keys = and_then (ordered (table_rel None t) keys) rel_table

-- in order by the keys of the named columns
abbrev pub rows_sorted : TableData → List SortName → Answer TableData
rows_sorted t by = and_then (sort_keys t.columns by) (put_in_order t)

-- ---- without marks

-- a dataset as a relation
abbrev pub plain_rel : PlainTable → PlainRel
plain_rel t = record { columns = map (qualified None) t.columns; rows = t.rows }

-- a relation as a dataset
abbrev pub plain_table : PlainRel → Answer PlainTable
plain_table r = plain_whole (record { columns = bare_columns r.columns; rows = r.rows })

-- the rows in order by the named columns
abbrev pub plain_rows_sorted : PlainTable → List SortName → Answer PlainTable
plain_rows_sorted t by = and_then (sort_keys t.columns by) (λ keys. and_then (plain_ordered (plain_rel t) keys) plain_table)

-- ---- over what is shown

-- whether a row is placed by a value that isn't known
abbrev pub is_astray : List SortKey → ShownRows → Bool
is_astray keys (InOrder rows) = list_any (has_unknown_key keys) rows
is_astray keys (ById f) = false

-- in order where the order is certain
abbrev pub sort_shown : Bool → List SortKey → ShownRows → ShownRows
sort_shown astray keys (InOrder rows) = if astray then ById (values_at rows) else InOrder (sorted (keys_lt shown_at_key keys) rows)
sort_shown astray keys (ById f) = ById f

-- the rows in order, or by their ids where a key is not known; what is shown stays where there is an error
abbrev pub shown_rows_sorted : ShownTable → List SortName → ShownTable
shown_rows_sorted t by =
    given_or t (and_then (sort_keys t.columns by) (λ keys.
    Ok (record {
      columns = t.columns;
      rows = sort_shown (is_astray keys t.rows) keys t.rows;
      is_open = t.is_open;
      is_loose = t.is_loose || is_astray keys t.rows;
    })))
