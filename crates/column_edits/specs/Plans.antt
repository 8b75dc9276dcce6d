-- What each command makes of the columns: the layout of its result, or its error.
use Rattle.std.specs.Prelude.{ℕ, suc, ◌-◌, ◌&&◌, not, nat_le, if◌then◌else◌, Bool, None, Ok, Err}
use Rattle.std.specs.Prelude.{List, [], ◌∷◌, length, map, filter}
use Rattle.std.specs.List.{insert, list_any}
use Rattle.std.specs.Str.{bytes_eq}
use Rattle.value_types.specs.declared.value.ColumnType.{ColumnType}
use Rattle.cell_errors.specs.declared.fault.CellError.TheVariants as error
use Rattle.cell_errors.specs.Answers.{Answer, and_then, collect}
use Rattle.dataset_types.specs.declared.column.Column.{Column}
use Rattle.expr_meaning.specs.Names.{Name}
use Rattle.column_edits.specs.declared.layout.LaidColumn.{LaidColumn}
use Rattle.column_edits.specs.Layout.{as_they_stand}

-- whether a column has this name
abbrev pub has_name : Name → LaidColumn → Bool
has_name name c = bytes_eq name c.column.name

-- the column of a name
abbrev pub find : Name → List LaidColumn → Answer LaidColumn
find name [] = Err error.NoColumn
find name (c ∷ cs) = if has_name name c then Ok c else find name cs

-- whether one of the columns has a name
abbrev pub is_taken : Name → List LaidColumn → Bool
is_taken name layout = list_any (has_name name) layout

-- the columns but that of a name
abbrev pub others : Name → List LaidColumn → List LaidColumn
others name layout = filter (λ c. not (has_name name c)) layout

-- a place from 1 to n
abbrev pub is_place : ℕ → ℕ → Bool
is_place at n = nat_le 1 at && nat_le at n

-- the columns with this one before a place, counted from 1
abbrev pub put : ℕ → LaidColumn → List LaidColumn → List LaidColumn
put at c layout = insert layout (at - 1) c

-- a column that takes a new value in each row
abbrev pub new_column : Name → ColumnType → LaidColumn
new_column name k = record { column = record { name = name; kind = k }; source = None }

-- insert_column: a new column before place `at`
abbrev pub insertion : Name → ColumnType → ℕ → List Column → Answer (List LaidColumn)
insertion name k at columns =
    if is_place at (suc (length columns))
    then (if is_taken name (as_they_stand columns) then Err error.NameTaken else Ok (put at (new_column name k) (as_they_stand columns)))
    else Err error.NoColumn

-- delete_column: the others
abbrev pub deletion : Name → List Column → Answer (List LaidColumn)
deletion name columns = and_then (find name (as_they_stand columns)) (λ c. Ok (others name (as_they_stand columns)))

-- a column under another name
abbrev pub under : Name → LaidColumn → LaidColumn
under to c = record { column = record { name = to; kind = c.column.kind }; source = c.source }

-- the columns, that of a name under another
abbrev pub renamed : Name → Name → List LaidColumn → List LaidColumn
renamed name to layout = map (λ c. if has_name name c then under to c else c) layout

-- rename_column: one column under another name, which no other column has
abbrev pub renaming : Name → Name → List Column → Answer (List LaidColumn)
renaming name to columns =
    and_then (find name (as_they_stand columns)) (λ c.
    if is_taken to (others name (as_they_stand columns)) then Err error.NameTaken else Ok (renamed name to (as_they_stand columns)))

-- move_column: the column among the others, at place `at`
abbrev pub moving : Name → ℕ → List Column → Answer (List LaidColumn)
moving name at columns =
    and_then (find name (as_they_stand columns)) (λ c.
    if is_place at (length columns) then Ok (put at c (others name (as_they_stand columns))) else Err error.NoColumn)

-- the columns of these names, in the order of the names
abbrev pub find_all : List Name → List LaidColumn → Answer (List LaidColumn)
find_all names layout = collect (λ name. find name layout) names

-- keep_columns: the columns of these names alone
abbrev pub keeping : List Name → List Column → Answer (List LaidColumn)
keeping names columns = find_all names (as_they_stand columns)
