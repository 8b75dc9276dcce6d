-- Columns in JSON, and the types of columns by their names (docs/FORMATS.md, "Edit lines").
use Rattle.std.specs.Prelude.{ℕ, List, codes, if◌then◌else◌, Option, Some, None, option_map, option_and_then}
use Rattle.std.specs.Str.{bytes_eq}
use Rattle.serde_json.specs.Data.{Data, Items, no_items, item}
use Rattle.serde_json.specs.Find.{as_str, as_array}
use Rattle.value_types.specs.declared.value.ColumnType.{ColumnType}
use Rattle.value_types.specs.declared.value.ColumnType.TheVariants as kind
use Rattle.dataset_types.specs.declared.column.Column.{Column}
use Rattle.json_fields.specs.Values.{name_in}

-- a type by its name
abbrev pub type_named : List ℕ → Option ColumnType
type_named s =
    if bytes_eq s (codes "bool") then Some kind.Bool
    else (if bytes_eq s (codes "int") then Some kind.Int
    else (if bytes_eq s (codes "fixed") then Some kind.Fixed
    else (if bytes_eq s (codes "text") then Some kind.Text
    else None)))

-- the same in JSON
abbrev pub type_in : Data → Option ColumnType
type_in d = option_and_then type_named (as_str d)

-- a name and a type, and nothing after them
abbrev pub column_from : Items → Option Column
column_from (item a (item b no_items)) =
    option_and_then (λ n. option_map (λ k. record { name = n; kind = k }) (type_in b)) (name_in a)
column_from _ = None

-- a column is an array of both
abbrev pub column_in : Data → Option Column
column_in d = option_and_then column_from (as_array d)
