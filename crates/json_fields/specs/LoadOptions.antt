-- The options of a load in JSON (docs/FORMATS.md, "Edit lines").
use Rattle.std.specs.Prelude.{ℕ, List, length, codes, nat_le, if◌then◌else◌, Option, Some, None, option_map, option_and_then}
use Rattle.std.specs.Str.{bytes_eq}
use Rattle.serde_json.specs.Data.{Data, Items}
use Rattle.serde_json.specs.Find.{as_str, as_array}
use Rattle.value_types.specs.declared.value.ColumnType.{ColumnType}
use Rattle.dataset_types.specs.declared.load_options.Repair.{Repair}
use Rattle.dataset_types.specs.declared.load_options.Repair.TheVariants as repair
use Rattle.json_fields.specs.Json.{all_of}
use Rattle.json_fields.specs.Columns.{type_named}

-- a type by its name, or none for a guess
abbrev pub declared_named : List ℕ → Option (Option ColumnType)
declared_named s = if bytes_eq s (codes "guess") then Some None else option_map Some (type_named s)

-- the same in JSON
abbrev pub declared_in : Data → Option (Option ColumnType)
declared_in d = option_and_then declared_named (as_str d)

-- at most 32 of them
abbrev pub types_of : Items → Option (List (Option ColumnType))
types_of ds = option_and_then (λ ts. if nat_le (length ts) 32 then Some ts else None) (all_of declared_in ds)

-- the types of an array
abbrev pub types_in : Data → Option (List (Option ColumnType))
types_in d = option_and_then types_of (as_array d)

-- a repair by its name
abbrev pub repair_named : List ℕ → Option Repair
repair_named s =
    if bytes_eq s (codes "null") then Some repair.Null
    else (if bytes_eq s (codes "zero") then Some repair.Zero
    else None)

-- the same in JSON
abbrev pub repair_in : Data → Option Repair
repair_in d = option_and_then repair_named (as_str d)
