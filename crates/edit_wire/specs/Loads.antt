-- Load cells (docs/FORMATS.md, "Edit lines").
use Rattle.std.specs.Prelude.{ℕ, ◌+◌, ◌&&◌, List, [], length, codes, nat_le, if◌then◌else◌}
use Rattle.std.specs.Prelude.{Option, Some, None, option_map, option_and_then}
use Rattle.serde_json.specs.Data.{Data}
use Rattle.serde_json.specs.Find.{as_str}
use Rattle.dataset_types.specs.declared.load_options.Repair.TheVariants as repair
use Rattle.edit_wire.specs.declared.edit.EditCell.{EditCell}
use Rattle.edit_wire.specs.declared.edit.EditCell.TheVariants as from
use Rattle.json_fields.specs.Json.{with_members, field, field_or, counted}
use Rattle.json_fields.specs.Values.{name_in}
use Rattle.json_fields.specs.LoadOptions.{types_in, repair_in}

-- a file's name of 1 to 255 bytes
abbrev pub file_named : List ℕ → Option (List ℕ)
file_named s = if nat_le 1 (length s) && nat_le (length s) 255 then Some s else None

-- the same in JSON
abbrev pub file_in : Data → Option (List ℕ)
file_in d = option_and_then file_named (as_str d)

-- the fields of a load: `load` and `file`, and where they stand `types` and `repair`
abbrev pub load_members : Data → ℕ
load_members d = 2 + counted (codes "types") d + counted (codes "repair") d

-- the load of a name and a file, with the types and the repair that are said or else none and `null`
abbrev pub load_from : List ℕ → List ℕ → Data → Option EditCell
load_from name file d =
    option_and_then (λ types.
    option_map (from.Load name file types) (field_or repair_in repair.Null (codes "repair") d))
    (field_or types_in [] (codes "types") d)

-- a load cell
unfoldable pub load_of : Data → Option EditCell
load_of d =
    with_members (load_members d) d
    (option_and_then (λ name. option_and_then (λ file. load_from name file d) (field file_in (codes "file") d))
    (field name_in (codes "load") d))
