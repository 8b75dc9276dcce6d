-- SELECT cells in JSON (docs/FORMATS.md, "Queries").
use Rattle.std.specs.Prelude.{codes, Option, option_map, option_and_then}
use Rattle.serde_json.specs.Data.{Data}
use Rattle.serde_json.specs.Find.{as_str}
use Rattle.cell_model.specs.declared.cell.CellKind.{CellKind}
use Rattle.cell_model.specs.declared.cell.CellKind.TheVariants as cell
use Rattle.json_fields.specs.Json.{with_members, field}
use Rattle.json_fields.specs.Values.{name_in}

-- a SELECT cell: its fields are `sql` and `into`
unfoldable pub sql_of : Data → Option CellKind
sql_of d =
    with_members 2 d
    (option_and_then (λ text. option_map (cell.Sql text) (field name_in (codes "into") d))
    (field as_str (codes "sql") d))
