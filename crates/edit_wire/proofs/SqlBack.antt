-- A written SELECT cell is read back.
use Rattle.std.proofs.Common.{◌≡◌, ℕ, List, codes, refl, sym, subst, arith}
use Rattle.serde_json.specs.Data.{Data, string, object, member, no_members}
use Rattle.cell_model.specs.declared.cell.CellKind.TheVariants as cell
use Rattle.edit_wire.specs.declared.edit.EditCell.TheVariants as from
use Rattle.edit_wire.specs.Make.{make_of}
use Rattle.edit_wire.specs.Loads.{load_of}
use Rattle.sheet_json.specs.Commands.{command_of}
use Rattle.edit_wire.specs.Sql.{sql_of}
use Rattle.edit_wire.specs.Cells.{cell_of}
use Rattle.json_fields.specs.Values.{name_in}
use Rattle.json_fields.specs.Written.{IsJsonOf}

pub sql_back : (text into : List ℕ) (d into_d : Data) → IsJsonOf name_in 0 into into_d
    → d ≡ object (member (codes "into") into_d (member (codes "sql") (string text) no_members))
    → IsJsonOf cell_of 4 (from.Other (cell.Sql text into)) d
unfolding make_of load_of command_of sql_of
sql_back text into d into_d named made =
    subst (IsJsonOf cell_of 4 (from.Other (cell.Sql text into))) (sym made) (record { read = rw named.read refl; depth = omega (arith, named.depth) })
