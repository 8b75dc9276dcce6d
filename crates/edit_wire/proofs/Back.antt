-- Written make cells and loads are read back.
use Rattle.std.proofs.Common.{◌≡◌, ℕ, codes, ◌≤◌, List, map, length, Option, Some, refl, sym, subst, arith}
use Rattle.std.proofs.lemmas.Bool.{le-leb}
use Rattle.serde_json.specs.Data.{Data, Items, items_depth, string, array, object, member, no_members}
use Rattle.value_types.specs.declared.value.ColumnType.{ColumnType}
use Rattle.dataset_types.specs.Tables.{TableData, IsTable}
use Rattle.dataset_types.specs.declared.load_options.Repair.{Repair}
use Rattle.cell_model.specs.declared.cell.CellKind.TheVariants as cell
use Rattle.json_fields.specs.Json.{all_of}
use Rattle.edit_wire.specs.declared.edit.EditCell.TheVariants as from
use Rattle.edit_wire.specs.Cells.{cell_of}
use Rattle.json_fields.specs.LoadOptions.{declared_in, repair_named}
use Rattle.edit_wire.specs.Loads.{load_of}
use Rattle.json_fields.specs.Columns.{column_in}
use Rattle.edit_wire.specs.Make.{table_from, make_of}
use Rattle.edit_wire.specs.Plain.{IsPlainTable, IsPlainCell}
use Rattle.json_fields.specs.Values.{name_in}
use Rattle.json_fields.specs.Written.{IsJsonOf, bare_values, values_in}
use Rattle.edit_wire.proofs.TableBack.{table_back}

-- the object of a make cell is the cell
pub make_back : (name : List ℕ) (t : TableData) (d dname : Data) (heads ds : Items) → IsTable t → IsPlainTable t → IsJsonOf name_in 0 name dname
    → (all_of column_in heads ≡ Some t.columns) × (items_depth heads ≤ 1)
    → (all_of bare_values ds ≡ Some (map values_in t.rows)) × (items_depth ds ≤ 2)
    → d ≡ object (member (codes "columns") (array heads) (member (codes "make") dname (member (codes "rows") (array ds) no_members)))
    → IsJsonOf make_of 4 (cell.Make name t) d
unfolding make_of
make_back name t d dname heads ds table plain named columns rows made =
    let whole : table_from heads ds ≡ Some t = table_back t heads ds table plain columns.0 rows.0 in
    subst (IsJsonOf make_of 4 (cell.Make name t)) (sym made) (record {
      read = rw (named.read, whole) refl;
      depth = omega (arith, columns.1, rows.1, named.depth);
    })

-- the object of a load is the load
pub load_back : (name file : List ℕ) (types : List (Option ColumnType)) (mend : Repair) (d dname : Data) (ds : Items) (word : List ℕ)
    → IsPlainCell (from.Load name file types mend) → IsJsonOf name_in 0 name dname → repair_named word ≡ Some mend
    → (all_of declared_in ds ≡ Some types) × (items_depth ds ≤ 0)
    → d ≡ object (member (codes "file") (string file) (member (codes "load") dname (member (codes "repair") (string word) (member (codes "types") (array ds) no_members))))
    → IsJsonOf cell_of 4 (from.Load name file types mend) d
unfolding make_of load_of
load_back name file types mend d dname ds word plain named mends each made =
    let some = le-leb 1 (length file) plain.0 in
    let short = le-leb (length file) 255 plain.1 in
    let few = le-leb (length types) 32 plain.2 in
    subst (IsJsonOf cell_of 4 (from.Load name file types mend)) (sym made) (record {
      read = rw (named.read, some, short, each.0, few, mends) refl;
      depth = omega (arith, each.1, named.depth);
    })
