-- Each edit of a line is one that has a line.
use Rattle.std.proofs.Common.{◌≡◌, ℕ, ◌+◌, ◌≤◌, ◌&&◌, List, [], length, false, refl, ap, sym, subst, ◌∙◌, arith, Option, Some, None, option_map}
use Rattle.std.specs.Prelude.{option_and_then, nat_le, if◌then◌else◌, codes}
use Rattle.std.specs.Option.{option_map_or}
use Rattle.std.specs.Str.{bytes_eq}
use Rattle.std.proofs.lemmas.Bool.{and_parts, leb-true}
use Rattle.serde_json.specs.Data.{Data, Items}
use Rattle.serde_json.specs.Find.{get, as_array, as_str}
use Rattle.value_types.specs.declared.value.ColumnType.{ColumnType}
use Rattle.dataset_types.specs.Tables.{TableData, few_columns, names_apart, numbered, table_of, within_limits}
use Rattle.dataset_types.specs.declared.column.Column.{Column}
use Rattle.dataset_types.specs.declared.row.Row.{Row}
use Rattle.dataset_types.specs.declared.load_options.Repair.TheVariants as repair
use Rattle.cell_model.specs.declared.cell.CellKind.{CellKind}
use Rattle.cell_model.specs.declared.cell.CellKind.TheVariants as cell
use Rattle.edit_wire.specs.declared.edit.Edit.{Edit}
use Rattle.edit_wire.specs.declared.edit.EditCell.{EditCell}
use Rattle.edit_wire.specs.declared.edit.EditCell.TheVariants as from
use Rattle.edit_wire.specs.declared.edit.EditKind.{EditKind}
use Rattle.edit_wire.specs.declared.edit.EditKind.TheVariants as edit
use Rattle.json_fields.specs.Json.{has_members, field, field_or, all_of}
use Rattle.json_fields.specs.Columns.{column_in}
use Rattle.edit_wire.specs.Make.{is_heading, heading_of, rows_from, limited, table_from, table_in, make_of}
use Rattle.edit_wire.specs.Cells.{vizual, cell_of}
use Rattle.sheet_json.specs.Commands.{command_of}
use Rattle.edit_wire.specs.Sql.{sql_of}
use Rattle.json_fields.specs.LoadOptions.{declared_in, types_of, types_in, repair_in}
use Rattle.edit_wire.specs.Loads.{file_named, file_in, load_members, load_from, load_of}
use Rattle.edit_wire.specs.Plain.{IsPlainTable, IsPlainCell, IsPlainKind, IsPlainEdit}
use Rattle.json_fields.specs.Values.{name_in}
use Rattle.json_fields.specs.Numbers.{position_in}
use Rattle.edit_wire.specs.Wire.{position_and_cell, append_of, insert_of, update_of, delete_of, branch_of, kind_named, kind_of, edit_on, edit_in}
use Rattle.edit_wire.proofs.Made.{AreRows, are_rows}
use Rattle.json_fields.proofs.Options.{mapped, chained, taken, within, which, first_of_two}
use Rattle.sheet_json.proofs.PlainCommands.{command_plain}

heading_some : (heads : Items) (cs : List Column) → heading_of heads ≡ Some cs → 1 ≤ length cs
heading_some heads cs e =
    let read = chained (λ (columns : List Column). if is_heading columns then Some columns else None) (all_of column_in heads) cs e in
    let tested = taken (is_heading read.0) read.0 cs read.2 in
    let parts = and_parts (nat_le 1 (length read.0) && few_columns (length read.0)) (names_apart read.0) tested.0 in
    let some = leb-true 1 (length read.0) (and_parts (nat_le 1 (length read.0)) (few_columns (length read.0)) parts.0).0 in
    omega (arith, some, ap length tested.1)

plain_parts : (cs : List Column) (rows : List Row) → 1 ≤ length cs → AreRows cs 0 rows → IsPlainTable (table_of cs rows false false)
plain_parts cs rows some are = record {
  columns = some;
  closed = refl;
  ordered = refl;
  numbers = let same : 0 + length rows ≡ length rows = omega arith in are.ids ∙ ap numbered same;
  certain = are.certain;
}

-- the table of a line is plain
table_plain : (heads ds : Items) (t : TableData) → table_from heads ds ≡ Some t → IsPlainTable t
table_plain heads ds t e =
    let heading = chained (λ (columns : List Column). option_and_then (limited columns) (rows_from columns 1 ds)) (heading_of heads) t e in
    let rows = chained (limited heading.0) (rows_from heading.0 1 ds) t heading.2 in
    let made = table_of heading.0 rows.0 false false in
    let is = taken (within_limits made) made t rows.2 in
    subst IsPlainTable is.1 (plain_parts heading.0 rows.0 (heading_some heads heading.0 heading.1) (are_rows heading.0 0 ds rows.0 rows.1).0)

-- a field that may be missing
told : {A P : Type 0} (reader : Data → Option A) (o : Option Data) (missing y : A) → option_map_or reader o (Some missing) ≡ Some y
    → (missing ≡ y → P) → ((d : Data) → reader d ≡ Some y → P) → P
told reader None missing y e none some = none (cc)
told reader (Some d) missing y e none some = some d e

-- ---- cells

make_plain : (d : Data) (k : CellKind) → make_of d ≡ Some k → IsPlainCell (from.Other k)
unfolding make_of
make_plain d k e =
    let found = within (has_members 3 d) _ k e in
    let named = chained (λ (name : List ℕ). option_map (cell.Make name) (table_in d)) (field name_in (codes "make") d) k found in
    let table = mapped (cell.Make named.0) (table_in d) k named.2 in
    let heads = chained (λ (heads : Items). option_and_then (table_from heads) (field as_array (codes "rows") d)) (field as_array (codes "columns") d) table.0 table.1 in
    let rows = chained (table_from heads.0) (field as_array (codes "rows") d) table.0 heads.2 in
    subst (λ (kind : CellKind). IsPlainCell (from.Other kind)) (sym table.2) (table_plain heads.0 rows.0 table.0 rows.2)

file_plain : (d : Data) (file : List ℕ) → file_in d ≡ Some file → (1 ≤ length file) × (length file ≤ 255)
file_plain d file e =
    let text = chained file_named (as_str d) file e in
    let tested = taken (nat_le 1 (length text.0) && nat_le (length text.0) 255) text.0 file text.2 in
    let parts = and_parts (nat_le 1 (length text.0)) (nat_le (length text.0) 255) tested.0 in
    subst (λ (f : List ℕ). (1 ≤ length f) × (length f ≤ 255)) tested.1 (leb-true 1 (length text.0) parts.0, leb-true (length text.0) 255 parts.1)

types_plain : (d : Data) (types : List (Option ColumnType)) → types_in d ≡ Some types → length types ≤ 32
types_plain d types e =
    let list = chained types_of (as_array d) types e in
    let read = chained (λ (ts : List (Option ColumnType)). if nat_le (length ts) 32 then Some ts else None) (all_of declared_in list.0) types list.2 in
    let tested = taken (nat_le (length read.0) 32) read.0 types read.2 in
    subst (λ (ts : List (Option ColumnType)). length ts ≤ 32) tested.1 (leb-true (length read.0) 32 tested.0)

from_plain : (name file : List ℕ) (d : Data) (c : EditCell) → (1 ≤ length file) × (length file ≤ 255) → load_from name file d ≡ Some c → IsPlainCell c
from_plain name file d c sized e =
    let typed = chained (λ (types : List (Option ColumnType)). option_map (from.Load name file types) (field_or repair_in repair.Null (codes "repair") d)) (field_or types_in [] (codes "types") d) c e in
    let mended = mapped (from.Load name file typed.0) (field_or repair_in repair.Null (codes "repair") d) c typed.2 in
    let few = told types_in (get (codes "types") d) [] typed.0 typed.1
    (λ none. subst (λ (ts : List (Option ColumnType)). length ts ≤ 32) none (omega arith))
    (λ d e. types_plain d typed.0 e) in
    subst IsPlainCell {x = from.Load name file typed.0 mended.0} (sym mended.2) (sized.0, sized.1, few)

load_plain : (d : Data) (c : EditCell) → load_of d ≡ Some c → IsPlainCell c
unfolding load_of
load_plain d c e =
    let found = within (has_members (load_members d) d) _ c e in
    let named = chained (λ (name : List ℕ). option_and_then (λ file. load_from name file d) (field file_in (codes "file") d)) (field name_in (codes "load") d) c found in
    let filed = chained (λ (file : List ℕ). load_from named.0 file d) (field file_in (codes "file") d) c named.2 in
    let there = chained file_in (get (codes "file") d) filed.0 filed.1 in
    from_plain named.0 filed.0 d c (file_plain there.0 filed.0 there.2) filed.2

sql_plain : (d : Data) (k : CellKind) → sql_of d ≡ Some k → IsPlainCell (from.Other k)
unfolding sql_of
sql_plain d k e =
    let text = chained (λ (text : List ℕ). option_map (cell.Sql text) (field name_in (codes "into") d)) (field as_str (codes "sql") d) k (within (has_members 2 d) _ k e) in
    let made = mapped (cell.Sql text.0) (field name_in (codes "into") d) k text.2 in
    subst (λ (kind : CellKind). IsPlainCell (from.Other kind)) {x = cell.Sql text.0 made.0} (sym made.2) tt

cell_plain : (d : Data) (c : EditCell) → cell_of d ≡ Some c → IsPlainCell c
cell_plain d c e =
    first_of_two (option_map from.Other (make_of d)) _ c e
    (λ e. let made = mapped from.Other (make_of d) c e in subst IsPlainCell (sym made.2) (make_plain d made.0 made.1))
    (λ e. first_of_two (load_of d) _ c e (load_plain d c)
    (λ e. first_of_two (option_map vizual (command_of d)) (option_map from.Other (sql_of d)) c e
    (λ e. let made = mapped vizual (command_of d) c e in subst IsPlainCell (sym made.2) (command_plain d made.0 made.1))
    (λ e. let made = mapped from.Other (sql_of d) c e in subst IsPlainCell (sym made.2) (sql_plain d made.0 made.1))))

field_plain : (d : Data) (c : EditCell) → field cell_of (codes "cell") d ≡ Some c → IsPlainCell c
field_plain d c e = let there = chained cell_of (get (codes "cell") d) c e in cell_plain there.0 c there.2

-- ---- edits

append_plain : (d : Data) (k : EditKind) → append_of d ≡ Some k → IsPlainKind k
append_plain d k e =
    let made = mapped edit.Append (field cell_of (codes "cell") d) k (within (has_members 3 d) _ k e) in
    subst IsPlainKind (sym made.2) (field_plain d made.0 made.1)

placed_plain : (d : Data) (p : ℕ × EditCell) → position_and_cell d ≡ Some p → IsPlainCell p.1
placed_plain d p e =
    let at = chained (λ (n : ℕ). option_map (λ (cell : EditCell). (n, cell)) (field cell_of (codes "cell") d)) (field position_in (codes "at") d) p (within (has_members 4 d) _ p e) in
    let cell = mapped (λ (cell : EditCell). (at.0, cell)) (field cell_of (codes "cell") d) p at.2 in
    subst IsPlainCell (ap (λ (q : ℕ × EditCell). q.1) (sym cell.2)) (field_plain d cell.0 cell.1)

insert_plain : (d : Data) (k : EditKind) → insert_of d ≡ Some k → IsPlainKind k
insert_plain d k e =
    let made = mapped (λ (p : ℕ × EditCell). edit.Insert p.0 p.1) (position_and_cell d) k e in
    subst IsPlainKind (sym made.2) (placed_plain d made.0 made.1)

update_plain : (d : Data) (k : EditKind) → update_of d ≡ Some k → IsPlainKind k
update_plain d k e =
    let made = mapped (λ (p : ℕ × EditCell). edit.Update p.0 p.1) (position_and_cell d) k e in
    subst IsPlainKind (sym made.2) (placed_plain d made.0 made.1)

delete_plain : (d : Data) (k : EditKind) → delete_of d ≡ Some k → IsPlainKind k
delete_plain d k e = let made = mapped edit.Delete (field position_in (codes "at") d) k (within (has_members 3 d) _ k e) in subst IsPlainKind (sym made.2) tt

branch_plain : (d : Data) (k : EditKind) → branch_of d ≡ Some k → IsPlainKind k
branch_plain d k e = let made = mapped edit.Branch (field position_in (codes "from") d) k (within (has_members 3 d) _ k e) in subst IsPlainKind (sym made.2) tt

kind_plain : (word : List ℕ) (d : Data) (k : EditKind) → kind_named word d ≡ Some k → IsPlainKind k
kind_plain word d k e =
    which (bytes_eq word (codes "append")) (append_of d) _ k e (append_plain d k)
    (λ e. which (bytes_eq word (codes "insert")) (insert_of d) _ k e (insert_plain d k)
    (λ e. which (bytes_eq word (codes "update")) (update_of d) _ k e (update_plain d k)
    (λ e. which (bytes_eq word (codes "delete")) (delete_of d) _ k e (delete_plain d k)
    (λ e. which (bytes_eq word (codes "branch")) (branch_of d) None k e (branch_plain d k) (λ e. absurd (cc))))))

-- each edit that a JSON value is has a line
pub edit_plain : (d : Data) (e : Edit) → edit_in d ≡ Some e → IsPlainEdit e
unfolding edit_in
edit_plain d e is =
    let named = chained (λ (branch : List ℕ). option_map (edit_on branch) (kind_of d)) (field name_in (codes "branch") d) e is in
    let kind = mapped (edit_on named.0) (kind_of d) e named.2 in
    let word = chained (λ (word : List ℕ). kind_named word d) (field as_str (codes "edit") d) kind.0 kind.1 in
    subst IsPlainEdit (sym kind.2) (kind_plain word.0 d kind.0 word.2)
