-- The object of a spreadsheet command is no make cell and no load.
use Rattle.std.proofs.Common.{◌≡◌, ℕ, List, [], ◌∷◌, codes, refl, arith, Option, Some, None, option_map}
use Rattle.std.specs.Prelude.{option_and_then, Result, IfOk}
use Rattle.std.proofs.lemmas.Result.{IfOk-weaker}
use Rattle.serde_json.specs.Data.{Data, Items}
use Rattle.serde_json.specs.Find.{as_str, as_array}
use Rattle.serde_json.specs.View.{view}
use Rattle.serde_json.specs.declared.value.Value.{Value as Json}
use Rattle.sheet_commands.specs.declared.command.Command.{Command}
use Rattle.cell_model.specs.declared.cell.CellKind.{CellKind}
use Rattle.cell_model.specs.declared.cell.CellKind.TheVariants as cell
use Rattle.json_fields.specs.Json.{has_members, field, counted}
use Rattle.json_fields.specs.Values.{name_in}
use Rattle.json_fields.specs.Written.{IsJsonOf}
use Rattle.json_fields.proofs.Fields.{fields_within, there}
use Rattle.json_fields.proofs.Options.{mapped, chained, tested}
use Rattle.sheet_json.specs.Commands.{command_named, command_of}
use Rattle.edit_wire.specs.declared.edit.EditCell.{EditCell}
use Rattle.edit_wire.specs.Make.{table_from, table_in, make_of}
use Rattle.edit_wire.specs.Loads.{file_in, load_members, load_from, load_of}
use Rattle.edit_wire.specs.Cells.{vizual, cell_of}

-- a command has the field `vizual`
word_there : (d : Data) (c : Command) → command_of d ≡ Some c → counted (codes "vizual") d ≡ 1
unfolding command_of
word_there d c e =
    let word = chained (λ (word : List ℕ). option_and_then (λ dataset. command_named word dataset d) (field name_in (codes "dataset") d)) (field as_str (codes "vizual") d) c e in
    there as_str (codes "vizual") d word.0 word.1

-- beside the three fields of a make cell there is no other
make_alone : (d : Data) (k : CellKind) → make_of d ≡ Some k → counted (codes "vizual") d ≡ 1 → ⊥
unfolding make_of
make_alone d k e word =
    let found = tested (has_members 3 d) (option_and_then (λ (name : List ℕ). option_map (cell.Make name) (table_in d)) (field name_in (codes "make") d)) k e in
    let named = chained (λ (name : List ℕ). option_map (cell.Make name) (table_in d)) (field name_in (codes "make") d) k found.1 in
    let table = mapped (cell.Make named.0) (table_in d) k named.2 in
    let heads = chained (λ (heads : Items). option_and_then (table_from heads) (field as_array (codes "rows") d)) (field as_array (codes "columns") d) table.0 table.1 in
    let rows = chained (table_from heads.0) (field as_array (codes "rows") d) table.0 heads.2 in
    let make = there name_in (codes "make") d named.0 named.1 in
    let columns = there as_array (codes "columns") d heads.0 heads.1 in
    let lines = there as_array (codes "rows") d rows.0 rows.1 in
    let most = fields_within (codes "make" ∷ codes "columns" ∷ codes "rows" ∷ codes "vizual" ∷ []) 3 d refl found.0 in
    omega (arith, make, columns, lines, word, most)

-- beside the fields of a load there is no other
load_alone : (d : Data) (l : EditCell) → load_of d ≡ Some l → counted (codes "vizual") d ≡ 1 → ⊥
unfolding load_of
load_alone d l e word =
    let found = tested (has_members (load_members d) d)
    (option_and_then (λ (name : List ℕ). option_and_then (λ file. load_from name file d) (field file_in (codes "file") d)) (field name_in (codes "load") d)) l e in
    let named = chained (λ (name : List ℕ). option_and_then (λ file. load_from name file d) (field file_in (codes "file") d)) (field name_in (codes "load") d) l found.1 in
    let filed = chained (λ (file : List ℕ). load_from named.0 file d) (field file_in (codes "file") d) l named.2 in
    let load = there name_in (codes "load") d named.0 named.1 in
    let file = there file_in (codes "file") d filed.0 filed.1 in
    let most = fields_within (codes "load" ∷ codes "file" ∷ codes "types" ∷ codes "repair" ∷ codes "vizual" ∷ []) (load_members d) d refl found.0 in
    omega (arith, load, file, word, most)

none : {A : Type 0} (o : Option A) → ((x : A) → o ≡ Some x → ⊥) → o ≡ None
none None h = refl
none (Some x) h = absurd (h x refl)

-- the object of a command is the cell of this command
pub command_cell : (c : Command) (d : Data) → IsJsonOf command_of 4 c d → IsJsonOf cell_of 4 (vizual c) d
command_cell c d is =
    let word = word_there d c is.read in
    let no_make : make_of d ≡ None = none (make_of d) (λ k e. make_alone d k e word) in
    let no_load : load_of d ≡ None = none (load_of d) (λ l e. load_alone d l e word) in
    record { read = rw (no_make, no_load, is.read) refl; depth = is.depth }

-- so what is written for a command is written for the cell
pub written_cell : {E : Type 0} (r : Result Json E) (c : Command) → IfOk r (λ json. IsJsonOf command_of 4 c (view json)) → IfOk r (λ json. IsJsonOf cell_of 4 (vizual c) (view json))
written_cell r c is = IfOk-weaker r _ _ (λ json object. command_cell c (view json) object) is
