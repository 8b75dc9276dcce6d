-- Worked examples of edit lines and picks.
use Rattle.std.proofs.Common.{◌≡◌, ◌^◌, [], ◌∷◌, false, refl}
use Rattle.std.specs.Prelude.{codes, pos, Some, None, Ok}
use Rattle.serde_json.specs.Data.{null, boolean, number, string, array, object, unsigned, no_items, item, no_members, member}
use Rattle.value_types.specs.Numbers.{fixed_of}
use Rattle.value_types.specs.declared.value.ColumnType.TheVariants as kind
use Rattle.value_types.specs.declared.value.Value.TheVariants as value
use Rattle.dataset_types.specs.Picks.{pick_of}
use Rattle.dataset_types.specs.declared.load_options.Repair.TheVariants as repair
use Rattle.dataset_types.specs.declared.picks.Site.TheVariants as site
use Rattle.dataset_types.specs.declared.picks.Choice.TheVariants as choice
use Rattle.cell_model.specs.declared.cell.CellKind.TheVariants as cell
use Rattle.edit_wire.specs.declared.edit.EditCell.TheVariants as from
use Rattle.edit_wire.specs.declared.edit.EditKind.TheVariants as edit
use Rattle.edit_wire.specs.Loads.{load_of}
use Rattle.edit_wire.specs.Sql.{sql_of}
use Rattle.edit_wire.specs.PicksFile.{pick_in, said_number, picks_of}
use Rattle.edit_wire.specs.Wire.{edit_on, edit_in}

-- {"edit":"delete","branch":"main","at":7}
delete : edit_in (object (member (codes "at") (number (unsigned 7)) (member (codes "branch") (string (codes "main")) (member (codes "edit") (string (codes "delete")) no_members)))) ≡ Some (edit_on (codes "main") (edit.Delete 7))
unfolding edit_in
delete = refl

-- `at` in the place of `from` makes no branch
no_branch : edit_in (object (member (codes "at") (number (unsigned 7)) (member (codes "branch") (string (codes "b")) (member (codes "edit") (string (codes "branch")) no_members)))) ≡ None
unfolding edit_in
no_branch = refl

-- ---- loads

-- {"load":"t","file":"a"}: no types are declared, and the repair is `null`
load : load_of (object (member (codes "file") (string (codes "a")) (member (codes "load") (string (codes "t")) no_members))) ≡ Some (from.Load (codes "t") (codes "a") [] repair.Null)
unfolding load_of
load = refl

-- {"load":"t","file":"a","types":["guess","int"],"repair":"zero"}
whole_load : load_of (object (member (codes "file") (string (codes "a")) (member (codes "load") (string (codes "t")) (member (codes "repair") (string (codes "zero")) (member (codes "types") (array (item (string (codes "guess")) (item (string (codes "int")) no_items))) no_members)))))
    ≡ Some (from.Load (codes "t") (codes "a") (None ∷ Some kind.Int ∷ []) repair.Zero)
unfolding load_of
whole_load = refl

-- `"types":null` isn't the same as no types
no_load : load_of (object (member (codes "file") (string (codes "a")) (member (codes "load") (string (codes "t")) (member (codes "types") null no_members)))) ≡ None
unfolding load_of
no_load = refl

-- ---- SELECT cells

-- {"sql":"SELECT","into":"u"}: whether the text is a SELECT isn't asked here
select : sql_of (object (member (codes "into") (string (codes "u")) (member (codes "sql") (string (codes "SELECT")) no_members))) ≡ Some (cell.Sql (codes "SELECT") (codes "u"))
unfolding sql_of
select = refl

-- ---- picks

-- {"cell":2,"record":5,"column":1,"value":{"fixed":"3"}}
field_pick : pick_in (object (member (codes "cell") (number (unsigned 2)) (member (codes "column") (number (unsigned 1)) (member (codes "record") (number (unsigned 5)) (member (codes "value") (object (member (codes "fixed") (string (codes "3")) no_members)) no_members)))))
    ≡ Some (pick_of 2 (site.Field 5 1) (choice.Value (value.Fixed (pos 30000))))
unfolding fixed_of
field_pick = refl

-- {"cell":2,"record":5,"keep":false}
record_pick : pick_in (object (member (codes "cell") (number (unsigned 2)) (member (codes "keep") (boolean false) (member (codes "record") (number (unsigned 5)) no_members)))) ≡ Some (pick_of 2 (site.Record 5) (choice.Keep false))
record_pick = refl

-- {"cell":3,"call":1,"value":null}
call_pick : pick_in (object (member (codes "call") (number (unsigned 1)) (member (codes "cell") (number (unsigned 3)) (member (codes "value") null no_members)))) ≡ Some (pick_of 3 (site.Call 1) (choice.Value value.Null))
call_pick = refl

-- records count from 1
no_pick : pick_in (object (member (codes "cell") (number (unsigned 2)) (member (codes "keep") (boolean false) (member (codes "record") (number (unsigned 0)) no_members)))) ≡ None
no_pick = refl

-- blank lines say nothing, whatever ends them
blank_lines : picks_of (codes " \t\r\n\n ") ≡ Ok []
blank_lines = refl

-- the line after the last that has a number of u32 is said as that one
last_number : said_number (2 ^ 32) ≡ 4294967295
last_number = refl
