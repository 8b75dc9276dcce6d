-- Worked examples of spreadsheet commands.
use Rattle.std.proofs.Common.{◌≡◌, [], ◌∷◌, true, refl}
use Rattle.std.specs.Prelude.{codes, Some, None}
use Rattle.serde_json.specs.Data.{null, number, string, array, object, unsigned, no_items, item, no_members, member}
use Rattle.value_types.specs.declared.value.ColumnType.TheVariants as kind
use Rattle.sheet_commands.specs.declared.command.Command.TheVariants as command
use Rattle.sheet_json.specs.Commands.{command_of}

-- {"vizual":"insert_column","dataset":"t","name":"a","type":"int","at":1}
insert_column : command_of (object (member (codes "at") (number (unsigned 1)) (member (codes "dataset") (string (codes "t")) (member (codes "name") (string (codes "a")) (member (codes "type") (string (codes "int")) (member (codes "vizual") (string (codes "insert_column")) no_members))))))
    ≡ Some (command.InsertColumn (codes "t") (codes "a") kind.Int 1)
unfolding command_of
insert_column = refl

-- {"vizual":"insert_row","dataset":"t","row":"z","after":null}: the row comes first
first_row : command_of (object (member (codes "after") null (member (codes "dataset") (string (codes "t")) (member (codes "row") (string (codes "z")) (member (codes "vizual") (string (codes "insert_row")) no_members)))))
    ≡ Some (command.InsertRow (codes "t") (codes "z") None)
unfolding command_of
first_row = refl

-- `after` has to be there
no_after : command_of (object (member (codes "dataset") (string (codes "t")) (member (codes "row") (string (codes "z")) (member (codes "vizual") (string (codes "insert_row")) no_members)))) ≡ None
unfolding command_of
no_after = refl

-- {"vizual":"sort","dataset":"t","by":[["a","desc"]]}
sort : command_of (object (member (codes "by") (array (item (array (item (string (codes "a")) (item (string (codes "desc")) no_items))) no_items)) (member (codes "dataset") (string (codes "t")) (member (codes "vizual") (string (codes "sort")) no_members))))
    ≡ Some (command.Sort (codes "t") (record { name = codes "a"; descending = true } ∷ []))
unfolding command_of
sort = refl

-- a column that comes twice isn't kept
no_keep : command_of (object (member (codes "dataset") (string (codes "t")) (member (codes "names") (array (item (string (codes "a")) (item (string (codes "a")) no_items))) (member (codes "vizual") (string (codes "keep_columns")) no_members)))) ≡ None
unfolding command_of
no_keep = refl
