-- Written commands on rows are read back.
use Rattle.std.proofs.Common.{◌≡◌, ℕ, ◌≤◌, List, Option, Some, codes, refl, sym, subst, arith}
use Rattle.serde_json.specs.Data.{Data, Items, items_depth, array, string, object, member, no_members}
use Rattle.value_types.specs.declared.value.Value.{Value}
use Rattle.sheet_commands.specs.declared.sort_names.SortName.{SortName}
use Rattle.sheet_commands.specs.declared.command.Command.TheVariants as command
use Rattle.sheet_json.specs.Commands.{command_of}
use Rattle.json_fields.specs.Values.{name_in, value_of}
use Rattle.json_fields.specs.Written.{IsJsonOf}
use Rattle.json_fields.specs.Json.{all_of}
use Rattle.json_fields.specs.Values.{after_in}
use Rattle.json_fields.specs.Lists.{sort_name_in, are_sorted_by}

pub insert_row_back : (dataset : List ℕ) (row : List ℕ) (after : Option (List ℕ)) (d dataset_d row_d after_d : Data) → IsJsonOf name_in 0 dataset dataset_d → IsJsonOf name_in 0 row row_d → IsJsonOf after_in 0 after after_d
    → d ≡ object (member (codes "after") after_d (member (codes "dataset") dataset_d (member (codes "row") row_d (member (codes "vizual") (string (codes "insert_row")) no_members))))
    → IsJsonOf command_of 4 (command.InsertRow dataset row after) d
unfolding command_of
insert_row_back dataset row after d dataset_d row_d after_d dataset_is row_is after_is made =
    subst (IsJsonOf command_of 4 (command.InsertRow dataset row after)) (sym made) (record { read = rw (dataset_is.read, row_is.read, after_is.read) refl; depth = omega (arith, dataset_is.depth, row_is.depth, after_is.depth) })

pub delete_row_back : (dataset : List ℕ) (row : List ℕ) (d dataset_d : Data) → IsJsonOf name_in 0 dataset dataset_d
    → d ≡ object (member (codes "dataset") dataset_d (member (codes "row") (string row) (member (codes "vizual") (string (codes "delete_row")) no_members)))
    → IsJsonOf command_of 4 (command.DeleteRow dataset row) d
unfolding command_of
delete_row_back dataset row d dataset_d dataset_is made =
    subst (IsJsonOf command_of 4 (command.DeleteRow dataset row)) (sym made) (record { read = rw dataset_is.read refl; depth = omega (arith, dataset_is.depth) })

pub move_row_back : (dataset : List ℕ) (row : List ℕ) (after : Option (List ℕ)) (d dataset_d after_d : Data) → IsJsonOf name_in 0 dataset dataset_d → IsJsonOf after_in 0 after after_d
    → d ≡ object (member (codes "after") after_d (member (codes "dataset") dataset_d (member (codes "row") (string row) (member (codes "vizual") (string (codes "move_row")) no_members))))
    → IsJsonOf command_of 4 (command.MoveRow dataset row after) d
unfolding command_of
move_row_back dataset row after d dataset_d after_d dataset_is after_is made =
    subst (IsJsonOf command_of 4 (command.MoveRow dataset row after)) (sym made) (record { read = rw (dataset_is.read, after_is.read) refl; depth = omega (arith, dataset_is.depth, after_is.depth) })

pub set_value_back : (dataset : List ℕ) (row : List ℕ) (column : List ℕ) (value : Value) (d dataset_d column_d value_d : Data) → IsJsonOf name_in 0 dataset dataset_d → IsJsonOf name_in 0 column column_d → IsJsonOf value_of 1 value value_d
    → d ≡ object (member (codes "column") column_d (member (codes "dataset") dataset_d (member (codes "row") (string row) (member (codes "value") value_d (member (codes "vizual") (string (codes "set_value")) no_members)))))
    → IsJsonOf command_of 4 (command.SetValue dataset row column value) d
unfolding command_of
set_value_back dataset row column value d dataset_d column_d value_d dataset_is column_is value_is made =
    subst (IsJsonOf command_of 4 (command.SetValue dataset row column value)) (sym made) (record { read = rw (dataset_is.read, column_is.read, value_is.read) refl; depth = omega (arith, dataset_is.depth, column_is.depth, value_is.depth) })

pub sort_back : (dataset : List ℕ) (by : List SortName) (d dataset_d : Data) (ds : Items) → IsJsonOf name_in 0 dataset dataset_d → are_sorted_by by ≡ Some by → (all_of sort_name_in ds ≡ Some by) × (items_depth ds ≤ 1)
    → d ≡ object (member (codes "by") (array ds) (member (codes "dataset") dataset_d (member (codes "vizual") (string (codes "sort")) no_members)))
    → IsJsonOf command_of 4 (command.Sort dataset by) d
unfolding command_of
sort_back dataset by d dataset_d ds dataset_is fine each made =
    subst (IsJsonOf command_of 4 (command.Sort dataset by)) (sym made) (record { read = rw (dataset_is.read, each.0, fine) refl; depth = omega (arith, dataset_is.depth, each.1) })
