-- Written commands on columns are read back.
use Rattle.std.proofs.Common.{◌≡◌, ℕ, ◌<◌, ◌≤◌, ◌^◌, List, Some, codes, refl, sym, subst, arith}
use Rattle.serde_json.specs.Data.{Data, Items, items_depth, unsigned, number, array, string, object, member, no_members}
use Rattle.value_types.specs.declared.value.ColumnType.{ColumnType}
use Rattle.sheet_commands.specs.declared.command.Command.TheVariants as command
use Rattle.json_fields.specs.Columns.{type_named}
use Rattle.sheet_json.specs.Commands.{command_of}
use Rattle.json_fields.specs.Values.{name_in}
use Rattle.json_fields.specs.Written.{IsJsonOf}
use Rattle.json_fields.specs.Json.{all_of}
use Rattle.json_fields.specs.Lists.{are_kept}
use Rattle.json_fields.proofs.Ranges.{in_range}

pub insert_column_back : (dataset : List ℕ) (name : List ℕ) (kind : ColumnType) (at : ℕ) (d dataset_d name_d : Data) (word : List ℕ) → IsJsonOf name_in 0 dataset dataset_d → IsJsonOf name_in 0 name name_d → type_named word ≡ Some kind → at < 2 ^ 32
    → d ≡ object (member (codes "at") (number (unsigned at)) (member (codes "dataset") dataset_d (member (codes "name") name_d (member (codes "type") (string word) (member (codes "vizual") (string (codes "insert_column")) no_members)))))
    → IsJsonOf command_of 4 (command.InsertColumn dataset name kind at) d
unfolding command_of
insert_column_back dataset name kind at d dataset_d name_d word dataset_is name_is named small made =
    subst (IsJsonOf command_of 4 (command.InsertColumn dataset name kind at)) (sym made) (record { read = rw (dataset_is.read, name_is.read, named, in_range at small) refl; depth = omega (arith, dataset_is.depth, name_is.depth) })

pub delete_column_back : (dataset : List ℕ) (name : List ℕ) (d dataset_d name_d : Data) → IsJsonOf name_in 0 dataset dataset_d → IsJsonOf name_in 0 name name_d
    → d ≡ object (member (codes "dataset") dataset_d (member (codes "name") name_d (member (codes "vizual") (string (codes "delete_column")) no_members)))
    → IsJsonOf command_of 4 (command.DeleteColumn dataset name) d
unfolding command_of
delete_column_back dataset name d dataset_d name_d dataset_is name_is made =
    subst (IsJsonOf command_of 4 (command.DeleteColumn dataset name)) (sym made) (record { read = rw (dataset_is.read, name_is.read) refl; depth = omega (arith, dataset_is.depth, name_is.depth) })

pub rename_column_back : (dataset : List ℕ) (name : List ℕ) (to : List ℕ) (d dataset_d name_d to_d : Data) → IsJsonOf name_in 0 dataset dataset_d → IsJsonOf name_in 0 name name_d → IsJsonOf name_in 0 to to_d
    → d ≡ object (member (codes "dataset") dataset_d (member (codes "name") name_d (member (codes "to") to_d (member (codes "vizual") (string (codes "rename_column")) no_members))))
    → IsJsonOf command_of 4 (command.RenameColumn dataset name to) d
unfolding command_of
rename_column_back dataset name to d dataset_d name_d to_d dataset_is name_is to_is made =
    subst (IsJsonOf command_of 4 (command.RenameColumn dataset name to)) (sym made) (record { read = rw (dataset_is.read, name_is.read, to_is.read) refl; depth = omega (arith, dataset_is.depth, name_is.depth, to_is.depth) })

pub move_column_back : (dataset : List ℕ) (name : List ℕ) (at : ℕ) (d dataset_d name_d : Data) → IsJsonOf name_in 0 dataset dataset_d → IsJsonOf name_in 0 name name_d → at < 2 ^ 32
    → d ≡ object (member (codes "at") (number (unsigned at)) (member (codes "dataset") dataset_d (member (codes "name") name_d (member (codes "vizual") (string (codes "move_column")) no_members))))
    → IsJsonOf command_of 4 (command.MoveColumn dataset name at) d
unfolding command_of
move_column_back dataset name at d dataset_d name_d dataset_is name_is small made =
    subst (IsJsonOf command_of 4 (command.MoveColumn dataset name at)) (sym made) (record { read = rw (dataset_is.read, name_is.read, in_range at small) refl; depth = omega (arith, dataset_is.depth, name_is.depth) })

pub keep_columns_back : (dataset : List ℕ) (names : List (List ℕ)) (d dataset_d : Data) (ds : Items) → IsJsonOf name_in 0 dataset dataset_d → are_kept names ≡ Some names → (all_of name_in ds ≡ Some names) × (items_depth ds ≤ 0)
    → d ≡ object (member (codes "dataset") dataset_d (member (codes "names") (array ds) (member (codes "vizual") (string (codes "keep_columns")) no_members)))
    → IsJsonOf command_of 4 (command.KeepColumns dataset names) d
unfolding command_of
keep_columns_back dataset names d dataset_d ds dataset_is fine each made =
    subst (IsJsonOf command_of 4 (command.KeepColumns dataset names)) (sym made) (record { read = rw (dataset_is.read, each.0, fine) refl; depth = omega (arith, dataset_is.depth, each.1) })

pub formula_back : (dataset : List ℕ) (column : List ℕ) (text : List ℕ) (d dataset_d column_d : Data) → IsJsonOf name_in 0 dataset dataset_d → IsJsonOf name_in 0 column column_d
    → d ≡ object (member (codes "column") column_d (member (codes "dataset") dataset_d (member (codes "text") (string text) (member (codes "vizual") (string (codes "formula")) no_members))))
    → IsJsonOf command_of 4 (command.Formula dataset column text) d
unfolding command_of
formula_back dataset column text d dataset_d column_d dataset_is column_is made =
    subst (IsJsonOf command_of 4 (command.Formula dataset column text)) (sym made) (record { read = rw (dataset_is.read, column_is.read) refl; depth = omega (arith, dataset_is.depth, column_is.depth) })
