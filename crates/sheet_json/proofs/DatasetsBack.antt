-- Written commands on datasets as a whole are read back.
use Rattle.std.proofs.Common.{◌≡◌, ℕ, List, codes, refl, sym, subst, arith}
use Rattle.serde_json.specs.Data.{Data, string, object, member, no_members}
use Rattle.sheet_commands.specs.declared.command.Command.TheVariants as command
use Rattle.sheet_json.specs.Commands.{command_of}
use Rattle.json_fields.specs.Values.{name_in}
use Rattle.json_fields.specs.Written.{IsJsonOf}

pub rename_dataset_back : (dataset : List ℕ) (to : List ℕ) (d dataset_d to_d : Data) → IsJsonOf name_in 0 dataset dataset_d → IsJsonOf name_in 0 to to_d
    → d ≡ object (member (codes "dataset") dataset_d (member (codes "to") to_d (member (codes "vizual") (string (codes "rename_dataset")) no_members)))
    → IsJsonOf command_of 4 (command.RenameDataset dataset to) d
unfolding command_of
rename_dataset_back dataset to d dataset_d to_d dataset_is to_is made =
    subst (IsJsonOf command_of 4 (command.RenameDataset dataset to)) (sym made) (record { read = rw (dataset_is.read, to_is.read) refl; depth = omega (arith, dataset_is.depth, to_is.depth) })

pub copy_dataset_back : (dataset : List ℕ) (to : List ℕ) (d dataset_d to_d : Data) → IsJsonOf name_in 0 dataset dataset_d → IsJsonOf name_in 0 to to_d
    → d ≡ object (member (codes "dataset") dataset_d (member (codes "to") to_d (member (codes "vizual") (string (codes "copy_dataset")) no_members)))
    → IsJsonOf command_of 4 (command.CopyDataset dataset to) d
unfolding command_of
copy_dataset_back dataset to d dataset_d to_d dataset_is to_is made =
    subst (IsJsonOf command_of 4 (command.CopyDataset dataset to)) (sym made) (record { read = rw (dataset_is.read, to_is.read) refl; depth = omega (arith, dataset_is.depth, to_is.depth) })

pub drop_dataset_back : (dataset : List ℕ) (d dataset_d : Data) → IsJsonOf name_in 0 dataset dataset_d
    → d ≡ object (member (codes "dataset") dataset_d (member (codes "vizual") (string (codes "drop_dataset")) no_members))
    → IsJsonOf command_of 4 (command.DropDataset dataset) d
unfolding command_of
drop_dataset_back dataset d dataset_d dataset_is made =
    subst (IsJsonOf command_of 4 (command.DropDataset dataset)) (sym made) (record { read = rw dataset_is.read refl; depth = omega (arith, dataset_is.depth) })
