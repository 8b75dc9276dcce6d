-- Each command of a line is one that has a line.
use Rattle.std.proofs.Common.{◌≡◌, ℕ, ◌≤◌, ◌&&◌, List, length, true, sym, subst, Option, Some, None, option_map, codes}
use Rattle.std.specs.Prelude.{option_and_then, nat_le, Result, IfOk, IfSome}
use Rattle.std.proofs.lemmas.Result.{IfOk-weaker}
use Rattle.std.specs.Str.{bytes_eq}
use Rattle.std.proofs.lemmas.Bool.{and_parts, leb-true}
use Rattle.serde_json.specs.Data.{Data, Items}
use Rattle.serde_json.specs.Find.{get, as_array, as_str}
use Rattle.value_types.specs.declared.value.ColumnType.{ColumnType}
use Rattle.sheet_commands.specs.Apart.{are_apart}
use Rattle.sheet_commands.specs.declared.command.Command.{Command}
use Rattle.sheet_commands.specs.declared.command.Command.TheVariants as command
use Rattle.sheet_commands.specs.declared.sort_names.SortName.{SortName}
use Rattle.json_fields.specs.Json.{has_members, field, all_of}
use Rattle.json_fields.specs.Columns.{type_in}
use Rattle.json_fields.specs.Numbers.{position_in}
use Rattle.json_fields.specs.Values.{name_in, value_of}
use Rattle.json_fields.specs.Lists.{distinct_names, are_kept, kept_in}
use Rattle.sheet_json.specs.ColumnCommands.{insert_column_of, delete_column_of, rename_column_of, move_column_of, keep_columns_of, formula_of, column_command}
use Rattle.json_fields.specs.Values.{after_in}
use Rattle.json_fields.specs.Lists.{sort_name_in, are_sorted_by, by_in}
use Rattle.sheet_json.specs.RowCommands.{insert_row_of, delete_row_of, move_row_of, set_value_of, sort_of, row_command}
use Rattle.sheet_json.specs.DatasetCommands.{rename_dataset_of, copy_dataset_of, drop_dataset_of, dataset_command}
use Rattle.sheet_json.specs.Commands.{command_named, command_of}
use Rattle.sheet_json.specs.Plain.{IsPlainCommand}
use Rattle.json_fields.proofs.Options.{mapped, chained, taken, tested, within, which, first_of_two}

-- ---- lists of 1 to 32

few : (n : ℕ) → nat_le 1 n && nat_le n 32 ≡ true → (1 ≤ n) × (n ≤ 32)
few n e = let parts = and_parts (nat_le 1 n) (nat_le n 32) e in (leb-true 1 n parts.0, leb-true n 32 parts.1)

kept_few : (names kept : List (List ℕ)) → are_kept names ≡ Some kept → (1 ≤ length kept) × (length kept ≤ 32)
kept_few names kept e =
    let sized = tested (nat_le 1 (length names) && nat_le (length names) 32) (distinct_names names) kept e in
    let apart = taken (are_apart names) names kept sized.1 in
    subst (λ (ns : List (List ℕ)). (1 ≤ length ns) × (length ns ≤ 32)) apart.1 (few (length names) sized.0)

sorted_few : (by sorted : List SortName) → are_sorted_by by ≡ Some sorted → (1 ≤ length sorted) × (length sorted ≤ 32)
sorted_few by sorted e =
    let tested = taken (nat_le 1 (length by) && nat_le (length by) 32) by sorted e in
    subst (λ (ns : List SortName). (1 ≤ length ns) × (length ns ≤ 32)) tested.1 (few (length by) tested.0)

kept_in_few : (d : Data) (kept : List (List ℕ)) → field kept_in (codes "names") d ≡ Some kept → (1 ≤ length kept) × (length kept ≤ 32)
kept_in_few d kept e =
    let there = chained kept_in (get (codes "names") d) kept e in
    let list = chained (λ (ds : Items). option_and_then are_kept (all_of name_in ds)) (as_array there.0) kept there.2 in
    let read = chained are_kept (all_of name_in list.0) kept list.2 in
    kept_few read.0 kept read.2

by_in_few : (d : Data) (by : List SortName) → field by_in (codes "by") d ≡ Some by → (1 ≤ length by) × (length by ≤ 32)
by_in_few d by e =
    let there = chained by_in (get (codes "by") d) by e in
    let list = chained (λ (ds : Items). option_and_then are_sorted_by (all_of sort_name_in ds)) (as_array there.0) by there.2 in
    let read = chained are_sorted_by (all_of sort_name_in list.0) by list.2 in
    sorted_few read.0 by read.2

-- ---- commands without such a list

-- with a field, and what the others give
next : {A : Type 0} (f : A → Option Command) (o : Option A) (c : Command) → ((x : A) → f x ≡ Some c → IsPlainCommand c) → option_and_then f o ≡ Some c → IsPlainCommand c
next f None c plain e = absurd (cc)
next f (Some x) c plain e = plain x e

-- with the last field
last : {A : Type 0} (f : A → Command) (o : Option A) (c : Command) → ((x : A) → IsPlainCommand (f x)) → option_map f o ≡ Some c → IsPlainCommand c
last f o c plain e = let made = mapped f o c e in subst IsPlainCommand (sym made.2) (plain made.0)

insert_column_plain : (dataset : List ℕ) (d : Data) (c : Command) → insert_column_of dataset d ≡ Some c → IsPlainCommand c
insert_column_plain dataset d c e =
    next (λ (name : List ℕ). option_and_then (λ (kind : ColumnType). option_map (command.InsertColumn dataset name kind) (field position_in (codes "at") d)) (field type_in (codes "type") d)) (field name_in (codes "name") d) c
    (λ name. next (λ (kind : ColumnType). option_map (command.InsertColumn dataset name kind) (field position_in (codes "at") d)) (field type_in (codes "type") d) c
    (λ kind. last (command.InsertColumn dataset name kind) (field position_in (codes "at") d) c (λ _. tt))) (within (has_members 5 d) _ c e)

delete_column_plain : (dataset : List ℕ) (d : Data) (c : Command) → delete_column_of dataset d ≡ Some c → IsPlainCommand c
delete_column_plain dataset d c e =
    last (command.DeleteColumn dataset) (field name_in (codes "name") d) c (λ _. tt) (within (has_members 3 d) _ c e)

rename_column_plain : (dataset : List ℕ) (d : Data) (c : Command) → rename_column_of dataset d ≡ Some c → IsPlainCommand c
rename_column_plain dataset d c e =
    next (λ (name : List ℕ). option_map (command.RenameColumn dataset name) (field name_in (codes "to") d)) (field name_in (codes "name") d) c
    (λ name. last (command.RenameColumn dataset name) (field name_in (codes "to") d) c (λ _. tt)) (within (has_members 4 d) _ c e)

move_column_plain : (dataset : List ℕ) (d : Data) (c : Command) → move_column_of dataset d ≡ Some c → IsPlainCommand c
move_column_plain dataset d c e =
    next (λ (name : List ℕ). option_map (command.MoveColumn dataset name) (field position_in (codes "at") d)) (field name_in (codes "name") d) c
    (λ name. last (command.MoveColumn dataset name) (field position_in (codes "at") d) c (λ _. tt)) (within (has_members 4 d) _ c e)

keep_columns_plain : (dataset : List ℕ) (d : Data) (c : Command) → keep_columns_of dataset d ≡ Some c → IsPlainCommand c
keep_columns_plain dataset d c e =
    let made = mapped (command.KeepColumns dataset) (field kept_in (codes "names") d) c (within (has_members 3 d) _ c e) in
    subst IsPlainCommand {x = command.KeepColumns dataset made.0} (sym made.2) (kept_in_few d made.0 made.1)

formula_plain : (dataset : List ℕ) (d : Data) (c : Command) → formula_of dataset d ≡ Some c → IsPlainCommand c
formula_plain dataset d c e =
    next (λ (column : List ℕ). option_map (command.Formula dataset column) (field as_str (codes "text") d)) (field name_in (codes "column") d) c
    (λ column. last (command.Formula dataset column) (field as_str (codes "text") d) c (λ _. tt)) (within (has_members 4 d) _ c e)

insert_row_plain : (dataset : List ℕ) (d : Data) (c : Command) → insert_row_of dataset d ≡ Some c → IsPlainCommand c
insert_row_plain dataset d c e =
    next (λ (row : List ℕ). option_map (command.InsertRow dataset row) (field after_in (codes "after") d)) (field name_in (codes "row") d) c
    (λ row. last (command.InsertRow dataset row) (field after_in (codes "after") d) c (λ _. tt)) (within (has_members 4 d) _ c e)

delete_row_plain : (dataset : List ℕ) (d : Data) (c : Command) → delete_row_of dataset d ≡ Some c → IsPlainCommand c
delete_row_plain dataset d c e =
    last (command.DeleteRow dataset) (field as_str (codes "row") d) c (λ _. tt) (within (has_members 3 d) _ c e)

move_row_plain : (dataset : List ℕ) (d : Data) (c : Command) → move_row_of dataset d ≡ Some c → IsPlainCommand c
move_row_plain dataset d c e =
    next (λ (row : List ℕ). option_map (command.MoveRow dataset row) (field after_in (codes "after") d)) (field as_str (codes "row") d) c
    (λ row. last (command.MoveRow dataset row) (field after_in (codes "after") d) c (λ _. tt)) (within (has_members 4 d) _ c e)

set_value_plain : (dataset : List ℕ) (d : Data) (c : Command) → set_value_of dataset d ≡ Some c → IsPlainCommand c
set_value_plain dataset d c e =
    next (λ (row : List ℕ). option_and_then (λ (column : List ℕ). option_map (command.SetValue dataset row column) (field value_of (codes "value") d)) (field name_in (codes "column") d)) (field as_str (codes "row") d) c
    (λ row. next (λ (column : List ℕ). option_map (command.SetValue dataset row column) (field value_of (codes "value") d)) (field name_in (codes "column") d) c
    (λ column. last (command.SetValue dataset row column) (field value_of (codes "value") d) c (λ _. tt))) (within (has_members 5 d) _ c e)

sort_plain : (dataset : List ℕ) (d : Data) (c : Command) → sort_of dataset d ≡ Some c → IsPlainCommand c
sort_plain dataset d c e =
    let made = mapped (command.Sort dataset) (field by_in (codes "by") d) c (within (has_members 3 d) _ c e) in
    subst IsPlainCommand {x = command.Sort dataset made.0} (sym made.2) (by_in_few d made.0 made.1)

rename_dataset_plain : (dataset : List ℕ) (d : Data) (c : Command) → rename_dataset_of dataset d ≡ Some c → IsPlainCommand c
rename_dataset_plain dataset d c e =
    last (command.RenameDataset dataset) (field name_in (codes "to") d) c (λ _. tt) (within (has_members 3 d) _ c e)

copy_dataset_plain : (dataset : List ℕ) (d : Data) (c : Command) → copy_dataset_of dataset d ≡ Some c → IsPlainCommand c
copy_dataset_plain dataset d c e =
    last (command.CopyDataset dataset) (field name_in (codes "to") d) c (λ _. tt) (within (has_members 3 d) _ c e)

drop_dataset_plain : (dataset : List ℕ) (d : Data) (c : Command) → drop_dataset_of dataset d ≡ Some c → IsPlainCommand c
drop_dataset_plain dataset d c e =
    let made : Some (command.DropDataset dataset) ≡ Some c = within (has_members 2 d) _ c e in
    let same : command.DropDataset dataset ≡ c = cc in
    subst IsPlainCommand same tt

-- ---- words

column_plain : (word dataset : List ℕ) (d : Data) (c : Command) → column_command word dataset d ≡ Some c → IsPlainCommand c
column_plain word dataset d c e =
    which (bytes_eq word (codes "insert_column")) (insert_column_of dataset d) _ c e (insert_column_plain dataset d c)
    (λ e. which (bytes_eq word (codes "delete_column")) (delete_column_of dataset d) _ c e (delete_column_plain dataset d c)
    (λ e. which (bytes_eq word (codes "rename_column")) (rename_column_of dataset d) _ c e (rename_column_plain dataset d c)
    (λ e. which (bytes_eq word (codes "move_column")) (move_column_of dataset d) _ c e (move_column_plain dataset d c)
    (λ e. which (bytes_eq word (codes "keep_columns")) (keep_columns_of dataset d) _ c e (keep_columns_plain dataset d c)
    (λ e. which (bytes_eq word (codes "formula")) (formula_of dataset d) None c e (formula_plain dataset d c)
    (λ e. absurd (cc)))))))

row_plain : (word dataset : List ℕ) (d : Data) (c : Command) → row_command word dataset d ≡ Some c → IsPlainCommand c
row_plain word dataset d c e =
    which (bytes_eq word (codes "insert_row")) (insert_row_of dataset d) _ c e (insert_row_plain dataset d c)
    (λ e. which (bytes_eq word (codes "delete_row")) (delete_row_of dataset d) _ c e (delete_row_plain dataset d c)
    (λ e. which (bytes_eq word (codes "move_row")) (move_row_of dataset d) _ c e (move_row_plain dataset d c)
    (λ e. which (bytes_eq word (codes "set_value")) (set_value_of dataset d) _ c e (set_value_plain dataset d c)
    (λ e. which (bytes_eq word (codes "sort")) (sort_of dataset d) None c e (sort_plain dataset d c)
    (λ e. absurd (cc))))))

dataset_plain : (word dataset : List ℕ) (d : Data) (c : Command) → dataset_command word dataset d ≡ Some c → IsPlainCommand c
dataset_plain word dataset d c e =
    which (bytes_eq word (codes "rename_dataset")) (rename_dataset_of dataset d) _ c e (rename_dataset_plain dataset d c)
    (λ e. which (bytes_eq word (codes "copy_dataset")) (copy_dataset_of dataset d) _ c e (copy_dataset_plain dataset d c)
    (λ e. which (bytes_eq word (codes "drop_dataset")) (drop_dataset_of dataset d) None c e (drop_dataset_plain dataset d c)
    (λ e. absurd (cc))))

named_plain : (word dataset : List ℕ) (d : Data) (c : Command) → command_named word dataset d ≡ Some c → IsPlainCommand c
named_plain word dataset d c e =
    first_of_two (column_command word dataset d) _ c e (column_plain word dataset d c)
    (λ e. first_of_two (row_command word dataset d) (dataset_command word dataset d) c e (row_plain word dataset d c) (dataset_plain word dataset d c))

pub command_plain : (d : Data) (c : Command) → command_of d ≡ Some c → IsPlainCommand c
unfolding command_of
command_plain d c e =
    let word = chained (λ (word : List ℕ). option_and_then (λ dataset. command_named word dataset d) (field name_in (codes "dataset") d)) (field as_str (codes "vizual") d) c e in
    let on = chained (λ (dataset : List ℕ). command_named word.0 dataset d) (field name_in (codes "dataset") d) c word.2 in
    named_plain word.0 on.0 d c on.2

some_plain : (d : Data) (found : Option Command) → found ≡ command_of d → IfSome found IsPlainCommand
some_plain d None e = tt
some_plain d (Some c) e = command_plain d c (sym e)

-- what is found in an object is one that has a line
pub found_plain : {E : Type 0} (r : Result (Option Command) E) (d : Data) → IfOk r (λ found. found ≡ command_of d) → IfOk r (λ found. IfSome found IsPlainCommand)
found_plain r d is = IfOk-weaker r _ _ (λ found e. some_plain d found e) is
