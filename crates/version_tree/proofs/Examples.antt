-- Worked examples of the notebook, each closed by computing.
use Rattle.std.proofs.Common.{◌≡◌, refl, ℕ, List, [], ◌∷◌, Some, None, Result, Ok, Err}
use Rattle.std.specs.Prelude.{codes, map}
use Rattle.cell_model.specs.declared.cell.Cell.{Cell}
use Rattle.cell_model.specs.declared.cell.CellKind.{CellKind}
use Rattle.cell_model.specs.declared.refusal.EditRefusal.{EditRefusal}
use Rattle.cell_model.specs.declared.refusal.EditRefusal.TheVariants as refusal
use Rattle.dataset_types.specs.declared.picks.Pick.{Pick}
use Rattle.edit_wire.specs.declared.edit.Edit.{Edit}
use Rattle.edit_wire.specs.declared.edit.EditCell.TheVariants as cell
use Rattle.edit_wire.specs.declared.edit.EditKind.{EditKind}
use Rattle.edit_wire.specs.declared.edit.EditKind.TheVariants as kind
use Rattle.cell_model.specs.declared.cell.CellKind.TheVariants as does
use Rattle.outside_io.specs.declared.shelf.Fetched.TheVariants as fetched
use Rattle.dataset_types.specs.declared.load_options.Repair.TheVariants as repair
use Rattle.version_tree.specs.Versions.{main, head_of, cells_of}
use Rattle.version_tree.specs.Limits.{prefixes_of}
use Rattle.version_tree.specs.Notebook.{NotebookData, start, step, asked, notebook_from}
use Rattle.version_tree.specs.Prefixes.{all_prefixes}
use Rattle.version_tree.specs.declared.head.Head.TheVariants as head
use Rattle.version_tree.specs.declared.told.Told.{Told}
use Rattle.version_tree.specs.declared.told.Told.TheVariants as told

abbrev b : List ℕ
b = codes "b"

abbrev edit : List ℕ → EditKind → Edit
edit branch kind = record { branch = branch; kind = kind }

-- edits for which no file is asked
abbrev untold : List Edit → List (Edit × Told)
untold edits = map (λ e. (e, told.NotAsked)) edits

-- what the shelf isn't asked about, refused or not
abbrev said : NotebookData → Edit → Result NotebookData EditRefusal
said book e = step book e told.NotAsked

abbrev after : List Pick → List Edit → NotebookData
after picks edits = notebook_from (start picks) (untold edits)

abbrev made : List Pick → ℕ → CellKind → Cell
made picks id k = record { id = id; kind = k; picks = picks }

-- each append makes a version whose last cell has the version's number
two_appends : (picks : List Pick) (k l : CellKind)
    → (after picks (edit main (kind.Append (cell.Other k)) ∷ edit main (kind.Append (cell.Other l)) ∷ [])).versions
    ≡ record { branch = main; cells = made picks 1 k ∷ [] } ∷ record { branch = main; cells = made picks 1 k ∷ made picks 2 l ∷ [] } ∷ []
two_appends picks k l = refl

-- a branch has the cells of the version that it comes from, and its edits leave the other branch
abbrev on_two : List Pick → CellKind → NotebookData
on_two picks k =
    after picks
    (edit main (kind.Append (cell.Other k)) ∷ edit main (kind.Delete 1) ∷ edit b (kind.Branch 1) ∷ edit b (kind.Insert 1 (cell.Other k)) ∷ [])

emptied : (picks : List Pick) (k : CellKind) → cells_of (on_two picks k).versions 2 ≡ Some []
emptied picks k = refl

branched_off : (picks : List Pick) (k : CellKind) → cells_of (on_two picks k).versions 3 ≡ Some (made picks 1 k ∷ [])
branched_off picks k = refl

put_before : (picks : List Pick) (k : CellKind) → cells_of (on_two picks k).versions 4 ≡ Some (made picks 4 k ∷ made picks 1 k ∷ [])
put_before picks k = refl

no_version_0 : (picks : List Pick) (k : CellKind) → cells_of (on_two picks k).versions 0 ≡ None
no_version_0 picks k = refl

no_version_5 : (picks : List Pick) (k : CellKind) → cells_of (on_two picks k).versions 5 ≡ None
no_version_5 picks k = refl

head_of_main : (picks : List Pick) (k : CellKind) → head_of (on_two picks k).versions main ≡ head.Version 2
head_of_main picks k = refl

head_of_b : (picks : List Pick) (k : CellKind) → head_of (on_two picks k).versions b ≡ head.Version 4
head_of_b picks k = refl

-- main is there from the start, and no other branch
main_from_the_start : head_of [] main ≡ head.Empty
main_from_the_start = refl

no_other_branch : (picks : List Pick) (k : CellKind) → said (start picks) (edit b (kind.Append (cell.Other k))) ≡ Err refusal.NoBranch
no_other_branch picks k = refl

-- a version that isn't there is refused before a name that is taken
no_version_first : (picks : List Pick) → said (start picks) (edit main (kind.Branch 1)) ≡ Err refusal.NoVersion
no_version_first picks = refl

taken_name : (picks : List Pick) (k : CellKind) → said (on_two picks k) (edit b (kind.Branch 1)) ≡ Err refusal.BranchTaken
taken_name picks k = refl

-- in a version without cells there is nothing to delete
nothing_to_delete : (picks : List Pick) → said (start picks) (edit main (kind.Delete 1)) ≡ Err refusal.NoCell
nothing_to_delete picks = refl

-- version 4 has two cells: an insert goes to 3 at most, an update to 2
insert_last : (picks : List Pick) (k : CellKind)
    → cells_of (notebook_from (on_two picks k) (untold (edit b (kind.Insert 3 (cell.Other k)) ∷ []))).versions 5
    ≡ Some (made picks 4 k ∷ made picks 1 k ∷ made picks 5 k ∷ [])
insert_last picks k = refl

insert_too_far : (picks : List Pick) (k : CellKind) → said (on_two picks k) (edit b (kind.Insert 4 (cell.Other k))) ≡ Err refusal.NoCell
insert_too_far picks k = refl

update_too_far : (picks : List Pick) (k : CellKind) → said (on_two picks k) (edit b (kind.Update 3 (cell.Other k))) ≡ Err refusal.NoCell
update_too_far picks k = refl

-- the prefixes 1, 4 and 4 1
three_prefixes : (picks : List Pick) (k : CellKind) → prefixes_of (on_two picks k).versions ≡ 3
three_prefixes picks k = refl

four_prefixes_one_twice : (picks : List Pick) (k : CellKind)
    → all_prefixes (on_two picks k).versions ≡ (1 ∷ []) ∷ (1 ∷ []) ∷ (4 ∷ []) ∷ (4 ∷ 1 ∷ []) ∷ []
four_prefixes_one_twice picks k = refl

-- ---- what the shelf tells of the file of a load

abbrev load : List ℕ → Edit
load branch = edit branch (kind.Append (cell.Load (codes "p") (codes "p.csv") [] repair.Null))

-- the version has the bytes of the file
file_there : (picks : List Pick) (bytes : List ℕ) → step (start picks) (load main) (told.Got (fetched.Bytes bytes))
    ≡ Ok (record { picks = picks; versions = record { branch = main; cells = record { id = 1; kind = does.Load (codes "p") bytes [] repair.Null; picks = picks } ∷ [] } ∷ [] })
file_there picks bytes = refl

file_missing : (picks : List Pick) → step (start picks) (load main) (told.Got fetched.Missing) ≡ Err refusal.NoFile
file_missing picks = refl

file_too_long : (picks : List Pick) → step (start picks) (load main) (told.Got fetched.TooLong) ≡ Err refusal.FileTooLong
file_too_long picks = refl

shelf_failed : (picks : List Pick) → step (start picks) (load main) told.Failed ≡ Err refusal.FileFault
shelf_failed picks = refl

-- no file is asked for where the branch isn't there
asked_last : asked [] (load b) ≡ None
asked_last = refl
