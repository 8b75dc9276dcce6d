-- The notebook as a fold of edits. It keeps whole lists of cells and shares nothing.
use Rattle.std.specs.Prelude.{ℕ, ◌+◌, List, [], ◌∷◌, ◌++◌, length, if◌then◌else◌, Option, Some, None, Result, Ok, Err, is_ok, option_and_then}
use Rattle.cell_model.specs.declared.cell.Cell.{Cell}
use Rattle.cell_model.specs.declared.cell.CellKind.{CellKind}
use Rattle.cell_model.specs.declared.cell.CellKind.TheVariants as kind
use Rattle.cell_model.specs.declared.refusal.EditRefusal.{EditRefusal}
use Rattle.cell_model.specs.declared.refusal.EditRefusal.TheVariants as refusal
use Rattle.value_types.specs.declared.value.ColumnType.{ColumnType}
use Rattle.outside_io.specs.declared.shelf.Fetched.{Fetched}
use Rattle.outside_io.specs.declared.shelf.Fetched.TheVariants as fetched
use Rattle.dataset_types.specs.declared.load_options.Repair.{Repair}
use Rattle.dataset_types.specs.declared.picks.Pick.{Pick}
use Rattle.edit_wire.specs.declared.edit.Edit.{Edit}
use Rattle.edit_wire.specs.declared.edit.EditCell.{EditCell}
use Rattle.edit_wire.specs.declared.edit.EditCell.TheVariants as cell
use Rattle.edit_wire.specs.declared.edit.EditKind.{EditKind}
use Rattle.version_tree.specs.Versions.{cells_at}
use Rattle.version_tree.specs.Places.{on_ok, place_of, between}
use Rattle.version_tree.specs.Limits.{cell_in, within}
use Rattle.version_tree.specs.declared.version.Version.{Version}
use Rattle.version_tree.specs.declared.place.Place.{Place}
use Rattle.version_tree.specs.declared.told.Told.{Told}
use Rattle.version_tree.specs.declared.told.Told.TheVariants as told

-- the picks that every cell holds, and the versions, oldest first
pub record NotebookData : Type 0 where
  pub picks : List Pick
  pub versions : List Version

-- the notebook without versions
abbrev pub start : List Pick → NotebookData
start picks = record { picks = picks; versions = [] }

-- where an edit goes, or the refusal that it earns before any file is asked for
abbrev pub plan_of : List Version → Edit → Result Place EditRefusal
plan_of vs edit = on_ok (within vs edit) (place_of vs edit)

-- the file that a cell is made from
abbrev pub loads : EditCell → Option (List ℕ)
loads (cell.Load name file types repair) = Some file
loads (cell.Other k) = None

-- the file that the cell of an edit is made from
abbrev pub file_in : EditKind → Option (List ℕ)
file_in k = option_and_then loads (cell_in k)

-- the file that the shelf is asked for at an edit
abbrev pub asked : List Version → Edit → Option (List ℕ)
asked vs edit = if is_ok (plan_of vs edit) then file_in edit.kind else None

-- the load of what a shelf has
abbrev pub load_by : List ℕ → List (Option ColumnType) → Repair → Fetched → Result CellKind EditRefusal
load_by name types repair (fetched.Bytes bytes) = Ok (kind.Load name bytes types repair)
load_by name types repair fetched.Missing = Err refusal.NoFile
load_by name types repair fetched.TooLong = Err refusal.FileTooLong

-- the load of what the shelf told; it is never told nothing
abbrev pub load_told : List ℕ → List (Option ColumnType) → Repair → Told → Result CellKind EditRefusal
load_told name types repair told.NotAsked = Err refusal.FileFault
load_told name types repair told.Failed = Err refusal.FileFault
load_told name types repair (told.Got f) = load_by name types repair f

-- what the cell does that is made with what the shelf told
abbrev pub made_by : EditCell → Told → Result CellKind EditRefusal
made_by (cell.Load name file types repair) t = load_told name types repair t
made_by (cell.Other k) t = Ok k

-- the new cell with an id, if there is one
abbrev pub cell_made : ℕ → List Pick → Option EditCell → Told → Result (List Cell) EditRefusal
cell_made id picks None t = Ok []
cell_made id picks (Some c) t = on_ok (λ does. Ok (record { id = id; kind = does; picks = picks } ∷ [])) (made_by c t)

-- the new cell of an edit, if it brings one
abbrev pub new_cells : ℕ → List Pick → EditKind → Told → Result (List Cell) EditRefusal
new_cells id picks k t = cell_made id picks (cell_in k) t

-- the notebook with one version more
abbrev pub with_version : NotebookData → Version → NotebookData
with_version book v = record { picks = book.picks; versions = book.versions ++ v ∷ [] }

-- the notebook with the version that an edit makes at a place of an earlier one
abbrev pub edited : NotebookData → Edit → Place → List Cell → NotebookData
edited book edit place new =
    with_version book (record { branch = edit.branch; cells = between place new (cells_at book.versions place.base) })

-- the notebook after an edit, or the edit's refusal
abbrev pub step : NotebookData → Edit → Told → Result NotebookData EditRefusal
step book edit t =
    on_ok
    (λ place. on_ok (λ new. Ok (edited book edit place new)) (new_cells (length book.versions + 1) book.picks edit.kind t))
    (plan_of book.versions edit)

-- the notebook after an edit that is accepted, or as it was
abbrev pub after : NotebookData → Result NotebookData EditRefusal → NotebookData
after book (Ok more) = more
after book (Err refusal) = book

-- the notebook after edits, each with what the shelf told of its file
abbrev pub notebook_from : NotebookData → List (Edit × Told) → NotebookData
notebook_from book [] = book
notebook_from book (x ∷ xs) = notebook_from (after book (step book x.0 x.1)) xs
