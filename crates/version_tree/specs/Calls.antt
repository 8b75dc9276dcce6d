-- What the calls of a notebook answer.
use Rattle.std.specs.Prelude.{◌≡◌, ℕ, List, Option, Some, None, Result, Ok, Err, IfSome, length}
use Rattle.outside_io.specs.Causes.{Rose}
use Rattle.outside_io.specs.Files.{answer_for}
use Rattle.edit_wire.specs.Answers.{Fails}
use Rattle.edit_wire.specs.declared.edit.Edit.{Edit}
use Rattle.edit_wire.specs.declared.edit.EditFault.{EditFault}
use Rattle.edit_wire.specs.declared.edit.EditFault.TheVariants as fault
use Rattle.version_tree.specs.Notebook.{NotebookData, step, asked}
use Rattle.version_tree.specs.declared.told.Told.{Told}
use Rattle.version_tree.specs.declared.told.Told.TheVariants as told

-- the bytes of a loaded file, at most
abbrev pub file_limit : ℕ
file_limit = 1048576

-- what the shelf may tell: nothing where no file is asked for, else that it failed, or what its files give
abbrev pub MayTell : Option (List (List ℕ × List ℕ)) → Option (List ℕ) → Told → Type 0
MayTell files None told.NotAsked = Unit {0}
MayTell files None told.Failed = ⊥
MayTell files None (told.Got f) = ⊥
MayTell files (Some name) told.NotAsked = ⊥
MayTell files (Some name) told.Failed = Unit {0}
MayTell files (Some name) (told.Got f) = IfSome files (λ fs. f ≡ answer_for fs name file_limit)

-- its count of faults rises where it fails, and else stays
abbrev pub Counts : Told → ℕ → ℕ → Type 0
Counts told.NotAsked before now = now ≡ before
Counts told.Failed before now = Rose before now
Counts (told.Got f) before now = now ≡ before

-- what the shelf tells that is asked for a file, or for none, and what that does to its count of faults
abbrev pub Tells : Option (List (List ℕ × List ℕ)) → ℕ → ℕ → Option (List ℕ) → Told → Type 0
Tells files before now name t = MayTell files name t × Counts t before now

-- the notebook after the answer of an edit of which the shelf told this
abbrev pub Accepts : Result ℕ EditFault → NotebookData → Edit → Told → NotebookData → Type 0
Accepts (Ok n) old edit t new = (step old edit t ≡ Ok new) × (n ≡ length new.versions)
Accepts (Err e) old edit t new = Fails e (step old edit t) × (new ≡ old)

-- one step with what the shelf told; where memory ran out, everything is as it was
abbrev pub Takes : Result ℕ EditFault → Option (List (List ℕ × List ℕ)) → ℕ → ℕ → NotebookData → Edit → NotebookData → Type 0
Takes (Err fault.NoMemory) files before now old edit new = new ≡ old
Takes (Err (fault.Refused r)) files before now old edit new =
    (t : Told) × Tells files before now (asked old.versions edit) t × (step old edit t ≡ Err r) × (new ≡ old)
Takes (Ok n) files before now old edit new =
    (t : Told) × Tells files before now (asked old.versions edit) t × (step old edit t ≡ Ok new) × (n ≡ length new.versions)
