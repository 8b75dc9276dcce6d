-- What a line says, and the report of a stream's lines, each with what the shelf told of its file.
use Rattle.std.specs.Prelude.{◌≡◌, ◌≤◌, ◌+◌, ◌-◌, ◌^◌, min, ℕ, suc, List, [], ◌∷◌, ◌++◌, map, length, nat_le, if◌then◌else◌, Option, Some, None, Result, Ok, Err, unwrap_or, option_map}
use Rattle.std.specs.List.{slice_get}
use Rattle.line_reader.specs.Blanks.{is_blank}
use Rattle.dataset_types.specs.declared.picks.Pick.{Pick}
use Rattle.dataset_types.specs.Envs.{empty_env}
use Rattle.cell_model.specs.declared.cell.Cell.{Cell}
use Rattle.cell_model.specs.declared.refusal.EditRefusal.{EditRefusal}
use Rattle.cell_model.specs.declared.refusal.EditRefusal.TheVariants as refusal
use Rattle.cell_model.specs.declared.run.Policy.TheVariants as policy
use Rattle.cell_model.specs.Runs.{StepData, run_of, env_after}
use Rattle.cell_model.specs.Trails.{results_of}
use Rattle.cell_model.specs.Answers.{IsReached}
use Rattle.cell_kinds.specs.Kinds.{meaning}
use Rattle.edit_wire.specs.declared.edit.Edit.{Edit}
use Rattle.edit_wire.specs.Wire.{edit_of}
use Rattle.version_tree.specs.declared.told.Told.{Told}
use Rattle.version_tree.specs.declared.told.Told.TheVariants as told
use Rattle.version_tree.specs.Calls.{MayTell}
use Rattle.version_tree.specs.Notebook.{NotebookData, start, step, asked, after}
use Rattle.version_tree.specs.Versions.{cells_at, branch_of}
use Rattle.report_text.specs.Report.{block_text, refusal_text, starved_text}
use Rattle.report_words.specs.declared.said.Said.{Said}
use Rattle.report_words.specs.declared.said.Said.TheVariants.{Nothing, Refuses, Edits}

-- ---- what a line says

-- an edit, or the refusal of a line that gives none
abbrev pub said_by : Result Edit EditRefusal → Said
said_by (Ok edit) = Edits edit
said_by (Err r) = Refuses r

-- nothing where it is blank, else an edit or a refusal; a line of more than 65,536 bytes is too long
unfoldable pub said : List ℕ → Said
said line =
    if nat_le (length line) 65536
    then (if is_blank line then Nothing else said_by (edit_of line))
    else Refuses refusal.LineTooLong

-- ---- what a version's block is

-- the serial run of the cells of the version with a number
abbrev pub run_at : NotebookData → ℕ → List StepData
run_at book n = run_of meaning policy.Stop (cells_at book.versions n)

-- the branch of the version with a number
abbrev pub branch_at : NotebookData → ℕ → List ℕ
branch_at book n = unwrap_or (branch_of book.versions n) []

-- the block that a run of the version with a number gives
abbrev pub run_text : NotebookData → ℕ → List StepData → List ℕ
run_text book n run = block_text n (branch_at book n) (cells_at book.versions n) (results_of run) (env_after empty_env run)

-- the block of the version with a number
abbrev pub version_text : NotebookData → ℕ → List ℕ
version_text book n = run_text book n (run_at book n)

-- ---- what a line does and earns

-- the notebook after a line
abbrev pub after_said : NotebookData → Said → Told → NotebookData
after_said book Nothing t = book
after_said book (Refuses r) t = book
after_said book (Edits edit) t = after book (step book edit t)

-- the block of the new version, or the refusal of the line with this number
abbrev pub earned : ℕ → Result NotebookData EditRefusal → List ℕ
earned number (Ok more) = version_text more (length more.versions)
earned number (Err r) = refusal_text number r

-- a line's part of the report
abbrev pub text_said : NotebookData → ℕ → Said → Told → List ℕ
text_said book number Nothing t = []
text_said book number (Refuses r) t = refusal_text number r
text_said book number (Edits edit) t = earned number (step book edit t)

-- the file that the shelf is asked for at a line
abbrev pub asked_said : NotebookData → Said → Option (List ℕ)
asked_said book Nothing = None
asked_said book (Refuses r) = None
asked_said book (Edits edit) = asked book.versions edit

-- ---- the lines of a stream

-- the notebook after a line
abbrev pub after_line : NotebookData → List ℕ × Told → NotebookData
after_line book h = after_said book (said h.0) h.1

-- a line's part of the report
abbrev pub line_text : NotebookData → ℕ → List ℕ × Told → List ℕ
line_text book number h = text_said book number (said h.0) h.1

-- the notebook after some lines
abbrev pub book_from : NotebookData → List (List ℕ × Told) → NotebookData
book_from book [] = book
book_from book (h ∷ hs) = book_from (after_line book h) hs

-- the parts of the lines, in order, where the first of them has this number
abbrev pub report_from : NotebookData → ℕ → List (List ℕ × Told) → List ℕ
report_from book number [] = []
report_from book number (h ∷ hs) = line_text book number h ++ report_from (after_line book h) (number + 1) hs

-- the notebook of a stream's lines, under these picks
abbrev pub book_of : List Pick → List (List ℕ × Told) → NotebookData
book_of picks hs = book_from (start picks) hs

-- the report of a stream's lines, under these picks
abbrev pub report_of : List Pick → List (List ℕ × Told) → List ℕ
report_of picks hs = report_from (start picks) 1 hs

-- the lines alone
abbrev pub lines_in : List (List ℕ × Told) → List (List ℕ)
lines_in hs = map (λ h. h.0) hs

-- ---- what the shelf may tell

-- what it may tell of each line, after the lines before it
abbrev pub MayTellAll : Option (List (List ℕ × List ℕ)) → NotebookData → List (List ℕ × Told) → Type 0
MayTellAll files book [] = Unit {0}
MayTellAll files book (h ∷ hs) = MayTell files (asked_said book (said h.0)) h.1 × MayTellAll files (after_line book h) hs

-- one where the shelf failed
abbrev pub failure : Told → ℕ
failure told.NotAsked = 0
failure told.Failed = 1
failure (told.Got f) = 0

-- how often the shelf failed
abbrev pub failures : List (List ℕ × Told) → ℕ
failures [] = 0
failures (h ∷ hs) = failure h.1 + failures hs

-- The shelf told this of the lines, and its count of faults rose by at least the number of failures.
pub record WasTold (files : Option (List (List ℕ × List ℕ))) (before now : ℕ) (picks : List Pick) (hs : List (List ℕ × Told)) : Type 0 where
  pub told : MayTellAll files (start picks) hs
  pub rose : min (before + failures hs) (2 ^ 64 - 1) ≤ now

-- ---- starved blocks

-- the id of the cell at a position, counted from 1
abbrev pub id_at : List Cell → ℕ → ℕ
id_at cells position = unwrap_or (option_map (λ c. c.id) (slice_get cells (position - 1))) 0

-- a starved block of the version with a number, at a position that its run reaches
abbrev pub IsStarvedAt : NotebookData → ℕ → List ℕ → Type 0
IsStarvedAt book n text =
    (position : ℕ) × IsReached policy.Stop position (run_at book n)
    × (text ≡ starved_text n (branch_at book n) position (id_at (cells_at book.versions n) position))

-- a starved block in the place of the block that a line earns by making a version
abbrev pub IsStarvedText : NotebookData → Said → Told → List ℕ → Type 0
IsStarvedText book s t text =
    (length (after_said book s t).versions ≡ suc (length book.versions)) × IsStarvedAt (after_said book s t) (suc (length book.versions)) text
