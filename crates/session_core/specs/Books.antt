-- What a notebook's last version earns, and what is kept of the versions' runs beside the notebook.
use Rattle.std.specs.Prelude.{◌≡◌, ℕ, List, map, take, length, Bool, true, false}
use Rattle.cell_model.specs.declared.cell.Cell.{Cell}
use Rattle.version_tree.specs.declared.version.Version.{Version}
use Rattle.version_tree.specs.Notebook.{NotebookData}
use Rattle.report_words.specs.Reports.{version_text, IsStarvedAt}
use Rattle.session_core.specs.Earned.{earned_text, is_starved}
use Rattle.session_core.specs.declared.earned.Earned.{Earned}

-- the runs that are kept are those of the first versions
abbrev pub IsFront : List (List Cell) → List Version → Type 0
IsFront kept versions = kept ≡ take (length kept) (map (λ v. v.cells) versions)

-- a text that is the block of the version with a number, or a starved block in its place
abbrev pub IsVersionText : Bool → List ℕ → NotebookData → ℕ → Type 0
IsVersionText false text book n = text ≡ version_text book n
IsVersionText true text book n = IsStarvedAt book n text

-- what the version with a number earns, whatever the number of its line
abbrev pub IsVersion : Earned → NotebookData → ℕ → Type 0
IsVersion e book n = (line : ℕ) → IsVersionText (is_starved e) (earned_text line e) book n
