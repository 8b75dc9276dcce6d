-- What a line earns, as it is written.
use Rattle.std.specs.Prelude.{◌≡◌, ◌≤◌, ◌+◌, ◌-◌, ◌^◌, min, ℕ, List, [], length, Bool, true, false, Option, Result, Ok, Err}
use Rattle.std.specs.Io.KnownBytes.{Appends}
use Rattle.outside_io.specs.Texts.{AppendsFront}
use Rattle.outside_io.specs.declared.sink.WriteFault.{WriteFault}
use Rattle.outside_io.specs.declared.sink.WriteFault.TheVariants as fault
use Rattle.version_tree.specs.declared.told.Told.{Told}
use Rattle.version_tree.specs.Calls.{MayTell}
use Rattle.version_tree.specs.Notebook.{NotebookData}
use Rattle.report_text.specs.Report.{block_text, refusal_text, starved_text}
use Rattle.report_words.specs.Reports.{asked_said, failure, after_said, text_said, IsStarvedText}
use Rattle.report_words.specs.declared.said.Said.{Said}
use Rattle.report_words.specs.declared.status.SessionStatus.{SessionStatus}
use Rattle.report_words.specs.declared.status.SessionStatus.TheVariants as status
use Rattle.session_core.specs.declared.earned.Earned.{Earned}
use Rattle.session_core.specs.declared.earned.Earned.TheVariants as earned

-- the status with which a failed write ends a session
abbrev pub status_of : WriteFault → SessionStatus
status_of fault.Failed = status.WriteFault
status_of fault.NoMemory = status.NoMemory

-- the text of what the line with this number earns
abbrev pub earned_text : ℕ → Earned → List ℕ
earned_text line earned.Nothing = []
earned_text line (earned.Refusal r) = refusal_text line r
earned_text line (earned.Block version branch settled) = block_text version branch settled.cells settled.results settled.env
earned_text line (earned.Starved version branch position cell) = starved_text version branch position cell

-- a block has a result for each cell
abbrev pub IsWhole : Earned → Type 0
IsWhole earned.Nothing = Unit {0}
IsWhole (earned.Refusal r) = Unit {0}
IsWhole (earned.Block version branch settled) = length settled.results ≡ length settled.cells
IsWhole (earned.Starved version branch position cell) = Unit {0}

-- whether it is a starved block
abbrev pub is_starved : Earned → Bool
is_starved earned.Nothing = false
is_starved (earned.Refusal r) = false
is_starved (earned.Block version branch settled) = false
is_starved (earned.Starved version branch position cell) = true

-- a text that is a line's part of the report, or a starved block in its place
abbrev pub EarnsText : Bool → List ℕ → NotebookData → ℕ → Said → Told → Type 0
EarnsText false text book line s t = text ≡ text_said book line s t
EarnsText true text book line s t = IsStarvedText book s t text

-- what a line earns that says this, of which the shelf told that
abbrev pub Earns : Earned → NotebookData → ℕ → Said → Told → Type 0
Earns e book line s t = EarnsText (is_starved e) (earned_text line e) book line s t

-- A line was taken, with what the shelf told of its file: the notebook after it, and what it earns.
abbrev pub Took : Option (List (List ℕ × List ℕ)) → ℕ → ℕ → NotebookData → ℕ → Said → Earned → NotebookData → Type 0
Took files before now old line s e new =
    (t : Told) × MayTell files (asked_said old s) t × (min (before + failure t) (2 ^ 64 - 1) ≤ now)
    × (new ≡ after_said old s t) × Earns e old line s t

-- what was written of what a line earns, by how that ended
abbrev pub WritesLine : {T : Type 0} → Result T SessionStatus → ℕ → Earned → Option (List ℕ) → Option (List ℕ) → Type 0
WritesLine (Ok x) line e old new = (is_starved e ≡ false) × Appends old new (earned_text line e)
WritesLine (Err status.WriteFault) line e old new = (is_starved e ≡ false) × AppendsFront old new (earned_text line e)
WritesLine (Err status.NoMemory) line e old new = AppendsFront old new (earned_text line e)
WritesLine (Err status.Done) line e old new = ⊥
WritesLine (Err status.ReadFault) line e old new = ⊥
WritesLine (Err status.StreamTooLong) line e old new = ⊥
