-- What the top call says, by its status.
use Rattle.std.specs.Prelude.{◌≡◌, ◌⊎◌, ◌≤◌, ℕ, List, length, Option, Some, Ok, Err}
use Rattle.outside_io.specs.Causes.{Rose}
use Rattle.line_reader.specs.Cut.{limit}
use Rattle.dataset_types.specs.declared.picks.Pick.{Pick}
use Rattle.version_tree.specs.Calls.{Tells}
use Rattle.version_tree.specs.declared.told.Told.{Told}
use Rattle.report_words.specs.Reports.{WasTold}
use Rattle.report_words.specs.Says.{Says, Blames}
use Rattle.report_words.specs.declared.status.SessionStatus.{SessionStatus}
use Rattle.report_words.specs.declared.status.SessionStatus.TheVariants as session
use Rattle.vizier_cli.specs.Opening.{opened, CanOpen}
use Rattle.vizier_cli.specs.Statuses.{status_of}
use Rattle.vizier_cli.specs.declared.status.Status.{Status}
use Rattle.vizier_cli.specs.declared.status.Status.TheVariants as status

-- The program ended before the stream was read, by what the shelf told of the picks file.
pub record Ended (result : Status) (file : Option (List ℕ)) (files : Option (List (List ℕ × List ℕ))) (before now : ℕ) : Type 0 where
  pub told : Told
  pub tells : Tells files before now file told
  pub opened : opened told ≡ Err result

-- A session ran, under the picks that the shelf told of: what was taken and written, over the lines that are
-- covered, each with what the shelf told of its file.
pub record Ran (result : Status) (file : Option (List ℕ)) (first left start written : Option (List ℕ)) (files : Option (List (List ℕ × List ℕ))) (before now : ℕ) : Type 0 where
  pub told : Told
  pub between : ℕ
  pub tells : Tells files before between file told
  pub picks : List Pick
  pub opened : opened told ≡ Ok picks
  pub ending : SessionStatus
  pub ends : result ≡ status_of ending
  pub lines : List (List ℕ × Told)
  pub says : Says ending picks first left start written lines
  pub was_told : WasTold files between now picks lines

-- No memory was found before the stream was read.
pub record Starved (result : Status) (first left start written : Option (List ℕ)) : Type 0 where
  pub ends : result ≡ status.NoMemory
  pub unread : left ≡ first
  pub unwritten : written ≡ start

-- what a run of `serial` with this picks file, or with none, says
abbrev pub Reports : Status → Option (List ℕ) → Option (List ℕ) → Option (List ℕ) → Option (List ℕ) → Option (List ℕ) → Option (List (List ℕ × List ℕ)) → ℕ → ℕ → Type 0
Reports result file first left start written files before now =
    Ended result file files before now
    ⊎ (Ran result file first left start written files before now ⊎ Starved result first left start written)

-- the end of a session with the same blame: before the stream was read neither source nor sink had failed
abbrev pub blamed : Status → SessionStatus
blamed status.Done = session.Done
blamed status.BadWords = session.Done
blamed status.ReadFault = session.ReadFault
blamed status.WriteFault = session.WriteFault
blamed status.NoMemory = session.NoMemory
blamed (status.BadPicks line) = session.Done
blamed status.StreamTooLong = session.StreamTooLong
blamed status.PicksFault = session.Done

-- whose count of faults rose, that of the source or that of the sink
abbrev pub Causes : Status → ℕ → ℕ → ℕ → ℕ → Type 0
Causes s source source' sink sink' = Blames (blamed s) source source' sink sink'

-- the whole report was written, or memory was wanting, or the shelf failed at the picks
abbrev pub IsComplete : Status → Type 0
IsComplete result = (result ≡ status.Done) ⊎ ((result ≡ status.NoMemory) ⊎ (result ≡ status.PicksFault))

-- with picks that can be opened, without a fault of source and sink, and within the limit of a stream, it is complete
abbrev pub Completes : Status → Option (List ℕ) → Option (List (List ℕ × List ℕ)) → Option (List ℕ) → ℕ → ℕ → ℕ → ℕ → Type 0
Completes result file files first source source' sink sink' =
    CanOpen files file → ¬ (Rose source source') → ¬ (Rose sink sink')
    → (bytes : List ℕ) → first ≡ Some bytes → length bytes ≤ limit → IsComplete result
