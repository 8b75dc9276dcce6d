-- How far a session has come.
use Rattle.std.specs.Prelude.{◌≡◌, ◌+◌, ℕ, List, length, Option}
use Rattle.std.specs.Io.KnownBytes.{Appends}
use Rattle.line_reader.specs.Reading.{State, Cuts}
use Rattle.dataset_types.specs.declared.picks.Pick.{Pick}
use Rattle.version_tree.specs.declared.told.Told.{Told}
use Rattle.version_tree.specs.Notebook.{NotebookData}
use Rattle.report_words.specs.Reports.{book_of, report_of, lines_in, WasTold}

-- The lines that were given so far, each with what the shelf told, stand in the reader, the notebook and what was written.
pub record Stood (picks : List Pick) (first left start written : Option (List ℕ)) (files : Option (List (List ℕ × List ℕ))) (count faults : ℕ) (lines : State) (book : NotebookData) (number : ℕ) (hs : List (List ℕ × Told)) : Type 0 where
  pub cuts : Cuts first left (lines_in hs) lines
  pub book_is : book ≡ book_of picks hs
  pub number_is : number ≡ length hs + 1
  pub text : Appends start written (report_of picks hs)
  pub told : WasTold files count faults picks hs
