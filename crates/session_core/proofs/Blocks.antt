-- The block of a version, by its run.
use Rattle.std.proofs.Common.{◌≡◌, ◌∙◌, ℕ, List, ap, sym, length}
use Rattle.std.proofs.lemmas.List.{length-map}
use Rattle.dataset_types.specs.Envs.{empty_env}
use Rattle.cell_model.specs.declared.cell.Cell.{Cell}
use Rattle.cell_model.specs.declared.cell_result.CellResult.{CellResult}
use Rattle.cell_model.specs.declared.run.Settled.{Settled}
use Rattle.cell_model.specs.declared.run.Policy.TheVariants as policy
use Rattle.cell_model.specs.Runs.{StepData, env_after}
use Rattle.cell_model.specs.Trails.{cells_of, results_of}
use Rattle.cell_model.specs.Answers.{Settles, IsReached}
use Rattle.cell_model.proofs.RunLemmas.{cells_of-run_of}
use Rattle.cell_kinds.specs.Kinds.{meaning}
use Rattle.version_tree.specs.Notebook.{NotebookData}
use Rattle.version_tree.specs.Versions.{cells_at}
use Rattle.report_text.specs.Report.{block_text, starved_text}
use Rattle.report_words.specs.Reports.{run_at, branch_at, id_at}
use Rattle.session_core.specs.Earned.{IsWhole}
use Rattle.session_core.specs.Books.{IsVersion}
use Rattle.session_core.specs.declared.earned.Earned.TheVariants as earned

-- the cells of a version's run are the version's
cells_run : (book : NotebookData) (n : ℕ) → cells_of (run_at book n) ≡ cells_at book.versions n
cells_run book n = cells_of-run_of meaning policy.Stop (cells_at book.versions n)

-- what the run settles is the version's block
pub block_is : (book : NotebookData) (n : ℕ) (branch : List ℕ) (settled : Settled) (steps : List StepData) → branch ≡ branch_at book n → steps ≡ run_at book n → Settles settled steps
    → IsVersion (earned.Block n branch settled) book n
block_is book n branch settled steps b is s = λ line.
    ap (λ x. block_text n x settled.cells settled.results settled.env) b
    ∙ ap (λ x. block_text n (branch_at book n) x settled.results settled.env) (s.cells ∙ ap cells_of is ∙ cells_run book n)
    ∙ ap (λ x. block_text n (branch_at book n) (cells_at book.versions n) x settled.env) (s.results ∙ ap results_of is)
    ∙ ap (λ x. block_text n (branch_at book n) (cells_at book.versions n) (results_of (run_at book n)) x) (s.env ∙ ap (env_after empty_env) is)

-- it has a result for each cell
pub block_whole : (n : ℕ) (branch : List ℕ) (settled : Settled) (steps : List StepData) → Settles settled steps → IsWhole (earned.Block n branch settled)
block_whole n branch settled steps s =
    ap (λ (l : List CellResult). length l) s.results ∙ length-map steps (λ (x : StepData). x.result)
    ∙ sym (ap (λ (l : List Cell). length l) s.cells ∙ length-map steps (λ (x : StepData). x.cell))

-- a position that the run reaches gives a starved block
pub starved_is : (book : NotebookData) (n : ℕ) (branch : List ℕ) (position cell : ℕ) → branch ≡ branch_at book n → cell ≡ id_at (cells_at book.versions n) position
    → IsReached policy.Stop position (run_at book n) → IsVersion (earned.Starved n branch position cell) book n
starved_is book n branch position cell b c reached = λ line.
    (position, reached, ap (λ x. starved_text n x position cell) b ∙ ap (starved_text n (branch_at book n) position) c)
