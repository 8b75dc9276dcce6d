-- What cells give without marks, and their run one after another.
use Rattle.std.specs.Prelude.{ℕ, List, [], ◌∷◌, Bool, true, if◌then◌else◌, Some, None, Ok, Err}
use Rattle.std.specs.Str.{bytes_eq}
use Rattle.dataset_types.specs.declared.picks.Pick.{Pick}
use Rattle.dataset_types.specs.Plain.{PlainTable, PlainEnv, erased}
use Rattle.cell_errors.specs.Answers.{Answer, and_then}
use Rattle.csv_load.specs.Plain.{plain_load_of}
use Rattle.sql_parse.specs.declared.select.Select.{Select}
use Rattle.sql_meaning.specs.Plain.{plain_select}
use Rattle.text_answers.specs.Answers.{select_of}
use Rattle.vizual_edits.specs.Plain.{PlainNamed, plain_entry, plain_applied}
use Rattle.cell_model.specs.declared.cell.Cell.{Cell}
use Rattle.cell_model.specs.declared.cell.CellKind.{CellKind}
use Rattle.cell_model.specs.declared.cell.CellKind.TheVariants as kind
use Rattle.cell_model.specs.declared.cell_result.CellStatus.{CellStatus}
use Rattle.cell_model.specs.declared.cell_result.CellStatus.TheVariants as status
use Rattle.cell_model.specs.declared.run.Policy.{Policy}
use Rattle.cell_model.specs.Runs.{goes_on}

-- a cell's status, the texts of its lines, and the environment after it
pub record PlainStep : Type 0 where
  pub status : CellStatus
  pub lines : List (List ℕ)
  pub env : PlainEnv

-- the environment without a table
abbrev pub no_tables : PlainEnv
no_tables name = None

-- the environment in which a name has this table
abbrev pub with_table : PlainEnv → List ℕ → PlainTable → PlainEnv
with_table env name table other = if bytes_eq name other then Some table else env other

-- the environment with these writes, the first of a name's counting
abbrev pub with_writes : PlainEnv → List PlainNamed → PlainEnv
with_writes env [] other = env other
with_writes env (w ∷ writes) other = if bytes_eq w.name other then w.table else with_writes env writes other

-- a status without lines, which leaves the environment as it was
abbrev pub nothing : PlainEnv → CellStatus → PlainStep
nothing env s = record { status = s; lines = []; env = env }

-- the table under the name, or the error
abbrev pub plain_result : List ℕ → Answer PlainTable → PlainEnv → PlainStep
plain_result name (Ok table) env = record { status = status.Ok; lines = []; env = with_table env name table }
plain_result name (Err e) env = nothing env (status.Error e)

-- the writes, or the error
abbrev pub plain_written : Answer (List PlainNamed) → PlainEnv → PlainStep
plain_written (Ok writes) env = record { status = status.Ok; lines = []; env = with_writes env writes }
plain_written (Err e) env = nothing env (status.Error e)

-- what the SELECT of a text gives, under this name, in the cell with an id
abbrev pub plain_text_writes : ℕ → List Pick → List ℕ → Answer Select → PlainEnv → Answer (List PlainNamed)
plain_text_writes id picks into text env =
    and_then text (λ select. and_then (plain_select env select picks id) (λ table. Ok (plain_entry into (Some table) ∷ [])))

-- what the cell with an id, under these picks, gives in an environment
abbrev pub plain_kind : ℕ → List Pick → CellKind → PlainEnv → PlainStep
plain_kind id picks (kind.Make name table) env = plain_result name (Ok (erased table)) env
plain_kind id picks (kind.Load name bytes types repair) env =
    plain_result name (plain_load_of bytes types repair picks id) env
plain_kind id picks (kind.Vizual command) env = plain_written (plain_applied command id picks env) env
plain_kind id picks (kind.Sql text into) env = plain_written (plain_text_writes id picks into (select_of text) env) env

-- what a cell gives in an environment
abbrev pub plain_meaning : Cell → PlainEnv → PlainStep
plain_meaning cell env = plain_kind cell.id cell.picks cell.kind env

-- the step of a cell: what it means where the run goes on, else `blocked`
abbrev pub plain_step : Bool → PlainEnv → Cell → PlainStep
plain_step going env cell = if going then plain_meaning cell env else nothing env status.Blocked

-- the steps of the cells, one after another, from an environment on
abbrev pub plain_run_from : Policy → Bool → PlainEnv → List Cell → List PlainStep
plain_run_from p going env [] = []
plain_run_from p going env (cell ∷ cells) =
    let s = plain_step going env cell in
    s ∷ plain_run_from p (goes_on p s.status) s.env cells

-- the plain serial run: from the environment without a table
abbrev pub plain_run_of : Policy → List Cell → List PlainStep
plain_run_of p cells = plain_run_from p true no_tables cells
