-- Worked examples of runs: of make cells, and of a plain run that an error ends.
use Rattle.std.proofs.Common.{◌≡◌, ℕ, List, [], ◌∷◌, refl, Bool, true, false, Some, None}
use Rattle.std.specs.Prelude.{codes}
use Rattle.value_types.specs.declared.value.ColumnType.TheVariants.{Int}
use Rattle.dataset_types.specs.Tables.{TableData}
use Rattle.dataset_types.specs.Plain.{PlainTable, PlainEnv}
use Rattle.dataset_types.specs.Envs.{empty_env}
use Rattle.dataset_types.specs.declared.column.Column.{Column}
use Rattle.dataset_types.specs.declared.slot.Named.{Named}
use Rattle.cell_errors.specs.declared.fault.CellError.TheVariants as error
use Rattle.sheet_commands.specs.declared.command.Command.{Command}
use Rattle.sheet_commands.specs.declared.command.Command.TheVariants as command
use Rattle.vizual_edits.specs.Plain.{plain_entry}
use Rattle.cell_model.specs.declared.cell.Cell.{Cell}
use Rattle.cell_model.specs.declared.cell.CellKind.TheVariants as kind
use Rattle.cell_model.specs.declared.cell_result.CellStatus.TheVariants as status
use Rattle.cell_model.specs.declared.run.Policy.TheVariants as policy
use Rattle.cell_model.specs.Runs.{run_of, env_after}
use Rattle.cell_model.specs.Trails.{results_of}
use Rattle.cell_kinds.specs.Make.{make_result}
use Rattle.cell_kinds.specs.Kinds.{kind_meaning, meaning}
use Rattle.cell_kinds.specs.Plain.{PlainStep, no_tables, with_table, with_writes, nothing, plain_run_of}

-- a dataset without columns and rows
abbrev table : Bool → TableData
table is_loose = record { columns = []; rows = []; is_open = false; is_loose = is_loose }

abbrev make : ℕ → List ℕ → Bool → Cell
make number name is_loose = record { id = number; kind = kind.Make name (table is_loose); picks = [] }

abbrev entry : List ℕ → Bool → Named
entry name is_loose = record { name = name; slot = record { table = Some (table is_loose); doubt = false } }

abbrev two : List Cell
two = make 1 (codes "u") false ∷ make 2 (codes "t") true ∷ []

-- each writes its table, and the names stand in order
two_results : results_of (run_of meaning policy.Stop two) ≡ make_result (codes "u") (table false) ∷ make_result (codes "t") (table true) ∷ []
unfolding kind_meaning
two_results = refl

two_env : env_after empty_env (run_of meaning policy.Stop two) ≡ record { slots = entry (codes "t") true ∷ entry (codes "u") false ∷ []; blurred = false }
unfolding kind_meaning
two_env = refl

-- of one name the later table stays
same_name : env_after empty_env (run_of meaning policy.Stop (make 1 (codes "t") false ∷ make 2 (codes "t") true ∷ [])) ≡ record { slots = entry (codes "t") true ∷ []; blurred = false }
unfolding kind_meaning
same_name = refl

-- ---- the plain run

-- the cell that does a command
abbrev doing : ℕ → Command → Cell
doing number c = record { id = number; kind = kind.Vizual c; picks = [] }

-- `t`, a column in it, the drop of `u`, which isn't there, and a cell after that
abbrev four : List Cell
four =
    make 1 (codes "t") false
    ∷ doing 2 (command.InsertColumn (codes "t") (codes "a") Int 1)
    ∷ doing 3 (command.DropDataset (codes "u"))
    ∷ make 4 (codes "u") false
    ∷ []

abbrev a : Column
a = record { name = codes "a"; kind = Int }

abbrev plain : List Column → PlainTable
plain columns = record { columns = columns; rows = [] }

-- the environment after the first cell, and after the second
abbrev with_t : PlainEnv
with_t = with_table no_tables (codes "t") (plain [])

abbrev with_a : PlainEnv
with_a = with_writes with_t (plain_entry (codes "t") (Some (plain (a ∷ []))) ∷ [])

abbrev fine : PlainEnv → PlainStep
fine env = record { status = status.Ok; lines = []; env = env }

-- the third cell errs and changes nothing, and the fourth is blocked
four_steps : plain_run_of policy.Stop four
    ≡ fine with_t ∷ fine with_a ∷ nothing with_a (status.Error error.NoDataset) ∷ nothing with_a status.Blocked ∷ []
four_steps = refl

-- in the end `t` has its column, and there is no `u`
t_in_the_end : with_a (codes "t") ≡ Some (plain (a ∷ []))
t_in_the_end = refl

u_in_the_end : with_a (codes "u") ≡ None
u_in_the_end = refl
