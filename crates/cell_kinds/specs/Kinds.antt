-- What each kind of cell gives, reads and may write.
use Rattle.std.specs.Prelude.{ℕ, List, []}
use Rattle.dataset_types.specs.declared.picks.Pick.{Pick}
use Rattle.dataset_types.specs.declared.slot.Slot.{Slot}
use Rattle.cell_model.specs.declared.cell.Cell.{Cell}
use Rattle.cell_model.specs.declared.cell.CellKind.{CellKind}
use Rattle.cell_model.specs.declared.cell.CellKind.TheVariants as kind
use Rattle.cell_model.specs.declared.cell_result.CellResult.{CellResult}
use Rattle.cell_model.specs.declared.work.Estimate.{Estimate}
use Rattle.csv_load.specs.Load.{load_of}
use Rattle.vizual_edits.specs.Commands.{applied, names_read}
use Rattle.cell_kinds.specs.Make.{make_result}
use Rattle.cell_kinds.specs.Load.{load_result}
use Rattle.cell_kinds.specs.Written.{written}
use Rattle.cell_kinds.specs.Sql.{sql_writes, sql_names}

-- what the cell with an id, under these picks, gives in an environment
unfoldable pub kind_meaning : ℕ → List Pick → CellKind → (List ℕ → Slot) → CellResult
kind_meaning id picks (kind.Make name table) look = make_result name table
kind_meaning id picks (kind.Load name bytes types repair) look = load_result name (load_of bytes types repair picks id)
kind_meaning id picks (kind.Vizual command) look = written (applied command id picks look)
kind_meaning id picks (kind.Sql text into) look = written (sql_writes id picks text into look)

-- the names that it reads there, in order
unfoldable pub kind_names : CellKind → (List ℕ → Slot) → List (List ℕ)
kind_names (kind.Make name table) look = []
kind_names (kind.Load name bytes types repair) look = []
kind_names (kind.Vizual command) look = names_read command look
kind_names (kind.Sql text into) look = sql_names text look

-- the names that it may read and write
abbrev pub kind_estimate : CellKind → Estimate
kind_estimate (kind.Make name table) = record { reads = []; writes = [] }
kind_estimate (kind.Load name bytes types repair) = record { reads = []; writes = [] }
kind_estimate (kind.Vizual command) = record { reads = []; writes = [] }
kind_estimate (kind.Sql text into) = record { reads = []; writes = [] }

-- what a cell gives in an environment
abbrev pub meaning : Cell → (List ℕ → Slot) → CellResult
meaning cell look = kind_meaning cell.id cell.picks cell.kind look

-- the names that a cell reads there, in order
abbrev pub names : Cell → (List ℕ → Slot) → List (List ℕ)
names cell look = kind_names cell.kind look

-- the names that a cell may read and write
abbrev pub estimate : Cell → Estimate
estimate cell = kind_estimate cell.kind
