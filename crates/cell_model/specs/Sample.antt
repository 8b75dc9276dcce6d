-- A small meaning of cells, for the worked examples and the tests.
use Rattle.std.specs.Prelude.{◌≡◌, ℕ, ◌==◌, if◌then◌else◌, List, [], ◌∷◌, Option, None, Some, Bool, true, false}
use Rattle.std.proofs.Common.{refl, subst}
use Rattle.dataset_types.specs.Tables.{TableData}
use Rattle.dataset_types.specs.declared.slot.Slot.{Slot}
use Rattle.cell_model.specs.declared.cell.Cell.{Cell}
use Rattle.cell_model.specs.declared.cell.CellKind.{CellKind}
use Rattle.cell_model.specs.declared.cell.CellKind.TheVariants as kind
use Rattle.cell_model.specs.declared.cell_result.CellResult.{CellResult}
use Rattle.cell_model.specs.declared.cell_result.CellStatus.TheVariants as status
use Rattle.cell_errors.specs.declared.fault.CellError.TheVariants as error
use Rattle.cell_model.specs.declared.work.Estimate.{Estimate}
use Rattle.cell_model.specs.Runs.{bare, IsBare}

-- one slot under a name
abbrev pub one_write : List ℕ → Slot → CellResult
one_write name slot = record { status = status.Ok; lines = []; writes = record { name = name; slot = slot } ∷ []; blur = false }

-- a dataset is written in doubt, and one that isn't there is an error
abbrev pub doubted : List ℕ → Option TableData → CellResult
doubted name None = bare (status.Error error.NoDataset)
doubted name (Some table) = one_write name (record { table = Some table; doubt = true })

-- of make cells, cell 2 is in error, cell 3 reads its name's dataset and writes it in doubt, and each other writes its own; any other kind gives nothing
abbrev pub sample_kind : ℕ → CellKind → (List ℕ → Slot) → CellResult
sample_kind number (kind.Make name table) look =
    if number == 2 then bare (status.Error error.ZeroDivisor)
    else (if number == 3 then doubted name (look name).table else one_write name (record { table = Some table; doubt = false }))
sample_kind number (kind.Load name bytes types repair) look = bare status.Ok
sample_kind number (kind.Vizual command) look = bare status.Ok
sample_kind number (kind.Sql text into) look = bare status.Ok

abbrev pub sample_meaning : Cell → (List ℕ → Slot) → CellResult
sample_meaning cell look = sample_kind cell.id cell.kind look

abbrev pub sample_reads : ℕ → CellKind → List (List ℕ)
sample_reads number (kind.Make name table) = if number == 3 then name ∷ [] else []
sample_reads number (kind.Load name bytes types repair) = []
sample_reads number (kind.Vizual command) = []
sample_reads number (kind.Sql text into) = []

abbrev pub sample_names : Cell → (List ℕ → Slot) → List (List ℕ)
sample_names cell look = sample_reads cell.id cell.kind

abbrev pub sample_writes : CellKind → Estimate
sample_writes (kind.Make name table) = record { reads = name ∷ []; writes = name ∷ [] }
sample_writes (kind.Load name bytes types repair) = record { reads = []; writes = [] }
sample_writes (kind.Vizual command) = record { reads = []; writes = [] }
sample_writes (kind.Sql text into) = record { reads = []; writes = [] }

abbrev pub sample_estimate : Cell → Estimate
sample_estimate cell = sample_writes cell.kind

-- ---- a cell in error gives no lines, no writes and no blur

not_so : {A : Type 0} → true ≡ false → A
not_so e = absurd (subst (λ b. elim b as (λ _. Type 0) [ true ↦ Unit {0} | false ↦ ⊥ ]) e tt)

doubted_is_bare : (name : List ℕ) (table : Option TableData) → IsBare (doubted name table)
doubted_is_bare name None = λ e. refl
doubted_is_bare name (Some table) = λ e. not_so e

choice_is_bare : (second third : Bool) (name : List ℕ) (table : TableData) (here : Option TableData)
    → IsBare (if second then bare (status.Error error.ZeroDivisor) else (if third then doubted name here else one_write name (record { table = Some table; doubt = false })))
choice_is_bare true third name table here = λ e. refl
choice_is_bare false true name table here = doubted_is_bare name here
choice_is_bare false false name table here = λ e. not_so e

kind_is_bare : (number : ℕ) (k : CellKind) (look : List ℕ → Slot) → IsBare (sample_kind number k look)
kind_is_bare number (kind.Make name table) look = choice_is_bare (number == 2) (number == 3) name table (look name).table
kind_is_bare number (kind.Load name bytes types repair) look = λ e. not_so e
kind_is_bare number (kind.Vizual command) look = λ e. not_so e
kind_is_bare number (kind.Sql text into) look = λ e. not_so e

pub sample_is_bare : (cell : Cell) (look : List ℕ → Slot) → IsBare (sample_meaning cell look)
sample_is_bare cell look = kind_is_bare cell.id cell.kind look
