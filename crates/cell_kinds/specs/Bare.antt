-- A cell in error gives no lines, no writes and no blur.
use Rattle.std.specs.Prelude.{◌≡◌, ℕ, List, true, false, Ok, Err}
use Rattle.std.proofs.Common.{subst, refl}
use Rattle.dataset_types.specs.Tables.{TableData}
use Rattle.dataset_types.specs.declared.picks.Pick.{Pick}
use Rattle.dataset_types.specs.declared.slot.Slot.{Slot}
use Rattle.dataset_types.specs.declared.slot.Named.{Named}
use Rattle.cell_errors.specs.Answers.{Answer}
use Rattle.csv_load.specs.Load.{load_of}
use Rattle.vizual_edits.specs.Commands.{applied}
use Rattle.cell_model.specs.declared.cell.Cell.{Cell}
use Rattle.cell_model.specs.declared.cell.CellKind.{CellKind}
use Rattle.cell_model.specs.declared.cell.CellKind.TheVariants as kind
use Rattle.cell_model.specs.Runs.{IsBare}
use Rattle.cell_kinds.specs.Load.{load_result}
use Rattle.cell_kinds.specs.Written.{written}
use Rattle.cell_kinds.specs.Sql.{sql_writes}
use Rattle.cell_kinds.specs.Kinds.{kind_meaning, meaning}

not_so : {A : Type 0} → true ≡ false → A
not_so e = absurd (subst (λ b. elim b as (λ _. Type 0) [ true ↦ Unit {0} | false ↦ ⊥ ]) e tt)

load_is_bare : (name : List ℕ) (given : Answer TableData) → IsBare (load_result name given)
load_is_bare name (Ok table) = λ e. not_so e
load_is_bare name (Err e) = λ _. refl

written_is_bare : (given : Answer (List Named)) → IsBare (written given)
written_is_bare (Ok writes) = λ e. not_so e
written_is_bare (Err e) = λ _. refl

kind_is_bare : (id : ℕ) (picks : List Pick) (k : CellKind) (look : List ℕ → Slot) → IsBare (kind_meaning id picks k look)
unfolding kind_meaning
kind_is_bare id picks (kind.Make name table) look = λ e. not_so e
kind_is_bare id picks (kind.Load name bytes types repair) look = load_is_bare name (load_of bytes types repair picks id)
kind_is_bare id picks (kind.Vizual command) look = written_is_bare (applied command id picks look)
kind_is_bare id picks (kind.Sql text into) look = written_is_bare (sql_writes id picks text into look)

pub meaning_is_bare : (cell : Cell) (look : List ℕ → Slot) → IsBare (meaning cell look)
meaning_is_bare cell look = kind_is_bare cell.id cell.picks cell.kind look
