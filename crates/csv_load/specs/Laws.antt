-- The laws of loading: erasure, and other picks.
use Rattle.std.specs.Prelude.{◌≡◌, ℕ, List, Option, Ok}
use Rattle.std.specs.Result.{result_map_both}
use Rattle.value_types.specs.declared.value.ColumnType.{ColumnType}
use Rattle.dataset_types.specs.declared.load_options.Repair.{Repair}
use Rattle.dataset_types.specs.declared.picks.Pick.{Pick}
use Rattle.dataset_types.specs.Tables.{TableData}
use Rattle.dataset_types.specs.Plain.{erased}
use Rattle.caveat_marks.specs.Shown.{shown}
use Rattle.csv_load.specs.Load.{load_of}
use Rattle.csv_load.specs.Plain.{plain_load_of}

-- without its marks and flags, what a load gives is the plain load's, errors included
abbrev pub Erases : List ℕ → List (Option ColumnType) → Repair → List Pick → ℕ → Type 0
Erases bytes types repair picks cell =
    result_map_both erased (λ e. e) (load_of bytes types repair picks cell) ≡ plain_load_of bytes types repair picks cell

-- where both give a table, the same is shown of it under all other picks
abbrev pub ShowsTheSame : List ℕ → List (Option ColumnType) → Repair → List Pick → List Pick → ℕ → Type 0
ShowsTheSame bytes types repair picks others cell =
    (a b : TableData) → load_of bytes types repair picks cell ≡ Ok a → load_of bytes types repair others cell ≡ Ok b →
    shown a ≡ shown b
