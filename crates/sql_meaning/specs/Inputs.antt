-- The datasets that a SELECT reads.
use Rattle.std.specs.Prelude.{ℕ, Bool, Option, Some, None, Ok, Err, List, [], ◌∷◌, map}
use Rattle.std.specs.List.{list_any}
use Rattle.dataset_types.specs.Tables.{TableData}
use Rattle.dataset_types.specs.declared.slot.Slot.{Slot}
use Rattle.cell_errors.specs.Answers.{Answer, collect}
use Rattle.cell_errors.specs.declared.fault.CellError.TheVariants as error
use Rattle.sql_meaning.specs.declared.input.Input.{Input}

-- the dataset under its name, if there is one
abbrev pub input_if : List ℕ → Bool → Option TableData → Answer Input
input_if name doubt None = Err error.NoDataset
input_if name doubt (Some table) = Ok (record { name = name; table = table; doubt = doubt })

-- the dataset of a name in an environment
abbrev pub input_in : (List ℕ → Slot) → List ℕ → Answer Input
input_in look name = input_if name (look name).doubt (look name).table

-- those of all names, or the error of the first that is absent
abbrev pub inputs_in : (List ℕ → Slot) → List (List ℕ) → Answer (List Input)
inputs_in look names = collect (input_in look) names

-- the names after one that is there
abbrev pub unless_absent : {T : Type 0} → Option T → List (List ℕ) → List (List ℕ)
unless_absent None names = []
unless_absent (Some table) names = names

-- the names up to the first that is absent, and that one too
abbrev pub names_read : (List ℕ → Slot) → List (List ℕ) → List (List ℕ)
names_read look [] = []
names_read look (n ∷ ns) = n ∷ unless_absent (look n).table (names_read look ns)

-- a dataset by its name
abbrev pub named_table : Input → List ℕ × TableData
named_table s = (s.name, s.table)

-- each of them by its name
abbrev pub named_tables : List Input → List (List ℕ × TableData)
named_tables inputs = map named_table inputs

-- whether one of them is in doubt
abbrev pub any_doubt : List Input → Bool
any_doubt inputs = list_any (λ s. s.doubt) inputs
