-- What a work over reads answers, and how its reads fix that.
use Rattle.std.specs.Prelude.{◌≡◌, ℕ, List, Option, None, IfSome, Result, Ok, Err}
use Rattle.dataset_types.specs.declared.slot.Slot.{Slot}
use Rattle.dataset_types.specs.declared.slot.Named.{Named}
use Rattle.dataset_types.specs.Slots.{Gives}
use Rattle.dataset_types.specs.Envs.{names_of}
use Rattle.dataset_types.specs.Tables.{Distinct}
use Rattle.cell_errors.specs.Answers.{Answer}
use Rattle.cell_errors.specs.declared.fault.EvalFault.{EvalFault}
use Rattle.cell_errors.specs.declared.fault.EvalFault.TheVariants as eval
use Rattle.cell_model.specs.declared.reads.Ended.{Ended}
use Rattle.cell_model.specs.declared.reads.Ended.TheVariants as ended
use Rattle.cell_model.specs.declared.work_fault.WorkFault.{WorkFault}
use Rattle.cell_model.specs.declared.work_fault.WorkFault.TheVariants as fault
use Rattle.cell_model.specs.Reading.{Ends}

-- in every environment that gives each of these names its slot, this value is meant and these names are read, each once
pub record Fixes {A : Type 0} (meaning : (List ℕ → Slot) → A) (asks : (List ℕ → Slot) → List (List ℕ)) (asked : List Named) (value : A) : Type 0 where
  pub once : Distinct (names_of asked)
  pub gives : (look : List ℕ → Slot) → Gives look asked → meaning look ≡ value
  pub names : (look : List ℕ → Slot) → Gives look asked → asks look ≡ names_of asked

-- the reads go on, and what is meant where the names asked have their slots, a value or an error; or the end of the reads
abbrev pub Works : {A : Type 0} → ((List ℕ → Slot) → Answer A) → ((List ℕ → Slot) → List (List ℕ)) → Result A WorkFault → List Named → Option Ended → Type 0
Works meaning asks (Ok value) asked end = (end ≡ None) × Fixes meaning asks asked (Ok value)
Works meaning asks (Err (fault.Error e)) asked end = (end ≡ None) × Fixes meaning asks asked (Err e)
Works meaning asks (Err (fault.Ended e)) asked end = Ends e end

-- the source is the one before, and where it is an environment, it gives each of these names its slot
pub record KeepsSource (before now : Option (List ℕ → Slot)) (asked : List Named) : Type 0 where
  pub same : now ≡ before
  pub agrees : IfSome before (λ look. Gives look asked)

-- want of memory, as a work answers it
abbrev pub starved : WorkFault
starved = fault.Ended ended.NoMemory

-- the fault of a call without reads, as a work answers it
abbrev pub work_fault : EvalFault → WorkFault
work_fault (eval.Error e) = fault.Error e
work_fault eval.NoMemory = starved
