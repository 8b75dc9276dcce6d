-- What a read answers, and how it ends.
use Rattle.std.specs.Prelude.{◌≡◌, ℕ, List, [], ◌∷◌, ◌++◌, Option, Some, None, MatchOption, is_some, if◌then◌else◌}
use Rattle.dataset_types.specs.declared.slot.Slot.{Slot}
use Rattle.dataset_types.specs.declared.slot.Named.{Named}
use Rattle.dataset_types.specs.Slots.{find_slot, Gives}
use Rattle.dataset_types.specs.Envs.{EnvData, look}
use Rattle.dataset_types.specs.Tables.{Distinct}
use Rattle.dataset_types.specs.Envs.{names_of}
use Rattle.cell_model.specs.declared.reads.Ended.{Ended}
use Rattle.cell_model.specs.declared.reads.Ended.TheVariants.{Stale, Stopped, Foreign, NoMemory}

-- a name that was asked keeps its slot, and another is put last
abbrev pub Answers : List Named → List ℕ → Slot → List Named → Type 0
Answers before name slot after =
    MatchOption (find_slot before name) (after ≡ before ++ record { name = name; slot = slot } ∷ []) (λ known. (slot ≡ known) × (after ≡ before))

-- the end is kept, but for want of memory
abbrev pub Ends : Ended → Option Ended → Type 0
Ends NoMemory now = now ≡ None
Ends (Stale name) now = now ≡ Some (Stale name)
Ends Stopped now = now ≡ Some Stopped
Ends Foreign now = now ≡ Some Foreign

-- with the slot of the name put last, where the name isn't listed yet
abbrev pub noted : List Named → List ℕ → Slot → List Named
noted before name slot = if is_some (find_slot before name) then before else before ++ record { name = name; slot = slot } ∷ []

-- what contracts see of reads over an environment
pub record EnvReadsData : Type 0 where
  pub env : EnvData
  pub asked : List Named

-- the environment gives each name that was asked its slot, and each was asked once
pub record IsAsked (env : EnvData) (asked : List Named) : Type 0 where
  pub gives : Gives (look env) asked
  pub once : Distinct (names_of asked)
