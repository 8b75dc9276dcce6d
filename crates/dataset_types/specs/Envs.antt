-- Environments: names with their slots in the order of names, and whether every other name is in doubt.
use Rattle.std.specs.Prelude.{◌≡◌, ℕ, ◌||◌, List, [], ◌∷◌, map, Bool, true, false, Option, Some, None}
use Rattle.std.specs.Ordering.{nat_cmp}
use Rattle.std.specs.declared.cmp.Ordering.{Ordering}
use Rattle.std.specs.declared.cmp.Ordering.TheVariants as order
use Rattle.std.specs.Cmp.Lexicographic.{slice_cmp}
use Rattle.std.specs.List.Sorted.{IsStrictlySortedBy}
use Rattle.dataset_types.specs.Slots.{absent, blurred, find_slot}
use Rattle.dataset_types.specs.declared.slot.Slot.{Slot}
use Rattle.dataset_types.specs.declared.slot.Named.{Named}

-- what contracts see of an environment
pub record EnvData : Type 0 where
  pub slots : List Named
  pub blurred : Bool

-- the order of names: by their bytes
abbrev pub name_cmp : List ℕ → List ℕ → Ordering
name_cmp = slice_cmp nat_cmp

-- the names of these slots
abbrev pub names_of : List Named → List (List ℕ)
names_of slots = map (λ e. e.name) slots

-- each name comes before the next
abbrev pub IsInOrder : List Named → Type 0
IsInOrder slots = IsStrictlySortedBy name_cmp (names_of slots)

-- no names, and no doubt of the others
abbrev pub empty_env : EnvData
empty_env = record { slots = []; blurred = false }

-- the slot where there is one, else the other
abbrev pub or_else : Option Slot → Slot → Slot
or_else None other = other
or_else (Some slot) other = slot

-- the slot of a name: one that isn't listed is absent, in doubt where the environment is blurred
abbrev pub look : EnvData → List ℕ → Slot
look env name = or_else (find_slot env.slots name) (blurred env.blurred absent)

-- the list before, at or after an entry, as its name comes after, is, or comes before the name
abbrev pub placed : Ordering → Named → Named → List Named → List Named → List Named
placed order.Less new e es rest = e ∷ rest
placed order.Equal new e es rest = new ∷ es
placed order.Greater new e es rest = new ∷ e ∷ es

-- with this entry in the place of its name
abbrev pub set_slot : List Named → Named → List Named
set_slot [] new = new ∷ []
set_slot (e ∷ es) new = placed (name_cmp e.name new.name) new e es (set_slot es new)

-- with each of these entries, the first of a name's counting
abbrev pub set_slots : List Named → List Named → List Named
set_slots slots [] = slots
set_slots slots (w ∷ ws) = set_slot (set_slots slots ws) w

-- each in doubt, where a blur is over it
abbrev pub blur_slots : Bool → List Named → List Named
blur_slots blur slots = map (λ e. record { name = e.name; slot = blurred blur e.slot }) slots

-- the environment in which a name has this slot
abbrev pub set_name : EnvData → Named → EnvData
set_name env new = record env { slots = set_slot env.slots new }

-- the environment in which each of these names has its slot, the first of a name's counting
abbrev pub set_names : EnvData → List Named → EnvData
set_names env writes = record env { slots = set_slots env.slots writes }

-- the environment in which every name is in doubt
abbrev pub blur_env : EnvData → EnvData
blur_env env = record { slots = blur_slots true env.slots; blurred = true }

-- blurred first, where it blurs, and then written
abbrev pub after_writes : EnvData → Bool → List Named → EnvData
after_writes env blur writes = record { slots = set_slots (blur_slots blur env.slots) writes; blurred = blur || env.blurred }

-- a name that is written has the slot of its first write, and any other what it had, in doubt where it blurs
abbrev pub ReadsAfterWrites : EnvData → Bool → List Named → List ℕ → Type 0
ReadsAfterWrites env blur writes name = look (after_writes env blur writes) name ≡ or_else (find_slot writes name) (blurred blur (look env name))
