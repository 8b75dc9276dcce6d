-- Slots, and lists of names with their slots.
use Rattle.std.specs.Prelude.{◌≡◌, ℕ, ◌||◌, if◌then◌else◌, List, [], ◌∷◌, Bool, false, Option, Some, None}
use Rattle.std.specs.Str.{bytes_eq}
use Rattle.dataset_types.specs.declared.slot.Slot.{Slot}
use Rattle.dataset_types.specs.declared.slot.Named.{Named}

-- no dataset, without doubt
abbrev pub absent : Slot
absent = record { table = None; doubt = false }

-- with doubt added where a blur is over it
abbrev pub blurred : Bool → Slot → Slot
blurred blur slot = record { table = slot.table; doubt = blur || slot.doubt }

-- the slot of the first entry of a name, if there is one
abbrev pub find_slot : List Named → List ℕ → Option Slot
find_slot [] name = None
find_slot (e ∷ es) name = if bytes_eq e.name name then Some e.slot else find_slot es name

-- the environment gives each of these names its slot
abbrev pub Gives : (List ℕ → Slot) → List Named → Type 0
Gives look [] = Unit {0}
Gives look (e ∷ es) = (look e.name ≡ e.slot) × Gives look es
