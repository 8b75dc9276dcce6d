-- The laws of spreadsheet commands: erasure, and other picks.
use Rattle.std.specs.Prelude.{◌≡◌, ℕ, IfSome, option_map, Ok, List, map}
use Rattle.std.specs.Result.{result_map_both}
use Rattle.dataset_types.specs.declared.picks.Pick.{Pick}
use Rattle.dataset_types.specs.declared.slot.Slot.{Slot}
use Rattle.dataset_types.specs.declared.slot.Named.{Named}
use Rattle.dataset_types.specs.Tables.{IsTable}
use Rattle.dataset_types.specs.Plain.{erased}
use Rattle.caveat_marks.specs.Shown.{ShownSlot, shown_slot}
use Rattle.sheet_commands.specs.declared.command.Command.{Command}
use Rattle.vizual_edits.specs.Commands.{applied}
use Rattle.vizual_edits.specs.Plain.{erased_write, plain_applied}

-- dropping marks, doubt and flags after the command or before it is one thing, errors included
abbrev pub Erases : Command → ℕ → List Pick → Type 0
Erases c cell picks =
    (look : List ℕ → Slot) →
    result_map_both (map erased_write) (λ e. e) (applied c cell picks look)
    ≡ plain_applied c cell picks (λ name. option_map erased (look name).table)

-- what is shown of a write
abbrev pub shown_write : Named → List ℕ × ShownSlot
shown_write w = (w.name, shown_slot w.slot)

-- each dataset keeps the rules and limits of one
abbrev pub AreTables : (List ℕ → Slot) → Type 0
AreTables look = (name : List ℕ) → IfSome (look name).table IsTable

-- each name shows the same
abbrev pub ShowTheSame : (List ℕ → Slot) → (List ℕ → Slot) → Type 0
ShowTheSame look other = (name : List ℕ) → shown_slot (look name) ≡ shown_slot (other name)

-- in environments that show the same, the writes show the same, whatever the picks
abbrev pub KeepsShown : Command → ℕ → List Pick → List Pick → Type 0
KeepsShown c cell picks others =
    (look other : List ℕ → Slot) (a b : List Named) →
    AreTables look → AreTables other → ShowTheSame look other →
    applied c cell picks look ≡ Ok a → applied c cell others other ≡ Ok b →
    map shown_write a ≡ map shown_write b
