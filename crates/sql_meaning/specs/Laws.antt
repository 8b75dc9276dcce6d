-- The laws of SELECT as a whole: erasure, and other picks.
use Rattle.std.specs.Prelude.{◌≡◌, ℕ, Option, Some, option_map, Ok, List}
use Rattle.std.specs.List.{Contains}
use Rattle.std.specs.Result.{result_map_both}
use Rattle.dataset_types.specs.declared.picks.Pick.{Pick}
use Rattle.dataset_types.specs.declared.slot.Slot.{Slot}
use Rattle.dataset_types.specs.Tables.{TableData, IsTable}
use Rattle.dataset_types.specs.Plain.{PlainTable, PlainEnv, erased}
use Rattle.caveat_marks.specs.Shown.{shown_slot}
use Rattle.sql_parse.specs.declared.select.Select.{Select}
use Rattle.sql_parse.specs.Names.{names_of}
use Rattle.sql_meaning.specs.Select.{select_meaning}
use Rattle.sql_meaning.specs.Plain.{plain_select}

-- a slot without doubt, marks and flags
abbrev pub erased_slot : Slot → Option PlainTable
erased_slot s = option_map erased s.table

-- an environment without them
abbrev pub erased_look : (List ℕ → Slot) → PlainEnv
erased_look look name = erased_slot (look name)

-- dropping marks, flags and doubt after SELECT or before it is one thing, errors included
abbrev pub SelectErases : Select → Type 0
SelectErases select =
    (look : List ℕ → Slot) (picks : List Pick) (cell : ℕ) →
    result_map_both erased_slot (λ e. e) (select_meaning look select picks cell)
    ≡ result_map_both Some (λ e. e) (plain_select (erased_look look) select picks cell)

-- each dataset keeps the rules of one
abbrev pub HasTables : (List ℕ → Slot) → Type 0
HasTables look = (name : List ℕ) (t : TableData) → (look name).table ≡ Some t → IsTable t

-- two environments show the same of these names
abbrev pub ShowsSame : List (List ℕ) → (List ℕ → Slot) → (List ℕ → Slot) → Type 0
ShowsSame names look other = (name : List ℕ) → Contains names name → shown_slot (look name) ≡ shown_slot (other name)

-- where two environments show the same of the datasets that a SELECT names, so do its results, whatever the picks
abbrev pub SelectKeepsShown : Select → Type 0
SelectKeepsShown select =
    (look other : List ℕ → Slot) (picks others : List Pick) (cell : ℕ) (x y : Slot) → HasTables look → HasTables other →
    ShowsSame (names_of select) look other → select_meaning look select picks cell ≡ Ok x → select_meaning other select others cell ≡ Ok y →
    shown_slot x ≡ shown_slot y
