-- What is shown of small tables and slots.
use Rattle.std.specs.Prelude.{◌≡◌, refl, pos, [], ◌∷◌, true, false, Some, None}
use Rattle.value_types.specs.declared.value.Value.{Value}
use Rattle.value_types.specs.declared.value.Value.TheVariants.{Int}
use Rattle.value_types.specs.declared.row_id.RowId.{Rec}
use Rattle.dataset_types.specs.declared.row.Row.{Row}
use Rattle.dataset_types.specs.declared.slot.Slot.{Slot}
use Rattle.dataset_types.specs.Tables.{TableData, table_of}
use Rattle.caveat_marks.specs.Shown.{shown, shown_slot, values_at, InOrder, ById, Doubtful, Nothing, Table}

sure : Row
sure = record { id = Rec 1; sure = true; values = record { value = Int (pos 1); marked = false } ∷ record { value = Int (pos 2); marked = true } ∷ [] }

unsure : Row
unsure = record { id = Rec 2; sure = false; values = [] }

open_table : TableData
open_table = table_of [] (sure ∷ unsure ∷ []) true false

-- the unsure row isn't shown, and the marked value is blank
rows_in_order : (shown open_table).rows ≡ InOrder (record { id = Rec 1; values = Some (Int (pos 1)) ∷ None ∷ [] } ∷ [])
unfolding open_table sure unsure
rows_in_order = refl

loose_table : TableData
loose_table = table_of [] (sure ∷ []) false true

-- of a loose table the rows are shown by their ids alone
rows_by_id : (shown loose_table).rows ≡ ById (values_at (record { id = Rec 1; values = Some (Int (pos 1)) ∷ None ∷ [] } ∷ []))
unfolding loose_table sure
rows_by_id = refl

doubtful : shown_slot (record { table = Some open_table; doubt = true }) ≡ Doubtful
doubtful = refl

absent : shown_slot (record { table = None; doubt = false }) ≡ Nothing
absent = refl

certain : shown_slot (record { table = Some open_table; doubt = false }) ≡ Table (shown open_table)
certain = refl
