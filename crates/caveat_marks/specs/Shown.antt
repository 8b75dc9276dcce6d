-- What is shown of a table and of a slot: all that stands there without caveat.
use Rattle.std.specs.Prelude.{if◌then◌else◌, List, [], ◌∷◌, map, filter, Bool, true, false, Option, Some, None}
use Rattle.value_types.specs.SameIds.{same_id}
use Rattle.value_types.specs.declared.value.Value.{Value}
use Rattle.value_types.specs.declared.row_id.RowId.{RowId}
use Rattle.dataset_types.specs.declared.column.Column.{Column}
use Rattle.dataset_types.specs.declared.row.Marked.{Marked}
use Rattle.dataset_types.specs.declared.row.Row.{Row}
use Rattle.dataset_types.specs.declared.slot.Slot.{Slot}
use Rattle.dataset_types.specs.Tables.{TableData}

-- a value, blank where it has a caveat
abbrev pub shown_value : Marked → Option Value
shown_value m = if m.marked then None else Some m.value

-- a row's id and its values, blank where they have a caveat
pub record ShownRow : Type 0 where
  pub id : RowId
  pub values : List (Option Value)

-- what is shown of a sure row
abbrev pub shown_row : Row → ShownRow
shown_row r = record { id = r.id; values = map shown_value r.values }

-- the values of the row of an id, if there is one
abbrev pub values_at : List ShownRow → RowId → Option (List (Option Value))
values_at [] id = None
values_at (r ∷ rs) id = if same_id r.id id then Some r.values else values_at rs id

-- rows in their order, or by their ids alone
pub data ShownRows : Type 0 where
  InOrder : List ShownRow → ShownRows
  ById : (RowId → Option (List (Option Value))) → ShownRows

-- the rows, without their order where that is uncertain
abbrev pub placed : Bool → List ShownRow → ShownRows
placed false rows = InOrder rows
placed true rows = ById (values_at rows)

-- what is shown of a table
pub record ShownTable : Type 0 where
  pub columns : List Column
  pub rows : ShownRows
  pub is_open : Bool
  pub is_loose : Bool

-- the columns, whether it is open or loose, and the rows that are sure
abbrev pub shown : TableData → ShownTable
shown t = record {
  columns = t.columns;
  rows = placed t.is_loose (map shown_row (filter (λ r. r.sure) t.rows));
  is_open = t.is_open;
  is_loose = t.is_loose;
}

-- a doubtful slot shows only that it is doubtful, and an absent one nothing
pub data ShownSlot : Type 0 where
  Doubtful : ShownSlot
  Nothing : ShownSlot
  Table : ShownTable → ShownSlot

-- what is shown of a slot without doubt
abbrev pub shown_table : Option TableData → ShownSlot
shown_table None = Nothing
shown_table (Some t) = Table (shown t)

-- what is shown of a slot
abbrev pub shown_slot : Slot → ShownSlot
shown_slot slot = if slot.doubt then Doubtful else shown_table slot.table
