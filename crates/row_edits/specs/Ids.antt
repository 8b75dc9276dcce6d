-- The ids of rows.
use Rattle.value_types.specs.declared.row_id.RowId.{RowId}
use Rattle.dataset_types.specs.declared.row.Row.{Row}
use Rattle.dataset_types.specs.Plain.{PlainRow}
use Rattle.caveat_marks.specs.Shown.{ShownRow}

-- of a row
abbrev pub row_id : Row → RowId
row_id r = r.id

-- of a row without marks
abbrev pub plain_id : PlainRow → RowId
plain_id r = r.id

-- of what is shown of a row
abbrev pub shown_id : ShownRow → RowId
shown_id r = r.id
