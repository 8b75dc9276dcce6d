-- Layouts: the columns of a result, and where the values of each come from.
use Rattle.std.specs.Prelude.{ℕ, Option, Some, None, unwrap_or, slice_get, List, map}
use Rattle.std.specs.List.{enumerate_from}
use Rattle.dataset_types.specs.declared.column.Column.{Column}
use Rattle.column_edits.specs.declared.layout.LaidColumn.{LaidColumn}

-- a column with the values of its own place, counted from 0
abbrev pub standing : ℕ × Column → LaidColumn
standing p = record { column = p.1; source = Some p.0 }

-- the columns of a table as they stand
abbrev pub as_they_stand : List Column → List LaidColumn
as_they_stand columns = map standing (enumerate_from 0 columns)

-- the columns of a layout
abbrev pub columns_of : List LaidColumn → List Column
columns_of layout = map (λ c. c.column) layout

-- the value at a source, or the new value where a column has no source
abbrev pub value_from : {V : Type 0} → V → List V → Option ℕ → V
value_from new values None = new
value_from new values (Some place) = unwrap_or (slice_get values place) new

-- the values of a row under a layout, whatever stands for a value
abbrev pub laid : {V : Type 0} → V → List LaidColumn → List V → List V
laid new layout values = map (λ c. value_from new values c.source) layout
