-- Commands that leave a dataset as it is.
use Rattle.std.specs.Prelude.{ℕ, suc, ◌==◌, false, not, ◌&&◌, ◌||◌, Bool, IsTrue, Option, List, get_or}
use Rattle.std.specs.List.{list_all, list_any}
use Rattle.std.specs.List.Sorted.{IsSortedBy}
use Rattle.value_types.specs.declared.row_id.RowId.{RowId}
use Rattle.value_types.specs.declared.value.Value.{Value}
use Rattle.dataset_types.specs.declared.row.Marked.{Marked}
use Rattle.dataset_types.specs.declared.row.Row.{Row}
use Rattle.dataset_types.specs.Same.{same_marked}
use Rattle.dataset_types.specs.Tables.{TableData}
use Rattle.relations.specs.declared.parts.SortKey.{SortKey}
use Rattle.rel_ops.specs.Sort.{value_at_key, keys_lt, has_marked_key}
use Rattle.row_edits.specs.ByText.{only, up_to, place_of}
use Rattle.row_edits.specs.Rows.{is_itself}
use Rattle.row_edits.specs.Move.{follows_unsure}
use Rattle.row_edits.specs.Ids.{row_id}

-- whether a row is where it is to be put: after itself, or next after the place
abbrev pub is_in_place : {R : Type 0} → (R → RowId) → List ℕ → Option (List ℕ) → List R → Bool
is_in_place id_of row place rows = is_itself row place || (up_to id_of row rows == suc (place_of id_of place rows))

-- whether a move leaves a dataset as it is, where both rows are there
abbrev pub stays : TableData → List ℕ → Option (List ℕ) → Bool
stays t row place = is_in_place row_id row place t.rows && (t.is_loose || not (follows_unsure row place t.rows))

-- a value without a caveat
abbrev pub unmarked : Value → Marked
unmarked v = record { value = v; marked = false }

-- whether a row has a value, unmarked, at a place that counts from 0; a place beyond its values takes none
abbrev pub has_value : ℕ → Value → Row → Bool
has_value at v r = same_marked (get_or r.values at (unmarked v)) (unmarked v)

-- whether each row of a text has the value already
abbrev pub stands : List ℕ → ℕ → Value → List Row → Bool
stands text at v rows = list_all (has_value at v) (only row_id text rows)

-- a dataset that a sort leaves as it is: its rows are in order, and it is loose or no sure row is placed by a marked value
abbrev pub IsInOrder : TableData → List SortKey → Type 0
IsInOrder t keys = IsSortedBy (keys_lt value_at_key keys) t.rows × IsTrue (t.is_loose || not (list_any (has_marked_key keys) t.rows))
