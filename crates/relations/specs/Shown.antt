-- What is shown of a relation: all that stands there without caveat.
use Rattle.std.specs.Prelude.{◌≡◌, List, map, filter, Bool}
use Rattle.dataset_types.specs.declared.row.Row.{Row}
use Rattle.expr_meaning.specs.declared.bindings.ScopeColumn.{ScopeColumn}
use Rattle.caveat_marks.specs.Shown.{ShownRow, shown_row, placed}
use Rattle.relations.specs.Rels.{RelData}

-- what stands in a relation without caveat
pub record ShownRel : Type 0 where
  pub columns : List ScopeColumn
  pub rows : List ShownRow
  pub is_open : Bool
  pub is_loose : Bool

-- the rows that are sure, with marked values blank
abbrev pub sure_rows : List Row → List ShownRow
sure_rows rows = map shown_row (filter (λ r. r.sure) rows)

-- the columns, whether it is open or loose, and the rows that are sure, in their order
abbrev pub shown_rel : RelData → ShownRel
shown_rel r = record { columns = r.columns; rows = sure_rows r.rows; is_open = r.is_open; is_loose = r.is_loose }

-- the same columns and flags and the same rows, by their ids alone where their order is uncertain
pub record SameShown (a b : ShownRel) : Type 0 where
  pub columns : a.columns ≡ b.columns
  pub rows : placed a.is_loose a.rows ≡ placed b.is_loose b.rows
  pub opens : a.is_open ≡ b.is_open
  pub looses : a.is_loose ≡ b.is_loose
