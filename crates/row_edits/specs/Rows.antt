-- What the commands make of rows of any kind, or the error.
use Rattle.std.specs.Prelude.{ℕ, not, ◌&&◌, Bool, false, if◌then◌else◌, Option, Some, None, Ok, Err, List, [], ◌∷◌}
use Rattle.std.specs.Str.{bytes_eq}
use Rattle.value_types.specs.declared.row_id.RowId.{RowId}
use Rattle.cell_errors.specs.Answers.{Answer}
use Rattle.cell_errors.specs.declared.fault.CellError.TheVariants as error
use Rattle.row_edits.specs.ByText.{only, without, is_there, is_place, is_taken, after}

-- whether the row to move and the row that is named are one
abbrev pub is_itself : List ℕ → Option (List ℕ) → Bool
is_itself row None = false
is_itself row (Some text) = bytes_eq row text

module _ {R : Type 0} (id_of : R → RowId) where
  -- with a new row after the row that is named, or first
  abbrev pub inserted : R → Option (List ℕ) → List R → Answer (List R)
  inserted new place rows =
      if not (is_place id_of place rows) then Err error.NoRow
      else (if is_taken id_of (id_of new) rows then Err error.RowTaken else Ok (after id_of place (new ∷ []) rows))

  -- without a row
  abbrev pub deleted : List ℕ → List R → Answer (List R)
  deleted row rows = if is_there id_of row rows then Ok (without id_of row rows) else Err error.NoRow

  -- with the row put after the row that is named, or first; a row stays after itself
  abbrev pub put : List ℕ → Option (List ℕ) → List R → List R
  put row place rows = if is_itself row place then rows else after id_of place (only id_of row rows) (without id_of row rows)

  -- whether both rows are there, the second if one is named
  abbrev pub are_there : List ℕ → Option (List ℕ) → List R → Bool
  are_there row place rows = is_there id_of row rows && is_place id_of place rows

  -- with the row put there, where both rows are there
  abbrev pub moved : List ℕ → Option (List ℕ) → List R → Answer (List R)
  moved row place rows = if are_there row place rows then Ok (put row place rows) else Err error.NoRow
