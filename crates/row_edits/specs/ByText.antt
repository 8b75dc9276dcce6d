-- Rows by the texts of their ids, and lists of rows that are changed there.
use Rattle.std.specs.Prelude.{ℕ, suc, ◌==◌, ◌++◌, not, Bool, true, if◌then◌else◌, Option, Some, None}
use Rattle.std.specs.Prelude.{List, [], ◌∷◌, length, map, filter, take, drop}
use Rattle.std.specs.List.{list_any}
use Rattle.std.specs.Str.{bytes_eq}
use Rattle.value_types.specs.Text.{id}
use Rattle.value_types.specs.SameIds.{same_id}
use Rattle.value_types.specs.declared.row_id.RowId.{RowId}

-- whether an id has this text
abbrev pub is_text : List ℕ → RowId → Bool
is_text text i = bytes_eq (id i) text

-- with more items at a place, which counts from 0
abbrev pub put_in : {X : Type 0} → ℕ → List X → List X → List X
put_in n more xs = take n xs ++ (more ++ drop n xs)

-- rows of any kind that have ids
module _ {R : Type 0} (id_of : R → RowId) where
  -- the rows whose ids have this text
  abbrev pub only : List ℕ → List R → List R
  only text rows = filter (λ r. is_text text (id_of r)) rows

  -- the rows without those
  abbrev pub without : List ℕ → List R → List R
  without text rows = filter (λ r. not (is_text text (id_of r))) rows

  -- whether one row's id has this text; in a dataset no two have
  abbrev pub is_there : List ℕ → List R → Bool
  is_there text rows = length (only text rows) == 1

  -- whether the row that is named is there, if one is named
  abbrev pub is_place : Option (List ℕ) → List R → Bool
  is_place None rows = true
  is_place (Some text) rows = is_there text rows

  -- whether a row has this id
  abbrev pub is_taken : RowId → List R → Bool
  is_taken i rows = list_any (λ r. same_id (id_of r) i) rows

  -- how many rows there are up to the first of this text, it included, or in all where there is none
  abbrev pub up_to : List ℕ → List R → ℕ
  up_to text [] = 0
  up_to text (r ∷ rs) = if is_text text (id_of r) then 1 else suc (up_to text rs)

  -- how many rows come before a place: those up to the row that is named, or none
  abbrev pub place_of : Option (List ℕ) → List R → ℕ
  place_of None rows = 0
  place_of (Some text) rows = up_to text rows

  -- with more rows after the row that is named, or first where none is
  abbrev pub after : Option (List ℕ) → List R → List R → List R
  after place more rows = put_in (place_of place rows) more rows

  -- with the row of this text changed
  abbrev pub changed_at : List ℕ → (R → R) → List R → List R
  changed_at text change rows = map (λ r. if is_text text (id_of r) then change r else r) rows
