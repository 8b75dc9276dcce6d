-- Worked examples of what the commands make of rows, which stand here for their ids, and of values.
use Rattle.std.proofs.Common.{◌≡◌, List, [], ◌∷◌, Some, None, Ok, Err, refl}
use Rattle.std.specs.Prelude.{codes, pos}
use Rattle.value_types.specs.declared.row_id.RowId.{RowId, Named}
use Rattle.value_types.specs.declared.row_id.RowId.TheVariants.{outs-Named}
use Rattle.value_types.specs.declared.value.ColumnType.TheVariants as kind
use Rattle.value_types.specs.declared.value.Value.TheVariants as value
use Rattle.value_types.proofs.IdTexts.{id-Named}
use Rattle.value_types.proofs.SameIdLaws.{same-Named}
use Rattle.cell_errors.specs.declared.fault.CellError.TheVariants as error
use Rattle.dataset_types.specs.declared.column.Column.{Column}
use Rattle.row_edits.specs.Rows.{inserted, deleted, moved}
use Rattle.row_edits.specs.Columns.{find_column, value_for}

-- rows that are their ids
abbrev itself : RowId → RowId
itself i = i

abbrev first : RowId
first = Named (codes "a")

abbrev second : RowId
second = Named (codes "b")

abbrev new : RowId
new = Named (codes "z")

abbrev two : List RowId
two = first ∷ second ∷ []

-- ---- insert_row

after_the_first : inserted itself new (Some (codes "@a")) two ≡ Ok (first ∷ new ∷ second ∷ [])
after_the_first = rw (id-Named (codes "a"), id-Named (codes "b"), same-Named (codes "a"), same-Named (codes "b"), outs-Named (codes "z")) refl

before_all : inserted itself new None two ≡ Ok (new ∷ first ∷ second ∷ [])
before_all = rw (same-Named (codes "a"), same-Named (codes "b"), outs-Named (codes "z")) refl

after_no_row : inserted itself new (Some (codes "@c")) two ≡ Err error.NoRow
after_no_row = rw (id-Named (codes "a"), id-Named (codes "b")) refl

-- an id stands once
twice : inserted itself first None two ≡ Err error.RowTaken
twice = rw (same-Named (codes "a"), outs-Named (codes "a")) refl

-- a row that isn't there is told before an id that is taken
twice_after_no_row : inserted itself first (Some (codes "@c")) two ≡ Err error.NoRow
twice_after_no_row = rw (id-Named (codes "a"), id-Named (codes "b")) refl

-- ---- delete_row

without_the_first : deleted itself (codes "@a") two ≡ Ok (second ∷ [])
without_the_first = rw (id-Named (codes "a"), id-Named (codes "b")) refl

-- ---- move_row

the_first_to_the_end : moved itself (codes "@a") (Some (codes "@b")) two ≡ Ok (second ∷ first ∷ [])
the_first_to_the_end = rw (id-Named (codes "a"), id-Named (codes "b"), id-Named (codes "b")) refl

the_second_to_the_front : moved itself (codes "@b") None two ≡ Ok (second ∷ first ∷ [])
the_second_to_the_front = rw (id-Named (codes "a"), id-Named (codes "b")) refl

after_itself : moved itself (codes "@a") (Some (codes "@a")) two ≡ Ok two
after_itself = rw (id-Named (codes "a"), id-Named (codes "b")) refl

-- ---- set_value

abbrev columns : List Column
columns = record { name = codes "n"; kind = kind.Int } ∷ record { name = codes "price"; kind = kind.Fixed } ∷ []

the_second_column : find_column columns (codes "price") ≡ Ok (record { place = 1; kind = kind.Fixed })
the_second_column = refl

no_column : find_column columns (codes "m") ≡ Err error.NoColumn
no_column = refl

widened_three : value_for kind.Fixed (value.Int (pos 3)) ≡ Ok (value.Fixed (pos 30000))
widened_three = refl

too_great : value_for kind.Fixed (value.Int (pos 922337203685478)) ≡ Err error.Overflow
too_great = refl

no_int : value_for kind.Int (value.Text (codes "3")) ≡ Err error.TypeFault
no_int = refl

null_everywhere : value_for kind.Int value.Null ≡ Ok value.Null
null_everywhere = refl
