-- Relations without marks and flags.
use Rattle.std.specs.Prelude.{◌&&◌, if◌then◌else◌, Bool, Ok, Err, List, [], ◌∷◌, ◌++◌, length, map}
use Rattle.std.specs.List.{sum_by}
use Rattle.cell_errors.specs.Answers.{Answer, and_then}
use Rattle.cell_errors.specs.declared.fault.CellError.TheVariants as error
use Rattle.dataset_types.specs.Plain.{PlainRow, erased_row, plain_size, plain_short}
use Rattle.dataset_types.specs.Tables.{few_rows, few_values, few_bytes}
use Rattle.expr_meaning.specs.declared.bindings.ScopeColumn.{ScopeColumn}
use Rattle.relations.specs.declared.batch.Batch.{Batch}
use Rattle.relations.specs.Rels.{RelData}

-- columns and rows, without marks and flags
pub record PlainRel : Type 0 where
  pub columns : List ScopeColumn
  pub rows : List PlainRow

-- a relation without its marks and flags
abbrev pub erased_rel : RelData → PlainRel
erased_rel r = record { columns = r.columns; rows = map erased_row r.rows }

-- the rows of a batch without their marks
abbrev pub erased_batch : Batch → List PlainRow
erased_batch b = map erased_row b.rows

-- the rows that each gives, in order, or the first error
abbrev pub listed : {X : Type 0} → (X → Answer (List PlainRow)) → List X → Answer (List PlainRow)
listed f [] = Ok []
listed f (x ∷ xs) = and_then (f x) (λ rs. and_then (listed f xs) (λ more. Ok (rs ++ more)))

-- the limits of a relation
abbrev pub plain_within : PlainRel → Bool
plain_within r =
    few_rows (length r.rows)
    && few_values (length r.rows) (length r.columns)
    && few_bytes (sum_by plain_size r.rows)
    && plain_short r.rows

-- the whole result of a step, where it is within the limits
abbrev pub plain_whole : PlainRel → Answer PlainRel
plain_whole r = if plain_within r then Ok r else Err error.TooLarge
