-- What an aggregate gives on the values of a group's rows.
use Rattle.std.specs.Prelude.{Bool, true, false, not, Ok, Err, List, [], ◌∷◌, length, filter, ℤ, pos, ◌+ℤ◌}
use Rattle.std.specs.Ordering.{is_lt}
use Rattle.value_types.specs.declared.value.Value.{Value}
use Rattle.value_types.specs.declared.value.Value.TheVariants.{Null, Bool as Truth, Int, Fixed, Text}
use Rattle.value_types.specs.Order.{value_cmp}
use Rattle.cell_errors.specs.declared.fault.CellError.TheVariants as error
use Rattle.cell_errors.specs.Answers.{Answer}
use Rattle.expr_ops.specs.declared.aggregates.Aggregate.{Aggregate}
use Rattle.expr_ops.specs.declared.aggregates.Aggregate.TheVariants as aggregate
use Rattle.expr_ops.specs.Truths.{is_null}
use Rattle.expr_ops.specs.Arithmetic.{in_range, an_int, a_fixed}

-- the values that aren't NULL
abbrev pub not_null : List Value → List Value
not_null = filter (λ v. not (is_null v))

-- a number, in ones or in ten-thousandths
abbrev pub count_in : Value → ℤ
count_in (Int n) = n
count_in (Fixed n) = n
count_in _ = pos 0

-- the sum of all, whatever its size
abbrev pub total : List Value → ℤ
total [] = pos 0
total (v ∷ vs) = count_in v +ℤ total vs

-- a sum in the type of a value, which has to be a number
abbrev pub sum_as : Value → ℤ → Answer Value
sum_as Null n = Err error.TypeFault
sum_as (Truth b) n = Err error.TypeFault
sum_as (Int m) n = an_int (in_range n)
sum_as (Fixed m) n = a_fixed (in_range n)
sum_as (Text t) n = Err error.TypeFault

-- SUM of values of one type: NULL where there are none
abbrev pub sum_of : List Value → Answer Value
sum_of [] = Ok Null
sum_of (v ∷ vs) = sum_as v (total (v ∷ vs))

-- one of two values
abbrev pub first_if : Bool → Value → Value → Value
first_if true a b = a
first_if false a b = b

-- the first of the least values, beginning with one
abbrev pub least_from : Value → List Value → Value
least_from v [] = v
least_from v (w ∷ ws) = least_from (first_if (is_lt (value_cmp w v)) w v) ws

-- the first of the greatest values, beginning with one
abbrev pub greatest_from : Value → List Value → Value
greatest_from v [] = v
greatest_from v (w ∷ ws) = greatest_from (first_if (is_lt (value_cmp v w)) w v) ws

-- MIN: NULL where there are none
abbrev pub least_of : List Value → Value
least_of [] = Null
least_of (v ∷ vs) = least_from v vs

-- MAX: NULL where there are none
abbrev pub greatest_of : List Value → Value
greatest_of [] = Null
greatest_of (v ∷ vs) = greatest_from v vs

-- an aggregate of values none of which is NULL
abbrev pub of_not_null : Aggregate → List Value → Answer Value
of_not_null aggregate.Count vs = Ok (Int (pos (length vs)))
of_not_null aggregate.Sum vs = sum_of vs
of_not_null aggregate.Min vs = Ok (least_of vs)
of_not_null aggregate.Max vs = Ok (greatest_of vs)

-- an aggregate of values, of which those that are NULL don't count
abbrev pub aggregate_of : Aggregate → List Value → Answer Value
aggregate_of op vs = of_not_null op (not_null vs)
