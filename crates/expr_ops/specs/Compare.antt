-- Comparisons. An Int beside a Fixed is compared exactly, whatever its size.
use Rattle.std.specs.Prelude.{Bool, Option, Some, None, Ok, Err}
use Rattle.std.specs.Ordering.{int_cmp, nat_cmp, bool_cmp, is_eq, is_ne, is_lt, is_le, is_gt, is_ge}
use Rattle.std.specs.Cmp.Lexicographic.{slice_cmp}
use Rattle.std.specs.declared.cmp.Ordering.{Ordering}
use Rattle.value_types.specs.declared.value.Value.{Value}
use Rattle.value_types.specs.declared.value.Value.TheVariants.{Null, Bool as Truth, Int, Fixed, Text}
use Rattle.cell_errors.specs.declared.fault.CellError.TheVariants as error
use Rattle.cell_errors.specs.Answers.{Answer, and_then}
use Rattle.expr_ops.specs.declared.compare.Comparison.{Comparison}
use Rattle.expr_ops.specs.declared.compare.Comparison.TheVariants as by
use Rattle.expr_ops.specs.Arithmetic.{ten_thousandths}

-- how two values of one type, or two numbers, stand; none where one is NULL
abbrev pub order : Value → Value → Answer (Option Ordering)
order Null b = Ok None
order (Truth a) Null = Ok None
order (Truth a) (Truth b) = Ok (Some (bool_cmp a b))
order (Int a) Null = Ok None
order (Int a) (Int b) = Ok (Some (int_cmp a b))
order (Int a) (Fixed b) = Ok (Some (int_cmp (ten_thousandths a) b))
order (Fixed a) Null = Ok None
order (Fixed a) (Int b) = Ok (Some (int_cmp a (ten_thousandths b)))
order (Fixed a) (Fixed b) = Ok (Some (int_cmp a b))
order (Text a) Null = Ok None
order (Text a) (Text b) = Ok (Some (slice_cmp nat_cmp a b))
order a b = Err error.TypeFault

-- NULL, or whether the order passes a test
abbrev pub tested : (Ordering → Bool) → Option Ordering → Value
tested test None = Null
tested test (Some o) = Truth (test o)

-- a comparison
abbrev pub compared : (Ordering → Bool) → Value → Value → Answer Value
compared test a b = and_then (order a b) (λ o. Ok (tested test o))

-- `=`
abbrev pub equal : Value → Value → Answer Value
equal = compared is_eq

-- the test that an order passes
abbrev pub test_of : Comparison → Ordering → Bool
test_of by.Equal = is_eq
test_of by.NotEqual = is_ne
test_of by.Less = is_lt
test_of by.AtMost = is_le
test_of by.Greater = is_gt
test_of by.AtLeast = is_ge
