-- CAST: a value as one of another type.
use Rattle.std.specs.Prelude.{Option, Some, None, Ok, Err, pos, int_div}
use Rattle.value_types.specs.Text.{plain}
use Rattle.value_types.specs.Numbers.{int_of, fixed_of, bool_of}
use Rattle.value_types.specs.declared.value.ColumnType.{ColumnType}
use Rattle.value_types.specs.declared.value.ColumnType.TheVariants as kind
use Rattle.value_types.specs.declared.value.Value.{Value}
use Rattle.value_types.specs.declared.value.Value.TheVariants.{Null, Bool as Truth, Int, Fixed, Text}
use Rattle.cell_errors.specs.declared.fault.CellError.TheVariants as error
use Rattle.cell_errors.specs.Answers.{Answer}
use Rattle.expr_ops.specs.Arithmetic.{in_range, ten_thousandths, a_fixed}

-- what is read from a text, which has to be of the type's grammar
abbrev pub read_as : {A : Type 0} → (A → Value) → Option A → Answer Value
read_as make None = Err error.BadCast
read_as make (Some x) = Ok (make x)

-- NULL stays NULL, every value has a text, and a Text is read
abbrev pub cast : ColumnType → Value → Answer Value
cast kind.Bool Null = Ok Null
cast kind.Bool (Truth b) = Ok (Truth b)
cast kind.Bool (Int n) = Err error.TypeFault
cast kind.Bool (Fixed n) = Err error.TypeFault
cast kind.Bool (Text t) = read_as Truth (bool_of t)
cast kind.Int Null = Ok Null
cast kind.Int (Truth b) = Err error.TypeFault
cast kind.Int (Int n) = Ok (Int n)
cast kind.Int (Fixed n) = Ok (Int (int_div n (pos 10000)))
cast kind.Int (Text t) = read_as Int (int_of t)
cast kind.Fixed Null = Ok Null
cast kind.Fixed (Truth b) = Err error.TypeFault
cast kind.Fixed (Int n) = a_fixed (in_range (ten_thousandths n))
cast kind.Fixed (Fixed n) = Ok (Fixed n)
cast kind.Fixed (Text t) = read_as Fixed (fixed_of t)
cast kind.Text Null = Ok Null
cast kind.Text (Truth b) = Ok (Text (plain (Truth b)))
cast kind.Text (Int n) = Ok (Text (plain (Int n)))
cast kind.Text (Fixed n) = Ok (Text (plain (Fixed n)))
cast kind.Text (Text t) = Ok (Text t)
