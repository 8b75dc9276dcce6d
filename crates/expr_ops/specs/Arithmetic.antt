-- Arithmetic: exact in ten-thousandths, cut toward zero, in the range of an i64.
use Rattle.std.specs.Prelude.{Bool, true, false, ◌&&◌, if◌then◌else◌, Ok, Err, ℤ, pos, ◌+ℤ◌, ◌-ℤ◌, ◌*ℤ◌, int_div, int_rem, unsigned_abs}
use Rattle.std.specs.Ordering.{int_eq}
use Rattle.value_types.specs.Numbers.{fits_i64}
use Rattle.value_types.specs.declared.value.Value.{Value}
use Rattle.value_types.specs.declared.value.Value.TheVariants.{Null, Bool as Truth, Int, Fixed, Text}
use Rattle.expr_lang.specs.declared.ops.BinaryOp.{BinaryOp}
use Rattle.expr_lang.specs.declared.ops.BinaryOp.TheVariants as binary
use Rattle.cell_errors.specs.declared.fault.CellError.TheVariants as error
use Rattle.cell_errors.specs.Answers.{Answer, and_then}
use Rattle.expr_ops.specs.declared.number.Arithmetic.{Arithmetic}
use Rattle.expr_ops.specs.declared.number.Arithmetic.TheVariants as by

-- the number, where an i64 has it
abbrev pub in_range : ℤ → Answer ℤ
in_range n = if fits_i64 n then Ok n else Err error.Overflow

-- a whole number, counted in ten-thousandths
abbrev pub ten_thousandths : ℤ → ℤ
ten_thousandths n = n *ℤ pos 10000

-- a quotient, cut toward zero
abbrev pub divided : ℤ → ℤ → Answer ℤ
divided a b = if int_eq b (pos 0) then Err error.ZeroDivisor else in_range (int_div a b)

-- a remainder, which has the sign of the left
abbrev pub remainder : ℤ → ℤ → Answer ℤ
remainder a b = if int_eq b (pos 0) then Err error.ZeroDivisor else Ok (int_rem a b)

-- on whole numbers
abbrev pub on_ints : Arithmetic → ℤ → ℤ → Answer ℤ
on_ints by.Add a b = in_range (a +ℤ b)
on_ints by.Subtract a b = in_range (a -ℤ b)
on_ints by.Multiply a b = in_range (a *ℤ b)
on_ints by.Divide a b = divided a b

-- on counts of ten-thousandths
abbrev pub on_fixeds : Arithmetic → ℤ → ℤ → Answer ℤ
on_fixeds by.Add a b = in_range (a +ℤ b)
on_fixeds by.Subtract a b = in_range (a -ℤ b)
on_fixeds by.Multiply a b = in_range (int_div (a *ℤ b) (pos 10000))
on_fixeds by.Divide a b = divided (ten_thousandths a) b

-- an answer as an Int
abbrev pub an_int : Answer ℤ → Answer Value
an_int a = and_then a (λ n. Ok (Int n))

-- an answer as a Fixed
abbrev pub a_fixed : Answer ℤ → Answer Value
a_fixed a = and_then a (λ n. Ok (Fixed n))

-- a number or NULL
abbrev pub is_number : Value → Bool
is_number Null = true
is_number (Truth b) = false
is_number (Int n) = true
is_number (Fixed n) = true
is_number (Text t) = false

-- an Int or NULL
abbrev pub is_int : Value → Bool
is_int Null = true
is_int (Truth b) = false
is_int (Int n) = true
is_int (Fixed n) = false
is_int (Text t) = false

-- NULL, where the types of the operands are allowed
abbrev pub null_where : Bool → Answer Value
null_where true = Ok Null
null_where false = Err error.TypeFault

-- `+ - * /`: an Int beside a Fixed is widened first
abbrev pub calculated : Arithmetic → Value → Value → Answer Value
calculated op (Int a) (Int b) = an_int (on_ints op a b)
calculated op (Int a) (Fixed b) = and_then (in_range (ten_thousandths a)) (λ w. a_fixed (on_fixeds op w b))
calculated op (Fixed a) (Int b) = and_then (in_range (ten_thousandths b)) (λ w. a_fixed (on_fixeds op a w))
calculated op (Fixed a) (Fixed b) = a_fixed (on_fixeds op a b)
calculated op a b = null_where (is_number a && is_number b)

-- `%`
abbrev pub remaining : Value → Value → Answer Value
remaining (Int a) (Int b) = an_int (remainder a b)
remaining a b = null_where (is_int a && is_int b)

-- whether an operator is one of arithmetic
abbrev pub is_arithmetic : BinaryOp → Bool
is_arithmetic binary.Add = true
is_arithmetic binary.Subtract = true
is_arithmetic binary.Multiply = true
is_arithmetic binary.Divide = true
is_arithmetic binary.Remainder = true
is_arithmetic op = false

-- whether it is one of arithmetic on two Ints
abbrev pub is_on_ints : BinaryOp → Value → Value → Bool
is_on_ints op (Int a) (Int b) = is_arithmetic op
is_on_ints op a b = false

-- unary minus
abbrev pub opposed : Value → Answer Value
opposed Null = Ok Null
opposed (Int n) = an_int (in_range (pos 0 -ℤ n))
opposed (Fixed n) = a_fixed (in_range (pos 0 -ℤ n))
opposed (Truth b) = Err error.TypeFault
opposed (Text t) = Err error.TypeFault

-- ABS
abbrev pub absolute : Value → Answer Value
absolute Null = Ok Null
absolute (Int n) = an_int (in_range (pos (unsigned_abs n)))
absolute (Fixed n) = a_fixed (in_range (pos (unsigned_abs n)))
absolute (Truth b) = Err error.TypeFault
absolute (Text t) = Err error.TypeFault
