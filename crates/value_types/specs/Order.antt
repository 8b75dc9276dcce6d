-- The order across types.
use Rattle.std.specs.Prelude.{ℕ, ℤ, pos, Bool, true, false, nat_eq, List, []}
use Rattle.std.specs.Bool.{beq}
use Rattle.std.specs.declared.cmp.Ordering.{Ordering}
use Rattle.std.specs.Ordering.{int_eq, nat_cmp, int_cmp, bool_cmp, on, then_cmp}
use Rattle.std.specs.Cmp.Lexicographic.{slice_cmp, pointwise}
use Rattle.value_types.specs.declared.value.ColumnType.{ColumnType}
use Rattle.value_types.specs.declared.value.Value.{Value}
use Rattle.value_types.specs.declared.value.Value.TheVariants.{Null, Bool as Truth, Int, Fixed, Text}

-- NULL, then Bool, Int, Fixed, Text
abbrev pub class : Value → ℕ
class Null = 0
class (Truth b) = 1
class (Int n) = 2
class (Fixed n) = 3
class (Text t) = 4

-- the truth of a Bool, else false
abbrev pub truth_in : Value → Bool
truth_in (Truth b) = b
truth_in _ = false

-- the whole number that an Int is or a Fixed counts in, else 0
abbrev pub number_in : Value → ℤ
number_in (Int n) = n
number_in (Fixed n) = n
number_in _ = pos 0

-- the bytes of a Text, else none
abbrev pub text_in : Value → List ℕ
text_in (Text t) = t
text_in _ = []

-- by type, then false before true, by number, Texts by their bytes
abbrev pub value_cmp : Value → Value → Ordering
value_cmp = then_cmp (on class nat_cmp) (then_cmp (on truth_in bool_cmp) (then_cmp (on number_in int_cmp) (on text_in (slice_cmp nat_cmp))))

-- whether two values are one: of one type, and equal. NULL is NULL
abbrev pub same_value : Value → Value → Bool
same_value Null Null = true
same_value (Truth a) (Truth b) = beq a b
same_value (Int a) (Int b) = int_eq a b
same_value (Fixed a) (Fixed b) = int_eq a b
same_value (Text a) (Text b) = pointwise nat_eq a b
same_value a b = false

-- whether two column types are one
abbrev pub same_type : ColumnType → ColumnType → Bool
same_type ColumnType.Bool ColumnType.Bool = true
same_type ColumnType.Int ColumnType.Int = true
same_type ColumnType.Fixed ColumnType.Fixed = true
same_type ColumnType.Text ColumnType.Text = true
same_type a b = false

-- the same for the values of a key
abbrev pub same_key : List Value → List Value → Bool
same_key = pointwise same_value
