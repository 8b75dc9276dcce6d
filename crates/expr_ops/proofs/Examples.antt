-- Worked examples of the operators, as docs/EXPRESSIONS.md has them.
use Rattle.std.proofs.Common.{◌≡◌, refl, map, true, false, Option, List, ◌∷◌, [], Ok, Err}
use Rattle.std.specs.Prelude.{codes, pos, negsuc, Some, None}
use Rattle.std.specs.Str.{chars}
use Rattle.std.specs.Fmt.{digits}
use Rattle.value_types.specs.declared.value.ColumnType.{ColumnType}
use Rattle.value_types.specs.declared.value.ColumnType.TheVariants as kind
use Rattle.value_types.specs.declared.value.Value.{Value}
use Rattle.value_types.specs.declared.value.Value.TheVariants.{Null, Bool as Truth, Int, Fixed, Text}
use Rattle.value_types.specs.Numbers.{int_of, fixed_of, bool_of}
use Rattle.expr_lang.specs.declared.ops.UnaryOp.TheVariants as unary
use Rattle.expr_lang.specs.declared.ops.BinaryOp.{BinaryOp}
use Rattle.expr_lang.specs.declared.ops.BinaryOp.TheVariants as binary
use Rattle.expr_ops.specs.declared.aggregates.Aggregate.TheVariants as aggregate
use Rattle.cell_errors.specs.declared.fault.CellError.TheVariants as error
use Rattle.cell_errors.specs.Answers.{Answer, and_then}
use Rattle.expr_ops.specs.Texts.{matches, stripped, like, joined}
use Rattle.expr_ops.specs.Casts.{cast}
use Rattle.expr_ops.specs.Aggregates.{aggregate_of}
use Rattle.expr_ops.specs.Ops.{unary_of, decided, binary_of}

-- ---- numbers

-- 7 / 2 is 3, -7 / 2 is -3, -7 % 2 is -1
cut : binary_of binary.Divide (Int (pos 7)) (Int (pos 2)) ≡ Ok (Int (pos 3))
cut = refl

cut_up : binary_of binary.Divide (Int (negsuc 6)) (Int (pos 2)) ≡ Ok (Int (negsuc 2))
cut_up = refl

signed_rest : binary_of binary.Remainder (Int (negsuc 6)) (Int (pos 2)) ≡ Ok (Int (negsuc 0))
signed_rest = refl

-- the least Int has no quotient by -1, but a remainder
too_great : binary_of binary.Divide (Int (negsuc 9223372036854775807)) (Int (negsuc 0)) ≡ Err error.Overflow
too_great = refl

no_rest : binary_of binary.Remainder (Int (negsuc 9223372036854775807)) (Int (negsuc 0)) ≡ Ok (Int (pos 0))
no_rest = refl

-- 1.5 * 1.5 is 2.25
product : binary_of binary.Multiply (Fixed (pos 15000)) (Fixed (pos 15000)) ≡ Ok (Fixed (pos 22500))
product = refl

-- 2.0 / 3 is 0.6666
two_thirds : binary_of binary.Divide (Fixed (pos 20000)) (Int (pos 3)) ≡ Ok (Fixed (pos 6666))
two_thirds = refl

-- 1 + 0.5 is 1.5
mixed : binary_of binary.Add (Int (pos 1)) (Fixed (pos 5000)) ≡ Ok (Fixed (pos 15000))
mixed = refl

-- widening comes before the divisor is looked at
widened_first : binary_of binary.Divide (Int (pos 922337203685478)) (Fixed (pos 0)) ≡ Err error.Overflow
widened_first = refl

-- a comparison widens without an end
compared_far : binary_of binary.Greater (Int (pos 922337203685478)) (Fixed (pos 0)) ≡ Ok (Truth true)
compared_far = refl

-- the same for counts of ten-thousandths: 0.0001 * 0.9999 is cut to nothing, -1.5 * 0.0003 to -0.0004
cut_away : binary_of binary.Multiply (Fixed (pos 1)) (Fixed (pos 9999)) ≡ Ok (Fixed (pos 0))
cut_away = refl

cut_product : binary_of binary.Multiply (Fixed (negsuc 14999)) (Fixed (pos 3)) ≡ Ok (Fixed (negsuc 3))
cut_product = refl

cut_quotient : binary_of binary.Divide (Fixed (negsuc 19999)) (Fixed (pos 30000)) ≡ Ok (Fixed (negsuc 6665))
cut_quotient = refl

-- ---- the ends of an i64

abbrev least : Value
least = Int (negsuc 9223372036854775807)

abbrev most : Value
most = Int (pos 9223372036854775807)

-- a sum, a difference and a product at each end, and one beyond
ends_meet : binary_of binary.Add least most ≡ Ok (Int (negsuc 0))
ends_meet = refl

past_the_most : binary_of binary.Add most (Int (pos 1)) ≡ Err error.Overflow
past_the_most = refl

past_the_least : binary_of binary.Add least (Int (negsuc 0)) ≡ Err error.Overflow
past_the_least = refl

less_than_the_least : binary_of binary.Subtract least (Int (pos 1)) ≡ Err error.Overflow
less_than_the_least = refl

more_than_the_most : binary_of binary.Subtract most (Int (negsuc 0)) ≡ Err error.Overflow
more_than_the_most = refl

down_to_the_least : binary_of binary.Multiply (Int (negsuc 2147483647)) (Int (pos 4294967296)) ≡ Ok least
down_to_the_least = refl

beyond_the_most : binary_of binary.Multiply (Int (pos 2147483648)) (Int (pos 4294967296)) ≡ Err error.Overflow
beyond_the_most = refl

no_opposite : unary_of unary.Minus least ≡ Err error.Overflow
no_opposite = refl

opposite_of_the_most : unary_of unary.Minus most ≡ Ok (Int (negsuc 9223372036854775806))
opposite_of_the_most = refl

no_size : unary_of unary.Abs least ≡ Err error.Overflow
no_size = refl

fixed_times_one : binary_of binary.Multiply (Fixed (pos 9223372036854775807)) (Fixed (pos 10000)) ≡ Ok (Fixed (pos 9223372036854775807))
fixed_times_one = refl

fixed_by_less_than_one : binary_of binary.Divide (Fixed (pos 9223372036854775807)) (Fixed (pos 9999)) ≡ Err error.Overflow
fixed_by_less_than_one = refl

fixed_past_the_most : binary_of binary.Add (Fixed (pos 9223372036854775807)) (Fixed (pos 1)) ≡ Err error.Overflow
fixed_past_the_most = refl

-- the widest Ints on both sides, and the next ones
widest : binary_of binary.Add (Int (pos 922337203685477)) (Fixed (pos 5807)) ≡ Ok (Fixed (pos 9223372036854775807))
widest = refl

widest_below : binary_of binary.Add (Int (negsuc 922337203685476)) (Fixed (pos 0)) ≡ Ok (Fixed (negsuc 9223372036854769999))
widest_below = refl

too_wide : binary_of binary.Add (Fixed (pos 0)) (Int (pos 922337203685478)) ≡ Err error.Overflow
too_wide = refl

too_wide_below : binary_of binary.Add (Int (negsuc 922337203685477)) (Fixed (pos 0)) ≡ Err error.Overflow
too_wide_below = refl

-- nothing is divided by zero, in either type
zero_divisors : (binary_of binary.Divide (Int (pos 0)) (Int (pos 0)) ∷ binary_of binary.Remainder (Int (pos 7)) (Int (pos 0))
    ∷ binary_of binary.Divide (Fixed (pos 7)) (Fixed (pos 0)) ∷ binary_of binary.Divide (Fixed (pos 7)) (Int (pos 0)) ∷ [])
    ≡ Err error.ZeroDivisor ∷ Err error.ZeroDivisor ∷ Err error.ZeroDivisor ∷ Err error.ZeroDivisor ∷ []
zero_divisors = refl

-- ---- comparisons

-- FALSE is before TRUE, texts are ordered by their bytes, 2 is 2.0
false_first : binary_of binary.Less (Truth false) (Truth true) ≡ Ok (Truth true)
false_first = refl

front_first : binary_of binary.Less (Text (codes "a")) (Text (codes "ab")) ≡ Ok (Truth true)
front_first = refl

capitals_first : binary_of binary.Greater (Text (codes "a")) (Text (codes "B")) ≡ Ok (Truth true)
capitals_first = refl

two : binary_of binary.AtMost (Int (pos 2)) (Fixed (pos 20000)) ≡ Ok (Truth true)
two = refl

least_below : binary_of binary.Less (Fixed (negsuc 9223372036854775807)) least ≡ Ok (Truth false)
least_below = refl

-- an Int is no Text and no Bool
not_compared : binary_of binary.Equal (Int (pos 1)) (Text (codes "1")) ≡ Err error.TypeFault
not_compared = refl

no_truth : binary_of binary.Equal (Int (pos 1)) (Truth true) ≡ Err error.TypeFault
no_truth = refl

-- ---- NULL

-- NULL + 1, NULL / 0, NULL = 'x' and NULL || 'x' are NULL
null_plus_one : binary_of binary.Add Null (Int (pos 1)) ≡ Ok Null
null_plus_one = refl

null_over : binary_of binary.Divide Null (Int (pos 0)) ≡ Ok Null
null_over = refl

null_equals : binary_of binary.Equal Null (Text (codes "x")) ≡ Ok Null
null_equals = refl

null_joined : binary_of binary.Concat Null (Text (codes "x")) ≡ Ok Null
null_joined = refl

-- NULL + 'x', NULL LIKE 1 and NULL % 1.5 are errors
null_plus : binary_of binary.Add Null (Text (codes "x")) ≡ Err error.TypeFault
null_plus = refl

null_like : like Null (Int (pos 1)) ≡ Err error.TypeFault
null_like = refl

null_rest : binary_of binary.Remainder Null (Fixed (pos 15000)) ≡ Err error.TypeFault
null_rest = refl

-- FALSE decides AND, NULL doesn't; NULL AND FALSE is FALSE
false_decides : decided binary.And (Truth false) ≡ Ok (Some (Truth false))
false_decides = refl

null_waits : decided binary.And Null ≡ Ok None
null_waits = refl

null_and_false : binary_of binary.And Null (Truth false) ≡ Ok (Truth false)
null_and_false = refl

null_and_true : binary_of binary.And Null (Truth true) ≡ Ok Null
null_and_true = refl

-- AND and OR whole, in the order of docs/EXPRESSIONS.md: the left operand TRUE, FALSE, NULL, and beside each the right one
abbrev given : BinaryOp → Value → Value → Option Value → Answer Value
given op v w (Some u) = Ok u
given op v w None = binary_of op v w

abbrev beside : BinaryOp → Value × Value → Answer Value
beside op p = and_then (decided op p.0) (given op p.0 p.1)

abbrev nine : List (Value × Value)
nine =
    (Truth true, Truth true) ∷ (Truth true, Truth false) ∷ (Truth true, Null)
    ∷ (Truth false, Truth true) ∷ (Truth false, Truth false) ∷ (Truth false, Null)
    ∷ (Null, Truth true) ∷ (Null, Truth false) ∷ (Null, Null) ∷ []

and_whole : map (beside binary.And) nine
    ≡ Ok (Truth true) ∷ Ok (Truth false) ∷ Ok Null ∷ Ok (Truth false) ∷ Ok (Truth false) ∷ Ok (Truth false) ∷ Ok Null ∷ Ok (Truth false) ∷ Ok Null ∷ []
and_whole = refl

or_whole : map (beside binary.Or) nine
    ≡ Ok (Truth true) ∷ Ok (Truth true) ∷ Ok (Truth true) ∷ Ok (Truth true) ∷ Ok (Truth false) ∷ Ok Null ∷ Ok (Truth true) ∷ Ok Null ∷ Ok Null ∷ []
or_whole = refl

-- ---- texts

-- `_` is a character of two bytes as well
one_character : like (Text (195 ∷ 169 ∷ [])) (Text (codes "_")) ≡ Ok (Truth true)
unfolding chars
one_character = refl

any_run : matches (codes "a%c") (codes "abbc") ≡ true
any_run = refl

not_more : matches (codes "a%c") (codes "abbcd") ≡ false
not_more = refl

spaces : stripped (codes "  a b ") ≡ codes "a b"
spaces = refl

plainly : joined (Text (codes "n = ")) (Truth true) ≡ Ok (Text (codes "n = true"))
plainly = refl

-- ---- CAST

cast_cut : cast kind.Int (Fixed (negsuc 29998)) ≡ Ok (Int (negsuc 1))
cast_cut = refl

cast_read : cast kind.Int (Text (codes "-42")) ≡ Ok (Int (negsuc 41))
unfolding int_of
cast_read = refl

cast_unread : cast kind.Int (Text (codes " 1")) ≡ Err error.BadCast
unfolding int_of
cast_unread = refl

cast_beyond : cast kind.Int (Text (codes "9223372036854775808")) ≡ Err error.BadCast
unfolding int_of
cast_beyond = refl

-- each value as a Bool, an Int, a Fixed and a Text
abbrev kinds : List ColumnType
kinds = kind.Bool ∷ kind.Int ∷ kind.Fixed ∷ kind.Text ∷ []

abbrev as_each : Value → List (Answer Value)
as_each v = map (λ k. cast k v) kinds

null_as_each : as_each Null ≡ Ok Null ∷ Ok Null ∷ Ok Null ∷ Ok Null ∷ []
null_as_each = refl

bool_as_each : as_each (Truth true) ≡ Ok (Truth true) ∷ Err error.TypeFault ∷ Err error.TypeFault ∷ Ok (Text (codes "true")) ∷ []
bool_as_each = refl

int_as_each : as_each (Int (pos 2)) ≡ Err error.TypeFault ∷ Ok (Int (pos 2)) ∷ Ok (Fixed (pos 20000)) ∷ Ok (Text (codes "2")) ∷ []
unfolding digits
int_as_each = refl

fixed_as_each : as_each (Fixed (negsuc 25000)) ≡ Err error.TypeFault ∷ Ok (Int (negsuc 1)) ∷ Ok (Fixed (negsuc 25000)) ∷ Ok (Text (codes "-2.5001")) ∷ []
unfolding digits
fixed_as_each = refl

text_as_each : as_each (Text (codes "1")) ≡ Err error.BadCast ∷ Ok (Int (pos 1)) ∷ Ok (Fixed (pos 10000)) ∷ Ok (Text (codes "1")) ∷ []
unfolding int_of fixed_of bool_of
text_as_each = refl

-- ---- aggregates

-- a sum may pass 64 bits on its way
comes_back : aggregate_of aggregate.Sum (Int (pos 9223372036854775807) ∷ Null ∷ Int (pos 1) ∷ Int (negsuc 0) ∷ []) ≡ Ok (Int (pos 9223372036854775807))
comes_back = refl

none_left : aggregate_of aggregate.Sum (Null ∷ []) ≡ Ok Null
none_left = refl
