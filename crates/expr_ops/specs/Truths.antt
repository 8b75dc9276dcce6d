-- Truth with NULL: three values, of which NULL is `None`.
use Rattle.std.specs.Prelude.{Bool, true, false, not, Option, Some, None, Ok, Err}
use Rattle.value_types.specs.declared.value.Value.{Value}
use Rattle.value_types.specs.declared.value.Value.TheVariants.{Null, Bool as Truth, Int, Fixed, Text}
use Rattle.cell_errors.specs.declared.fault.CellError.TheVariants as error
use Rattle.cell_errors.specs.Answers.{Answer, and_then}

-- whether a value is NULL
abbrev pub is_null : Value → Bool
is_null Null = true
is_null (Truth b) = false
is_null (Int n) = false
is_null (Fixed n) = false
is_null (Text t) = false

-- a value as a truth
abbrev pub truth : Value → Answer (Option Bool)
truth Null = Ok None
truth (Truth b) = Ok (Some b)
truth (Int n) = Err error.TypeFault
truth (Fixed n) = Err error.TypeFault
truth (Text t) = Err error.TypeFault

-- a truth as a value
abbrev pub truth_value : Option Bool → Value
truth_value None = Null
truth_value (Some b) = Truth b

-- NOT
abbrev pub opposite : Option Bool → Option Bool
opposite None = None
opposite (Some b) = Some (not b)

-- NOT of a value
abbrev pub negated : Value → Answer Value
negated v = and_then (truth v) (λ t. Ok (truth_value (opposite t)))

-- a value, or NOT of it
abbrev pub negated_if : Bool → Value → Answer Value
negated_if true v = negated v
negated_if false v = Ok v

-- whether a condition is TRUE; NULL isn't
abbrev pub is_true : Value → Answer Bool
is_true Null = Ok false
is_true (Truth b) = Ok b
is_true (Int n) = Err error.TypeFault
is_true (Fixed n) = Err error.TypeFault
is_true (Text t) = Err error.TypeFault

-- IS NULL, or IS NOT NULL
abbrev pub null_test : Bool → Value → Value
null_test true v = Truth (not (is_null v))
null_test false v = Truth (is_null v)

-- TRUE where the left operand of OR decides
abbrev pub or_decided : Option Bool → Option Value
or_decided (Some true) = Some (Truth true)
or_decided (Some false) = None
or_decided None = None

-- FALSE where the left operand of AND decides
abbrev pub and_decided : Option Bool → Option Value
and_decided (Some false) = Some (Truth false)
and_decided (Some true) = None
and_decided None = None

-- NULL OR u
abbrev pub null_or : Option Bool → Option Bool
null_or (Some true) = Some true
null_or (Some false) = None
null_or None = None

-- NULL AND u
abbrev pub null_and : Option Bool → Option Bool
null_and (Some false) = Some false
null_and (Some true) = None
null_and None = None

-- v OR u, where v isn't TRUE
abbrev pub or_rest : Value → Option Bool → Option Bool
or_rest Null u = null_or u
or_rest _ u = u

-- v AND u, where v isn't FALSE
abbrev pub and_rest : Value → Option Bool → Option Bool
and_rest Null u = null_and u
and_rest _ u = u
