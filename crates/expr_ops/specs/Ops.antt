-- What the operators give on values.
use Rattle.std.specs.Prelude.{Bool, true, false, Option, Some, None, Ok, Err}
use Rattle.std.specs.Ordering.{is_eq, is_ne, is_lt, is_le, is_gt, is_ge}
use Rattle.value_types.specs.declared.value.Value.{Value}
use Rattle.expr_lang.specs.declared.ops.UnaryOp.{UnaryOp}
use Rattle.expr_lang.specs.declared.ops.UnaryOp.TheVariants as unary
use Rattle.expr_lang.specs.declared.ops.BinaryOp.{BinaryOp}
use Rattle.expr_lang.specs.declared.ops.BinaryOp.TheVariants as binary
use Rattle.expr_ops.specs.declared.number.Arithmetic.TheVariants as by
use Rattle.cell_errors.specs.Answers.{Answer, and_then}
use Rattle.expr_ops.specs.Truths.{truth, truth_value, negated, or_decided, and_decided, or_rest, and_rest}
use Rattle.expr_ops.specs.Arithmetic.{calculated, remaining, opposed, absolute}
use Rattle.expr_ops.specs.Compare.{compared}
use Rattle.expr_ops.specs.Texts.{length_of, trimmed, joined}

-- an operator of one operand
abbrev pub unary_of : UnaryOp → Value → Answer Value
unary_of unary.Not v = negated v
unary_of unary.Minus v = opposed v
unary_of unary.Length v = length_of v
unary_of unary.Trim v = trimmed v
unary_of unary.Abs v = absolute v

-- the value, where the left operand alone decides
abbrev pub decided : BinaryOp → Value → Answer (Option Value)
decided binary.Or v = and_then (truth v) (λ t. Ok (or_decided t))
decided binary.And v = and_then (truth v) (λ t. Ok (and_decided t))
decided binary.Equal v = Ok None
decided binary.NotEqual v = Ok None
decided binary.Less v = Ok None
decided binary.AtMost v = Ok None
decided binary.Greater v = Ok None
decided binary.AtLeast v = Ok None
decided binary.Concat v = Ok None
decided binary.Add v = Ok None
decided binary.Subtract v = Ok None
decided binary.Multiply v = Ok None
decided binary.Divide v = Ok None
decided binary.Remainder v = Ok None

-- the left operand, where it was told to decide; else none
abbrev pub deciding : Value → Answer Bool → Answer (Option Value)
deciding v (Ok true) = Ok (Some v)
deciding v (Ok false) = Ok None
deciding v (Err e) = Err e

-- the value, where it doesn't
abbrev pub binary_of : BinaryOp → Value → Value → Answer Value
binary_of binary.Or v w = and_then (truth w) (λ u. Ok (truth_value (or_rest v u)))
binary_of binary.And v w = and_then (truth w) (λ u. Ok (truth_value (and_rest v u)))
binary_of binary.Equal v w = compared is_eq v w
binary_of binary.NotEqual v w = compared is_ne v w
binary_of binary.Less v w = compared is_lt v w
binary_of binary.AtMost v w = compared is_le v w
binary_of binary.Greater v w = compared is_gt v w
binary_of binary.AtLeast v w = compared is_ge v w
binary_of binary.Concat v w = joined v w
binary_of binary.Add v w = calculated by.Add v w
binary_of binary.Subtract v w = calculated by.Subtract v w
binary_of binary.Multiply v w = calculated by.Multiply v w
binary_of binary.Divide v w = calculated by.Divide v w
binary_of binary.Remainder v w = remaining v w
