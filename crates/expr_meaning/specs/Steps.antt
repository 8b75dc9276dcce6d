-- The marked readings of forms, which the evaluator goes through one by one.
use Rattle.std.specs.Prelude.{ℕ, Bool, false, List, Ok, Option, option_map}
use Rattle.value_types.specs.declared.value.Value.{Value}
use Rattle.value_types.specs.declared.value.Value.TheVariants.{Bool as Truth}
use Rattle.expr_lang.specs.declared.ops.BinaryOp.{BinaryOp}
use Rattle.expr_lang.specs.declared.expr.Expr.{Expr}
use Rattle.expr_lang.specs.declared.expr.Arm.{Arm, out-Arm}
use Rattle.dataset_types.specs.declared.picks.Pick.{Pick}
use Rattle.dataset_types.specs.declared.row.Marked.{Marked}
use Rattle.expr_ops.specs.Ops.{binary_of}
use Rattle.cell_errors.specs.Answers.{Answer}
use Rattle.cell_errors.specs.Seen.{Seen, after, seen_then, unmarked}
use Rattle.expr_meaning.specs.Settings.{MarkedSetting}
use Rattle.expr_meaning.specs.Meaning.{marked_at}
use Rattle.expr_meaning.specs.Forms.{all_then, applied, or_equal, any_equal, one_of, like_of, first_value, first_arm, or_null}

-- an operator, which looks at the right operand only where the left one doesn't decide
abbrev pub applied_marked : BinaryOp → Seen Value → Seen Value → Seen Value
applied_marked = applied (Seen Value) seen_then unmarked

-- an operator whose left operand didn't decide, on its value and the right operand
abbrev pub beside_marked : BinaryOp → Marked → Seen Value → Seen Value
beside_marked op m y = after m.marked (seen_then y (λ w. unmarked (binary_of op m.value w)))

-- x LIKE y, or NOT of it
abbrev pub like_marked : Seen Value → Seen Value → Bool → Seen Value
like_marked = like_of (Seen Value) seen_then unmarked

-- x IN (a, b), or NOT of it
abbrev pub one_of_marked : Seen Value → List (Seen Value) → Bool → Seen Value
one_of_marked = one_of (Seen Value) seen_then unmarked

-- sofar OR v = y
abbrev pub or_equal_marked : Seen Value → Value → Seen Value → Seen Value
or_equal_marked = or_equal (Seen Value) seen_then unmarked

-- sofar OR v = a OR v = b, and so on
abbrev pub any_equal_marked : Seen Value → Value → List (Seen Value) → Seen Value
any_equal_marked = any_equal (Seen Value) seen_then unmarked

-- whether the value equals one of the list
abbrev pub equals_one : Value → List (Seen Value) → Seen Value
equals_one v ys = any_equal_marked (unmarked (Ok (Truth false))) v ys

-- the first value that isn't NULL
abbrev pub first_value_marked : List (Seen Value) → Seen Value
first_value_marked = first_value (Seen Value) seen_then unmarked

-- the answer of the first arm whose condition is TRUE, else the other
abbrev pub first_arm_marked : List (Seen Value × Seen Value) → Seen Value → Seen Value
first_arm_marked = first_arm (Seen Value) seen_then unmarked

-- the values of all, after those that were looked at, and then what they give together
abbrev pub all_marked : List (Seen Value) → List Value → (List Value → Answer Value) → Seen Value
all_marked = all_then (Seen Value) seen_then unmarked

-- the condition and the answer of an arm
abbrev pub arm_at : MarkedSetting → List Pick → ℕ → Arm → Seen Value × Seen Value
arm_at s picks cell a = (marked_at s picks cell (out-Arm a).condition, marked_at s picks cell (out-Arm a).answer)

-- what a CASE gives where no condition is TRUE
abbrev pub otherwise_at : MarkedSetting → List Pick → ℕ → Option Expr → Seen Value
otherwise_at s picks cell x = or_null (Seen Value) seen_then unmarked (option_map (marked_at s picks cell) x)
