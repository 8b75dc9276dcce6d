-- What the evaluator and the typing of expressions are asked for, in the settings of the code.
use Rattle.std.specs.Prelude.{ℕ, Bool, List, map, Option, option_map}
use Rattle.std.specs.Option.{option_copied}
use Rattle.value_types.specs.declared.value.Value.{Value}
use Rattle.dataset_types.specs.declared.row.Marked.{Marked}
use Rattle.cell_errors.specs.Seen.{Seen, seen_then, unmarked}
use Rattle.expr_lang.specs.declared.ops.BinaryOp.{BinaryOp}
use Rattle.expr_lang.specs.declared.expr.Expr.{Expr}
use Rattle.expr_lang.specs.declared.expr.Arm.{Arm}
use Rattle.expr_ops.specs.declared.aggregates.Aggregate.{Aggregate}
use Rattle.expr_meaning.specs.declared.bindings.Binding.{Binding}
use Rattle.expr_meaning.specs.declared.setting.Setting.{Setting}
use Rattle.expr_meaning.specs.declared.typing.TypedSetting.{TypedSetting}
use Rattle.expr_meaning.specs.Meaning.{caveat_marked, marked_at, over_at}
use Rattle.expr_meaning.specs.Sees.{seen, setting_of}
use Rattle.expr_meaning.specs.Settings.{at_row}
use Rattle.expr_meaning.specs.Steps.{applied_marked, arm_at, first_arm_marked, like_marked, one_of_marked, otherwise_at}
use Rattle.expr_meaning.specs.declared.expr_type.ExprType.{ExprType}
use Rattle.cell_errors.specs.Answers.{Answer}
use Rattle.expr_meaning.specs.Types.{TypeSetting, arm_type_at, arms_typing, or_null_type, type_at}

-- what an expression gives
abbrev pub gives : Setting → Expr → Seen Value
gives p e = marked_at (setting_of p) p.picks.now p.cell e

-- what is made of an expression's value
abbrev pub made_of : Setting → Expr → (Value → Answer Value) → Seen Value
made_of p e f = seen_then (gives p e) (λ v. unmarked (f v))

-- what an operator of two operands gives
abbrev pub operator_gives : BinaryOp → Setting → Expr → Expr → Seen Value
operator_gives op p a b = applied_marked op (gives p a) (gives p b)

-- what it gives once its left operand was looked at
abbrev pub rest_gives : BinaryOp → Marked → Setting → Expr → Seen Value
rest_gives op m p b = applied_marked op (seen m) (gives p b)

-- what LIKE, or NOT LIKE, gives
abbrev pub like_gives : Setting → Expr → Expr → Bool → Seen Value
like_gives p x y negate = like_marked (gives p x) (gives p y) negate

-- what a CAVEAT gives
abbrev pub caveat_gives : ℕ → Setting → Expr → Seen Value
caveat_gives call p e = caveat_marked p.picks.now p.cell call (gives p e)

-- what each of a list gives
abbrev pub each_gives : Setting → List Expr → List (Seen Value)
each_gives p es = map (marked_at (setting_of p) p.picks.now p.cell) es

-- what IN, or NOT IN, gives
abbrev pub in_gives : Setting → Expr → List Expr → Bool → Seen Value
in_gives p x list negate = one_of_marked (gives p x) (each_gives p list) negate

-- what an expression gives in each of the rows
abbrev pub each_row_gives : Setting → List (List Binding) → Expr → List (Seen Value)
each_row_gives p rows e = map (λ r. marked_at (at_row r) p.picks.now p.cell e) rows

-- what the conditions and the answers of arms give
abbrev pub arms_give : Setting → List Arm → List (Seen Value × Seen Value)
arms_give p arms = map (arm_at (setting_of p) p.picks.now p.cell) arms

-- what a CASE gives
abbrev pub case_gives : Setting → List Arm → Option Expr → Seen Value
case_gives p arms x = first_arm_marked (arms_give p arms) (otherwise_at (setting_of p) p.picks.now p.cell x)

-- what an aggregate of an expression gives
abbrev pub over_gives : Aggregate → Setting → Expr → Seen Value
over_gives op p e = over_at op (setting_of p) p.picks.now p.cell e

-- a setting of the code as one of the definitions
abbrev pub type_setting : TypedSetting → TypeSetting
type_setting p = record { columns = p.columns.now; group = option_copied p.group }

-- the type of each of a list
abbrev pub each_typed : TypedSetting → List Expr → List (Answer ExprType)
each_typed p es = map (type_at (type_setting p)) es

-- the type of a CASE, whose arms agree on the type `sofar`
abbrev pub case_type : TypedSetting → Answer ExprType → List Arm → Option Expr → Answer ExprType
case_type p sofar arms x =
    arms_typing sofar (map (arm_type_at (type_setting p)) arms) (or_null_type (option_map (type_at (type_setting p)) x))
