-- The types of conditions.
use Rattle.std.specs.Prelude.{Option, Some, None, Ok, Err}
use Rattle.value_types.specs.declared.value.ColumnType.TheVariants as kind
use Rattle.cell_errors.specs.declared.fault.CellError.TheVariants as error
use Rattle.cell_errors.specs.Answers.{Answer, and_then}
use Rattle.expr_lang.specs.declared.expr.Expr.{Expr}
use Rattle.expr_meaning.specs.declared.expr_type.ExprType.{ExprType}
use Rattle.expr_meaning.specs.declared.expr_type.ExprType.TheVariants.{Null, Of}
use Rattle.expr_meaning.specs.Types.{TypeSetting, type_at}

-- a condition is a Bool or NULL
abbrev pub where_condition : ExprType → Answer (Unit {0})
where_condition Null = Ok tt
where_condition (Of kind.Bool) = Ok tt
where_condition (Of kind.Int) = Err error.TypeFault
where_condition (Of kind.Fixed) = Err error.TypeFault
where_condition (Of kind.Text) = Err error.TypeFault

-- the expression is a condition, or the first error of its types
abbrev pub condition_checked : TypeSetting → Expr → Answer (Unit {0})
condition_checked setting e = and_then (type_at setting e) where_condition

-- the same where there is one
abbrev pub some_condition_checked : TypeSetting → Option Expr → Answer (Unit {0})
some_condition_checked setting None = Ok tt
some_condition_checked setting (Some e) = condition_checked setting e
