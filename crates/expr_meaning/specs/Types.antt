-- The static types of expressions, from the columns alone.
use Rattle.std.specs.Prelude.{Option, Some, None, option_map, Ok, Err, List, [], ◌∷◌, map}
use Rattle.value_types.specs.declared.value.Value.{Value}
use Rattle.value_types.specs.declared.value.Value.TheVariants as value
use Rattle.value_types.specs.declared.value.ColumnType.{ColumnType}
use Rattle.value_types.specs.declared.value.ColumnType.TheVariants as kind
use Rattle.expr_lang.specs.declared.ops.UnaryOp.{UnaryOp}
use Rattle.expr_lang.specs.declared.ops.UnaryOp.TheVariants as unary
use Rattle.expr_lang.specs.declared.ops.BinaryOp.{BinaryOp}
use Rattle.expr_lang.specs.declared.ops.BinaryOp.TheVariants as binary
use Rattle.expr_lang.specs.declared.expr.Expr.{Expr}
use Rattle.expr_lang.specs.declared.expr.Arm.{Arm, out-Arm}
use Rattle.expr_lang.specs.declared.expr.Expr.TheOpen.{Expr-F}
use Rattle.expr_lang.specs.declared.expr.Expr.TheFolds.{fold-Expr}
use Rattle.expr_ops.specs.declared.aggregates.Aggregate.{Aggregate}
use Rattle.expr_ops.specs.declared.aggregates.Aggregate.TheVariants as aggregate
use Rattle.cell_errors.specs.declared.fault.CellError.TheVariants as error
use Rattle.cell_errors.specs.Answers.{Answer, and_then}
use Rattle.expr_meaning.specs.declared.bindings.ScopeColumn.{ScopeColumn}
use Rattle.expr_meaning.specs.declared.expr_type.ExprType.{ExprType}
use Rattle.expr_meaning.specs.declared.expr_type.ExprType.TheVariants.{Null, Of}
use Rattle.expr_meaning.specs.Names.{Name, meant}
use Rattle.expr_meaning.specs.Meaning.{arm_of}

-- ---- the type of an operator, from those of its operands

-- the type of a value
abbrev pub type_of_value : Value → ExprType
type_of_value value.Null = Null
type_of_value (value.Bool b) = Of kind.Bool
type_of_value (value.Int n) = Of kind.Int
type_of_value (value.Fixed n) = Of kind.Fixed
type_of_value (value.Text t) = Of kind.Text

-- a type that an operand may have, or NULL, with the answer for it
abbrev pub where_bool : ExprType → ExprType → Answer ExprType
where_bool answer Null = Ok answer
where_bool answer (Of kind.Bool) = Ok answer
where_bool answer (Of kind.Int) = Err error.TypeFault
where_bool answer (Of kind.Fixed) = Err error.TypeFault
where_bool answer (Of kind.Text) = Err error.TypeFault

-- the answer, where the operand is a Text or NULL
abbrev pub where_text : ExprType → ExprType → Answer ExprType
where_text answer Null = Ok answer
where_text answer (Of kind.Bool) = Err error.TypeFault
where_text answer (Of kind.Int) = Err error.TypeFault
where_text answer (Of kind.Fixed) = Err error.TypeFault
where_text answer (Of kind.Text) = Ok answer

-- the answer, where the operand is an Int or NULL
abbrev pub where_int : ExprType → ExprType → Answer ExprType
where_int answer Null = Ok answer
where_int answer (Of kind.Bool) = Err error.TypeFault
where_int answer (Of kind.Int) = Ok answer
where_int answer (Of kind.Fixed) = Err error.TypeFault
where_int answer (Of kind.Text) = Err error.TypeFault

-- the type of one number
abbrev pub number_type : ExprType → Answer ExprType
number_type Null = Ok Null
number_type (Of kind.Bool) = Err error.TypeFault
number_type (Of kind.Int) = Ok (Of kind.Int)
number_type (Of kind.Fixed) = Ok (Of kind.Fixed)
number_type (Of kind.Text) = Err error.TypeFault

-- of two numbers: that of the one that isn't NULL, and Fixed where one of them is Fixed
abbrev pub wider : ExprType → ExprType → ExprType
wider Null t = t
wider (Of k) Null = Of k
wider (Of kind.Int) (Of l) = Of l
wider (Of kind.Bool) (Of l) = Of l
wider (Of kind.Fixed) (Of l) = Of kind.Fixed
wider (Of kind.Text) (Of l) = Of l

-- the type of two numbers, of which the left one is looked at first
abbrev pub numbers_type : ExprType → ExprType → Answer ExprType
numbers_type t u = and_then (number_type t) (λ v. and_then (number_type u) (λ w. Ok (wider v w)))

-- the one type of two branches, which NULL takes on
abbrev pub common : ExprType → ExprType → Answer ExprType
common Null t = Ok t
common (Of k) Null = Ok (Of k)
common (Of kind.Bool) (Of kind.Bool) = Ok (Of kind.Bool)
common (Of kind.Int) (Of kind.Int) = Ok (Of kind.Int)
common (Of kind.Fixed) (Of kind.Fixed) = Ok (Of kind.Fixed)
common (Of kind.Text) (Of kind.Text) = Ok (Of kind.Text)
common (Of k) (Of l) = Err error.TypeFault

-- a comparison: of one type, an Int and a Fixed, or with NULL
abbrev pub comparison_type : ExprType → ExprType → Answer ExprType
comparison_type Null u = Ok (Of kind.Bool)
comparison_type (Of k) Null = Ok (Of kind.Bool)
comparison_type (Of kind.Bool) (Of kind.Bool) = Ok (Of kind.Bool)
comparison_type (Of kind.Int) (Of kind.Int) = Ok (Of kind.Bool)
comparison_type (Of kind.Int) (Of kind.Fixed) = Ok (Of kind.Bool)
comparison_type (Of kind.Fixed) (Of kind.Int) = Ok (Of kind.Bool)
comparison_type (Of kind.Fixed) (Of kind.Fixed) = Ok (Of kind.Bool)
comparison_type (Of kind.Text) (Of kind.Text) = Ok (Of kind.Bool)
comparison_type (Of k) (Of l) = Err error.TypeFault

-- the type of an operator of one operand
abbrev pub unary_type : UnaryOp → ExprType → Answer ExprType
unary_type unary.Not t = where_bool (Of kind.Bool) t
unary_type unary.Minus t = number_type t
unary_type unary.Length t = where_text (Of kind.Int) t
unary_type unary.Trim t = where_text (Of kind.Text) t
unary_type unary.Abs t = number_type t

-- AND and OR look at the type of the left operand before the right one is typed
abbrev pub left_type : BinaryOp → ExprType → Answer ExprType
left_type binary.Or t = where_bool (Of kind.Bool) t
left_type binary.And t = where_bool (Of kind.Bool) t
left_type binary.Equal t = Ok t
left_type binary.NotEqual t = Ok t
left_type binary.Less t = Ok t
left_type binary.AtMost t = Ok t
left_type binary.Greater t = Ok t
left_type binary.AtLeast t = Ok t
left_type binary.Concat t = Ok t
left_type binary.Add t = Ok t
left_type binary.Subtract t = Ok t
left_type binary.Multiply t = Ok t
left_type binary.Divide t = Ok t
left_type binary.Remainder t = Ok t

-- `%`
abbrev pub remainder_type : ExprType → ExprType → Answer ExprType
remainder_type t u = and_then (where_int (Of kind.Int) t) (λ v. where_int (Of kind.Int) u)

-- the type of an operator of two operands, once `left_type` allows the left one
abbrev pub binary_type : BinaryOp → ExprType → ExprType → Answer ExprType
binary_type binary.Or t u = where_bool (Of kind.Bool) u
binary_type binary.And t u = where_bool (Of kind.Bool) u
binary_type binary.Equal t u = comparison_type t u
binary_type binary.NotEqual t u = comparison_type t u
binary_type binary.Less t u = comparison_type t u
binary_type binary.AtMost t u = comparison_type t u
binary_type binary.Greater t u = comparison_type t u
binary_type binary.AtLeast t u = comparison_type t u
binary_type binary.Concat t u = Ok (Of kind.Text)
binary_type binary.Add t u = numbers_type t u
binary_type binary.Subtract t u = numbers_type t u
binary_type binary.Multiply t u = numbers_type t u
binary_type binary.Divide t u = numbers_type t u
binary_type binary.Remainder t u = remainder_type t u

-- LIKE
abbrev pub like_type : ExprType → ExprType → Answer ExprType
like_type t u = and_then (where_text (Of kind.Bool) t) (λ v. where_text (Of kind.Bool) u)

-- CAST: everything goes to Text, Text to everything, numbers to numbers, and each type to itself
abbrev pub cast_type : ColumnType → ExprType → Answer ExprType
cast_type k Null = Ok (Of k)
cast_type kind.Bool (Of kind.Bool) = Ok (Of kind.Bool)
cast_type kind.Bool (Of kind.Int) = Err error.TypeFault
cast_type kind.Bool (Of kind.Fixed) = Err error.TypeFault
cast_type kind.Int (Of kind.Bool) = Err error.TypeFault
cast_type kind.Fixed (Of kind.Bool) = Err error.TypeFault
cast_type k (Of l) = Ok (Of k)

-- an aggregate of an operand
abbrev pub aggregate_type : Aggregate → ExprType → Answer ExprType
aggregate_type aggregate.Count t = Ok (Of kind.Int)
aggregate_type aggregate.Sum t = number_type t
aggregate_type aggregate.Min t = Ok t
aggregate_type aggregate.Max t = Ok t

-- ---- the type of an expression, first error first

-- the columns of a row, and those of the rows of the group where there is one
pub record TypeSetting : Type 0 where
  pub columns : List ScopeColumn
  pub group : Option (List ScopeColumn)

-- over the columns of a row alone
abbrev pub over_columns : List ScopeColumn → TypeSetting
over_columns columns = record { columns = columns; group = None }

-- the type of an expression in each setting
abbrev pub Typing : Type 0
Typing = TypeSetting → Answer ExprType

-- the column that a name stands for
abbrev pub find_column : List ScopeColumn → Option Name → Name → Answer ScopeColumn
find_column columns q name = meant (λ c. c.qualifier) (λ c. c.column.name) q name columns

-- the type of the column that a name stands for
abbrev pub column_type : List ScopeColumn → Option Name → Name → Answer ExprType
column_type columns q name = and_then (find_column columns q name) (λ c. Ok (Of c.column.kind))

-- the type of an operator, from those of its operands
abbrev pub binary_typing : BinaryOp → Answer ExprType → Answer ExprType → Answer ExprType
binary_typing op x y = and_then x (λ t. and_then (left_type op t) (λ v. and_then y (λ u. binary_type op t u)))

-- the type of LIKE: both operands are typed before either is looked at
abbrev pub like_typing : Answer ExprType → Answer ExprType → Answer ExprType
like_typing x y = and_then x (λ t. and_then y (λ u. like_type t u))

-- each of the list in turn is typed and compared
abbrev pub list_typing : ExprType → List (Answer ExprType) → Answer ExprType
list_typing t [] = Ok (Of kind.Bool)
list_typing t (y ∷ ys) = and_then y (λ u. and_then (comparison_type t u) (λ v. list_typing t ys))

-- what one more agrees on with those before
abbrev pub agree : Answer ExprType → ExprType → Answer ExprType
agree sofar t = and_then sofar (λ s. common s t)

-- what all agree on, which is looked at once all are typed; `sofar` is what those before agree on
abbrev pub agreed : Answer ExprType → List (Answer ExprType) → Answer ExprType
agreed sofar [] = sofar
agreed sofar (x ∷ xs) = and_then x (λ t. agreed (agree sofar t) xs)

-- a condition is looked at as soon as it is typed, the answers once all are typed
abbrev pub arms_typing : Answer ExprType → List (Answer ExprType × Answer ExprType) → Answer ExprType → Answer ExprType
arms_typing sofar [] other = agreed sofar (other ∷ [])
arms_typing sofar (a ∷ arms) other =
    and_then a.0 (λ c. and_then (where_bool (Of kind.Bool) c) (λ v.
    and_then a.1 (λ t. arms_typing (agree sofar t) arms other)))

-- that type, or NULL's where there is none
abbrev pub or_null_type : Option (Answer ExprType) → Answer ExprType
or_null_type None = Ok Null
or_null_type (Some x) = x

-- COUNT(*), which stands in groups alone
abbrev pub count_typing : {A : Type 0} → Option A → Answer ExprType
count_typing None = Err error.TypeFault
count_typing (Some columns) = Ok (Of kind.Int)

-- an aggregate, whose operand is typed over the rows of the group
abbrev pub over_typing : Aggregate → Typing → Option (List ScopeColumn) → Answer ExprType
over_typing op x None = Err error.TypeFault
over_typing op x (Some columns) = and_then (x (over_columns columns)) (aggregate_type op)

-- the types of a list over the same columns
abbrev pub each_at : TypeSetting → List Typing → List (Answer ExprType)
each_at s xs = map (λ x. x s) xs

-- the types of arms over the same columns
abbrev pub arms_at : TypeSetting → List (Typing × Typing) → List (Answer ExprType × Answer ExprType)
arms_at s arms = map (λ a. (a.0 s, a.1 s)) arms

-- the type of each form, from those of its parts
abbrev pub type_form : Expr-F Typing (Typing × Typing) → Typing
type_form (Expr-F.Literal v) = λ s. Ok (type_of_value v)
type_form (Expr-F.Column q name) = λ s. column_type s.columns q name
type_form (Expr-F.Unary op x) = λ s. and_then (x s) (unary_type op)
type_form (Expr-F.Binary op x y) = λ s. binary_typing op (x s) (y s)
type_form (Expr-F.IsNull x negate) = λ s. and_then (x s) (λ t. Ok (Of kind.Bool))
type_form (Expr-F.Like x y negate) = λ s. like_typing (x s) (y s)
type_form (Expr-F.OneOf x list negate) = λ s. and_then (x s) (λ t. list_typing t (each_at s list))
type_form (Expr-F.Case arms otherwise) = λ s. arms_typing (Ok Null) (arms_at s arms) (or_null_type (option_map (λ x. x s) otherwise))
type_form (Expr-F.Coalesce list) = λ s. agreed (Ok Null) (each_at s list)
type_form (Expr-F.Cast x k) = λ s. and_then (x s) (cast_type k)
type_form (Expr-F.Caveat x message call) = λ s. x s
type_form Expr-F.CountAll = λ s. count_typing s.group
type_form (Expr-F.Count x) = λ s. over_typing aggregate.Count x s.group
type_form (Expr-F.Sum x) = λ s. over_typing aggregate.Sum x s.group
type_form (Expr-F.Min x) = λ s. over_typing aggregate.Min x s.group
type_form (Expr-F.Max x) = λ s. over_typing aggregate.Max x s.group

-- the type of an expression
unfoldable pub typing : Expr → Typing
typing = fold-Expr Typing (Typing × Typing) type_form (arm_of Typing)

-- the same, the setting first
unfoldable pub type_at : TypeSetting → Expr → Answer ExprType
type_at s e = typing e s

-- an aggregate of an expression
unfoldable pub over_type_at : Aggregate → TypeSetting → Expr → Answer ExprType
over_type_at op s e = over_typing op (λ r. type_at r e) s.group

-- the types of the parts of an arm
abbrev pub arm_type_at : TypeSetting → Arm → Answer ExprType × Answer ExprType
arm_type_at s a = (type_at s (out-Arm a).condition, type_at s (out-Arm a).answer)

-- over the columns of a row alone, where no aggregate may stand
abbrev pub type_over : List ScopeColumn → Expr → Answer ExprType
type_over columns = type_at (over_columns columns)
