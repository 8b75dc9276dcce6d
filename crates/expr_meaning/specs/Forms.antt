-- Each form of an expression, from what its parts give. One text is read over three carriers: `V` is what a part
-- gives, `x >>= f` looks at x and goes on with its value, and `give` is an answer for which nothing is looked at.
use Rattle.std.specs.Prelude.{ℕ, Bool, true, false, Option, Some, None, Ok, Err, List, [], ◌∷◌, ◌++◌}
use Rattle.value_types.specs.declared.value.Value.{Value}
use Rattle.value_types.specs.declared.value.Value.TheVariants.{Null, Bool as Truth}
use Rattle.expr_lang.specs.declared.ops.BinaryOp.{BinaryOp}
use Rattle.expr_lang.specs.declared.ops.BinaryOp.TheVariants.{Or}
use Rattle.expr_lang.specs.declared.expr.Expr.TheOpen.{Expr-F}
use Rattle.expr_ops.specs.declared.aggregates.Aggregate.{Aggregate}
use Rattle.expr_ops.specs.declared.aggregates.Aggregate.TheVariants as aggregate
use Rattle.cell_errors.specs.Answers.{Answer, and_then}
use Rattle.expr_ops.specs.Truths.{is_null, is_true, negated_if, null_test}
use Rattle.expr_ops.specs.Compare.{equal}
use Rattle.expr_ops.specs.Texts.{like}
use Rattle.expr_ops.specs.Casts.{cast}
use Rattle.expr_ops.specs.Ops.{unary_of, decided, binary_of}

module _ (V : Type 0) (◌>>=◌ : V → (Value → V) → V) (give : Answer Value → V) where
  infixl 10 ◌>>=◌
  -- the value that is decided, or the rest where none is
  abbrev pub unless : Answer (Option Value) → V → V
  unless (Ok (Some v)) rest = give (Ok v)
  unless (Ok None) rest = rest
  unless (Err e) rest = give (Err e)

  -- the one where the test holds, else the other
  abbrev pub choose : Answer Bool → V → V → V
  choose (Ok true) a b = a
  choose (Ok false) a b = b
  choose (Err e) a b = give (Err e)

  -- an operator, which looks at the right operand only where the left one doesn't decide
  abbrev pub applied : BinaryOp → V → V → V
  applied op a b = a >>= (λ v. unless (decided op v) (b >>= (λ w. give (binary_of op v w))))

  -- sofar OR v = y
  abbrev pub or_equal : V → Value → V → V
  or_equal sofar v y = applied Or sofar (y >>= (λ w. give (equal v w)))

  -- sofar OR v = a OR v = b, and so on
  abbrev pub any_equal : V → Value → List V → V
  any_equal sofar v [] = sofar
  any_equal sofar v (y ∷ ys) = any_equal (or_equal sofar v y) v ys

  -- x IN (a, b): FALSE OR x = a OR x = b, with x looked at once
  abbrev pub one_of : V → List V → Bool → V
  one_of x list negate = x >>= (λ v. any_equal (give (Ok (Truth false))) v list >>= (λ t. give (negated_if negate t)))

  -- x LIKE y
  abbrev pub like_of : V → V → Bool → V
  like_of x y negate = x >>= (λ v. y >>= (λ w. give (and_then (like v w) (negated_if negate))))

  -- the answer of the first arm whose condition is TRUE, else the other
  abbrev pub first_arm : List (V × V) → V → V
  first_arm [] other = other
  first_arm (a ∷ arms) other = a.0 >>= (λ v. choose (is_true v) a.1 (first_arm arms other))

  -- the first value that isn't NULL
  abbrev pub first_value : List V → V
  first_value [] = give (Ok Null)
  first_value (x ∷ xs) = x >>= (λ v. choose (Ok (is_null v)) (first_value xs) (give (Ok v)))

  -- NULL where there is none
  abbrev pub or_null : Option V → V
  or_null None = give (Ok Null)
  or_null (Some x) = x

  -- the values of all, after those that were looked at, and then what they give together
  abbrev pub all_then : List V → List Value → (List Value → Answer Value) → V
  all_then [] done k = give (k done)
  all_then (x ∷ xs) done k = x >>= (λ v. all_then xs (done ++ v ∷ []) k)

  -- `find` gives what a name stands for, `caveat` what a CAVEAT makes of its operand, `count` is COUNT(*) and `over` an aggregate
  module _ (find : Option (List ℕ) → List ℕ → V) (caveat : ℕ → V → V) (count : V) (over : Aggregate → V → V) where
    -- what an expression of each form gives, from what its parts give
    abbrev pub form : Expr-F V (V × V) → V
    form (Expr-F.Literal v) = give (Ok v)
    form (Expr-F.Column qualifier name) = find qualifier name
    form (Expr-F.Unary op x) = x >>= (λ v. give (unary_of op v))
    form (Expr-F.Binary op a b) = applied op a b
    form (Expr-F.IsNull x negate) = x >>= (λ v. give (Ok (null_test negate v)))
    form (Expr-F.Like x y negate) = like_of x y negate
    form (Expr-F.OneOf x list negate) = one_of x list negate
    form (Expr-F.Case arms otherwise) = first_arm arms (or_null otherwise)
    form (Expr-F.Coalesce list) = first_value list
    form (Expr-F.Cast x kind) = x >>= (λ v. give (cast kind v))
    form (Expr-F.Caveat x message call) = caveat call x
    form Expr-F.CountAll = count
    form (Expr-F.Count x) = over aggregate.Count x
    form (Expr-F.Sum x) = over aggregate.Sum x
    form (Expr-F.Min x) = over aggregate.Min x
    form (Expr-F.Max x) = over aggregate.Max x
