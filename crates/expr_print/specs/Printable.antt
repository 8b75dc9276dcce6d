-- The expressions that their texts give back.
use Rattle.std.specs.Prelude.{◌≡◌, ℕ, ◌+◌, ◌^◌, ◌≤◌, max, nat_lt, ◌&&◌, Bool, true, false, pos, negsuc, List, [], ◌∷◌, ◌++◌, length}
use Rattle.std.specs.List.{flat_map, list_all}
use Rattle.std.specs.Option.{option_to_list}
use Rattle.value_types.specs.declared.value.Value.{Value}
use Rattle.value_types.specs.declared.value.Value.TheVariants as value
use Rattle.value_types.specs.Names.{is_name}
use Rattle.notebook_grammar.specs.declared.kind.Kind.{Kind}
use Rattle.notebook_grammar.specs.declared.kind.Kind.TheVariants as k
use Rattle.notebook_grammar.specs.Words.{kind_of_word}
use Rattle.expr_lang.specs.declared.ops.UnaryOp.TheVariants as one
use Rattle.expr_lang.specs.declared.expr.Expr.{Expr}
use Rattle.expr_lang.specs.declared.expr.Expr.TheOpen.{Expr-F}
use Rattle.expr_lang.specs.declared.expr.Expr.TheFolds.{fold-Expr}
use Rattle.expr_print.specs.Tokens.{arm, tokens}

-- the parts of a form, in the order of the text
abbrev pub parts : {A : Type 0} → Expr-F A (A × A) → List A
parts (Expr-F.Literal v) = []
parts (Expr-F.Column qualifier name) = []
parts (Expr-F.Unary op x) = x ∷ []
parts (Expr-F.Binary op a b) = a ∷ b ∷ []
parts (Expr-F.IsNull x negated) = x ∷ []
parts (Expr-F.Like a b negated) = a ∷ b ∷ []
parts (Expr-F.OneOf a list negated) = a ∷ list
parts (Expr-F.Case arms otherwise) = flat_map (λ a. a.0 ∷ a.1 ∷ []) arms ++ option_to_list otherwise
parts (Expr-F.Coalesce list) = list
parts (Expr-F.Cast x type) = x ∷ []
parts (Expr-F.Caveat x message number) = x ∷ []
parts Expr-F.CountAll = []
parts (Expr-F.Count x) = x ∷ []
parts (Expr-F.Sum x) = x ∷ []
parts (Expr-F.Min x) = x ∷ []
parts (Expr-F.Max x) = x ∷ []

-- ---- the numbers of CAVEATs

-- the number of a CAVEAT
abbrev pub own_call : {A B : Type 0} → Expr-F A B → List ℕ
own_call (Expr-F.Caveat x message number) = number ∷ []
own_call f = []

-- those in a form, from those in its parts
abbrev pub calls_of : Expr-F (List ℕ) (List ℕ × List ℕ) → List ℕ
calls_of f = own_call f ++ flat_map (λ numbers. numbers) (parts f)

-- the numbers of the CAVEATs in an expression, in the order of the text
unfoldable pub calls : Expr → List ℕ
calls = fold-Expr (List ℕ) (List ℕ × List ℕ) calls_of arm

-- each number is one more than the one before, from this one on
abbrev pub CountsFrom : ℕ → List ℕ → Type 0
CountsFrom n [] = Unit {0}
CountsFrom n (m ∷ ms) = (m ≡ n) × CountsFrom (n + 1) ms

-- ---- levels

-- the levels that a form opens around its parts: its parentheses, and one more for NOT and a minus in front
abbrev pub opened : {A B : Type 0} → Expr-F A B → ℕ
opened (Expr-F.Literal v) = 0
opened (Expr-F.Column qualifier name) = 0
opened (Expr-F.Unary one.Not x) = 2
opened (Expr-F.Unary one.Minus x) = 2
opened f = 1

-- the most of some numbers, 0 of none
abbrev pub most : List ℕ → ℕ
most [] = 0
most (n ∷ ns) = max n (most ns)

-- those of a form with those of its deepest part; IN opens one more around its list alone
abbrev pub levels_of : Expr-F ℕ (ℕ × ℕ) → ℕ
levels_of (Expr-F.OneOf a list negated) = max (1 + a) (2 + most list)
levels_of f = opened f + most (parts f)

-- the most levels that are open at once in the text of an expression
unfoldable pub levels : Expr → ℕ
levels = fold-Expr ℕ (ℕ × ℕ) levels_of arm

-- ---- what can be written

-- whether the value has a token: a number without a minus
abbrev pub is_literal : Value → Bool
is_literal (value.Int (pos n)) = nat_lt n (2 ^ 63)
is_literal (value.Int (negsuc n)) = false
is_literal (value.Fixed (pos n)) = nat_lt n (2 ^ 63)
is_literal (value.Fixed (negsuc n)) = false
is_literal v = true

-- whether a word of the kind may stand for a name
abbrev pub is_free : Kind → Bool
is_free k.Name = true
is_free k.TypeWord = true
is_free kind = false

-- whether it is a name and no reserved word
abbrev pub may_name : List ℕ → Bool
may_name name = is_name name && is_free (kind_of_word name)

-- whether there is one at least
abbrev pub is_some_list : {A : Type 0} → List A → Bool
is_some_list [] = false
is_some_list (x ∷ xs) = true

-- whether a form can be written: its value, its names and its list
abbrev pub is_written_here : {A B : Type 0} → Expr-F A B → Bool
is_written_here (Expr-F.Literal v) = is_literal v
is_written_here (Expr-F.Column qualifier name) = list_all may_name (option_to_list qualifier) && may_name name
is_written_here (Expr-F.OneOf a list negated) = is_some_list list
is_written_here (Expr-F.Case arms otherwise) = is_some_list arms
is_written_here (Expr-F.Coalesce list) = is_some_list list
is_written_here f = true

-- whether a form and its parts can
abbrev pub is_written_form : Expr-F Bool (Bool × Bool) → Bool
is_written_form f = is_written_here f && list_all (λ b. b) (parts f)

-- whether an expression can be written
unfoldable pub is_written : Expr → Bool
is_written = fold-Expr Bool (Bool × Bool) is_written_form arm

-- the expression can be written, and its text keeps to the limits
pub record IsPrintable (e : Expr) : Type 0 where
  pub written : is_written e ≡ true
  -- CAVEATs are numbered as the text has them
  pub calls : CountsFrom 1 (calls e)
  pub levels : levels e ≤ 64
  pub tokens : length (tokens e) ≤ 1000
