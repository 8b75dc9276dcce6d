-- The text of an expression. What an operator makes stands in parentheses, and each token has a space after it.
use Rattle.std.specs.Prelude.{ℕ, ◌==◌, if◌then◌else◌, Bool, true, false, List, [], ◌∷◌, ◌++◌, codes, Option, Some, None}
use Rattle.std.specs.List.{flat_map}
use Rattle.std.specs.Fmt.{signed_decimal}
use Rattle.value_types.specs.declared.value.Value.{Value}
use Rattle.value_types.specs.declared.value.Value.TheVariants as value
use Rattle.value_types.specs.Text.{fixed_text}
use Rattle.expr_lang.specs.declared.ops.UnaryOp.{UnaryOp}
use Rattle.expr_lang.specs.declared.ops.UnaryOp.TheVariants as one
use Rattle.expr_lang.specs.declared.ops.BinaryOp.{BinaryOp}
use Rattle.expr_lang.specs.declared.ops.BinaryOp.TheVariants as two
use Rattle.expr_lang.specs.declared.expr.Expr.{Expr}
use Rattle.expr_lang.specs.declared.expr.Expr.TheOpen.{Expr-F, Arm-F}
use Rattle.expr_lang.specs.declared.expr.Expr.TheFolds.{fold-Expr}
use Rattle.expr_parse.specs.Values.{type_name}

-- the texts of tokens
abbrev pub Tokens : Type 0
Tokens = List (List ℕ)

-- a byte of a text in quotes: a quote is written twice
abbrev pub twice : ℕ → List ℕ
twice b = if b == 39 then 39 ∷ 39 ∷ [] else b ∷ []

-- a text with each quote twice
abbrev pub doubled : List ℕ → List ℕ
doubled text = flat_map twice text

-- a text in quotes
abbrev pub quoted : List ℕ → List ℕ
quoted text = 39 ∷ (doubled text ++ 39 ∷ [])

-- the token of a value
abbrev pub literal : Value → List ℕ
literal value.Null = codes "NULL"
literal (value.Bool true) = codes "TRUE"
literal (value.Bool false) = codes "FALSE"
literal (value.Int n) = signed_decimal n
literal (value.Fixed n) = fixed_text n
literal (value.Text text) = quoted text

-- the token of an operator between two operands
abbrev pub operator : BinaryOp → List ℕ
operator two.Or = codes "OR"
operator two.And = codes "AND"
operator two.Equal = codes "="
operator two.NotEqual = codes "<>"
operator two.Less = codes "<"
operator two.AtMost = codes "<="
operator two.Greater = codes ">"
operator two.AtLeast = codes ">="
operator two.Concat = codes "||"
operator two.Add = codes "+"
operator two.Subtract = codes "-"
operator two.Multiply = codes "*"
operator two.Divide = codes "/"
operator two.Remainder = codes "%"

-- tokens in parentheses
abbrev pub in_parens : Tokens → Tokens
in_parens inner = codes "(" ∷ (inner ++ codes ")" ∷ [])

-- a call
abbrev pub call : List ℕ → Tokens → Tokens
call word inner = word ∷ in_parens inner

-- an operator before its operand, or a function of it
abbrev pub unary : UnaryOp → Tokens → Tokens
unary one.Not x = in_parens (codes "NOT" ∷ x)
unary one.Minus x = in_parens (codes "-" ∷ x)
unary one.Length x = call (codes "LENGTH") x
unary one.Trim x = call (codes "TRIM") x
unary one.Abs x = call (codes "ABS") x

-- NOT before the tokens, where it is asked for
abbrev pub negated_if : Bool → Tokens → Tokens
negated_if true after = codes "NOT" ∷ after
negated_if false after = after

-- each after a comma
abbrev pub after_commas : List Tokens → Tokens
after_commas [] = []
after_commas (x ∷ xs) = codes "," ∷ (x ++ after_commas xs)

-- with commas between
abbrev pub with_commas : List Tokens → Tokens
with_commas [] = []
with_commas (x ∷ xs) = x ++ after_commas xs

-- the arms of a CASE, each a condition and an answer
abbrev pub arms : List (Tokens × Tokens) → Tokens
arms [] = []
arms (a ∷ more) = codes "WHEN" ∷ (a.0 ++ codes "THEN" ∷ (a.1 ++ arms more))

-- the end of a CASE
abbrev pub case_end : Option Tokens → Tokens
case_end None = codes "END" ∷ []
case_end (Some x) = codes "ELSE" ∷ (x ++ codes "END" ∷ [])

-- the tokens of a form, from those of its parts
abbrev pub form : Expr-F Tokens (Tokens × Tokens) → Tokens
form (Expr-F.Literal v) = literal v ∷ []
form (Expr-F.Column None name) = name ∷ []
form (Expr-F.Column (Some table) name) = table ∷ codes "." ∷ name ∷ []
form (Expr-F.Unary op x) = unary op x
form (Expr-F.Binary op a b) = in_parens (a ++ operator op ∷ b)
form (Expr-F.IsNull x negated) = in_parens (x ++ codes "IS" ∷ negated_if negated (codes "NULL" ∷ []))
form (Expr-F.Like a b negated) = in_parens (a ++ negated_if negated (codes "LIKE" ∷ b))
form (Expr-F.OneOf a list negated) = in_parens (a ++ negated_if negated (call (codes "IN") (with_commas list)))
form (Expr-F.Case all otherwise) = codes "CASE" ∷ (arms all ++ case_end otherwise)
form (Expr-F.Coalesce list) = call (codes "COALESCE") (with_commas list)
form (Expr-F.Cast x type) = call (codes "CAST") (x ++ codes "AS" ∷ type_name type ∷ [])
form (Expr-F.Caveat x message number) = call (codes "CAVEAT") (x ++ codes "," ∷ quoted message ∷ [])
form Expr-F.CountAll = call (codes "COUNT") (codes "*" ∷ [])
form (Expr-F.Count x) = call (codes "COUNT") x
form (Expr-F.Sum x) = call (codes "SUM") x
form (Expr-F.Min x) = call (codes "MIN") x
form (Expr-F.Max x) = call (codes "MAX") x

-- the two parts of an arm
abbrev pub arm : {A : Type 0} → Arm-F A (A × A) → A × A
arm a = (a.condition, a.answer)

-- the tokens of an expression
unfoldable pub tokens : Expr → Tokens
tokens = fold-Expr Tokens (Tokens × Tokens) form arm

-- tokens as a text, with a space after each
abbrev pub spaced : Tokens → List ℕ
spaced [] = []
spaced (t ∷ ts) = t ++ 32 ∷ spaced ts

-- the text of an expression
abbrev pub printed : Expr → List ℕ
printed e = spaced (tokens e)
