-- The tokens of an expression, form by form.
use Rattle.std.proofs.Common.{◌≡◌, ℕ, Bool, true, false, List, [], ◌∷◌, ◌++◌, Option, Some, None, map, ap, sym, refl, ◌∙◌, append_assoc}
use Rattle.std.specs.Prelude.{codes, option_map}
use Rattle.value_types.specs.declared.value.Value.{Value}
use Rattle.value_types.specs.declared.value.ColumnType.{ColumnType}
use Rattle.expr_lang.specs.declared.ops.UnaryOp.{UnaryOp}
use Rattle.expr_lang.specs.declared.ops.BinaryOp.{BinaryOp}
use Rattle.expr_lang.specs.declared.expr.Expr.{Expr, roll-Expr, Literal, Column, Unary, Binary, IsNull, Like, OneOf, Case, Coalesce, Cast, Caveat, CountAll, Count, Sum, Min, Max}
use Rattle.expr_lang.specs.declared.expr.Expr.TheVariants.{rolls-Literal, rolls-Column, rolls-Unary, rolls-Binary, rolls-IsNull, rolls-Like, rolls-OneOf, rolls-Case, rolls-Coalesce, rolls-Cast, rolls-Caveat, rolls-CountAll, rolls-Count, rolls-Sum, rolls-Min, rolls-Max}
use Rattle.expr_lang.specs.declared.expr.Arm.{Arm, out-Arm}
use Rattle.expr_lang.specs.declared.expr.Expr.TheOpen.{Expr-F}
use Rattle.expr_lang.specs.declared.expr.Expr.TheFolds.{map-Expr, fold-Arm, fold-roll-Expr, fold_out-Arm}
use Rattle.expr_parse.specs.Values.{type_name}
use Rattle.expr_print.specs.Calls.{left_of, arms_left}
use Rattle.expr_print.specs.Tokens.{Tokens, form, arm, tokens, literal, quoted, unary, operator, in_parens, call, negated_if, after_commas, with_commas, arms, case_end, spaced}

-- the tokens of an arm's condition, and those of its answer
abbrev pub arm_tokens : Arm → Tokens × Tokens
arm_tokens a = (tokens (out-Arm a).condition, tokens (out-Arm a).answer)

abbrev folded_arm : Arm → Tokens × Tokens
folded_arm = fold-Arm Tokens (Tokens × Tokens) form arm

tokens-roll : (x : Expr-F Expr Arm) → tokens (roll-Expr x) ≡ form (map-Expr Expr Arm Tokens (Tokens × Tokens) tokens folded_arm x)
unfolding tokens
tokens-roll x = fold-roll-Expr Tokens (Tokens × Tokens) form arm x

arm_out : (a : Arm) → folded_arm a ≡ arm_tokens a
unfolding tokens
arm_out a = fold_out-Arm Tokens (Tokens × Tokens) form arm a

arms_out : (all : List Arm) → map folded_arm all ≡ map arm_tokens all
arms_out [] = refl
arms_out (a ∷ all) = ap (λ p. p ∷ map folded_arm all) (arm_out a) ∙ ap (λ ps. arm_tokens a ∷ ps) (arms_out all)

pub tokens-Literal : (v : Value) → tokens (Literal v) ≡ literal v ∷ []
tokens-Literal v = ap tokens (sym (rolls-Literal v)) ∙ tokens-roll (Expr-F.Literal v)

pub tokens-Bare : (name : List ℕ) → tokens (Column None name) ≡ name ∷ []
tokens-Bare name = ap tokens (sym (rolls-Column None name)) ∙ tokens-roll (Expr-F.Column None name)

pub tokens-Qualified : (table name : List ℕ) → tokens (Column (Some table) name) ≡ table ∷ codes "." ∷ name ∷ []
tokens-Qualified table name = ap tokens (sym (rolls-Column (Some table) name)) ∙ tokens-roll (Expr-F.Column (Some table) name)

pub tokens-Unary : (op : UnaryOp) (x : Expr) → tokens (Unary op x) ≡ unary op (tokens x)
tokens-Unary op x = ap tokens (sym (rolls-Unary op x)) ∙ tokens-roll (Expr-F.Unary op x)

pub tokens-Binary : (op : BinaryOp) (a b : Expr) → tokens (Binary op a b) ≡ in_parens (tokens a ++ operator op ∷ tokens b)
tokens-Binary op a b = ap tokens (sym (rolls-Binary op a b)) ∙ tokens-roll (Expr-F.Binary op a b)

pub tokens-IsNull : (x : Expr) (negated : Bool) → tokens (IsNull x negated) ≡ in_parens (tokens x ++ codes "IS" ∷ negated_if negated (codes "NULL" ∷ []))
tokens-IsNull x negated = ap tokens (sym (rolls-IsNull x negated)) ∙ tokens-roll (Expr-F.IsNull x negated)

pub tokens-Like : (a b : Expr) (negated : Bool) → tokens (Like a b negated) ≡ in_parens (tokens a ++ negated_if negated (codes "LIKE" ∷ tokens b))
tokens-Like a b negated = ap tokens (sym (rolls-Like a b negated)) ∙ tokens-roll (Expr-F.Like a b negated)

pub tokens-OneOf : (a : Expr) (list : List Expr) (negated : Bool) → tokens (OneOf a list negated) ≡ in_parens (tokens a ++ negated_if negated (call (codes "IN") (with_commas (map tokens list))))
tokens-OneOf a list negated = ap tokens (sym (rolls-OneOf a list negated)) ∙ tokens-roll (Expr-F.OneOf a list negated)

pub tokens-Case : (all : List Arm) (otherwise : Option Expr) → tokens (Case all otherwise) ≡ codes "CASE" ∷ (arms (map arm_tokens all) ++ case_end (option_map tokens otherwise))
tokens-Case all None = ap tokens (sym (rolls-Case all None)) ∙ tokens-roll (Expr-F.Case all None) ∙ ap (λ ps. codes "CASE" ∷ (arms ps ++ case_end None)) (arms_out all)
tokens-Case all (Some x) =
    ap tokens (sym (rolls-Case all (Some x))) ∙ tokens-roll (Expr-F.Case all (Some x)) ∙ ap (λ ps. codes "CASE" ∷ (arms ps ++ case_end (Some (tokens x)))) (arms_out all)

pub tokens-Coalesce : (list : List Expr) → tokens (Coalesce list) ≡ call (codes "COALESCE") (with_commas (map tokens list))
tokens-Coalesce list = ap tokens (sym (rolls-Coalesce list)) ∙ tokens-roll (Expr-F.Coalesce list)

pub tokens-Cast : (x : Expr) (type : ColumnType) → tokens (Cast x type) ≡ call (codes "CAST") (tokens x ++ codes "AS" ∷ type_name type ∷ [])
tokens-Cast x type = ap tokens (sym (rolls-Cast x type)) ∙ tokens-roll (Expr-F.Cast x type)

pub tokens-Caveat : (x : Expr) (message : List ℕ) (number : ℕ) → tokens (Caveat x message number) ≡ call (codes "CAVEAT") (tokens x ++ codes "," ∷ quoted message ∷ [])
tokens-Caveat x message number = ap tokens (sym (rolls-Caveat x message number)) ∙ tokens-roll (Expr-F.Caveat x message number)

pub tokens-CountAll : tokens CountAll ≡ call (codes "COUNT") (codes "*" ∷ [])
tokens-CountAll = ap tokens (sym rolls-CountAll) ∙ tokens-roll Expr-F.CountAll

pub tokens-Count : (x : Expr) → tokens (Count x) ≡ call (codes "COUNT") (tokens x)
tokens-Count x = ap tokens (sym (rolls-Count x)) ∙ tokens-roll (Expr-F.Count x)

pub tokens-Sum : (x : Expr) → tokens (Sum x) ≡ call (codes "SUM") (tokens x)
tokens-Sum x = ap tokens (sym (rolls-Sum x)) ∙ tokens-roll (Expr-F.Sum x)

pub tokens-Min : (x : Expr) → tokens (Min x) ≡ call (codes "MIN") (tokens x)
tokens-Min x = ap tokens (sym (rolls-Min x)) ∙ tokens-roll (Expr-F.Min x)

pub tokens-Max : (x : Expr) → tokens (Max x) ≡ call (codes "MAX") (tokens x)
tokens-Max x = ap tokens (sym (rolls-Max x)) ∙ tokens-roll (Expr-F.Max x)

pub ruleset token_texts = (tokens-Literal, tokens-Bare, tokens-Qualified, tokens-Unary, tokens-Binary, tokens-IsNull, tokens-Like, tokens-OneOf, tokens-Case, tokens-Coalesce, tokens-Cast, tokens-Caveat, tokens-CountAll, tokens-Count, tokens-Sum, tokens-Min, tokens-Max)

-- tokens that are joined, as texts
pub spaced-append : (a b : Tokens) → spaced (a ++ b) ≡ spaced a ++ spaced b
spaced-append [] b = refl
spaced-append (t ∷ a) b = ap (λ x. t ++ 32 ∷ x) (spaced-append a b) ∙ sym (append_assoc t (32 ∷ spaced a) (spaced b))

-- the text of a list, and of the arms of a CASE
after_left : (xs : List Expr) → left_of false xs ≡ spaced (after_commas (map tokens xs))
after_left [] = refl
after_left (x ∷ xs) = ap (λ l. codes ", " ++ (spaced (tokens x) ++ l)) (after_left xs) ∙ ap (λ l. codes ", " ++ l) (sym (spaced-append (tokens x) (after_commas (map tokens xs))))

pub list_left : (xs : List Expr) → left_of true xs ≡ spaced (with_commas (map tokens xs))
list_left [] = refl
list_left (x ∷ xs) = ap (λ l. spaced (tokens x) ++ l) (after_left xs) ∙ sym (spaced-append (tokens x) (after_commas (map tokens xs)))

pub all_left : (all : List Arm) → arms_left all ≡ spaced (arms (map arm_tokens all))
all_left [] = refl
all_left (a ∷ all) =
    let x = tokens (out-Arm a).condition in
    let y = tokens (out-Arm a).answer in
    ap (λ l. codes "WHEN " ++ (spaced x ++ (codes "THEN " ++ (spaced y ++ l)))) (all_left all)
    ∙ ap (λ l. codes "WHEN " ++ (spaced x ++ (codes "THEN " ++ l))) (sym (spaced-append y (arms (map arm_tokens all))))
    ∙ ap (λ l. codes "WHEN " ++ l) (sym (spaced-append x (codes "THEN" ∷ (y ++ arms (map arm_tokens all)))))

pub ruleset texts = (token_texts, spaced-append, list_left, all_left, append_assoc)
