-- Worked examples: the text of an expression, its CAVEATs and its levels.
use Rattle.std.proofs.Common.{◌≡◌, true, false, [], ◌∷◌, Some, None, refl}
use Rattle.std.specs.Prelude.{codes, pos, negsuc}
use Rattle.std.specs.Fmt.{digits}
use Rattle.value_types.specs.declared.value.Value.TheVariants as value
use Rattle.value_types.specs.declared.value.ColumnType.TheVariants as type
use Rattle.expr_lang.specs.declared.ops.UnaryOp.TheVariants as one
use Rattle.expr_lang.specs.declared.ops.BinaryOp.TheVariants as two
use Rattle.expr_lang.specs.declared.expr.Expr.{Expr}
use Rattle.expr_lang.specs.declared.expr.Expr.TheVariants as expr
use Rattle.expr_lang.specs.declared.expr.Expr.TheOpen.{Expr-F}
use Rattle.expr_print.specs.Tokens.{form, spaced, printed, quoted}
use Rattle.expr_print.specs.Printable.{calls_of, levels_of, is_written_form}
use Rattle.expr_print.proofs.TokenTexts.{token_texts}

abbrev a : Expr
a = expr.Column None (codes "a")

-- what an operator makes stands in parentheses
sum : printed (expr.Binary two.Add a (expr.Literal (value.Fixed (pos 4000)))) ≡ codes "( a + 0.4000 ) "
unfolding digits
sum = simp token_texts

negative : printed (expr.Unary one.Minus (expr.Column (Some (codes "t")) (codes "a"))) ≡ codes "( - t . a ) "
negative = simp token_texts

member : printed (expr.OneOf a (expr.Literal (value.Int (pos 1)) ∷ expr.Literal value.Null ∷ []) true) ≡ codes "( a NOT IN ( 1 , NULL ) ) "
unfolding digits
member = simp token_texts

caveat : printed (expr.Caveat a (codes "it's") 1) ≡ codes "CAVEAT ( a , 'it''s' ) "
caveat = simp token_texts

call : printed (expr.Coalesce (expr.CountAll ∷ expr.Cast (expr.IsNull a false) type.Int ∷ [])) ≡ codes "COALESCE ( COUNT ( * ) , CAST ( ( a IS NULL ) AS int ) ) "
call = simp token_texts

-- a quote is written twice
quote : quoted (codes "''") ≡ codes "''''''"
quote = refl

-- a CASE, from the tokens of its parts
choice : spaced (form (Expr-F.Case ((codes "a" ∷ [], codes "1" ∷ []) ∷ (codes "b" ∷ [], codes "2" ∷ []) ∷ []) (Some (codes "3" ∷ [])))) ≡ codes "CASE WHEN a THEN 1 WHEN b THEN 2 ELSE 3 END "
choice = refl

-- a CAVEAT comes before those in its operand, and an answer before the next condition
in_order : calls_of (Expr-F.Caveat (8 ∷ 9 ∷ []) (codes "m") 7) ≡ 7 ∷ 8 ∷ 9 ∷ []
in_order = refl

by_arms : calls_of (Expr-F.Case ((1 ∷ [], 2 ∷ []) ∷ (3 ∷ [], []) ∷ []) (Some (4 ∷ []))) ≡ 1 ∷ 2 ∷ 3 ∷ 4 ∷ []
by_arms = refl

-- a minus opens a level more than its parentheses
minus : levels_of (Expr-F.Unary one.Minus 1) ≡ 3
minus = refl

plus : levels_of (Expr-F.Binary two.Add 0 2) ≡ 3
plus = refl

-- so does IN, around its list
members : levels_of (Expr-F.OneOf 4 (1 ∷ 3 ∷ []) false) ≡ 5
members = refl

-- a number with a minus is no literal, and a list has an entry
below_zero : is_written_form (Expr-F.Literal (value.Int (negsuc 4))) ≡ false
below_zero = refl

no_entry : is_written_form (Expr-F.Coalesce []) ≡ false
no_entry = refl

-- a reserved word is no name, the word of a type may be one
reserved : is_written_form (Expr-F.Column None (codes "select")) ≡ false
reserved = refl

typed : is_written_form (Expr-F.Column None (codes "text")) ≡ true
typed = refl
