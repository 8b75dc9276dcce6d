-- What the functions inside the crate promise each other.
use Rattle.std.specs.Prelude.{ℕ, ◌==◌, if◌then◌else◌, Bool, true, false, List, [], ◌∷◌, ◌++◌, map, codes, encode_utf8}
use Rattle.expr_lang.specs.declared.expr.Expr.{Expr}
use Rattle.expr_lang.specs.declared.expr.Arm.{Arm, out-Arm}
use Rattle.expr_print.specs.Tokens.{Tokens, tokens, in_parens, call, quoted, negated_if, with_commas, spaced}

-- a text, and then these tokens
abbrev pub joined : List ℕ → Tokens → List ℕ
joined text ts = text ++ spaced ts

-- a list in parentheses
abbrev pub in_list : List Expr → Tokens
in_list xs = in_parens (with_commas (map tokens xs))

-- the text of some expressions with commas between, of which the first may come here
abbrev pub left_of : Bool → List Expr → List ℕ
left_of first [] = []
left_of true (x ∷ xs) = spaced (tokens x) ++ left_of false xs
left_of false (x ∷ xs) = codes ", " ++ (spaced (tokens x) ++ left_of false xs)

-- the text of some arms
abbrev pub arms_left : List Arm → List ℕ
arms_left [] = []
arms_left (a ∷ all) =
    codes "WHEN " ++ (spaced (tokens (out-Arm a).condition)
    ++ (codes "THEN " ++ (spaced (tokens (out-Arm a).answer) ++ arms_left all)))

-- what follows the operand of LIKE and of IN
abbrev pub end_of_like : Bool → Tokens → Tokens
end_of_like negated pattern = negated_if negated (codes "LIKE" ∷ pattern) ++ codes ")" ∷ []

abbrev pub end_of_in : Bool → List Expr → Tokens
end_of_in negated xs = negated_if negated (codes "IN" ∷ in_list xs) ++ codes ")" ∷ []

-- a CAVEAT
abbrev pub caveat : Tokens → List ℕ → Tokens
caveat x message = call (codes "CAVEAT") (x ++ codes "," ∷ quoted message ∷ [])

-- a character, and a quote twice
abbrev pub twice_character : ℕ → List ℕ
twice_character c = if c == 39 then 39 ∷ 39 ∷ [] else encode_utf8 c
