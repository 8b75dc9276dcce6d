-- Worked examples: what tokens say, and the tree of a text's steps.
use Rattle.std.proofs.Common.{◌≡◌, ℕ, [], ◌∷◌, Some, None, refl}
use Rattle.std.specs.Prelude.{codes}
use Rattle.value_types.specs.declared.value.ColumnType.TheVariants as type
use Rattle.ll1_grammar.specs.declared.symbol.Step.{Step}
use Rattle.ll1_grammar.specs.declared.symbol.Step.TheVariants.{Took, Did}
use Rattle.ll1_grammar.specs.Pieces.{built}
use Rattle.notebook_grammar.specs.declared.kind.Kind.{Kind}
use Rattle.notebook_grammar.specs.declared.kind.Kind.TheVariants as k
use Rattle.notebook_grammar.specs.declared.lexeme.Lexeme.{Lexeme}
use Rattle.notebook_grammar.specs.declared.action.Action.{Action}
use Rattle.notebook_grammar.specs.declared.action.Action.TheVariants as act
use Rattle.notebook_grammar.specs.declared.action.ExprAction.{ExprAction}
use Rattle.notebook_grammar.specs.declared.action.ExprAction.TheVariants as e_act
use Rattle.expr_lang.specs.declared.ops.BinaryOp.TheVariants as two
use Rattle.expr_lang.specs.declared.expr.Expr.{Expr}
use Rattle.expr_lang.specs.declared.expr.Expr.TheVariants as expr
use Rattle.expr_parse.specs.declared.piece.Piece.TheVariants as piece
use Rattle.expr_parse.specs.Values.{lowered, type_of, quoted_of}
use Rattle.expr_parse.specs.Trees.{builder}

-- a pair of quotes is one
pair : quoted_of (codes "'it''s'") ≡ codes "it's"
pair = refl

three_pairs : quoted_of (codes "''''''''") ≡ codes "'''"
three_pairs = refl

no_text : quoted_of (codes "''") ≡ []
no_text = refl

-- letters are small in names, and any in words of types
small : lowered (codes "A_1") ≡ codes "a_1"
small = refl

any_letters : type_of (codes "FiXeD") ≡ type.Fixed
any_letters = refl

abbrev took : ℕ → ℕ → Kind → ℕ → Step Lexeme Action
took at end kind call = Took (record { at = at; end = end; kind = kind; call = call })

abbrev did : ExprAction → Step Lexeme Action
did a = Did (act.Expr a)

abbrev column : ℕ → Expr
column letter = expr.Column None (letter ∷ [])

-- operators of one level nest to the left
differences : built (builder (codes "a-b-c"))
    (did e_act.Begin ∷ took 0 1 k.Name 0 ∷ did e_act.Bare ∷ took 1 2 k.Minus 0 ∷ took 2 3 k.Name 0 ∷ did e_act.Bare ∷ did e_act.Subtract
    ∷ took 3 4 k.Minus 0 ∷ took 4 5 k.Name 0 ∷ did e_act.Bare ∷ did e_act.Subtract ∷ did e_act.End ∷ []) []
    ≡ Some (piece.Tree (expr.Binary two.Subtract (expr.Binary two.Subtract (column 97) (column 98)) (column 99)) ∷ [])
differences = refl

-- a product is an operand of a sum
a_product_in_a_sum : built (builder (codes "a+b*c"))
    (did e_act.Begin ∷ took 0 1 k.Name 0 ∷ did e_act.Bare ∷ took 1 2 k.Plus 0 ∷ took 2 3 k.Name 0 ∷ did e_act.Bare
    ∷ took 3 4 k.Star 0 ∷ took 4 5 k.Name 0 ∷ did e_act.Bare ∷ did e_act.Multiply ∷ did e_act.Add ∷ did e_act.End ∷ []) []
    ≡ Some (piece.Tree (expr.Binary two.Add (column 97) (expr.Binary two.Multiply (column 98) (column 99))) ∷ [])
a_product_in_a_sum = refl

-- a CAVEAT has its number from its word
call : built (builder (codes "caveat(a,'m')"))
    (did e_act.Begin ∷ took 0 6 k.Caveat 1 ∷ took 6 7 k.Open 1 ∷ took 7 8 k.Name 1 ∷ did e_act.Bare ∷ took 8 9 k.Comma 1 ∷ took 9 12 k.Quoted 1
    ∷ took 12 13 k.Close 1 ∷ did e_act.Caveat ∷ did e_act.End ∷ []) []
    ≡ Some (piece.Tree (expr.Caveat (column 97) (codes "m") 1) ∷ [])
call = refl

-- an action that lacks a piece makes none
lacks : built (builder []) (did e_act.Subtract ∷ []) [] ≡ None
lacks = refl
