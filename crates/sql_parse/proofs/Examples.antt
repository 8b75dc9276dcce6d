-- Worked examples: the tree of a text's steps, and the names of a SELECT.
use Rattle.std.proofs.Common.{◌≡◌, ℕ, false, true, [], ◌∷◌, Some, None, refl}
use Rattle.std.specs.Prelude.{codes}
use Rattle.value_types.specs.Numbers.{int_of}
use Rattle.ll1_grammar.specs.declared.symbol.Step.{Step}
use Rattle.ll1_grammar.specs.declared.symbol.Step.TheVariants.{Took, Did}
use Rattle.ll1_grammar.specs.Pieces.{built}
use Rattle.notebook_grammar.specs.declared.kind.Kind.{Kind}
use Rattle.notebook_grammar.specs.declared.kind.Kind.TheVariants as k
use Rattle.notebook_grammar.specs.declared.lexeme.Lexeme.{Lexeme}
use Rattle.notebook_grammar.specs.declared.action.Action.{Action}
use Rattle.notebook_grammar.specs.declared.action.Action.TheVariants as act
use Rattle.notebook_grammar.specs.declared.action.ExprAction.{ExprAction}
use Rattle.notebook_grammar.specs.declared.action.ExprAction.TheVariants as e_act
use Rattle.notebook_grammar.specs.declared.action.SelectAction.{SelectAction}
use Rattle.notebook_grammar.specs.declared.action.SelectAction.TheVariants as s_act
use Rattle.expr_lang.specs.declared.expr.Expr.{Expr}
use Rattle.expr_lang.specs.declared.expr.Expr.TheVariants as expr
use Rattle.expr_parse.specs.declared.piece.Piece.TheVariants as piece
use Rattle.sql_parse.specs.declared.tables.TableRef.{TableRef}
use Rattle.sql_parse.specs.declared.cores.CoreItems.{CoreItems}
use Rattle.sql_parse.specs.declared.cores.CoreItems.TheVariants as core_items
use Rattle.sql_parse.specs.declared.cores.Core.{Core}
use Rattle.sql_parse.specs.declared.piece.SelectPiece.TheVariants as part
use Rattle.sql_parse.specs.Names.{names_of}
use Rattle.sql_parse.specs.Trees.{builder}

abbrev took : ℕ → ℕ → Kind → Step Lexeme Action
took at end kind = Took (record { at = at; end = end; kind = kind; call = 0 })

abbrev did_expr : ExprAction → Step Lexeme Action
did_expr a = Did (act.Expr a)

abbrev did : SelectAction → Step Lexeme Action
did a = Did (act.Select a)

abbrev column : ℕ → Expr
column letter = expr.Column None (letter ∷ [])

-- a dataset under its own name
abbrev alone : ℕ → TableRef
alone letter = record { dataset = letter ∷ []; qualifier = letter ∷ [] }

-- a core with neither joins nor conditions
abbrev plain : CoreItems → TableRef → Core
plain items table = record { distinct = false; items = items; table = table; joins = []; condition = None; group_by = []; having = None }

-- without AS a table has its dataset's name; the number of LIMIT has no sign
all_of_one : built (builder (codes "SELECT*FROM T LIMIT 2"))
    (did s_act.BeginCores ∷ took 0 6 k.Select ∷ did s_act.NotDistinct ∷ took 6 7 k.Star ∷ did s_act.AllItems ∷ took 7 11 k.From
    ∷ took 12 13 k.Name ∷ did s_act.PlainTable ∷ did s_act.BeginJoins ∷ did s_act.NoCondition ∷ did s_act.BeginColumns ∷ did s_act.NoCondition ∷ did s_act.Core
    ∷ did s_act.BeginKeys ∷ took 14 19 k.Limit ∷ took 20 21 k.Whole ∷ did s_act.Limit ∷ did s_act.Select ∷ []) []
    ≡ Some (piece.Other (part.Select (record { cores = plain core_items.All (alone 116) ∷ []; order = []; limit = Some 2 })) ∷ [])
unfolding int_of
all_of_one = refl

-- an item and a table have the names that AS gives them
named : built (builder (codes "select a as b from t u order by b desc"))
    (did s_act.BeginCores ∷ took 0 6 k.Select ∷ did s_act.NotDistinct ∷ did s_act.BeginItems
    ∷ did_expr e_act.Begin ∷ took 7 8 k.Name ∷ did_expr e_act.Bare ∷ did_expr e_act.End ∷ took 9 11 k.As ∷ took 12 13 k.Name ∷ did s_act.NamedItem
    ∷ took 14 18 k.From ∷ took 19 20 k.Name ∷ took 21 22 k.Name ∷ did s_act.NamedTable
    ∷ did s_act.BeginJoins ∷ did s_act.NoCondition ∷ did s_act.BeginColumns ∷ did s_act.NoCondition ∷ did s_act.Core
    ∷ took 23 28 k.Order ∷ took 29 31 k.By ∷ did s_act.BeginKeys ∷ took 32 33 k.Name ∷ took 34 38 k.Desc ∷ did s_act.Descending
    ∷ did s_act.NoLimit ∷ did s_act.Select ∷ []) []
    ≡ Some (piece.Other (part.Select (record {
      cores = plain (core_items.Listed (record { expr = column 97; name = Some (98 ∷ []) } ∷ [])) (record { dataset = 116 ∷ []; qualifier = 117 ∷ [] }) ∷ [];
      order = record { name = 98 ∷ []; descending = true } ∷ [];
      limit = None;
    })) ∷ [])
named = refl

-- a name of AS is no dataset's, and joined tables count
abbrev joined : Core
joined = record (plain core_items.All (alone 116)) {
  joins = record { left = true; table = record { dataset = 117 ∷ []; qualifier = 118 ∷ [] }; on = column 97 } ∷ [];
}

in_order : names_of (record { cores = joined ∷ plain core_items.All (alone 117) ∷ []; order = []; limit = None }) ≡ (116 ∷ []) ∷ (117 ∷ []) ∷ []
in_order = refl
