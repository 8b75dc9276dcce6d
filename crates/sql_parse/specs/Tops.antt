-- What lies on top of the pieces of a SELECT.
use Rattle.std.specs.Prelude.{◌≡◌, ℕ, Bool, List, ◌∷◌, Option}
use Rattle.expr_lang.specs.declared.expr.Expr.{Expr}
use Rattle.expr_parse.specs.declared.piece.Piece.TheVariants as piece
use Rattle.sql_parse.specs.declared.columns.ColumnName.{ColumnName}
use Rattle.sql_parse.specs.declared.columns.OrderKey.{OrderKey}
use Rattle.sql_parse.specs.declared.tables.TableRef.{TableRef}
use Rattle.sql_parse.specs.declared.tables.JoinPart.{JoinPart}
use Rattle.sql_parse.specs.declared.cores.CoreItems.{CoreItems}
use Rattle.sql_parse.specs.declared.cores.Core.{Core}
use Rattle.sql_parse.specs.declared.select.Select.{Select}
use Rattle.sql_parse.specs.declared.piece.SelectPiece.TheVariants as part
use Rattle.sql_parse.specs.Pieces.{SelectStack}

-- whether DISTINCT stands there is on top
abbrev pub DistinctOn : SelectStack → Type 0
DistinctOn st = (d : Bool) × (rest : SelectStack) × (st ≡ piece.Other (part.Distinct d) ∷ rest)

-- items are on top
abbrev pub ItemsOn : SelectStack → Type 0
ItemsOn st = (items : CoreItems) × (rest : SelectStack) × (st ≡ piece.Other (part.Items items) ∷ rest)

-- a table is on top
abbrev pub TableOn : SelectStack → Type 0
TableOn st = (t : TableRef) × (rest : SelectStack) × (st ≡ piece.Other (part.Table t) ∷ rest)

-- joins are on top
abbrev pub JoinsOn : SelectStack → Type 0
JoinsOn st = (js : List JoinPart) × (rest : SelectStack) × (st ≡ piece.Other (part.Joins js) ∷ rest)

-- a condition, or that there is none, is on top
abbrev pub ConditionOn : SelectStack → Type 0
ConditionOn st = (c : Option Expr) × (rest : SelectStack) × (st ≡ piece.Other (part.Condition c) ∷ rest)

-- columns are on top
abbrev pub ColumnsOn : SelectStack → Type 0
ColumnsOn st = (cs : List ColumnName) × (rest : SelectStack) × (st ≡ piece.Other (part.Columns cs) ∷ rest)

-- cores are on top
abbrev pub CoresOn : SelectStack → Type 0
CoresOn st = (cs : List Core) × (rest : SelectStack) × (st ≡ piece.Other (part.Cores cs) ∷ rest)

-- keys are on top
abbrev pub KeysOn : SelectStack → Type 0
KeysOn st = (ks : List OrderKey) × (rest : SelectStack) × (st ≡ piece.Other (part.Keys ks) ∷ rest)

-- the number of LIMIT, or that there is none, is on top
abbrev pub LimitOn : SelectStack → Type 0
LimitOn st = (n : Option ℕ) × (rest : SelectStack) × (st ≡ piece.Other (part.Limit n) ∷ rest)

-- a SELECT is on top
abbrev pub SelectOn : SelectStack → Type 0
SelectOn st = (s : Select) × (rest : SelectStack) × (st ≡ piece.Other (part.Select s) ∷ rest)
