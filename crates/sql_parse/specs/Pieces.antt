-- What each action of SELECT makes of the pieces, the topmost first.
use Rattle.std.specs.Prelude.{ℕ, Bool, true, false, List, [], ◌∷◌, ◌++◌, Option, Some, None, unsigned_abs}
use Rattle.notebook_grammar.specs.declared.action.SelectAction.{SelectAction}
use Rattle.notebook_grammar.specs.declared.action.SelectAction.TheVariants as act
use Rattle.notebook_grammar.specs.Shapes as shapes
use Rattle.expr_lang.specs.declared.expr.Expr.{Expr}
use Rattle.expr_parse.specs.declared.piece.Piece.TheVariants as piece
use Rattle.sql_parse.specs.declared.columns.ColumnName.{ColumnName}
use Rattle.sql_parse.specs.declared.columns.OrderKey.{OrderKey}
use Rattle.sql_parse.specs.declared.tables.TableRef.{TableRef}
use Rattle.sql_parse.specs.declared.tables.JoinPart.{JoinPart}
use Rattle.sql_parse.specs.declared.cores.CoreItems.{CoreItems}
use Rattle.sql_parse.specs.declared.cores.CoreItems.TheVariants as core_items
use Rattle.sql_parse.specs.declared.cores.ItemText.{ItemText}
use Rattle.sql_parse.specs.declared.cores.Core.{Core}
use Rattle.sql_parse.specs.declared.piece.SelectPiece.{SelectPiece}
use Rattle.sql_parse.specs.declared.piece.SelectPiece.TheVariants as part
use Rattle.expr_parse.specs.Pieces.{Stack, with_name, with_whole, with_tree}

-- the pieces of a text that is a SELECT
abbrev pub SelectStack : Type 0
SelectStack = Stack SelectPiece

-- go on with whether DISTINCT stands there, and what is below; none where something else is on top
abbrev pub with_distinct : SelectStack → (Bool → SelectStack → Option SelectStack) → Option SelectStack
with_distinct (piece.Other (part.Distinct d) ∷ st) go = go d st
with_distinct st go = None

-- so with the items
abbrev pub with_items : SelectStack → (CoreItems → SelectStack → Option SelectStack) → Option SelectStack
with_items (piece.Other (part.Items items) ∷ st) go = go items st
with_items st go = None

-- so with the table
abbrev pub with_table : SelectStack → (TableRef → SelectStack → Option SelectStack) → Option SelectStack
with_table (piece.Other (part.Table t) ∷ st) go = go t st
with_table st go = None

-- so with the joins
abbrev pub with_joins : SelectStack → (List JoinPart → SelectStack → Option SelectStack) → Option SelectStack
with_joins (piece.Other (part.Joins js) ∷ st) go = go js st
with_joins st go = None

-- so with the condition, if there is one
abbrev pub with_condition : SelectStack → (Option Expr → SelectStack → Option SelectStack) → Option SelectStack
with_condition (piece.Other (part.Condition c) ∷ st) go = go c st
with_condition st go = None

-- so with the columns
abbrev pub with_columns : SelectStack → (List ColumnName → SelectStack → Option SelectStack) → Option SelectStack
with_columns (piece.Other (part.Columns cs) ∷ st) go = go cs st
with_columns st go = None

-- so with the cores
abbrev pub with_cores : SelectStack → (List Core → SelectStack → Option SelectStack) → Option SelectStack
with_cores (piece.Other (part.Cores cs) ∷ st) go = go cs st
with_cores st go = None

-- so with the keys
abbrev pub with_keys : SelectStack → (List OrderKey → SelectStack → Option SelectStack) → Option SelectStack
with_keys (piece.Other (part.Keys ks) ∷ st) go = go ks st
with_keys st go = None

-- so with the number of LIMIT, if there is one
abbrev pub with_limit : SelectStack → (Option ℕ → SelectStack → Option SelectStack) → Option SelectStack
with_limit (piece.Other (part.Limit n) ∷ st) go = go n st
with_limit st go = None

-- a piece of SELECT on top
abbrev pub put : SelectPiece → SelectStack → Option SelectStack
put p st = Some (piece.Other p ∷ st)

-- the items that are listed; `*` lists none
abbrev pub listed : CoreItems → List ItemText
listed core_items.All = []
listed (core_items.Listed is) = is

-- one item more, the last
abbrev pub item : Expr → Option (List ℕ) → CoreItems → CoreItems
item e name is = core_items.Listed (listed is ++ record { expr = e; name = name } ∷ [])

-- a join of the table on top, on the expression above it
abbrev pub join : Bool → SelectStack → Option SelectStack
join left st = with_tree st (λ e st. with_table st (λ table st. with_joins st (λ joins st.
    put (part.Joins (joins ++ record { left = left; table = table; on = e } ∷ [])) st)))

-- the name on top as a key
abbrev pub key : Bool → SelectStack → Option SelectStack
key descending st = with_name st (λ name st. with_keys st (λ keys st.
    put (part.Keys (keys ++ record { name = name; descending = descending } ∷ [])) st))

-- what an action makes of the pieces on top; none where a piece is missing
abbrev pub did : SelectAction → SelectStack → Option SelectStack
did act.BeginCores st = put (part.Cores []) st
did act.Select st = with_limit st (λ limit st. with_keys st (λ keys st. with_cores st (λ cores st.
    put (part.Select (record { cores = cores; order = keys; limit = limit })) st)))
did act.BeginJoins st = put (part.Joins []) st
did act.Core st =
    with_condition st (λ having st. with_columns st (λ columns st. with_condition st (λ condition st. with_joins st (λ joins st.
    with_table st (λ table st. with_items st (λ items st. with_distinct st (λ distinct st. with_cores st (λ cores st.
    put (part.Cores (cores ++ record {
      distinct = distinct;
      items = items;
      table = table;
      joins = joins;
      condition = condition;
      group_by = columns;
      having = having;
    } ∷ [])) st))))))))
did act.Distinct st = put (part.Distinct true) st
did act.NotDistinct st = put (part.Distinct false) st
did act.AllItems st = put (part.Items core_items.All) st
did act.BeginItems st = put (part.Items (core_items.Listed [])) st
did act.NamedItem st = with_name st (λ name st. with_tree st (λ e st. with_items st (λ is st. put (part.Items (item e (Some name) is)) st)))
did act.PlainItem st = with_tree st (λ e st. with_items st (λ is st. put (part.Items (item e None is)) st))
did act.NamedTable st = with_name st (λ name st. with_name st (λ dataset st. put (part.Table (record { dataset = dataset; qualifier = name })) st))
did act.PlainTable st = with_name st (λ name st. put (part.Table (record { dataset = name; qualifier = name })) st)
did act.InnerJoin st = join false st
did act.LeftJoin st = join true st
did act.Condition st = with_tree st (λ e st. put (part.Condition (Some e)) st)
did act.NoCondition st = put (part.Condition None) st
did act.BeginColumns st = put (part.Columns []) st
did act.QualifiedColumn st = with_name st (λ name st. with_name st (λ table st. with_columns st (λ columns st.
    put (part.Columns (columns ++ record { qualifier = Some table; name = name } ∷ [])) st)))
did act.BareColumn st = with_name st (λ name st. with_columns st (λ columns st.
    put (part.Columns (columns ++ record { qualifier = None; name = name } ∷ [])) st))
did act.BeginKeys st = put (part.Keys []) st
did act.Ascending st = key false st
did act.Descending st = key true st
did act.Limit st = with_whole st (λ n st. put (part.Limit (Some (unsigned_abs n))) st)
did act.NoLimit st = put (part.Limit None) st

-- the shape of a part of a SELECT, as the grammar numbers them
abbrev pub shape : SelectPiece → ℕ
shape (part.Distinct d) = shapes.distinct
shape (part.Items is) = shapes.items
shape (part.Table t) = shapes.table
shape (part.Joins js) = shapes.joins
shape (part.Condition c) = shapes.condition
shape (part.Columns cs) = shapes.columns
shape (part.Cores cs) = shapes.cores
shape (part.Keys ks) = shapes.keys
shape (part.Limit n) = shapes.limit
shape (part.Select s) = shapes.select
