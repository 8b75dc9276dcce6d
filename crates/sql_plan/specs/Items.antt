-- The items of a core, with their names.
use Rattle.std.specs.Prelude.{ℕ, ◌+◌, decimal, Option, Some, None, List, [], ◌∷◌, map}
use Rattle.expr_lang.specs.declared.expr.Expr.{Expr, Column, out-Expr}
use Rattle.expr_lang.specs.declared.expr.Expr.TheOpen.{Expr-F}
use Rattle.expr_meaning.specs.declared.bindings.ScopeColumn.{ScopeColumn}
use Rattle.expr_meaning.specs.Names.{Name}
use Rattle.relations.specs.declared.parts.Item.{Item}
use Rattle.sql_parse.specs.declared.cores.CoreItems.{CoreItems}
use Rattle.sql_parse.specs.declared.cores.CoreItems.TheVariants.{All, Listed}
use Rattle.sql_parse.specs.declared.cores.ItemText.{ItemText}

-- the name of a column
abbrev pub column_form : {A B : Type 0} → Expr-F A B → Option Name
column_form (Expr-F.Column q name) = Some name
column_form f = None

-- the name of the column that an expression is, if it is one
abbrev pub own_name : Expr → Option Name
own_name e = column_form (out-Expr e)

-- `c` and the position
abbrev pub position_name : ℕ → Name
position_name n = 99 ∷ decimal n

-- the name by AS, else by the column, else by the position
abbrev pub name_by : Option Name → Option Name → ℕ → Name
name_by (Some name) column n = name
name_by None (Some name) n = name
name_by None None n = position_name n

-- an item with its name
abbrev pub named_item : ℕ → ItemText → Item
named_item n i = record { expr = i.expr; name = name_by i.name (own_name i.expr) n }

-- the items with their names, from a position on
abbrev pub named_from : ℕ → List ItemText → List Item
named_from n [] = []
named_from n (i ∷ is) = named_item n i ∷ named_from (n + 1) is

-- a column as an item
abbrev pub column_item : ScopeColumn → Item
column_item c = record { expr = Column c.qualifier c.column.name; name = c.column.name }

-- the items of a core; `*` stands for all columns in order
abbrev pub items_of : List ScopeColumn → CoreItems → List Item
items_of columns All = map column_item columns
items_of columns (Listed items) = named_from 1 items
