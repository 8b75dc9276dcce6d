-- The columns of the datasets that a SELECT reads.
use Rattle.std.specs.Prelude.{if◌then◌else◌, Some, List, [], ◌∷◌, map}
use Rattle.std.specs.Str.{bytes_eq}
use Rattle.dataset_types.specs.declared.column.Column.{Column}
use Rattle.expr_meaning.specs.declared.bindings.ScopeColumn.{ScopeColumn}
use Rattle.expr_meaning.specs.Names.{Name}
use Rattle.relations.specs.Rels.{qualified}
use Rattle.sql_parse.specs.declared.tables.TableRef.{TableRef}
use Rattle.sql_plan.specs.declared.heading.Heading.{Heading}

-- the columns of a dataset; none where it isn't listed
abbrev pub columns_of : List Heading → Name → List Column
columns_of [] name = []
columns_of (h ∷ hs) name = if bytes_eq h.dataset name then h.columns else columns_of hs name

-- the columns of a table, under its qualifier
abbrev pub table_columns : List Heading → TableRef → List ScopeColumn
table_columns headings t = map (qualified (Some t.qualifier)) (columns_of headings t.dataset)
