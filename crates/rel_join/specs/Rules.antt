-- What a join asks of its sides.
use Rattle.std.specs.Prelude.{Bool, true, false, not, ◌&&◌, List, Option, Some, None}
use Rattle.std.specs.List.{list_all, list_any, Contains}
use Rattle.std.specs.Str.{bytes_eq}
use Rattle.expr_meaning.specs.declared.bindings.ScopeColumn.{ScopeColumn}
use Rattle.expr_meaning.specs.Names.{Name}
use Rattle.relations.specs.Rels.{column_keys}

-- no column stands on both sides, by its qualifier and its name
pub record AreApart (left right : List ScopeColumn) : Type 0 where
  pub on_one : (key : Option Name × Name) → Contains (column_keys left) key → Contains (column_keys right) key → ⊥

-- whether two qualifiers are one
abbrev pub same_qualifier : Option Name → Option Name → Bool
same_qualifier None None = true
same_qualifier None (Some b) = false
same_qualifier (Some a) None = false
same_qualifier (Some a) (Some b) = bytes_eq a b

-- whether two columns have one qualifier and one name
abbrev pub same_key : ScopeColumn → ScopeColumn → Bool
same_key c d = same_qualifier c.qualifier d.qualifier && bytes_eq c.column.name d.column.name

-- whether no column stands on both sides
abbrev pub are_apart : List ScopeColumn → List ScopeColumn → Bool
are_apart left right = list_all (λ c. not (list_any (same_key c) right)) left
