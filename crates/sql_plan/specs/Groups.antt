-- What the names of a grouped core stand for.
use Rattle.std.specs.Prelude.{ℕ, Bool, true, false, ◌==◌, Some, List, [], ◌∷◌}
use Rattle.std.specs.List.{flat_map, list_any}
use Rattle.cell_errors.specs.Answers.{Answer, collect}
use Rattle.expr_meaning.specs.declared.bindings.ScopeColumn.{ScopeColumn}
use Rattle.expr_meaning.specs.Types.{TypeSetting, over_columns}
use Rattle.relations.specs.declared.places.ColumnAt.{ColumnAt}
use Rattle.relations.specs.Places.{placed_from}
use Rattle.sql_parse.specs.declared.columns.ColumnName.{ColumnName}
use Rattle.sql_plan.specs.Places.{named_place}

-- the place of a key column, counted from 1
abbrev pub key_place : List ScopeColumn → ColumnName → Answer ℕ
key_place columns k = named_place columns k.qualifier k.name

-- the places of the key columns, or the error of the first that isn't there
abbrev pub key_places : List ScopeColumn → List ColumnName → Answer (List ℕ)
key_places columns keys = collect (key_place columns) keys

-- whether a place is that of a key
abbrev pub is_key : List ℕ → ℕ → Bool
is_key keys place = list_any (λ k. k == place) keys

-- a key column once, another twice
abbrev pub once_or_twice : Bool → ScopeColumn → List ScopeColumn
once_or_twice true c = c ∷ []
once_or_twice false c = c ∷ c ∷ []

-- the column at a place, which counts from 1 as those of keys do, once where that is the place of a key
abbrev pub columns_at : List ℕ → ColumnAt → List ScopeColumn
columns_at keys at = once_or_twice (is_key keys at.place) at.column

-- the columns with each that is no key twice: a name stands for one column at most, so none stands for it, and a bare
-- name that it shares with a key stands for neither
abbrev pub key_columns : List ScopeColumn → List ℕ → List ScopeColumn
key_columns columns keys = flat_map (columns_at keys) (placed_from 1 columns)

-- in groups a name stands for a key column, and within an aggregate for any column
abbrev pub grouped_setting : List ScopeColumn → List ℕ → TypeSetting
grouped_setting columns keys = record { columns = key_columns columns keys; group = Some columns }

-- where the names of HAVING and of the items stand
abbrev pub output_setting : Bool → List ScopeColumn → List ℕ → TypeSetting
output_setting true columns keys = grouped_setting columns keys
output_setting false columns keys = over_columns columns
