-- Groups: the rows of one key, and the setting in which HAVING and the items stand.
use Rattle.std.specs.Prelude.{ℕ, Bool, true, false, not, ◌&&◌, ◌||◌, Option, Some, List, [], ◌∷◌, map}
use Rattle.std.specs.List.{list_any}
use Rattle.value_types.specs.declared.value.Value.{Value}
use Rattle.dataset_types.specs.declared.row.Marked.{Marked}
use Rattle.dataset_types.specs.declared.row.Row.{Row}
use Rattle.expr_meaning.specs.declared.bindings.Binding.{Binding}
use Rattle.expr_meaning.specs.declared.bindings.ScopeColumn.{ScopeColumn}
use Rattle.expr_meaning.specs.Settings.{MarkedSetting}
use Rattle.expr_meaning.specs.Types.{TypeSetting}
use Rattle.relations.specs.Rels.{RelData}
use Rattle.relations.specs.Bound.{bindings}
use Rattle.rel_group.specs.Keys.{key_of, items_at, once, ascending, rows_at}

-- the rows of one key, under all columns
pub record Group : Type 0 where
  pub key : List Value
  pub sure : Bool
  pub rows : List (List Binding)

-- the values of a row's key
abbrev pub key_values : Option (List ℕ) → Row → List Value
key_values keys r = map (λ m. m.value) (key_of keys r.values)

-- whether a value of its key is marked
abbrev pub has_marked_key : Option (List ℕ) → Row → Bool
has_marked_key keys r = list_any (λ m. m.marked) (key_of keys r.values)

-- whether it is certain that the row is in its group
abbrev pub is_certain : Option (List ℕ) → Row → Bool
is_certain keys r = r.sure && not (has_marked_key keys r)

-- whether it is uncertain which rows are in a group
abbrev pub is_uncertain : Option (List ℕ) → RelData → Bool
is_uncertain keys rel = rel.is_open || list_any (has_marked_key keys) rel.rows

-- the rows under their columns
abbrev pub bound_rows : List ScopeColumn → List Row → List (List Binding)
bound_rows columns rows = map (λ r. bindings columns r.values) rows

-- these rows as the group of a key, which is sure where it is certain that one of them is in it
abbrev pub group_of : List ScopeColumn → Option (List ℕ) → List Value → List Row → Group
group_of columns keys k rows = record { key = k; sure = list_any (is_certain keys) rows; rows = bound_rows columns rows }

-- a group for each key, in ascending order
abbrev pub keyed_groups : List ScopeColumn → Option (List ℕ) → List Row → List Group
keyed_groups columns keys rows =
    map (λ k. group_of columns keys k (rows_at (key_values keys) rows k)) (ascending (map (key_values keys) rows))

-- all rows as one group, which is there even without rows
abbrev pub whole_group : List ScopeColumn → List Row → Group
whole_group columns rows = record { key = []; sure = true; rows = bound_rows columns rows }

-- the groups by these places, and without places one alone
abbrev pub groups : List ScopeColumn → List ℕ → List Row → List Group
groups columns [] rows = whole_group columns rows ∷ []
groups columns (p ∷ ps) rows = keyed_groups columns (Some (p ∷ ps)) rows

-- whether groups may be missing or others be there: not where there is one alone
abbrev pub may_lack_groups : List ℕ → RelData → Bool
may_lack_groups [] rel = false
may_lack_groups (p ∷ ps) rel = is_uncertain (Some (p ∷ ps)) rel

-- ---- what the names of HAVING and of the items stand for

-- the columns of the key, each once
abbrev pub key_columns : List ScopeColumn → List ℕ → List ScopeColumn
key_columns columns places = once places (items_at places columns)

-- a value of a key, which isn't marked
abbrev pub certain : Value → Marked
certain v = record { value = v; marked = false }

-- these columns with the values of a group's key, and within an aggregate all columns with those of each row
abbrev pub setting_under : List ScopeColumn → List ℕ → Bool → Group → MarkedSetting
setting_under columns places uncertain g = record {
  row = bindings columns (map certain (once places g.key));
  group = Some g.rows;
  marked = uncertain;
}

-- the setting of a group
abbrev pub group_setting : List ScopeColumn → List ℕ → Bool → Group → MarkedSetting
group_setting columns places = setting_under (key_columns columns places) places

-- the columns of the key, and within an aggregate all columns
abbrev pub group_types : List ScopeColumn → List ℕ → TypeSetting
group_types columns places = record { columns = key_columns columns places; group = Some columns }
