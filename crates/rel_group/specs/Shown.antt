-- GROUP BY, HAVING, the items and DISTINCT over what is shown.
use Rattle.std.specs.Prelude.{ℕ, Bool, true, false, ◌||◌, is_none, unwrap_or, Option, Some, None, option_map, List, [], ◌∷◌, map, filter}
use Rattle.std.specs.List.{flat_map, filter_map, list_any}
use Rattle.value_types.specs.declared.value.Value.{Value}
use Rattle.value_types.specs.declared.row_id.RowId.{Key}
use Rattle.value_types.specs.Order.{same_key}
use Rattle.caveat_marks.specs.Shown.{ShownRow}
use Rattle.cell_errors.specs.Answers.{and_then}
use Rattle.expr_lang.specs.declared.expr.Expr.{Expr}
use Rattle.expr_ops.specs.Truths.{is_true}
use Rattle.expr_meaning.specs.declared.bindings.ScopeColumn.{ScopeColumn}
use Rattle.expr_meaning.specs.Known.{unless_marked}
use Rattle.expr_meaning.specs.Settings.{KnownBinding, KnownSetting}
use Rattle.expr_meaning.specs.Meaning.{known_meaning}
use Rattle.relations.specs.declared.parts.Item.{Item}
use Rattle.relations.specs.Bound.{known_bindings}
use Rattle.relations.specs.Conditions.{kept_if, holds}
use Rattle.relations.specs.Shown.{ShownRel}
use Rattle.rel_ops.specs.Project.{item_columns, value_known, columns_in}
use Rattle.rel_group.specs.Keys.{key_of, once, ascending}
use Rattle.rel_group.specs.Groups.{key_columns, group_types}

-- all of these values, where each is known
abbrev pub all_known : List (Option Value) → Option (List Value)
all_known [] = Some []
all_known (None ∷ vs) = None
all_known (Some v ∷ vs) = option_map (λ ws. v ∷ ws) (all_known vs)

-- the values of a row's key, where it is known
abbrev pub shown_key : Option (List ℕ) → ShownRow → Option (List Value)
shown_key keys r = all_known (key_of keys r.values)

-- whether a key is known to be this one
abbrev pub is_key : List Value → Option (List Value) → Bool
is_key k None = false
is_key k (Some l) = same_key k l

-- whether it is uncertain which rows are in a group
abbrev pub shown_uncertain : Option (List ℕ) → ShownRel → Bool
shown_uncertain keys rel = rel.is_open || list_any (λ r. is_none (shown_key keys r)) rel.rows

-- the rows of one key, which aren't known where it is uncertain which they are
pub record KnownGroup : Type 0 where
  pub key : List Value
  pub rows : Option (List (List KnownBinding))

-- these rows as the group of a key
abbrev pub shown_group_of : List ScopeColumn → Bool → List Value → List ShownRow → KnownGroup
shown_group_of columns uncertain k rows = record { key = k; rows = unless_marked uncertain (map (λ r. known_bindings columns r.values) rows) }

-- a group for each key that is known, in ascending order
abbrev pub shown_keyed : List ScopeColumn → Option (List ℕ) → ShownRel → List KnownGroup
shown_keyed columns keys rel =
    map (λ k. shown_group_of columns (shown_uncertain keys rel) k (filter (λ r. is_key k (shown_key keys r)) rel.rows))
    (ascending (filter_map (shown_key keys) rel.rows))

-- the groups by these places, and without places one alone
abbrev pub shown_groups : List ℕ → ShownRel → List KnownGroup
shown_groups [] rel = shown_group_of rel.columns (shown_uncertain (Some []) rel) [] rel.rows ∷ []
shown_groups (p ∷ ps) rel = shown_keyed rel.columns (Some (p ∷ ps)) rel

-- whether groups may be missing or others be there: not where there is one alone
abbrev pub shown_may_lack : List ℕ → ShownRel → Bool
shown_may_lack [] rel = false
shown_may_lack (p ∷ ps) rel = shown_uncertain (Some (p ∷ ps)) rel

-- the columns of the key with its values, and within an aggregate all columns with those of each row
abbrev pub known_group_setting : List ScopeColumn → List ℕ → KnownGroup → KnownSetting
known_group_setting columns places g =
    record { row = known_bindings (key_columns columns places) (map (λ v. Some v) (once places g.key)); group = Some g.rows }

-- whether HAVING is TRUE, where that is known
abbrev pub known_having : Option Expr → KnownSetting → Option Bool
known_having None s = Some true
known_having (Some condition) s = option_map (λ a. holds (and_then a is_true)) (known_meaning condition s)

-- what is known of the row of a group, where HAVING is known to be TRUE
abbrev pub shown_group_row : (KnownGroup → KnownSetting) → Option Expr → List Item → KnownGroup → List ShownRow
shown_group_row setting having items g =
    kept_if (unwrap_or (known_having having (setting g)) false)
    (record { id = Key g.key; values = map (λ i. value_known (known_meaning i.expr (setting g))) items })

-- a row for each group; HAVING that isn't known opens
abbrev pub shown_grouped : ShownRel → List ℕ → Option Expr → List Item → ShownRel
shown_grouped rel places having items =
    let setting = known_group_setting rel.columns places in
    let gs = shown_groups places rel in record {
      columns = columns_in (item_columns (group_types rel.columns places) items);
      rows = flat_map (shown_group_row setting having items) gs;
      is_open = shown_may_lack places rel || list_any (λ g. is_none (known_having having (setting g))) gs;
      is_loose = false;
    }

-- DISTINCT: a row for each group by all columns
abbrev pub shown_distinct : ShownRel → ShownRel
shown_distinct rel = record {
  columns = rel.columns;
  rows = map (λ g. record { id = Key g.key; values = map (λ v. Some v) g.key }) (shown_keyed [] None rel);
  is_open = shown_uncertain None rel;
  is_loose = false;
}
