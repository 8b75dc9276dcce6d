-- GROUP BY, HAVING, the items and DISTINCT without marks.
use Rattle.std.specs.Prelude.{ℕ, Bool, true, if◌then◌else◌, Option, Some, None, Ok, List, [], ◌∷◌, map}
use Rattle.value_types.specs.declared.value.Value.{Value}
use Rattle.value_types.specs.declared.row_id.RowId.{Key}
use Rattle.dataset_types.specs.declared.picks.Pick.{Pick}
use Rattle.dataset_types.specs.Plain.{PlainRow}
use Rattle.cell_errors.specs.Answers.{Answer, and_then, collect}
use Rattle.expr_lang.specs.declared.expr.Expr.{Expr}
use Rattle.expr_ops.specs.Truths.{is_true}
use Rattle.expr_meaning.specs.declared.bindings.ScopeColumn.{ScopeColumn}
use Rattle.expr_meaning.specs.Settings.{PlainBinding, PlainSetting}
use Rattle.expr_meaning.specs.Meaning.{plain_meaning}
use Rattle.relations.specs.declared.parts.Item.{Item}
use Rattle.relations.specs.Bound.{plain_bindings}
use Rattle.relations.specs.Plain.{PlainRel, listed, plain_whole}
use Rattle.rel_ops.specs.Project.{item_columns}
use Rattle.rel_group.specs.Keys.{key_of, once, ascending, rows_at}
use Rattle.rel_group.specs.Groups.{key_columns, group_types}

-- the rows of one key
pub record PlainGroup : Type 0 where
  pub key : List Value
  pub rows : List (List PlainBinding)

-- the values of a row's key
abbrev pub plain_key : Option (List ℕ) → PlainRow → List Value
plain_key keys r = key_of keys r.values

-- these rows as the group of a key
abbrev pub plain_group_of : List ScopeColumn → List Value → List PlainRow → PlainGroup
plain_group_of columns k rows = record { key = k; rows = map (λ r. plain_bindings columns r.values) rows }

-- a group for each key, in ascending order
abbrev pub plain_keyed : List ScopeColumn → Option (List ℕ) → List PlainRow → List PlainGroup
plain_keyed columns keys rows =
    map (λ k. plain_group_of columns k (rows_at (plain_key keys) rows k)) (ascending (map (plain_key keys) rows))

-- the groups by these places, and without places one alone
abbrev pub plain_groups : List ScopeColumn → List ℕ → List PlainRow → List PlainGroup
plain_groups columns [] rows = plain_group_of columns [] rows ∷ []
plain_groups columns (p ∷ ps) rows = plain_keyed columns (Some (p ∷ ps)) rows

-- the columns of the key with its values, and within an aggregate all columns with those of each row
abbrev pub plain_group_setting : List ScopeColumn → List ℕ → PlainGroup → PlainSetting
plain_group_setting columns places g =
    record { row = plain_bindings (key_columns columns places) (once places g.key); group = Some g.rows }

-- whether HAVING is TRUE of a group, which it is where there is none
abbrev pub plain_having : Option Expr → List Pick → ℕ → PlainSetting → Answer Bool
plain_having None picks cell s = Ok true
plain_having (Some condition) picks cell s = and_then (plain_meaning picks cell condition s) is_true

-- a group and whether HAVING is TRUE of it
abbrev pub plain_tested : (PlainGroup → PlainSetting) → Option Expr → List Pick → ℕ → PlainGroup → Answer (PlainGroup × Bool)
plain_tested setting having picks cell g = and_then (plain_having having picks cell (setting g)) (λ t. Ok (g, t))

-- the row of a group with these values
abbrev pub plain_row_of : PlainGroup → List Value → PlainRow
plain_row_of g values = record { id = Key g.key; values = values }

-- the row of the items of a group that HAVING keeps
abbrev pub plain_group_row : (PlainGroup → PlainSetting) → List Item → List Pick → ℕ → PlainGroup × Bool → Answer (List PlainRow)
plain_group_row setting items picks cell x =
    if x.1 then and_then (collect (λ i. plain_meaning picks cell i.expr (setting x.0)) items) (λ values. Ok (plain_row_of x.0 values ∷ []))
    else Ok []

-- HAVING of all groups, and then the items of those that it keeps
abbrev pub plain_group_rows : (PlainGroup → PlainSetting) → Option Expr → List Item → List Pick → ℕ → List PlainGroup → Answer (List PlainRow)
plain_group_rows setting having items picks cell gs =
    and_then (collect (plain_tested setting having picks cell) gs) (λ ts. listed (plain_group_row setting items picks cell) ts)

-- the columns first, then the rows of the groups
abbrev pub plain_grouped : PlainRel → List ℕ → Option Expr → List Item → List Pick → ℕ → Answer PlainRel
plain_grouped rel places having items picks cell =
    and_then (item_columns (group_types rel.columns places) items) (λ columns.
    and_then (plain_group_rows (plain_group_setting rel.columns places) having items picks cell (plain_groups rel.columns places rel.rows)) (λ rows.
    plain_whole (record { columns = columns; rows = rows })))

-- DISTINCT: a row for each group by all columns
abbrev pub plain_distinct : PlainRel → Answer PlainRel
plain_distinct rel =
    plain_whole (record { columns = rel.columns; rows = map (λ g. plain_row_of g g.key) (plain_keyed [] None rel.rows) })
