-- GROUP BY, HAVING and the items over groups; DISTINCT.
use Rattle.std.specs.Prelude.{ℕ, true, false, ◌||◌, if◌then◌else◌, Option, Some, None, Ok, List, [], map}
use Rattle.value_types.specs.declared.row_id.RowId.{Key}
use Rattle.dataset_types.specs.declared.picks.Pick.{Pick}
use Rattle.dataset_types.specs.declared.row.Marked.{Marked}
use Rattle.dataset_types.specs.declared.row.Row.{Row}
use Rattle.cell_errors.specs.Answers.{Answer, and_then, collect}
use Rattle.expr_lang.specs.declared.expr.Expr.{Expr}
use Rattle.expr_meaning.specs.declared.bindings.ScopeColumn.{ScopeColumn}
use Rattle.expr_meaning.specs.Settings.{MarkedSetting}
use Rattle.expr_meaning.specs.Meaning.{marked_at}
use Rattle.relations.specs.declared.batch.Batch.{Batch}
use Rattle.relations.specs.declared.condition.Test.{Test}
use Rattle.relations.specs.declared.parts.Item.{Item}
use Rattle.relations.specs.Rels.{RelData, rel_of, whole}
use Rattle.relations.specs.Batches.{gathered}
use Rattle.relations.specs.Conditions.{test_of, kept}
use Rattle.rel_ops.specs.Project.{item_columns, marked_value}
use Rattle.rel_group.specs.Groups.{Group, keyed_groups, groups, is_uncertain, may_lack_groups, certain, group_setting, group_types}

-- ---- HAVING

-- what every group gets where there is no HAVING
abbrev pub passed : Test
passed = record { holds = true; marked = false }

-- whether a condition is TRUE in a setting, and the mark of its value
abbrev pub condition_test : Expr → List Pick → ℕ → MarkedSetting → Answer Test
condition_test condition picks cell s = test_of (marked_at s picks cell condition)

-- whether HAVING is TRUE of a group
abbrev pub having_test : Option Expr → List Pick → ℕ → MarkedSetting → Answer Test
having_test None picks cell s = Ok passed
having_test (Some condition) picks cell s = condition_test condition picks cell s

-- a group, and what HAVING says of it
pub record Tested : Type 0 where
  pub group : Group
  pub test : Test

-- a group with its test
abbrev pub tested : (Group → MarkedSetting) → Option Expr → List Pick → ℕ → Group → Answer Tested
tested setting having picks cell g = and_then (having_test having picks cell (setting g)) (λ t. Ok (record { group = g; test = t }))

-- ---- the items

-- the value of an item
abbrev pub group_value : List Pick → ℕ → MarkedSetting → Item → Answer Marked
group_value picks cell s i = marked_value (marked_at s picks cell i.expr)

-- the values of all items, or the first error
abbrev pub group_values : List Item → List Pick → ℕ → MarkedSetting → Answer (List Marked)
group_values items picks cell s = collect (group_value picks cell s) items

-- the row of a group with these values
abbrev pub row_of : Group → List Marked → Row
row_of g values = record { id = Key g.key; sure = g.sure; values = values }

-- the row of a group that HAVING keeps, unsure where HAVING is marked; a mark opens whether the group is kept or not
abbrev pub group_row : (Group → MarkedSetting) → List Item → List Pick → ℕ → Tested → Answer Batch
group_row setting items picks cell x =
    if x.test.holds then and_then (group_values items picks cell (setting x.group)) (λ values. Ok (kept (row_of x.group values) x.test))
    else Ok (record { rows = []; marked = x.test.marked })

-- ---- the steps as one

-- HAVING of all groups, and then the items of those that it keeps
abbrev pub group_rows : (Group → MarkedSetting) → Option Expr → List Item → List Pick → ℕ → List Group → Answer Batch
group_rows setting having items picks cell gs =
    and_then (collect (tested setting having picks cell) gs) (λ ts. gathered (group_row setting items picks cell) ts)

-- the rows of the groups of a relation
abbrev pub rows_of : RelData → List ℕ → Option Expr → List Item → List Pick → ℕ → Answer Batch
rows_of rel places having items picks cell =
    group_rows (group_setting rel.columns places (is_uncertain (Some places) rel)) having items picks cell (groups rel.columns places rel.rows)

-- these rows under the output columns
abbrev pub grouped_to : List ScopeColumn → RelData → List ℕ → Option Expr → List Item → List Pick → ℕ → Answer RelData
grouped_to columns rel places having items picks cell =
    and_then (rows_of rel places having items picks cell) (λ b. whole (rel_of columns b.rows (may_lack_groups places rel || b.marked) false))

-- the columns first, then the rows of the groups
abbrev pub grouped : RelData → List ℕ → Option Expr → List Item → List Pick → ℕ → Answer RelData
grouped rel places having items picks cell =
    and_then (item_columns (group_types rel.columns places) items) (λ columns. grouped_to columns rel places having items picks cell)

-- ---- DISTINCT

-- the row of a group by all columns
abbrev pub key_row : Group → Row
key_row g = row_of g (map certain g.key)

-- a row for each group by all columns; no column is looked at by its name
abbrev pub distinct : RelData → Answer RelData
distinct rel = whole (rel_of rel.columns (map key_row (keyed_groups [] None rel.rows)) (is_uncertain None rel) false)
