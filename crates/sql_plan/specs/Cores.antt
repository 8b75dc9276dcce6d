-- The check of a core, from the columns of its tables.
use Rattle.std.specs.Prelude.{ℕ, Bool, true, false, ◌||◌, Option, Some, None, is_some, Ok, List, [], ◌∷◌, ◌++◌, map}
use Rattle.std.specs.List.{list_any}
use Rattle.cell_errors.specs.Answers.{Answer, and_then}
use Rattle.expr_lang.specs.declared.expr.Expr.{Expr}
use Rattle.expr_meaning.specs.declared.bindings.ScopeColumn.{ScopeColumn}
use Rattle.expr_meaning.specs.Names.{Name}
use Rattle.expr_meaning.specs.Types.{TypeSetting, over_columns}
use Rattle.relations.specs.declared.parts.Item.{Item}
use Rattle.rel_ops.specs.Project.{item_names, item_columns}
use Rattle.sql_parse.specs.declared.tables.JoinPart.{JoinPart}
use Rattle.sql_parse.specs.declared.cores.Core.{Core}
use Rattle.sql_plan.specs.declared.heading.Heading.{Heading}
use Rattle.sql_plan.specs.declared.core_plan.CorePlan.{CorePlan}
use Rattle.sql_plan.specs.Headings.{table_columns}
use Rattle.sql_plan.specs.Folds.{folded}
use Rattle.sql_plan.specs.Names.{each_once}
use Rattle.sql_plan.specs.Conditions.{condition_checked, some_condition_checked}
use Rattle.sql_plan.specs.Aggregates.{has_aggregate}
use Rattle.sql_plan.specs.Groups.{key_places, output_setting}
use Rattle.sql_plan.specs.Items.{items_of}

-- the qualifiers of a core's tables
abbrev pub qualifiers : Core → List Name
qualifiers core = core.table.qualifier ∷ map (λ (j : JoinPart). j.table.qualifier) core.joins

-- the columns with those of one more table, whose ON is over all of them
abbrev pub join_checked : List Heading → List ScopeColumn → JoinPart → Answer (List ScopeColumn)
join_checked headings columns j =
    let more = columns ++ table_columns headings j.table in
    and_then (condition_checked (over_columns more) j.on) (λ u. Ok more)

-- the columns of all tables of a core; each ON is over the tables up to and including its own
abbrev pub tables_checked : List Heading → Core → Answer (List ScopeColumn)
tables_checked headings core = folded (join_checked headings) (table_columns headings core.table) core.joins

-- whether there is one at least
abbrev pub is_filled : {A : Type 0} → List A → Bool
is_filled [] = false
is_filled (x ∷ xs) = true

-- a core is grouped where it has GROUP BY, HAVING or an aggregate
abbrev pub is_grouped : Core → List Item → Bool
is_grouped core items = is_filled core.group_by || is_some core.having || list_any (λ i. has_aggregate i.expr) items

-- the keys, where the core is grouped
abbrev pub keys_if : Bool → List ℕ → Option (List ℕ)
keys_if true keys = Some keys
keys_if false keys = None

-- the output columns, where HAVING is a condition and no output name stands twice
abbrev pub outputs_checked : TypeSetting → Option Expr → List Item → Answer (List ScopeColumn)
outputs_checked setting having items =
    and_then (some_condition_checked setting having) (λ u.
    and_then (item_columns setting items) (λ columns.
    and_then (each_once (item_names items)) (λ v. Ok columns)))

-- the plan of a core, from the columns of its tables and the places of its keys
abbrev pub items_checked : Core → List ScopeColumn → List ℕ → Answer CorePlan
items_checked core columns keys =
    let items = items_of columns core.items in
    let grouped = is_grouped core items in
    and_then (outputs_checked (output_setting grouped columns keys) core.having items) (λ outputs.
    Ok (record { core = core; keys = keys_if grouped keys; items = items; columns = outputs }))

-- the plan of a core, or its first error: qualifiers, ON, WHERE, GROUP BY, HAVING, items, output names
abbrev pub core_checked : List Heading → Core → Answer CorePlan
core_checked headings core =
    and_then (each_once (qualifiers core)) (λ u.
    and_then (tables_checked headings core) (λ columns.
    and_then (some_condition_checked (over_columns columns) core.condition) (λ u.
    and_then (key_places columns core.group_by) (λ keys.
    items_checked core columns keys))))
