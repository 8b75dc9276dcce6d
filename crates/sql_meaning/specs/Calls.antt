-- What the functions are asked for, and what they rest on.
use Rattle.std.specs.Prelude.{◌≡◌, ℕ, Ok, List, [], ◌∷◌, ◌++◌}
use Rattle.std.specs.Bool.{⊤}
use Rattle.cell_errors.specs.Answers.{Answer, and_then}
use Rattle.dataset_types.specs.Tables.{TableData}
use Rattle.expr_lang.specs.declared.expr.Expr.{Expr}
use Rattle.expr_meaning.specs.declared.bindings.ScopeColumn.{ScopeColumn}
use Rattle.relations.specs.Rels.{RelData}
use Rattle.rel_ops.specs.Union.{column_types}
use Rattle.rel_join.specs.Rules.{AreApart}
use Rattle.sql_parse.specs.declared.cores.Core.{Core}
use Rattle.sql_parse.specs.declared.tables.JoinPart.{JoinPart}
use Rattle.sql_parse.specs.declared.tables.TableRef.{TableRef}
use Rattle.sql_plan.specs.declared.heading.Heading.{Heading}
use Rattle.sql_plan.specs.declared.core_plan.CorePlan.{CorePlan}
use Rattle.sql_plan.specs.Headings.{table_columns}
use Rattle.sql_plan.specs.Cores.{core_checked}
use Rattle.sql_meaning.specs.declared.job.Job.{Job}
use Rattle.sql_meaning.specs.Steps.{Steps, rel_at, joined_tables, filter_if, headings_of}
use Rattle.sql_meaning.specs.Inputs.{named_tables}
use Rattle.sql_meaning.specs.Select.{marked_steps}

-- the steps of a job
abbrev pub steps_of : Job → Steps TableData RelData
steps_of job = marked_steps job.picks.now job.cell

-- its tables
abbrev pub tables_of : Job → List (List ℕ × TableData)
tables_of job = named_tables job.inputs.now

-- the columns of its tables
abbrev pub headings_at : Job → List Heading
headings_at job = headings_of (steps_of job) (tables_of job)

-- FROM with its joins, and WHERE
abbrev pub chosen_rows : Job → Core → Answer RelData
chosen_rows job core =
    and_then (joined_tables (steps_of job) (tables_of job) core) (λ all. filter_if (steps_of job) all core.condition)

-- a single table of FROM, and WHERE
abbrev pub chosen_at : Job → TableRef → Expr → Answer RelData
chosen_at job t condition =
    and_then (rel_at (steps_of job) (tables_of job) t) (λ all. (steps_of job).filter all condition)

-- the plan of a core is what its check gives
abbrev pub IsPlanned : List Heading → CorePlan → Type 0
IsPlanned headings c = core_checked headings c.core ≡ Ok c

-- each of them is
abbrev pub ArePlanned : List Heading → List CorePlan → Type 0
ArePlanned headings [] = ⊤
ArePlanned headings (c ∷ cs) = IsPlanned headings c × ArePlanned headings cs

-- no column of a table stands among those of the tables before it
abbrev pub AreJoinable : List Heading → List ScopeColumn → List JoinPart → Type 0
AreJoinable headings columns [] = ⊤
AreJoinable headings columns (j ∷ js) =
    AreApart columns (table_columns headings j.table) × AreJoinable headings (columns ++ table_columns headings j.table) js

-- each side has columns of the types of these
abbrev pub AllAgree : List ScopeColumn → List RelData → Type 0
AllAgree columns [] = ⊤
AllAgree columns (r ∷ rs) = (column_types columns ≡ column_types r.columns) × AllAgree columns rs

-- the sides of a UNION have columns of the same types
abbrev pub SidesAgree : List RelData → Type 0
SidesAgree [] = ⊤
SidesAgree (r ∷ rs) = AllAgree r.columns rs
