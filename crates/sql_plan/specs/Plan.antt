-- The check of a SELECT, from the columns of the datasets that it reads.
use Rattle.std.specs.Prelude.{Bool, if◌then◌else◌, None, Ok, Err, List, [], ◌∷◌}
use Rattle.std.specs.List.{list_all}
use Rattle.cell_errors.specs.declared.fault.CellError.TheVariants as error
use Rattle.cell_errors.specs.Answers.{Answer, and_then, collect}
use Rattle.expr_meaning.specs.declared.bindings.ScopeColumn.{ScopeColumn}
use Rattle.relations.specs.declared.parts.SortKey.{SortKey}
use Rattle.rel_ops.specs.Union.{types_agree}
use Rattle.sql_parse.specs.declared.columns.OrderKey.{OrderKey}
use Rattle.sql_parse.specs.declared.cores.Core.{Core}
use Rattle.sql_parse.specs.declared.select.Select.{Select}
use Rattle.sql_plan.specs.declared.heading.Heading.{Heading}
use Rattle.sql_plan.specs.declared.core_plan.CorePlan.{CorePlan}
use Rattle.sql_plan.specs.declared.plan.Plan.{Plan}
use Rattle.sql_plan.specs.Places.{named_place}
use Rattle.sql_plan.specs.Cores.{core_checked}

-- the output columns of a SELECT are those of its first core
abbrev pub outputs : List CorePlan → List ScopeColumn
outputs [] = []
outputs (c ∷ cs) = c.columns

-- the plans of the cores, or the first error
abbrev pub cores_checked : List Heading → List Core → Answer (List CorePlan)
cores_checked headings cores = collect (core_checked headings) cores

-- whether a core has columns of these types
abbrev pub agrees : List ScopeColumn → CorePlan → Bool
agrees columns c = types_agree columns c.columns

-- whether all cores do
abbrev pub all_agree : List ScopeColumn → List CorePlan → Bool
all_agree columns cores = list_all (agrees columns) cores

-- the sides of UNION have columns of the same types, in order
abbrev pub sides_checked : List CorePlan → Answer (Unit {0})
sides_checked cores = if all_agree (outputs cores) cores then Ok tt else Err error.TypeFault

-- the place of the output column that a key of ORDER BY names
abbrev pub key_checked : List ScopeColumn → OrderKey → Answer SortKey
key_checked columns k = and_then (named_place columns None k.name) (λ p. Ok (record { column = p; descending = k.descending }))

-- those of all keys, or the error of the first that is no output column
abbrev pub keys_checked : List ScopeColumn → List OrderKey → Answer (List SortKey)
keys_checked columns keys = collect (key_checked columns) keys

-- the plan of a SELECT, or its first error: the cores one after another, the sides of UNION, ORDER BY
abbrev pub checked : Select → List Heading → Answer Plan
checked select headings =
    and_then (cores_checked headings select.cores) (λ cores.
    and_then (sides_checked cores) (λ u.
    and_then (keys_checked (outputs cores) select.order) (λ keys.
    Ok (record { cores = cores; order = keys }))))
