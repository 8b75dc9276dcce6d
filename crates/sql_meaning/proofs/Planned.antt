-- The cores of a plan are planned, and its sides are checked.
use Rattle.std.proofs.Common.{◌≡◌, Ok, List, [], ◌∷◌, sym, subst}
use Rattle.cell_errors.specs.Answers.{and_then}
use Rattle.relations.proofs.Gathered.{fine, the_same, then_ok}
use Rattle.sql_parse.specs.declared.cores.Core.{Core}
use Rattle.sql_parse.specs.declared.select.Select.{Select}
use Rattle.sql_plan.specs.declared.heading.Heading.{Heading}
use Rattle.sql_plan.specs.declared.core_plan.CorePlan.{CorePlan}
use Rattle.sql_plan.specs.declared.plan.Plan.{Plan}
use Rattle.sql_plan.specs.Cores.{core_checked}
use Rattle.sql_plan.specs.Plan.{outputs, cores_checked, sides_checked, keys_checked, checked}
use Rattle.sql_plan.proofs.Facts.{core_facts}
use Rattle.sql_meaning.specs.Calls.{ArePlanned}

cores_planned : (headings : List Heading) (cores : List Core) (plans : List CorePlan) → cores_checked headings cores ≡ Ok plans → ArePlanned headings plans
cores_planned headings [] plans e = subst (ArePlanned headings) (the_same [] plans e) tt
cores_planned headings (c ∷ cs) plans e =
    let p = then_ok (core_checked headings c) (λ y. and_then (cores_checked headings cs) (λ ys. fine (y ∷ ys))) plans e in
    let q = then_ok (cores_checked headings cs) (λ ys. fine (p.0 ∷ ys)) plans p.2 in
    let own = (core_facts headings c p.0 p.1).core in
    subst (ArePlanned headings) (the_same (p.0 ∷ q.0) plans q.2)
    (subst (λ core. core_checked headings core ≡ Ok p.0) (sym own) p.1, cores_planned headings cs q.0 q.1)

-- what a plan says
pub record PlanFacts (headings : List Heading) (plan : Plan) : Type 0 where
  pub cores : ArePlanned headings plan.cores
  pub agree : Unit {0}
  pub sides : sides_checked plan.cores ≡ Ok agree

pub plan_facts : (headings : List Heading) (select : Select) (plan : Plan) → checked select headings ≡ Ok plan → PlanFacts headings plan
plan_facts headings select plan e =
    let p = then_ok (cores_checked headings select.cores) (λ cores. and_then (sides_checked cores) (λ u. and_then (keys_checked (outputs cores) select.order) (λ keys.
    fine (record { cores = cores; order = keys })))) plan e in
    let q = then_ok (sides_checked p.0) (λ u. and_then (keys_checked (outputs p.0) select.order) (λ keys. fine (record { cores = p.0; order = keys }))) plan p.2 in
    let r = then_ok (keys_checked (outputs p.0) select.order) (λ keys. fine (record { cores = p.0; order = keys })) plan q.2 in
    subst (PlanFacts headings) (the_same (record { cores = p.0; order = r.0 }) plan r.2)
    (record { cores = cores_planned headings select.cores p.0 p.1; agree = q.0; sides = q.1 })
