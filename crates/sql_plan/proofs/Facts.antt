-- What the steps rest on, from the plan of a core.
use Rattle.std.proofs.Common.{◌≡◌, ℕ, Bool, true, false, Option, Some, None, Ok, List, [], ◌∷◌, refl, sym, ap, ◌∙◌, subst}
use Rattle.cell_errors.specs.Answers.{and_then, collect}
use Rattle.dataset_types.specs.Tables.{Distinct, column_names}
use Rattle.expr_lang.specs.declared.expr.Expr.{Expr}
use Rattle.expr_meaning.specs.declared.bindings.ScopeColumn.{ScopeColumn}
use Rattle.expr_meaning.specs.Types.{TypeSetting, type_at, over_columns}
use Rattle.relations.specs.declared.parts.Item.{Item}
use Rattle.relations.specs.Rels.{bare_columns}
use Rattle.relations.proofs.Gathered.{fine, the_same, then_ok}
use Rattle.rel_ops.specs.Project.{item_names, output_column, item_column, item_columns}
use Rattle.sql_parse.specs.declared.cores.Core.{Core}
use Rattle.sql_plan.specs.declared.heading.Heading.{Heading}
use Rattle.sql_plan.specs.declared.core_plan.CorePlan.{CorePlan}
use Rattle.sql_plan.specs.Names.{each_once}
use Rattle.sql_plan.specs.Conditions.{some_condition_checked}
use Rattle.sql_plan.specs.Groups.{key_places, grouped_setting, output_setting}
use Rattle.sql_plan.specs.Items.{items_of}
use Rattle.sql_plan.specs.Cores.{qualifiers, tables_checked, is_grouped, keys_if, outputs_checked, items_checked, core_checked}
use Rattle.sql_plan.proofs.Naming.{once_distinct}

-- where the names of a core's items stand
abbrev pub setting_by : Option (List ℕ) → List ScopeColumn → TypeSetting
setting_by None columns = over_columns columns
setting_by (Some keys) columns = grouped_setting columns keys

-- what the check of a core found
pub record CoreFacts (headings : List Heading) (written : Core) (c : CorePlan) : Type 0 where
  pub core : c.core ≡ written
  pub qualifiers : Distinct (qualifiers written)
  pub columns : List ScopeColumn
  pub tables : tables_checked headings written ≡ Ok columns
  pub places : List ℕ
  pub found : key_places columns written.group_by ≡ Ok places
  pub keys : c.keys ≡ keys_if (is_grouped written c.items) places
  pub checked : Unit {0}
  pub having : some_condition_checked (setting_by c.keys columns) written.having ≡ Ok checked
  pub outputs : item_columns (setting_by c.keys columns) c.items ≡ Ok c.columns
  pub names : Distinct (item_names c.items)

same_setting : (g : Bool) (columns : List ScopeColumn) (keys : List ℕ) → output_setting g columns keys ≡ setting_by (keys_if g keys) columns
same_setting true columns keys = refl
same_setting false columns keys = refl

record OutputFacts (setting : TypeSetting) (condition : Option Expr) (items : List Item) (columns : List ScopeColumn) : Type 0 where
  checked : Unit {0}
  having : some_condition_checked setting condition ≡ Ok checked
  outputs : item_columns setting items ≡ Ok columns
  names : Distinct (item_names items)

output_facts : (setting : TypeSetting) (having : Option Expr) (items : List Item) (outputs : List ScopeColumn) →
    outputs_checked setting having items ≡ Ok outputs → OutputFacts setting having items outputs
output_facts setting having items outputs e =
    let h = then_ok (some_condition_checked setting having) (λ u. and_then (item_columns setting items) (λ columns. and_then (each_once (item_names items)) (λ v. fine columns))) outputs e in
    let t = then_ok (item_columns setting items) (λ columns. and_then (each_once (item_names items)) (λ v. fine columns)) outputs h.2 in
    let n = then_ok (each_once (item_names items)) (λ v. fine t.0) outputs t.2 in
    record {
      checked = h.0;
      having = h.1;
      outputs = t.1 ∙ ap fine (the_same t.0 outputs n.2);
      names = once_distinct (item_names items) n.0 n.1;
    }

pub core_facts : (headings : List Heading) (core : Core) (c : CorePlan) → core_checked headings core ≡ Ok c → CoreFacts headings core c
core_facts headings core c e =
    let p = then_ok (each_once (qualifiers core)) (λ u.
    and_then (tables_checked headings core) (λ columns.
    and_then (some_condition_checked (over_columns columns) core.condition) (λ u.
    and_then (key_places columns core.group_by) (λ keys. items_checked core columns keys)))) c e in
    let q = then_ok (tables_checked headings core) (λ columns.
    and_then (some_condition_checked (over_columns columns) core.condition) (λ u.
    and_then (key_places columns core.group_by) (λ keys. items_checked core columns keys))) c p.2 in
    let w = then_ok (some_condition_checked (over_columns q.0) core.condition) (λ u.
    and_then (key_places q.0 core.group_by) (λ keys. items_checked core q.0 keys)) c q.2 in
    let k = then_ok (key_places q.0 core.group_by) (λ keys. items_checked core q.0 keys) c w.2 in
    let items = items_of q.0 core.items in
    let g = is_grouped core items in
    let made : List ScopeColumn → CorePlan = λ outputs. record { core = core; keys = keys_if g k.0; items = items; columns = outputs } in
    let o = then_ok (outputs_checked (output_setting g q.0 k.0) core.having items) (λ outputs. fine (made outputs)) c k.2 in
    let f = output_facts (output_setting g q.0 k.0) core.having items o.0 o.1 in
    subst (CoreFacts headings core) (the_same (made o.0) c o.2) (record {
      core = refl;
      qualifiers = once_distinct (qualifiers core) p.0 p.1;
      columns = q.0;
      tables = q.1;
      places = k.0;
      found = k.1;
      keys = refl;
      checked = f.checked;
      having = subst (λ s. some_condition_checked s core.having ≡ Ok f.checked) (same_setting g q.0 k.0) f.having;
      outputs = subst (λ s. item_columns s items ≡ Ok o.0) (same_setting g q.0 k.0) f.outputs;
      names = f.names;
    })

-- the output columns have the names of the items
pub names_are : (setting : TypeSetting) (items : List Item) (columns : List ScopeColumn) → item_columns setting items ≡ Ok columns →
    column_names (bare_columns columns) ≡ item_names items
names_are setting [] columns e = ap (λ cs. column_names (bare_columns cs)) (sym (the_same [] columns e))
names_are setting (i ∷ is) columns e =
    let p = then_ok (item_column setting i) (λ y. and_then (collect (item_column setting) is) (λ ys. fine (y ∷ ys))) columns e in
    let q = then_ok (collect (item_column setting) is) (λ ys. fine (p.0 ∷ ys)) columns p.2 in
    let t = then_ok (type_at setting i.expr) (λ t. fine (output_column i.name t)) p.0 p.1 in
    ap (λ cs. column_names (bare_columns cs)) (sym (the_same (p.0 ∷ q.0) columns q.2))
    ∙ (ap (λ c. c.column.name ∷ column_names (bare_columns q.0)) (sym (the_same (output_column i.name t.0) p.0 t.2))
    ∙ ap (λ z. i.name ∷ z) (names_are setting is q.0 q.1))
