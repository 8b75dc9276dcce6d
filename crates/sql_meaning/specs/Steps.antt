-- SELECT over tables of any kind, from its steps over relations: read once with marks, and once without them.
use Rattle.std.specs.Prelude.{ℕ, Bool, true, false, if◌then◌else◌, Option, Some, None, Ok, Err, List, [], ◌∷◌, map}
use Rattle.std.specs.Str.{bytes_eq}
use Rattle.dataset_types.specs.declared.column.Column.{Column}
use Rattle.cell_errors.specs.Answers.{Answer, and_then, collect}
use Rattle.cell_errors.specs.declared.fault.CellError.TheVariants as error
use Rattle.expr_lang.specs.declared.expr.Expr.{Expr}
use Rattle.expr_meaning.specs.Names.{Name}
use Rattle.relations.specs.declared.parts.Item.{Item}
use Rattle.relations.specs.declared.parts.SortKey.{SortKey}
use Rattle.rel_join.specs.declared.kind.Kind.{Kind}
use Rattle.rel_join.specs.declared.kind.Kind.TheVariants.{Inner, Outer}
use Rattle.sql_parse.specs.declared.tables.TableRef.{TableRef}
use Rattle.sql_parse.specs.declared.tables.JoinPart.{JoinPart}
use Rattle.sql_parse.specs.declared.cores.Core.{Core}
use Rattle.sql_parse.specs.declared.select.Select.{Select}
use Rattle.sql_plan.specs.declared.heading.Heading.{Heading}
use Rattle.sql_plan.specs.declared.core_plan.CorePlan.{CorePlan}
use Rattle.sql_plan.specs.declared.plan.Plan.{Plan}
use Rattle.sql_plan.specs.Folds.{folded}
use Rattle.sql_plan.specs.Plan.{checked}

-- the steps over tables T and relations R
pub record Steps (T R : Type 0) : Type 0 where
  -- the columns of a table
  pub columns : T → List Column
  -- a table as a relation, its columns under a qualifier
  pub as_relation : Option Name → T → R
  -- JOIN and LEFT JOIN
  pub join : Kind → R → R → Expr → Answer R
  -- WHERE
  pub filter : R → Expr → Answer R
  -- the items
  pub project : R → List Item → Answer R
  -- groups by the columns at these places, those for which HAVING is TRUE, and their items
  pub group : R → List ℕ → Option Expr → List Item → Answer R
  -- DISTINCT
  pub distinct : R → Answer R
  -- no columns and no rows
  pub nothing : R
  -- UNION ALL
  pub union : R → R → Answer R
  -- ORDER BY
  pub sort : R → List SortKey → Answer R
  -- LIMIT
  pub limit : R → ℕ → Answer R
  -- a relation as a table, its columns without their qualifiers
  pub as_table : R → Answer T

-- INNER or LEFT
abbrev pub kind_of : Bool → Kind
kind_of true = Outer
kind_of false = Inner

-- the table of a name
abbrev pub table_of : {T : Type 0} → List (Name × T) → Name → Option T
table_of [] name = None
table_of (t ∷ ts) name = if bytes_eq t.0 name then Some t.1 else table_of ts name

module _ {T R : Type 0} (steps : Steps T R) where
  -- the relation of a table, where it was read
  abbrev pub as_relation_under : TableRef → Option T → Answer R
  as_relation_under t None = Err error.NoDataset
  as_relation_under t (Some table) = Ok (steps.as_relation (Some t.qualifier) table)

  -- a table of FROM under its qualifier
  abbrev pub rel_at : List (Name × T) → TableRef → Answer R
  rel_at tables t = as_relation_under t (table_of tables t.dataset)

  -- the tables joined so far with one more
  abbrev pub joined_with : List (Name × T) → R → JoinPart → Answer R
  joined_with tables sofar j = and_then (rel_at tables j.table) (λ right. steps.join (kind_of j.left) sofar right j.on)

  -- FROM with its joins, one after another
  abbrev pub joined_tables : List (Name × T) → Core → Answer R
  joined_tables tables core = and_then (rel_at tables core.table) (λ first. folded (joined_with tables) first core.joins)

  -- WHERE, if there is one
  abbrev pub filter_if : R → Option Expr → Answer R
  filter_if rel None = Ok rel
  filter_if rel (Some condition) = steps.filter rel condition

  -- the items of groups where there are keys, else those of rows
  abbrev pub output_by : R → Option (List ℕ) → Option Expr → List Item → Answer R
  output_by rel None having items = steps.project rel items
  output_by rel (Some keys) having items = steps.group rel keys having items

  -- DISTINCT, if it stands there
  abbrev pub distinct_if : Bool → R → Answer R
  distinct_if true rel = steps.distinct rel
  distinct_if false rel = Ok rel

  -- the steps of a core, one after another
  abbrev pub core_rel : List (Name × T) → CorePlan → Answer R
  core_rel tables c =
      and_then (joined_tables tables c.core) (λ all.
      and_then (filter_if all c.core.condition) (λ rows.
      and_then (output_by rows c.keys c.core.having c.items) (λ out.
      distinct_if c.core.distinct out)))

  -- UNION ALL from the left
  abbrev pub all_united : List R → Answer R
  all_united [] = Ok steps.nothing
  all_united (r ∷ rs) = folded steps.union r rs

  -- LIMIT, if there is one
  abbrev pub limit_if : R → Option ℕ → Answer R
  limit_if rel None = Ok rel
  limit_if rel (Some count) = steps.limit rel count

  -- the steps of a plan: those of each core, then UNION ALL, ORDER BY and LIMIT, and the table of the result
  abbrev pub planned : List (Name × T) → Plan → Option ℕ → Answer T
  planned tables plan count =
      and_then (collect (core_rel tables) plan.cores) (λ rels.
      and_then (all_united rels) (λ all.
      and_then (steps.sort all plan.order) (λ ordered.
      and_then (limit_if ordered count) (λ first.
      steps.as_table first))))

  -- the columns of the tables
  abbrev pub headings_of : List (Name × T) → List Heading
  headings_of tables = map (λ t. record { dataset = t.0; columns = steps.columns t.1 }) tables

  -- the static checks, and then the steps
  abbrev pub selected : List (Name × T) → Select → Answer T
  selected tables select = and_then (checked select (headings_of tables)) (λ plan. planned tables plan select.limit)
