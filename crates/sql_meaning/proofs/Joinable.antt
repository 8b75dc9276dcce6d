-- Tables of distinct qualifiers share no column.
use Rattle.std.proofs.Common.{◌≡◌, ℕ, zero, suc, ◌<◌, Some, List, [], ◌∷◌, ◌++◌, map, length, get_or, refl, sym, ap, ◌∙◌, subst, inl, inr, append_assoc, arith}
use Rattle.std.specs.Prelude.{Option}
use Rattle.std.specs.List.{Contains}
use Rattle.std.proofs.lemmas.List.{map-append}
use Rattle.std.proofs.lemmas.List.Elements.{Contains-append_left, Contains-append_right, Contains-append_cases}
use Rattle.dataset_types.specs.declared.column.Column.{Column}
use Rattle.dataset_types.specs.Tables.{Distinct}
use Rattle.dataset_types.proofs.TableLemmas.{empty_contains, Contains-cases}
use Rattle.expr_meaning.specs.declared.bindings.ScopeColumn.{ScopeColumn}
use Rattle.expr_meaning.specs.Names.{Name}
use Rattle.relations.specs.Rels.{column_key, column_keys, qualified}
use Rattle.rel_join.specs.Rules.{AreApart}
use Rattle.sql_parse.specs.declared.tables.TableRef.{TableRef}
use Rattle.sql_parse.specs.declared.tables.JoinPart.{JoinPart}
use Rattle.sql_plan.specs.declared.heading.Heading.{Heading}
use Rattle.sql_plan.specs.declared.core_plan.CorePlan.{CorePlan}
use Rattle.sql_plan.specs.Headings.{columns_of, table_columns}
use Rattle.sql_plan.proofs.Facts.{core_facts}
use Rattle.sql_meaning.specs.Calls.{IsPlanned, ArePlanned, AreJoinable}

abbrev Key : Type 0
Key = Option Name × Name

-- each column is under one of these qualifiers
abbrev Under : List Name → List ScopeColumn → Type 0
Under names columns = (key : Key) → Contains (column_keys columns) key → (n : Name) × Contains names n × (key.0 ≡ Some n)

-- the columns of a table are under its qualifier
of_table : (q : Name) (columns : List Column) (key : Key) → Contains (column_keys (map (qualified (Some q)) columns)) key → key.0 ≡ Some q
of_table q [] key held = absurd (empty_contains key held)
of_table q (c ∷ cs) key held = elim (Contains-cases (Some q, c.name) (column_keys (map (qualified (Some q)) cs)) key held) [
  | inl e ↦ ap (λ (k : Key). k.0) (sym e)
  | inr there ↦ of_table q cs key there
]

stands : (q : Name) → Contains (q ∷ []) q
stands q = (0, omega arith, refl)

table_under : (headings : List Heading) (t : TableRef) → Under (t.qualifier ∷ []) (table_columns headings t)
table_under headings t key held = (t.qualifier, stands t.qualifier, of_table t.qualifier (columns_of headings t.dataset) key held)

more_under : (names : List Name) (q : Name) (columns more : List ScopeColumn) → Under names columns → Under (q ∷ []) more → Under (names ++ q ∷ []) (columns ++ more)
more_under names q columns more u v key held =
    elim (Contains-append_cases (column_keys columns) (column_keys more) key (subst (λ ks. Contains ks key) (map-append column_key columns more) held)) [
      | inl there ↦ let h = u key there in (h.0, Contains-append_left names (q ∷ []) h.0 h.1, h.2)
      | inr there ↦ let h = v key there in (h.0, Contains-append_right names (q ∷ []) h.0 h.1, h.2)
    ]

-- a name that stands once doesn't stand before itself
pub not_before : (xs ys : List Name) (y : Name) → Distinct (xs ++ y ∷ ys) → Contains xs y → ⊥
not_before [] ys y d held = empty_contains y held
not_before (x ∷ xs) ys y d held = elim (Contains-cases x xs y held) [
  | inl e ↦ d.0 (subst (λ z. Contains (xs ++ y ∷ ys) z) (sym e) (Contains-append_right xs (y ∷ ys) y (0, omega arith, refl)))
  | inr there ↦ not_before xs ys y d.1 there
]

apart_from : (names : List Name) (q : Name) (left right : List ScopeColumn) → Under names left → Under (q ∷ []) right → (Contains names q → ⊥) → AreApart left right
apart_from names q left right u v fresh = record {
  on_one = λ key l r.
      let a = u key l in
      let b = v key r in
      let same : a.0 ≡ q = one a.0 b.0 q (sym a.2 ∙ b.2) (only b.0 b.1) in
      fresh (subst (Contains names) same a.1);
}
  where
    only : (n : Name) → Contains (q ∷ []) n → q ≡ n
    only n held = elim (Contains-cases q [] n held) [ inl e ↦ e | inr there ↦ absurd (empty_contains n there) ]

    one : (a b q : Name) → Some a ≡ Some b → q ≡ b → a ≡ q
    one a b q e k = cc

abbrev join_qualifiers : List JoinPart → List Name
join_qualifiers joins = map (λ (j : JoinPart). j.table.qualifier) joins

all_apart : (headings : List Heading) (joins : List JoinPart) (names : List Name) (columns : List ScopeColumn) → Distinct (names ++ join_qualifiers joins) → Under names columns →
    AreJoinable headings columns joins
all_apart headings [] names columns d u = tt
all_apart headings (j ∷ js) names columns d u = (
  apart_from names j.table.qualifier columns (table_columns headings j.table) u (table_under headings j.table) (not_before names (join_qualifiers js) j.table.qualifier d),
  all_apart headings js (names ++ j.table.qualifier ∷ []) (columns ++ table_columns headings j.table)
      (subst Distinct (sym (append_assoc names (j.table.qualifier ∷ []) (join_qualifiers js))) d)
      (more_under names j.table.qualifier columns (table_columns headings j.table) u (table_under headings j.table)),
)

-- the tables of a planned core can be joined
pub core_joinable : (headings : List Heading) (c : CorePlan) → IsPlanned headings c → AreJoinable headings (table_columns headings c.core.table) c.core.joins
core_joinable headings c planned =
    all_apart headings c.core.joins (c.core.table.qualifier ∷ []) (table_columns headings c.core.table) (core_facts headings c.core c planned).qualifiers (table_under headings c.core.table)

-- one of the planned cores is planned
pub planned_at : (headings : List Heading) (cores : List CorePlan) (i : ℕ) (c : CorePlan) → ArePlanned headings cores → i < length cores → c ≡ get_or cores i c → IsPlanned headings c
planned_at headings [] i c planned lt is = absurd (omega (arith, lt))
planned_at headings (d ∷ cs) zero c planned lt is = subst (IsPlanned headings) (sym is) planned.0
planned_at headings (d ∷ cs) (suc i) c planned lt is = planned_at headings cs i c planned.1 (omega (arith, lt)) is
