-- The columns of what the steps give are those of the plan.
use Rattle.std.proofs.Common.{◌≡◌, ℕ, Bool, true, false, ◌&&◌, ◌||◌, Option, Some, None, Ok, Err, List, [], ◌∷◌, ◌++◌, map, length, take, refl, sym, ap, ◌∙◌, subst}
use Rattle.std.specs.Prelude.{if◌then◌else◌}
use Rattle.std.specs.Bool.{⊤}
use Rattle.std.specs.List.{list_any}
use Rattle.std.specs.Str.{bytes_eq}
use Rattle.value_types.specs.declared.row_id.RowId.{First, Second}
use Rattle.dataset_types.specs.Tables.{TableData, Distinct, column_names}
use Rattle.dataset_types.specs.declared.picks.Pick.{Pick}
use Rattle.cell_errors.specs.Answers.{and_then, collect}
use Rattle.cell_errors.specs.declared.fault.CellError.TheVariants as error
use Rattle.expr_lang.specs.declared.expr.Expr.{Expr}
use Rattle.expr_meaning.specs.declared.bindings.ScopeColumn.{ScopeColumn}
use Rattle.relations.specs.declared.batch.Batch.{Batch}
use Rattle.relations.specs.declared.parts.Item.{Item}
use Rattle.relations.specs.declared.parts.SortKey.{SortKey}
use Rattle.relations.specs.Rels.{RelData, rel_of, whole, qualified, bare_columns}
use Rattle.relations.specs.Batches.{gathered}
use Rattle.relations.proofs.Gathered.{fine, the_same, then_ok, whole_ok}
use Rattle.rel_ops.specs.Filter.{where_row, filtered}
use Rattle.rel_ops.specs.Project.{item_columns, item_row, projected, projected_to}
use Rattle.rel_ops.specs.Sort.{ordered, in_order, has_marked_key}
use Rattle.rel_ops.specs.Limit.{limited, doubted, is_uncertain}
use Rattle.rel_ops.specs.Union.{united, sided, column_types}
use Rattle.rel_ops.proofs.UnionLaws.{types_decide}
use Rattle.rel_join.specs.declared.kind.Kind.{Kind}
use Rattle.rel_join.specs.Join.{left_row, few_pairs, all_pairs, joined}
use Rattle.rel_group.specs.Keys.{are_places}
use Rattle.rel_group.specs.Groups as groups
use Rattle.rel_group.specs.Group as group
use Rattle.rel_group.specs.Group.{grouped, grouped_to, distinct, rows_of}
use Rattle.sql_parse.specs.declared.tables.TableRef.{TableRef}
use Rattle.sql_parse.specs.declared.tables.JoinPart.{JoinPart}
use Rattle.sql_parse.specs.declared.cores.Core.{Core}
use Rattle.sql_plan.specs.declared.heading.Heading.{Heading}
use Rattle.sql_plan.specs.declared.core_plan.CorePlan.{CorePlan}
use Rattle.sql_plan.specs.Folds.{folded}
use Rattle.sql_plan.specs.Headings.{columns_of, table_columns}
use Rattle.sql_plan.specs.Conditions.{condition_checked}
use Rattle.sql_plan.specs.Cores.{join_checked, tables_checked, is_grouped, keys_if}
use Rattle.sql_plan.specs.Plan.{outputs, agrees, all_agree, sides_checked}
use Rattle.expr_meaning.specs.Types.{over_columns}
use Rattle.sql_plan.proofs.Facts.{CoreFacts, core_facts, setting_by, names_are}
use Rattle.sql_meaning.specs.Steps.{Steps, kind_of, table_of, as_relation_under, rel_at, joined_with, joined_tables, filter_if, output_by, distinct_if, core_rel, all_united, limit_if, headings_of}
use Rattle.sql_meaning.specs.Select.{marked_steps}
use Rattle.sql_meaning.specs.Calls.{IsPlanned, ArePlanned, AllAgree, SidesAgree}
use Rattle.sql_meaning.proofs.KeyNames.{outputs_kept}
use Rattle.sql_meaning.proofs.KeyPlaces.{keys_are_places}

abbrev Cols : RelData → List ScopeColumn
Cols r = r.columns

-- a whole result has its own columns
whole_columns : (r out : RelData) → whole r ≡ Ok out → Cols out ≡ Cols r
whole_columns r out e = ap Cols (sym (whole_ok r out e))

-- ---- each step

filter_columns : (rel out : RelData) (condition : Expr) (picks : List Pick) (cell : ℕ) → filtered rel condition picks cell ≡ Ok out → Cols out ≡ Cols rel
filter_columns rel out condition picks cell e =
    let made = λ (b : Batch). rel_of rel.columns b.rows (rel.is_open || b.marked) rel.is_loose in
    let p = then_ok (gathered (where_row rel.columns condition picks cell) rel.rows) (λ b. whole (made b)) out e in
    whole_columns (made p.0) out p.2

join_columns : (kind : Kind) (a b out : RelData) (on : Expr) (picks : List Pick) (cell : ℕ) → joined kind a b on picks cell ≡ Ok out → Cols out ≡ Cols a ++ Cols b
join_columns kind a b out on picks cell e =
    let made = λ (m : Batch). rel_of (a.columns ++ b.columns) m.rows ((a.is_open || b.is_open) || m.marked) (a.is_loose || b.is_loose) in
    let p = then_ok (few_pairs (length a.rows) (length b.rows)) (λ u. all_pairs kind a b on picks cell) out e in
    let q = then_ok (gathered (left_row kind a.columns b on picks cell) a.rows) (λ m. whole (made m)) out p.2 in
    whole_columns (made q.0) out q.2

project_columns : (rel out : RelData) (items : List Item) (picks : List Pick) (cell : ℕ) → projected rel items picks cell ≡ Ok out → item_columns (over_columns rel.columns) items ≡ Ok out.columns
project_columns rel out items picks cell e =
    let p = then_ok (item_columns (over_columns rel.columns) items) (λ columns. projected_to columns rel items picks cell) out e in
    let made = λ (b : Batch). rel_of p.0 b.rows rel.is_open rel.is_loose in
    let q = then_ok (gathered (item_row rel.columns items picks cell) rel.rows) (λ b. whole (made b)) out p.2 in
    p.1 ∙ ap fine (sym (whole_columns (made q.0) out q.2))

grouped_columns : (rel out : RelData) (places : List ℕ) (having : Option Expr) (items : List Item) (picks : List Pick) (cell : ℕ) →
    grouped rel places having items picks cell ≡ Ok out → item_columns (groups.group_types rel.columns places) items ≡ Ok out.columns
grouped_columns rel out places having items picks cell e =
    let p = then_ok (item_columns (groups.group_types rel.columns places) items) (λ columns. grouped_to columns rel places having items picks cell) out e in
    let made = λ (b : Batch). rel_of p.0 b.rows (groups.may_lack_groups places rel || b.marked) false in
    let q = then_ok (rows_of rel places having items picks cell) (λ b. whole (made b)) out p.2 in
    p.1 ∙ ap fine (sym (whole_columns (made q.0) out q.2))

distinct_columns : (rel out : RelData) → distinct rel ≡ Ok out → Cols out ≡ Cols rel
distinct_columns rel out e =
    whole_columns (rel_of rel.columns (map group.key_row (groups.keyed_groups [] None rel.rows)) (groups.is_uncertain None rel) false) out e

pub union_columns : (a b out : RelData) → united a b ≡ Ok out → Cols out ≡ Cols a
union_columns a b out e =
    whole_columns (rel_of a.columns (map (sided First) a.rows ++ map (sided Second) b.rows) (a.is_open || b.is_open) (a.is_loose || b.is_loose)) out e

sort_columns : (rel out : RelData) (keys : List SortKey) → ordered rel keys ≡ Ok out → Cols out ≡ Cols rel
sort_columns rel out keys e =
    whole_columns (rel_of rel.columns (in_order keys rel.rows) rel.is_open (rel.is_loose || list_any (has_marked_key keys) rel.rows)) out e

limit_columns : (rel out : RelData) (n : ℕ) → limited rel n ≡ Ok out → Cols out ≡ Cols rel
limit_columns rel out n e =
    whole_columns (rel_of rel.columns (map (doubted (is_uncertain rel)) (take n rel.rows)) (is_uncertain rel) rel.is_loose) out e

module _ (picks : List Pick) (cell : ℕ) where
  abbrev S : Steps TableData RelData
  S = marked_steps picks cell

  limit_if_columns : (rel out : RelData) (count : Option ℕ) → limit_if S rel count ≡ Ok out → Cols out ≡ Cols rel
  limit_if_columns rel out None e = ap Cols (sym (the_same rel out e))
  limit_if_columns rel out (Some n) e = limit_columns rel out n e

  pub filter_if_columns : (rel out : RelData) (condition : Option Expr) → filter_if S rel condition ≡ Ok out → Cols out ≡ Cols rel
  filter_if_columns rel out None e = ap Cols (sym (the_same rel out e))
  filter_if_columns rel out (Some condition) e = filter_columns rel out condition picks cell e

  distinct_if_columns : (b : Bool) (rel out : RelData) → distinct_if S b rel ≡ Ok out → Cols out ≡ Cols rel
  distinct_if_columns true rel out e = distinct_columns rel out e
  distinct_if_columns false rel out e = ap Cols (sym (the_same rel out e))

  module _ (tables : List (List ℕ × TableData)) where
    abbrev H : List Heading
    H = headings_of S tables

    -- ---- FROM

    table_there : (ts : List (List ℕ × TableData)) (name : List ℕ) (t : TableData) → table_of ts name ≡ Some t → t.columns ≡ columns_of (headings_of S ts) name
    table_there [] name t e = cc
    table_there (x ∷ ts) name t e = by (bytes_eq x.0 name) refl (table_there ts name t)
      where
        by : (b : Bool) → bytes_eq x.0 name ≡ b → (table_of ts name ≡ Some t → t.columns ≡ columns_of (headings_of S ts) name) →
            t.columns ≡ columns_of (headings_of S (x ∷ ts)) name
        by true is rest = let same : Some x.1 ≡ Some t = rw is at e in let one : x.1 ≡ t = cc in rw is (ap (λ (z : TableData). z.columns) (sym one))
        by false is rest = rw is (rest (rw is at e))

    opened_columns : (t : TableRef) (o : Option TableData) (rel : RelData) → table_of tables t.dataset ≡ o → as_relation_under S t o ≡ Ok rel → Cols rel ≡ table_columns H t
    opened_columns t None rel is e = cc
    opened_columns t (Some table) rel is e =
        ap Cols (sym (the_same (S.as_relation (Some t.qualifier) table) rel e)) ∙ ap (map (qualified (Some t.qualifier))) (table_there tables t.dataset table is)

    -- a table under its qualifier
    pub rel_columns : (t : TableRef) (rel : RelData) → rel_at S tables t ≡ Ok rel → Cols rel ≡ table_columns H t
    rel_columns t rel e = opened_columns t (table_of tables t.dataset) rel refl e

    pub joined_columns : (sofar out : RelData) (j : JoinPart) → joined_with S tables sofar j ≡ Ok out → Cols out ≡ Cols sofar ++ table_columns H j.table
    joined_columns sofar out j e =
        let p = then_ok (rel_at S tables j.table) (λ right. S.join (kind_of j.left) sofar right j.on) out e in
        join_columns (kind_of j.left) sofar p.0 out j.on picks cell p.2 ∙ ap (λ cs. Cols sofar ++ cs) (rel_columns j.table p.0 p.1)

    all_joined : (joins : List JoinPart) (sofar out : RelData) (columns : List ScopeColumn) → folded (joined_with S tables) sofar joins ≡ Ok out →
        folded (join_checked H) (Cols sofar) joins ≡ Ok columns → Cols out ≡ columns
    all_joined [] sofar out columns e k = ap Cols (sym (the_same sofar out e)) ∙ the_same (Cols sofar) columns k
    all_joined (j ∷ js) sofar out columns e k =
        let p = then_ok (joined_with S tables sofar j) (λ both. folded (joined_with S tables) both js) out e in
        let q = then_ok (join_checked H (Cols sofar) j) (λ more. folded (join_checked H) more js) columns k in
        let r = then_ok (condition_checked (over_columns (Cols sofar ++ table_columns H j.table)) j.on) (λ u. fine (Cols sofar ++ table_columns H j.table)) q.0 q.1 in
        let same : q.0 ≡ Cols p.0 = sym (the_same (Cols sofar ++ table_columns H j.table) q.0 r.2) ∙ sym (joined_columns sofar p.0 j p.1) in
        all_joined js p.0 out columns p.2 (subst (λ cs. folded (join_checked H) cs js ≡ Ok columns) same q.2)

    -- FROM has the columns of all its tables
    pub from_columns : (core : Core) (out : RelData) (columns : List ScopeColumn) → joined_tables S tables core ≡ Ok out → tables_checked H core ≡ Ok columns → Cols out ≡ columns
    from_columns core out columns e k =
        let p = then_ok (rel_at S tables core.table) (λ first. folded (joined_with S tables) first core.joins) out e in
        all_joined core.joins p.0 out columns p.2 (subst (λ cs. folded (join_checked H) cs core.joins ≡ Ok columns) (sym (rel_columns core.table p.0 p.1)) k)

    -- ---- a core

    keys_apart : (g : Bool) (places ks : List ℕ) → keys_if g places ≡ Some ks → places ≡ ks
    keys_apart true places ks e = cc
    keys_apart false places ks e = cc

    -- the keys of a plan are places of its columns
    pub keys_are : (core : Core) (c : CorePlan) (facts : CoreFacts H core c) (ks : List ℕ) → c.keys ≡ Some ks → are_places facts.columns ks ≡ true
    keys_are core c facts ks e =
        subst (λ z. are_places facts.columns z ≡ true) (keys_apart (is_grouped core c.items) facts.places ks (sym facts.keys ∙ e))
        (keys_are_places facts.columns core.group_by facts.places facts.found)

    output_columns : (core : Core) (c : CorePlan) (facts : CoreFacts H core c) (rows out : RelData) (having : Option Expr) → Cols rows ≡ facts.columns →
        output_by S rows c.keys having c.items ≡ Ok out → Cols out ≡ c.columns
    output_columns core c facts rows out having is e = by c.keys refl e facts.outputs
      where
        by : (keys : Option (List ℕ)) → c.keys ≡ keys → output_by S rows keys having c.items ≡ Ok out → item_columns (setting_by keys facts.columns) c.items ≡ Ok c.columns → Cols out ≡ c.columns
        by None k made are =
            the_same (Cols out) c.columns (sym (project_columns rows out c.items picks cell made) ∙ (ap (λ cs. item_columns (over_columns cs) c.items) is ∙ are))
        by (Some ks) k made are =
            the_same (Cols out) c.columns (sym (grouped_columns rows out ks having c.items picks cell made)
            ∙ (ap (λ cs. item_columns (groups.group_types cs ks) c.items) is ∙ outputs_kept facts.columns ks (keys_are core c facts ks k) c.items c.columns are))

    -- the rows of a core have the columns of its plan
    pub core_columns : (c : CorePlan) (out : RelData) → IsPlanned H c → core_rel S tables c ≡ Ok out → Cols out ≡ c.columns
    core_columns c out planned e =
        let facts = core_facts H c.core c planned in
        let p = then_ok (joined_tables S tables c.core) (λ all. and_then (filter_if S all c.core.condition) (λ rows.
        and_then (output_by S rows c.keys c.core.having c.items) (λ made. distinct_if S c.core.distinct made))) out e in
        let q = then_ok (filter_if S p.0 c.core.condition) (λ rows. and_then (output_by S rows c.keys c.core.having c.items) (λ made. distinct_if S c.core.distinct made)) out p.2 in
        let r = then_ok (output_by S q.0 c.keys c.core.having c.items) (λ made. distinct_if S c.core.distinct made) out q.2 in
        distinct_if_columns c.core.distinct r.0 out r.2
        ∙ output_columns c.core c facts q.0 r.0 c.core.having (filter_if_columns p.0 q.0 c.core.condition q.1 ∙ from_columns c.core p.0 facts.columns p.1 facts.tables) r.1

    -- ---- the sides of UNION

    abbrev HaveColumns : List RelData → List CorePlan → Type 0
    HaveColumns [] [] = ⊤
    HaveColumns (r ∷ rs) (c ∷ cs) = (Cols r ≡ c.columns) × HaveColumns rs cs
    HaveColumns _ _ = ⊥

    sides_have : (cores : List CorePlan) (rels : List RelData) → ArePlanned H cores → collect (core_rel S tables) cores ≡ Ok rels → HaveColumns rels cores
    sides_have [] rels planned e = subst (λ z. HaveColumns z []) (the_same [] rels e) tt
    sides_have (c ∷ cs) rels planned e =
        let p = then_ok (core_rel S tables c) (λ y. and_then (collect (core_rel S tables) cs) (λ ys. fine (y ∷ ys))) rels e in
        let q = then_ok (collect (core_rel S tables) cs) (λ ys. fine (p.0 ∷ ys)) rels p.2 in
        subst (λ z. HaveColumns z (c ∷ cs)) (the_same (p.0 ∷ q.0) rels q.2) (core_columns c p.0 planned.0 p.1, sides_have cs q.0 planned.1 q.1)

    parts : (a b : Bool) → a && b ≡ true → (a ≡ true) × (b ≡ true)
    parts true b e = (refl, e)
    parts false b e = cc

    rest_agree : (first : List ScopeColumn) (rels : List RelData) (cores : List CorePlan) → HaveColumns rels cores → all_agree first cores ≡ true → AllAgree first rels
    rest_agree first [] [] have e = tt
    rest_agree first (r ∷ rs) (c ∷ cs) have e =
        let h = parts (agrees first c) (all_agree first cs) e in
        ((types_decide first c.columns).0 h.0 ∙ ap column_types (sym have.0), rest_agree first rs cs have.1 h.1)
    rest_agree first [] (c ∷ cs) have e = absurd have
    rest_agree first (r ∷ rs) [] have e = absurd have

    passed : (b : Bool) (u : Unit {0}) → (if b then Ok tt else Err error.TypeFault) ≡ Ok u → b ≡ true
    passed true u e = refl
    passed false u e = cc

    -- the sides of UNION have the types that its check asks for
    pub sides_agree : (cores : List CorePlan) (rels : List RelData) (u : Unit {0}) → ArePlanned H cores → collect (core_rel S tables) cores ≡ Ok rels → sides_checked cores ≡ Ok u →
        SidesAgree rels
    sides_agree cores rels u planned e k = by cores rels (sides_have cores rels planned e) (passed (all_agree (outputs cores) cores) u k)
      where
        by : (cores : List CorePlan) (rels : List RelData) → HaveColumns rels cores → all_agree (outputs cores) cores ≡ true → SidesAgree rels
        by [] [] have fits = tt
        by (c ∷ cs) (r ∷ rs) have fits =
            subst (λ z. AllAgree z rs) (sym have.0) (rest_agree c.columns rs cs have.1 (parts (agrees c.columns c) (all_agree c.columns cs) fits).1)
        by [] (r ∷ rs) have fits = absurd have
        by (c ∷ cs) [] have fits = absurd have

    united_columns : (others : List RelData) (first out : RelData) → folded S.union first others ≡ Ok out → Cols out ≡ Cols first
    united_columns [] first out e = ap Cols (sym (the_same first out e))
    united_columns (r ∷ rs) first out e =
        let p = then_ok (S.union first r) (λ both. folded S.union both rs) out e in
        united_columns rs p.0 out p.2 ∙ union_columns first r p.0 p.1

    all_columns : (cores : List CorePlan) (rels : List RelData) (all : RelData) → HaveColumns rels cores → all_united S rels ≡ Ok all → Cols all ≡ outputs cores
    all_columns [] [] all have e = ap Cols (sym (the_same S.nothing all e))
    all_columns (c ∷ cs) (r ∷ rs) all have e = united_columns rs r all e ∙ have.0
    all_columns [] (r ∷ rs) all have e = absurd have
    all_columns (c ∷ cs) [] all have e = absurd have

    names_once : (cores : List CorePlan) → ArePlanned H cores → Distinct (column_names (bare_columns (outputs cores)))
    names_once [] planned = tt
    names_once (c ∷ cs) planned =
        let facts = core_facts H c.core c planned.0 in
        subst Distinct (sym (names_are (setting_by c.keys facts.columns) c.items c.columns facts.outputs)) facts.names

    -- the output names of a SELECT are distinct
    pub final_names : (cores : List CorePlan) (rels : List RelData) (all sorted first : RelData) (keys : List SortKey) (count : Option ℕ) → ArePlanned H cores →
        collect (core_rel S tables) cores ≡ Ok rels → all_united S rels ≡ Ok all → ordered all keys ≡ Ok sorted → limit_if S sorted count ≡ Ok first →
        Distinct (column_names (bare_columns first.columns))
    final_names cores rels all sorted first keys count planned e k o l =
        subst (λ cs. Distinct (column_names (bare_columns cs)))
        (sym (limit_if_columns sorted first count l ∙ sort_columns all sorted keys o ∙ all_columns cores rels all (sides_have cores rels planned e) k))
        (names_once cores planned)
