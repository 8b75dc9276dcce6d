-- Where the tables of two SELECTs show the same, so do their results: each step keeps it, and so do all of them.
use Rattle.std.proofs.Common.{◌≡◌, ℕ, Bool, true, false, Option, Some, None, Ok, Err, List, [], ◌∷◌, map, refl, sym, ap, ◌∙◌, subst}
use Rattle.std.specs.Prelude.{if◌then◌else◌}
use Rattle.std.specs.Bool.{⊤}
use Rattle.std.specs.Str.{bytes_eq}
use Rattle.dataset_types.specs.declared.column.Column.{Column}
use Rattle.dataset_types.specs.declared.picks.Pick.{Pick}
use Rattle.dataset_types.specs.Tables.{TableData, Distinct, IsTable, table_of as table_from, within_limits as table_limits}
use Rattle.caveat_marks.specs.Shown.{ShownTable, shown}
use Rattle.cell_errors.specs.Answers.{and_then, collect}
use Rattle.cell_errors.specs.declared.fault.CellError.TheVariants as error
use Rattle.expr_lang.specs.declared.expr.Expr.{Expr}
use Rattle.relations.specs.declared.parts.Item.{Item}
use Rattle.relations.specs.declared.parts.SortKey.{SortKey}
use Rattle.relations.specs.Rels.{RelData, IsRel, qualified, bare_columns, rel_table, table_rel}
use Rattle.relations.specs.Shown.{SameShown, shown_rel}
use Rattle.relations.proofs.FromTable.{table_is_rel}
use Rattle.relations.proofs.Gathered.{fine, the_same, then_ok}
use Rattle.rel_ops.specs.Project.{item_names}
use Rattle.rel_ops.specs.Union.{column_types}
use Rattle.rel_ops.proofs.FilterLaws.{filter_keeps_shown}
use Rattle.rel_ops.proofs.ProjectLaws.{project_keeps_shown}
use Rattle.rel_ops.proofs.SortLaws.{sort_keeps_shown}
use Rattle.rel_ops.proofs.LimitLaws.{limit_keeps_shown}
use Rattle.rel_ops.proofs.UnionLaws.{union_keeps_shown}
use Rattle.rel_join.specs.declared.kind.Kind.{Kind}
use Rattle.rel_join.specs.Rules.{AreApart}
use Rattle.rel_join.specs.Join.{joined}
use Rattle.rel_join.proofs.SameJoin.{join_keeps_shown}
use Rattle.rel_group.specs.Groups as groups
use Rattle.rel_group.specs.Laws.{IsTyped}
use Rattle.rel_group.proofs.SameGroup.{group_keeps_shown, distinct_keeps_shown}
use Rattle.sql_parse.specs.declared.tables.TableRef.{TableRef}
use Rattle.sql_parse.specs.declared.tables.JoinPart.{JoinPart}
use Rattle.sql_parse.specs.declared.cores.Core.{Core}
use Rattle.sql_parse.specs.declared.select.Select.{Select}
use Rattle.sql_plan.specs.declared.heading.Heading.{Heading}
use Rattle.sql_plan.specs.declared.core_plan.CorePlan.{CorePlan}
use Rattle.sql_plan.specs.declared.plan.Plan.{Plan}
use Rattle.sql_plan.specs.Folds.{folded}
use Rattle.sql_plan.specs.Headings.{table_columns}
use Rattle.sql_plan.specs.Plan.{checked}
use Rattle.sql_plan.specs.Conditions.{some_condition_checked}
use Rattle.sql_plan.proofs.Facts.{core_facts, setting_by}
use Rattle.sql_meaning.specs.Steps.{Steps, kind_of, table_of, as_relation_under, rel_at, joined_with, joined_tables, filter_if, output_by, distinct_if, core_rel, all_united, limit_if, planned, headings_of, selected}
use Rattle.sql_meaning.specs.Select.{marked_steps}
use Rattle.sql_meaning.specs.Calls.{IsPlanned, ArePlanned, AreJoinable, AllAgree, SidesAgree}
use Rattle.sql_meaning.proofs.KeyNames.{having_kept}
use Rattle.sql_meaning.proofs.Columns.{filter_if_columns, rel_columns, joined_columns, from_columns, keys_are, sides_agree, union_columns}
use Rattle.sql_meaning.proofs.Joinable.{core_joinable}
use Rattle.sql_meaning.proofs.Planned.{plan_facts}
use Rattle.sql_meaning.proofs.Rels.{filter_is, join_is, project_is, group_is, distinct_is, union_is, sort_is, limit_is}

-- two relations that show the same
record Pair (a b : RelData) : Type 0 where
  is : IsRel a
  too : IsRel b
  same : SameShown (shown_rel a) (shown_rel b)

-- pair by pair
abbrev Pairs : List RelData → List RelData → Type 0
Pairs [] [] = ⊤
Pairs (a ∷ xs) (b ∷ ys) = Pair a b × Pairs xs ys
Pairs _ _ = ⊥

pair_at : (a b x y : RelData) → Pair a b → fine a ≡ fine x → fine b ≡ fine y → Pair x y
pair_at a b x y p e k = subst (λ z. Pair z y) (the_same a x e) (subst (Pair a) (the_same b y k) p)

-- two tables of one name that show the same
pub record SameTable (t u : List ℕ × TableData) : Type 0 where
  pub name : t.0 ≡ u.0
  pub is : IsTable t.1
  pub too : IsTable u.1
  pub same : shown t.1 ≡ shown u.1

abbrev pub SameTables : List (List ℕ × TableData) → List (List ℕ × TableData) → Type 0
SameTables [] [] = ⊤
SameTables (t ∷ ts) (u ∷ us) = SameTable t u × SameTables ts us
SameTables _ _ = ⊥

abbrev MaySame : Option TableData → Option TableData → Type 0
MaySame None None = ⊤
MaySame (Some t) (Some u) = IsTable t × IsTable u × (shown t ≡ shown u)
MaySame _ _ = ⊥

abbrev shown_columns : ShownTable → List Column
shown_columns s = s.columns

found_same : (ts us : List (List ℕ × TableData)) → SameTables ts us → (name : List ℕ) → MaySame (table_of ts name) (table_of us name)
found_same [] [] s name = tt
found_same (t ∷ ts) (u ∷ us) s name =
    subst (λ n. MaySame (table_of (t ∷ ts) name) (if bytes_eq n name then Some u.1 else table_of us name)) s.0.name (by (bytes_eq t.0 name) (found_same ts us s.1 name))
  where
    by : (b : Bool) → MaySame (table_of ts name) (table_of us name) → MaySame (if b then Some t.1 else table_of ts name) (if b then Some u.1 else table_of us name)
    by true rest = (s.0.is, s.0.too, s.0.same)
    by false rest = rest
found_same [] (u ∷ us) s name = absurd s
found_same (t ∷ ts) [] s name = absurd s

-- a whole relation as a table shows what it shows
closed_same : (a b : RelData) (t u : TableData) → SameShown (shown_rel a) (shown_rel b) → rel_table a ≡ Ok t → rel_table b ≡ Ok u → shown t ≡ shown u
closed_same a b t u s e k = ap shown (sym (made a t e)) ∙ (shows ∙ ap shown (made b u k))
  where
    made : (r : RelData) (t : TableData) → rel_table r ≡ Ok t → table_from (bare_columns r.columns) r.rows r.is_open r.is_loose ≡ t
    made r t e = by (table_limits (table_from (bare_columns r.columns) r.rows r.is_open r.is_loose)) e
      where
        by : (b : Bool) → (if b then Ok (table_from (bare_columns r.columns) r.rows r.is_open r.is_loose) else Err error.TooLarge) ≡ Ok t →
            table_from (bare_columns r.columns) r.rows r.is_open r.is_loose ≡ t
        by true k = cc
        by false k = cc

    shows : shown (table_from (bare_columns a.columns) a.rows a.is_open a.is_loose) ≡ shown (table_from (bare_columns b.columns) b.rows b.is_open b.is_loose)
    shows = λ i. record { columns = bare_columns (s.columns i); rows = s.rows i; is_open = s.opens i; is_loose = s.looses i }

module _ (picks others : List Pick) (cell : ℕ) where
  abbrev S : Steps TableData RelData
  S = marked_steps picks cell

  abbrev O : Steps TableData RelData
  O = marked_steps others cell

  -- ---- each step

  limit_if_pair : (a b x y : RelData) (count : Option ℕ) → Pair a b → limit_if S a count ≡ Ok x → limit_if O b count ≡ Ok y → Pair x y
  limit_if_pair a b x y None p e k = pair_at a b x y p e k
  limit_if_pair a b x y (Some n) p e k = record {
    is = limit_is a x n p.is e;
    too = limit_is b y n p.too k;
    same = limit_keeps_shown n a b x y p.is p.too p.same e k;
  }

  sort_pair : (a b x y : RelData) (keys : List SortKey) → Pair a b → S.sort a keys ≡ Ok x → O.sort b keys ≡ Ok y → Pair x y
  sort_pair a b x y keys p e k = record {
    is = sort_is a x keys p.is e;
    too = sort_is b y keys p.too k;
    same = sort_keeps_shown keys a b x y p.is p.too p.same e k;
  }

  filter_if_pair : (a b x y : RelData) (condition : Option Expr) → Pair a b → filter_if S a condition ≡ Ok x → filter_if O b condition ≡ Ok y → Pair x y
  filter_if_pair a b x y None p e k = pair_at a b x y p e k
  filter_if_pair a b x y (Some condition) p e k = record {
    is = filter_is a x condition picks cell p.is e;
    too = filter_is b y condition others cell p.too k;
    same = filter_keeps_shown condition picks others cell a b x y p.is p.too p.same e k;
  }

  output_pair : (a b x y : RelData) (keys : Option (List ℕ)) (having : Option Expr) (items : List Item) → Distinct (item_names items) →
      ((ks : List ℕ) → keys ≡ Some ks → IsTyped (groups.group_types a.columns ks) having) → Pair a b → output_by S a keys having items ≡ Ok x → output_by O b keys having items ≡ Ok y → Pair x y
  output_pair a b x y None having items names typed p e k = record {
    is = project_is a x items picks cell p.is names e;
    too = project_is b y items others cell p.too names k;
    same = project_keeps_shown items picks others cell a b x y p.is p.too p.same e k;
  }
  output_pair a b x y (Some keys) having items names typed p e k = record {
    is = group_is a x keys having items picks cell p.is names e;
    too = group_is b y keys having items others cell p.too names k;
    same = group_keeps_shown keys having items picks others cell a b x y p.is p.too (typed keys refl) p.same e k;
  }

  distinct_if_pair : (d : Bool) (a b x y : RelData) → Pair a b → distinct_if S d a ≡ Ok x → distinct_if O d b ≡ Ok y → Pair x y
  distinct_if_pair true a b x y p e k = record {
    is = distinct_is a x p.is e;
    too = distinct_is b y p.too k;
    same = distinct_keeps_shown a b x y p.is p.too p.same e k;
  }
  distinct_if_pair false a b x y p e k = pair_at a b x y p e k

  join_pair : (kind : Kind) (a b c d x y : RelData) (on : Expr) → AreApart a.columns b.columns → Pair a c → Pair b d →
      joined kind a b on picks cell ≡ Ok x → joined kind c d on others cell ≡ Ok y → Pair x y
  join_pair kind a b c d x y on apart p q e k = record {
    is = join_is kind a b x on picks cell p.is q.is apart e;
    too = join_is kind c d y on others cell p.too q.too (subst (λ z. AreApart z d.columns) p.same.columns (subst (AreApart a.columns) q.same.columns apart)) k;
    same = join_keeps_shown kind on a b c d x y picks others cell p.is q.is p.too q.too p.same q.same e k;
  }

  union_pair : (a b c d x y : RelData) → column_types a.columns ≡ column_types b.columns → Pair a c → Pair b d → S.union a b ≡ Ok x → O.union c d ≡ Ok y → Pair x y
  union_pair a b c d x y types p q e k = record {
    is = union_is a b x p.is q.is types e;
    too = union_is c d y p.too q.too (sym (ap column_types p.same.columns) ∙ (types ∙ ap column_types q.same.columns)) k;
    same = union_keeps_shown a b c d x y p.same q.same e k;
  }

  united_pair : (rs ss : List RelData) (a b x y : RelData) → AllAgree a.columns rs → Pair a b → Pairs rs ss → folded S.union a rs ≡ Ok x → folded O.union b ss ≡ Ok y → Pair x y
  united_pair [] [] a b x y agree p ps e k = pair_at a b x y p e k
  united_pair (r ∷ rs) (s ∷ ss) a b x y agree p ps e k =
      let m = then_ok (S.union a r) (λ both. folded S.union both rs) x e in
      let n = then_ok (O.union b s) (λ both. folded O.union both ss) y k in
      united_pair rs ss m.0 n.0 x y (subst (λ z. AllAgree z rs) (sym (union_columns a r m.0 m.1)) agree.1) (union_pair a r b s m.0 n.0 agree.0 p ps.0 m.1 n.1) ps.1 m.2 n.2
  united_pair [] (s ∷ ss) a b x y agree p ps e k = absurd ps
  united_pair (r ∷ rs) [] a b x y agree p ps e k = absurd ps

  nothing_pair : IsRel S.nothing → Pair S.nothing S.nothing
  nothing_pair is = record { is = is; too = is; same = record { columns = refl; rows = refl; opens = refl; looses = refl } }

  nothing_is : IsRel S.nothing
  nothing_is = record { rules = record { names = tt; ids = tt; fitting = refl; sure = λ o. refl }; limits = refl }

  all_united_pair : (rs ss : List RelData) (x y : RelData) → SidesAgree rs → Pairs rs ss → all_united S rs ≡ Ok x → all_united O ss ≡ Ok y → Pair x y
  all_united_pair [] [] x y agree ps e k = pair_at S.nothing S.nothing x y (nothing_pair nothing_is) e k
  all_united_pair (r ∷ rs) (s ∷ ss) x y agree ps e k = united_pair rs ss r s x y agree ps.0 ps.1 e k
  all_united_pair [] (s ∷ ss) x y agree ps e k = absurd ps
  all_united_pair (r ∷ rs) [] x y agree ps e k = absurd ps

  opened_pair : (t : TableRef) (o q : Option TableData) (x y : RelData) → MaySame o q → as_relation_under S t o ≡ Ok x → as_relation_under O t q ≡ Ok y → Pair x y
  opened_pair t None None x y s e k = cc
  opened_pair t (Some a) (Some b) x y s e k =
      pair_at (table_rel (Some t.qualifier) a) (table_rel (Some t.qualifier) b) x y (record {
        is = table_is_rel (Some t.qualifier) a s.0;
        too = table_is_rel (Some t.qualifier) b s.1;
        same = record {
          columns = ap (λ (z : ShownTable). map (qualified (Some t.qualifier)) z.columns) s.2;
          rows = ap (λ (z : ShownTable). z.rows) s.2;
          opens = ap (λ (z : ShownTable). z.is_open) s.2;
          looses = ap (λ (z : ShownTable). z.is_loose) s.2;
        };
      }) e k
  opened_pair t None (Some b) x y s e k = absurd s
  opened_pair t (Some a) None x y s e k = absurd s

  headings_same : (ts us : List (List ℕ × TableData)) → SameTables ts us → headings_of S ts ≡ headings_of O us
  headings_same [] [] s = refl
  headings_same (t ∷ ts) (u ∷ us) s = λ i. record { dataset = s.0.name i; columns = shown_columns (s.0.same i) } ∷ headings_same ts us s.1 i
  headings_same [] (u ∷ us) s = absurd s
  headings_same (t ∷ ts) [] s = absurd s

  -- ---- the whole

  module _ (ts us : List (List ℕ × TableData)) (s : SameTables ts us) where
    abbrev H : List Heading
    H = headings_of S ts

    rel_pair : (t : TableRef) (x y : RelData) → rel_at S ts t ≡ Ok x → rel_at O us t ≡ Ok y → Pair x y
    rel_pair t x y e k = opened_pair t (table_of ts t.dataset) (table_of us t.dataset) x y (found_same ts us s t.dataset) e k

    joined_pair : (a b x y : RelData) (j : JoinPart) → AreApart a.columns (table_columns H j.table) → Pair a b → joined_with S ts a j ≡ Ok x → joined_with O us b j ≡ Ok y → Pair x y
    joined_pair a b x y j apart p e k =
        let m = then_ok (rel_at S ts j.table) (λ right. S.join (kind_of j.left) a right j.on) x e in
        let n = then_ok (rel_at O us j.table) (λ right. O.join (kind_of j.left) b right j.on) y k in
        join_pair (kind_of j.left) a m.0 b n.0 x y j.on (subst (AreApart a.columns) (sym (rel_columns picks cell ts j.table m.0 m.1)) apart) p (rel_pair j.table m.0 n.0 m.1 n.1) m.2 n.2

    all_joined_pair : (joins : List JoinPart) (a b x y : RelData) → AreJoinable H a.columns joins → Pair a b → folded (joined_with S ts) a joins ≡ Ok x →
        folded (joined_with O us) b joins ≡ Ok y → Pair x y
    all_joined_pair [] a b x y able p e k = pair_at a b x y p e k
    all_joined_pair (j ∷ js) a b x y able p e k =
        let m = then_ok (joined_with S ts a j) (λ both. folded (joined_with S ts) both js) x e in
        let n = then_ok (joined_with O us b j) (λ both. folded (joined_with O us) both js) y k in
        all_joined_pair js m.0 n.0 x y (subst (λ z. AreJoinable H z js) (sym (joined_columns picks cell ts a m.0 j m.1)) able.1) (joined_pair a b m.0 n.0 j able.0 p m.1 n.1) m.2 n.2

    tables_pair : (core : Core) (x y : RelData) → AreJoinable H (table_columns H core.table) core.joins → joined_tables S ts core ≡ Ok x → joined_tables O us core ≡ Ok y → Pair x y
    tables_pair core x y able e k =
        let m = then_ok (rel_at S ts core.table) (λ first. folded (joined_with S ts) first core.joins) x e in
        let n = then_ok (rel_at O us core.table) (λ first. folded (joined_with O us) first core.joins) y k in
        all_joined_pair core.joins m.0 n.0 x y (subst (λ z. AreJoinable H z core.joins) (sym (rel_columns picks cell ts core.table m.0 m.1)) able)
        (rel_pair core.table m.0 n.0 m.1 n.1) m.2 n.2

    core_pair : (c : CorePlan) (x y : RelData) → IsPlanned H c → core_rel S ts c ≡ Ok x → core_rel O us c ≡ Ok y → Pair x y
    core_pair c x y is e k =
        let facts = core_facts H c.core c is in
        let m = then_ok (joined_tables S ts c.core) (λ all. and_then (filter_if S all c.core.condition) (λ rows.
        and_then (output_by S rows c.keys c.core.having c.items) (λ out. distinct_if S c.core.distinct out))) x e in
        let n = then_ok (joined_tables O us c.core) (λ all. and_then (filter_if O all c.core.condition) (λ rows.
        and_then (output_by O rows c.keys c.core.having c.items) (λ out. distinct_if O c.core.distinct out))) y k in
        let m2 = then_ok (filter_if S m.0 c.core.condition) (λ rows. and_then (output_by S rows c.keys c.core.having c.items) (λ out. distinct_if S c.core.distinct out)) x m.2 in
        let n2 = then_ok (filter_if O n.0 c.core.condition) (λ rows. and_then (output_by O rows c.keys c.core.having c.items) (λ out. distinct_if O c.core.distinct out)) y n.2 in
        let m3 = then_ok (output_by S m2.0 c.keys c.core.having c.items) (λ out. distinct_if S c.core.distinct out) x m2.2 in
        let n3 = then_ok (output_by O n2.0 c.keys c.core.having c.items) (λ out. distinct_if O c.core.distinct out) y n2.2 in
        let columns = filter_if_columns picks cell m.0 m2.0 c.core.condition m2.1 ∙ from_columns picks cell ts c.core m.0 facts.columns m.1 facts.tables in
        let typed : (ks : List ℕ) → c.keys ≡ Some ks → IsTyped (groups.group_types m2.0.columns ks) c.core.having = λ ks e.
        subst (λ cs. IsTyped (groups.group_types cs ks) c.core.having) (sym columns)
        (having_kept facts.columns ks (keys_are picks cell ts c.core c facts ks e) c.core.having facts.checked
        (subst (λ z. some_condition_checked (setting_by z facts.columns) c.core.having ≡ Ok facts.checked) e facts.having)) in
        distinct_if_pair c.core.distinct m3.0 n3.0 x y
        (output_pair m2.0 n2.0 m3.0 n3.0 c.keys c.core.having c.items facts.names typed
        (filter_if_pair m.0 n.0 m2.0 n2.0 c.core.condition (tables_pair c.core m.0 n.0 (core_joinable H c is) m.1 n.1) m2.1 n2.1) m3.1 n3.1) m3.2 n3.2

    cores_pair : (cores : List CorePlan) (xs ys : List RelData) → ArePlanned H cores → collect (core_rel S ts) cores ≡ Ok xs → collect (core_rel O us) cores ≡ Ok ys → Pairs xs ys
    cores_pair [] xs ys are e k = subst (λ z. Pairs z ys) (the_same [] xs e) (subst (Pairs []) (the_same [] ys k) tt)
    cores_pair (c ∷ cs) xs ys are e k =
        let m = then_ok (core_rel S ts c) (λ z. and_then (collect (core_rel S ts) cs) (λ zs. fine (z ∷ zs))) xs e in
        let m2 = then_ok (collect (core_rel S ts) cs) (λ zs. fine (m.0 ∷ zs)) xs m.2 in
        let n = then_ok (core_rel O us c) (λ z. and_then (collect (core_rel O us) cs) (λ zs. fine (z ∷ zs))) ys k in
        let n2 = then_ok (collect (core_rel O us) cs) (λ zs. fine (n.0 ∷ zs)) ys n.2 in
        subst (λ z. Pairs z ys) (the_same (m.0 ∷ m2.0) xs m2.2) (subst (Pairs (m.0 ∷ m2.0)) (the_same (n.0 ∷ n2.0) ys n2.2)
        (core_pair c m.0 n.0 are.0 m.1 n.1, cores_pair cs m2.0 n2.0 are.1 m2.1 n2.1))

    planned_same : (select : Select) (plan : Plan) (x y : TableData) → checked select H ≡ Ok plan → planned S ts plan select.limit ≡ Ok x → planned O us plan select.limit ≡ Ok y → shown x ≡ shown y
    planned_same select plan x y is e k =
        let facts = plan_facts H select plan is in
        let m = then_ok (collect (core_rel S ts) plan.cores) (λ rels. and_then (all_united S rels) (λ all. and_then (S.sort all plan.order) (λ ordered.
        and_then (limit_if S ordered select.limit) (λ first. S.as_table first)))) x e in
        let n = then_ok (collect (core_rel O us) plan.cores) (λ rels. and_then (all_united O rels) (λ all. and_then (O.sort all plan.order) (λ ordered.
        and_then (limit_if O ordered select.limit) (λ first. O.as_table first)))) y k in
        let m2 = then_ok (all_united S m.0) (λ all. and_then (S.sort all plan.order) (λ ordered. and_then (limit_if S ordered select.limit) (λ first. S.as_table first))) x m.2 in
        let n2 = then_ok (all_united O n.0) (λ all. and_then (O.sort all plan.order) (λ ordered. and_then (limit_if O ordered select.limit) (λ first. O.as_table first))) y n.2 in
        let m3 = then_ok (S.sort m2.0 plan.order) (λ ordered. and_then (limit_if S ordered select.limit) (λ first. S.as_table first)) x m2.2 in
        let n3 = then_ok (O.sort n2.0 plan.order) (λ ordered. and_then (limit_if O ordered select.limit) (λ first. O.as_table first)) y n2.2 in
        let m4 = then_ok (limit_if S m3.0 select.limit) (λ first. S.as_table first) x m3.2 in
        let n4 = then_ok (limit_if O n3.0 select.limit) (λ first. O.as_table first) y n3.2 in
        let sides = sides_agree picks cell ts plan.cores m.0 facts.agree facts.cores m.1 facts.sides in
        let all = all_united_pair m.0 n.0 m2.0 n2.0 sides (cores_pair plan.cores m.0 n.0 facts.cores m.1 n.1) m2.1 n2.1 in
        let first = limit_if_pair m3.0 n3.0 m4.0 n4.0 select.limit (sort_pair m2.0 n2.0 m3.0 n3.0 plan.order all m3.1 n3.1) m4.1 n4.1 in
        closed_same m4.0 n4.0 x y first.same m4.2 n4.2

    pub selected_same : (select : Select) (x y : TableData) → selected (marked_steps picks cell) ts select ≡ Ok x →
        selected (marked_steps others cell) us select ≡ Ok y → shown x ≡ shown y
    selected_same select x y e k =
        let m = then_ok (checked select H) (λ plan. planned S ts plan select.limit) x e in
        let n = then_ok (checked select (headings_of O us)) (λ plan. planned O us plan select.limit) y k in
        let one : n.0 ≡ m.0 = the_same n.0 m.0 (sym n.1 ∙ (ap (checked select) (sym (headings_same ts us s)) ∙ m.1)) in
        planned_same select m.0 x y m.1 m.2 (subst (λ p. planned O us p select.limit ≡ Ok y) one n.2)
