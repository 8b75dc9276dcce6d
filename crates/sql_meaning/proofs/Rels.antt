-- What the steps of a plan give keeps the rules of a relation.
use Rattle.std.proofs.Common.{◌≡◌, ℕ, Bool, true, false, ◌||◌, Option, None, Ok, Err, List, [], ◌++◌, map, length, take, refl, subst}
use Rattle.std.specs.Prelude.{if◌then◌else◌}
use Rattle.std.specs.List.{list_any}
use Rattle.value_types.specs.declared.row_id.RowId.{First, Second}
use Rattle.dataset_types.specs.declared.picks.Pick.{Pick}
use Rattle.dataset_types.specs.Tables.{Distinct}
use Rattle.cell_errors.specs.declared.fault.CellError.TheVariants as error
use Rattle.expr_lang.specs.declared.expr.Expr.{Expr}
use Rattle.expr_meaning.specs.Types.{over_columns}
use Rattle.relations.specs.declared.batch.Batch.{Batch}
use Rattle.relations.specs.declared.parts.Item.{Item}
use Rattle.relations.specs.declared.parts.SortKey.{SortKey}
use Rattle.relations.specs.Rels.{RelData, rel_of, whole, within_limits, KeepsRules, IsRel}
use Rattle.relations.specs.Batches.{gathered}
use Rattle.relations.proofs.Gathered.{then_ok}
use Rattle.rel_ops.specs.Filter.{where_row, filtered}
use Rattle.rel_ops.specs.Project.{item_columns, item_row, item_names, projected, projected_to}
use Rattle.rel_ops.specs.Sort.{ordered, in_order, has_marked_key}
use Rattle.rel_ops.specs.Limit.{limited, doubted, is_uncertain}
use Rattle.rel_ops.specs.Union.{united, sided, column_types}
use Rattle.rel_ops.proofs.WhereRows.{where_rules}
use Rattle.rel_ops.proofs.ProjectRules.{project_rules}
use Rattle.rel_ops.proofs.SortLaws.{sort_rules}
use Rattle.rel_ops.proofs.LimitLaws.{limit_rules}
use Rattle.rel_ops.proofs.UnionLaws.{union_rules}
use Rattle.rel_join.specs.declared.kind.Kind.{Kind}
use Rattle.rel_join.specs.Rules.{AreApart}
use Rattle.rel_join.specs.Join.{left_row, few_pairs, all_pairs, joined}
use Rattle.rel_join.proofs.JoinRules.{join_rules}
use Rattle.rel_group.specs.Groups as groups
use Rattle.rel_group.specs.Group.{grouped, grouped_to, rows_of, key_row, distinct}
use Rattle.rel_group.proofs.GroupRules.{group_rules}
use Rattle.rel_group.proofs.DistinctRules.{distinct_rules}

whole_is : (r out : RelData) → KeepsRules r → whole r ≡ Ok out → IsRel out
whole_is r out rules e = by (within_limits r) refl e
  where
    by : (b : Bool) → within_limits r ≡ b → (if b then Ok r else Err error.TooLarge) ≡ Ok out → IsRel out
    by true is k = let same : r ≡ out = cc in subst IsRel same (record { rules = rules; limits = is })
    by false is k = cc

pub filter_is : (rel out : RelData) (condition : Expr) (picks : List Pick) (cell : ℕ) → IsRel rel → filtered rel condition picks cell ≡ Ok out → IsRel out
filter_is rel out condition picks cell is e =
    let made = λ (b : Batch). rel_of rel.columns b.rows (rel.is_open || b.marked) rel.is_loose in
    let p = then_ok (gathered (where_row rel.columns condition picks cell) rel.rows) (λ b. whole (made b)) out e in
    whole_is (made p.0) out (where_rules rel condition picks cell p.0 is p.1) p.2

pub join_is : (kind : Kind) (a b out : RelData) (on : Expr) (picks : List Pick) (cell : ℕ) → IsRel a → IsRel b → AreApart a.columns b.columns →
    joined kind a b on picks cell ≡ Ok out → IsRel out
join_is kind a b out on picks cell is too apart e =
    let made = λ (m : Batch). rel_of (a.columns ++ b.columns) m.rows ((a.is_open || b.is_open) || m.marked) (a.is_loose || b.is_loose) in
    let p = then_ok (few_pairs (length a.rows) (length b.rows)) (λ u. all_pairs kind a b on picks cell) out e in
    let q = then_ok (gathered (left_row kind a.columns b on picks cell) a.rows) (λ m. whole (made m)) out p.2 in
    whole_is (made q.0) out (join_rules kind a b on picks cell q.0 is too apart q.1) q.2

pub project_is : (rel out : RelData) (items : List Item) (picks : List Pick) (cell : ℕ) → IsRel rel → Distinct (item_names items) → projected rel items picks cell ≡ Ok out → IsRel out
project_is rel out items picks cell is names e =
    let p = then_ok (item_columns (over_columns rel.columns) items) (λ columns. projected_to columns rel items picks cell) out e in
    let made = λ (b : Batch). rel_of p.0 b.rows rel.is_open rel.is_loose in
    let q = then_ok (gathered (item_row rel.columns items picks cell) rel.rows) (λ b. whole (made b)) out p.2 in
    whole_is (made q.0) out (project_rules rel items p.0 picks cell p.1 q.0 rel.is_loose is names q.1) q.2

pub group_is : (rel out : RelData) (places : List ℕ) (having : Option Expr) (items : List Item) (picks : List Pick) (cell : ℕ) → IsRel rel → Distinct (item_names items) →
    grouped rel places having items picks cell ≡ Ok out → IsRel out
group_is rel out places having items picks cell is names e =
    let p = then_ok (item_columns (groups.group_types rel.columns places) items) (λ columns. grouped_to columns rel places having items picks cell) out e in
    let made = λ (b : Batch). rel_of p.0 b.rows (groups.may_lack_groups places rel || b.marked) false in
    let q = then_ok (rows_of rel places having items picks cell) (λ b. whole (made b)) out p.2 in
    whole_is (made q.0) out (group_rules rel places having items picks cell p.0 q.0 is names p.1 q.1) q.2

pub distinct_is : (rel out : RelData) → IsRel rel → distinct rel ≡ Ok out → IsRel out
distinct_is rel out is e =
    whole_is (rel_of rel.columns (map key_row (groups.keyed_groups [] None rel.rows)) (groups.is_uncertain None rel) false) out (distinct_rules rel is) e

pub union_is : (a b out : RelData) → IsRel a → IsRel b → column_types a.columns ≡ column_types b.columns → united a b ≡ Ok out → IsRel out
union_is a b out is too types e =
    whole_is (rel_of a.columns (map (sided First) a.rows ++ map (sided Second) b.rows) (a.is_open || b.is_open) (a.is_loose || b.is_loose)) out (union_rules a b is too types) e

pub sort_is : (rel out : RelData) (keys : List SortKey) → IsRel rel → ordered rel keys ≡ Ok out → IsRel out
sort_is rel out keys is e =
    let loose = rel.is_loose || list_any (has_marked_key keys) rel.rows in
    whole_is (rel_of rel.columns (in_order keys rel.rows) rel.is_open loose) out (sort_rules rel keys loose is) e

pub limit_is : (rel out : RelData) (n : ℕ) → IsRel rel → limited rel n ≡ Ok out → IsRel out
limit_is rel out n is e =
    whole_is (rel_of rel.columns (map (doubted (is_uncertain rel)) (take n rel.rows)) (is_uncertain rel) rel.is_loose) out (limit_rules rel n is) e
