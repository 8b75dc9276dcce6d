-- The rules of the rows that groups give.
use Rattle.std.proofs.Common.{◌≡◌, ℕ, Bool, true, false, not, ◌&&◌, ◌||◌, Option, Some, None, Ok, List, [], ◌∷◌, map, length, refl, subst, ap, ◌∙◌, sym, inl, inr}
use Rattle.std.specs.Prelude.{IsTrue, if◌then◌else◌}
use Rattle.std.specs.List.{list_all}
use Rattle.std.proofs.lemmas.Bool.Decides.{Decides-eqb}
use Rattle.value_types.specs.declared.row_id.RowId.{Key as KeyId}
use Rattle.cell_errors.specs.Answers.{Answer, and_then, collect}
use Rattle.dataset_types.specs.declared.picks.Pick.{Pick}
use Rattle.dataset_types.specs.declared.row.Marked.{Marked}
use Rattle.dataset_types.specs.declared.row.Row.{Row}
use Rattle.dataset_types.specs.Tables.{Distinct, row_fits, all_sure}
use Rattle.dataset_types.proofs.TableLemmas.{Distinct-map}
use Rattle.expr_lang.specs.declared.expr.Expr.{Expr}
use Rattle.expr_meaning.specs.declared.bindings.ScopeColumn.{ScopeColumn}
use Rattle.expr_meaning.specs.Names.{Name}
use Rattle.expr_meaning.specs.Settings.{MarkedSetting}
use Rattle.expr_meaning.specs.Types.{TypeSetting}
use Rattle.relations.specs.declared.batch.Batch.{Batch}
use Rattle.relations.specs.declared.parts.Item.{Item}
use Rattle.relations.specs.Rels.{RelData, rel_of, bare_columns, KeepsRules, IsRel}
use Rattle.relations.specs.Batches.{gathered}
use Rattle.relations.specs.Conditions.{kept}
use Rattle.relations.specs.Typed.{FitsSetting}
use Rattle.relations.proofs.Gathered.{fine, the_same, then_ok, Each}
use Rattle.relations.proofs.Rules.{HasOnly, or_parts, all_of, all_pass, all_pass_unmarked, ids_distinct}
use Rattle.rel_ops.specs.Project.{item_columns, item_names}
use Rattle.rel_ops.proofs.ProjectRules.{keys_are, values_are}
use Rattle.rel_group.specs.Groups.{Group}
use Rattle.rel_group.specs.Group.{Tested}
use Rattle.rel_group.specs.Groups.{is_uncertain, groups, may_lack_groups, group_setting, group_types}
use Rattle.rel_group.specs.Group.{having_test, tested, group_values, row_of, group_row, group_rows, rows_of}
use Rattle.rel_group.proofs.GroupFits.{each_back, groups_fitting, groups_apart, ids_apart, groups_sure}

-- ---- the rows

module _ (setting : Group → MarkedSetting) (having : Option Expr) (items : List Item) (picks : List Pick) (cell : ℕ) where
  abbrev step : Tested → Answer Batch
  step = group_row setting items picks cell

  -- the groups that HAVING has looked at are those
  pub tested_groups : (gs : List Group) (ts : List Tested) → collect (tested setting having picks cell) gs ≡ Ok ts → map (λ x. x.group) ts ≡ gs
  tested_groups [] ts e = ap (map (λ x. x.group)) (sym (the_same [] ts e))
  tested_groups (g ∷ gs) ts e =
      let p = then_ok (tested setting having picks cell g) (λ y. and_then (collect (tested setting having picks cell) gs) (λ ys. Ok (y ∷ ys))) ts e in
      let q = then_ok (collect (tested setting having picks cell) gs) (λ ys. fine (p.0 ∷ ys)) ts p.2 in
      let t = then_ok (having_test having picks cell (setting g)) (λ t. fine (record { group = g; test = t })) p.0 p.1 in
      let rest = tested_groups gs q.0 q.1 in
      ap (map (λ x. x.group)) (sym (the_same (p.0 ∷ q.0) ts q.2))
      ∙ (let first = sym (the_same (record { group = g; test = t.0 }) p.0 t.2) in λ i. (first i).group ∷ rest i)

  -- a batch of a group is its row, kept where the test holds, or none
  pub on_group : (P : Batch → Type 0) (x : Tested) (b : Batch) →
      (x.test.holds ≡ true → (values : List Marked) → group_values items picks cell (setting x.group) ≡ Ok values → P (kept (row_of x.group values) x.test)) →
      (x.test.holds ≡ false → P (record { rows = []; marked = x.test.marked })) → step x ≡ Ok b → P b
  on_group P x b h none e = at x.test.holds refl e
    where
      at : (t : Bool) → x.test.holds ≡ t →
          (if t then and_then (group_values items picks cell (setting x.group)) (λ values. Ok (kept (row_of x.group values) x.test)) else Ok (record { rows = []; marked = x.test.marked })) ≡ Ok b → P b
      at true is k =
          let p = then_ok (group_values items picks cell (setting x.group)) (λ values. fine (kept (row_of x.group values) x.test)) b k in
          subst P (the_same (kept (row_of x.group p.0) x.test) b p.2) (h is p.0 p.1)
      at false is k = subst P (the_same (record { rows = []; marked = x.test.marked }) b k) (none is)

  only : (r : Row) (h m : Bool) → HasOnly r.id (kept r (record { holds = h; marked = m }))
  only r true m = inr refl
  only r false m = inl refl

  fits_kept : (p : Row → Bool) (r : Row) (h m : Bool) → IsTrue (p (record { id = r.id; sure = r.sure && not m; values = r.values })) → IsTrue (list_all p (kept r (record { holds = h; marked = m })).rows)
  fits_kept p r true m e = rw e refl
  fits_kept p r false m e = refl

  sure_kept : (r : Row) (h m : Bool) → IsTrue r.sure → m ≡ false → IsTrue (all_sure (kept r (record { holds = h; marked = m })).rows)
  sure_kept r true m e k = rw (e, k) refl
  sure_kept r false m e k = refl

  module _ (types : TypeSetting) (columns : List ScopeColumn) (is : item_columns types items ≡ Ok columns) where
    abbrev Fitting' : Tested → Type 0
    Fitting' x = FitsSetting (setting x.group) types

    fits_out : (x : Tested) (b : Batch) → Fitting' x → step x ≡ Ok b → IsTrue (list_all (row_fits (bare_columns columns)) b.rows)
    fits_out x b f e =
        on_group (λ c. IsTrue (list_all (row_fits (bare_columns columns)) c.rows)) x b
        (λ t values k. let a = values_are types (setting x.group) f picks cell items columns values is k in
        fits_kept (row_fits (bare_columns columns)) (row_of x.group values) x.test.holds x.test.marked (rw ((Decides-eqb (length values) (length (bare_columns columns))).1 a.count, a.fit) refl)) (λ t. refl) e

    pub rows_rules : (gs : List Group) (b : Batch) (lacks : Bool) → Distinct (item_names items) → Distinct (map (λ g. g.key) gs) → Each (λ g. FitsSetting (setting g) types) gs →
        (lacks ≡ false → Each (λ g. IsTrue g.sure) gs) → group_rows setting having items picks cell gs ≡ Ok b → KeepsRules (rel_of columns b.rows (lacks || b.marked) false)
    rows_rules gs b lacks names apart fitting sure e =
        let t = then_ok (collect (tested setting having picks cell) gs) (λ ts. gathered step ts) b e in
        let same = tested_groups gs t.0 t.1 in
        record {
          names = subst Distinct (sym (keys_are types items columns is)) (Distinct-map (λ n. (None, n)) (λ a c k. ap (λ (z : Option Name × Name). z.1) k) (item_names items) names);
          ids = ids_distinct step (λ x. KeyId x.group.key) (λ x c k. on_group (HasOnly (KeyId x.group.key)) x c (λ t values h. only (row_of x.group values) x.test.holds x.test.marked) (λ t. inl refl) k) t.0 b t.2
              (subst Distinct (ids_of t.0 gs same) (ids_apart gs apart));
          fitting = all_pass step Fitting' (row_fits (bare_columns columns)) fits_out t.0 b
              (each_back (λ x. x.group) (λ g. FitsSetting (setting g) types) t.0 (subst (Each (λ g. FitsSetting (setting g) types)) (sym same) fitting)) t.2;
          sure = λ o.
              let p = or_parts lacks b.marked o in
              all_pass_unmarked step (λ x. IsTrue x.group.sure) (λ r. r.sure)
              (λ x c g k m. on_group (λ z. z.marked ≡ false → IsTrue (all_sure z.rows)) x c (λ t values h n. sure_kept (row_of x.group values) x.test.holds x.test.marked g n) (λ t n. refl) k m) t.0 b
              (each_back (λ x. x.group) (λ g. IsTrue g.sure) t.0 (subst (Each (λ g. IsTrue g.sure)) (sym same) (sure p.0))) t.2 p.1;
        }
      where
        ids_of : (ts : List Tested) (hs : List Group) → map (λ x. x.group) ts ≡ hs → map KeyId (map (λ g. g.key) hs) ≡ map (λ x. KeyId x.group.key) ts
        ids_of ts hs k = ap (λ z. map KeyId (map (λ g. g.key) z)) (sym k) ∙ thrice ts
          where
            thrice : (us : List Tested) → map KeyId (map (λ g. g.key) (map (λ x. x.group) us)) ≡ map (λ x. KeyId x.group.key) us
            thrice [] = refl
            thrice (u ∷ us) = ap (λ z. KeyId u.group.key ∷ z) (thrice us)

-- the rows of the groups follow the rules
pub group_rules : (rel : RelData) (places : List ℕ) (having : Option Expr) (items : List Item) (picks : List Pick) (cell : ℕ) (columns : List ScopeColumn) (b : Batch) →
    IsRel rel → Distinct (item_names items) → item_columns (group_types rel.columns places) items ≡ Ok columns → rows_of rel places having items picks cell ≡ Ok b →
    KeepsRules (rel_of columns b.rows (may_lack_groups places rel || b.marked) false)
group_rules rel places having items picks cell columns b is names e k =
    let uncertain = is_uncertain (Some places) rel in
    rows_rules (group_setting rel.columns places uncertain) having items picks cell (group_types rel.columns places) columns e
    (groups rel.columns places rel.rows) b (may_lack_groups places rel) names (groups_apart rel.columns places rel.rows)
    (groups_fitting rel.columns places uncertain rel.rows (all_of (row_fits (bare_columns rel.columns)) rel.rows is.rules.fitting) places refl)
    (groups_sure rel is.rules.sure places) k
