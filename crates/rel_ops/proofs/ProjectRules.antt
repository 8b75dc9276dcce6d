-- The output columns of items, and the rules of the rows that items give.
use Rattle.std.proofs.Common.{◌≡◌, ℕ, suc, Bool, true, false, Option, None, Ok, List, [], ◌∷◌, map, length, refl, subst, ap, ◌∙◌, sym, inr}
use Rattle.std.specs.Prelude.{IsTrue, ◌==◌}
use Rattle.std.specs.List.{list_all}
use Rattle.std.proofs.lemmas.Bool.Decides.{Decides-eqb}
use Rattle.std.proofs.lemmas.Bool.{and_parts}
use Rattle.value_types.specs.declared.value.Value.{Value}
use Rattle.value_types.specs.declared.value.Value.TheVariants.{Null, Bool as Truth, Int, Fixed, Text}
use Rattle.cell_errors.specs.Answers.{Answer, and_then, collect}
use Rattle.dataset_types.specs.declared.picks.Pick.{Pick}
use Rattle.dataset_types.specs.declared.row.Marked.{Marked}
use Rattle.dataset_types.specs.declared.row.Row.{Row}
use Rattle.dataset_types.specs.Tables.{Distinct, fits, values_fit, row_fits, all_sure}
use Rattle.dataset_types.proofs.TableLemmas.{Distinct-map, distinct_one}
use Rattle.expr_meaning.specs.declared.bindings.ScopeColumn.{ScopeColumn}
use Rattle.expr_meaning.specs.declared.expr_type.ExprType.{ExprType}
use Rattle.expr_meaning.specs.declared.expr_type.ExprType.TheVariants.{Null as Unknown, Of}
use Rattle.expr_meaning.specs.Names.{Name}
use Rattle.expr_meaning.specs.Settings.{MarkedSetting, at_row}
use Rattle.expr_meaning.specs.Meaning.{marked_at}
use Rattle.expr_meaning.specs.Types.{TypeSetting, type_at, over_columns}
use Rattle.relations.specs.declared.batch.Batch.{Batch}
use Rattle.relations.specs.declared.parts.Item.{Item}
use Rattle.relations.specs.Rels.{RelData, rel_of, column_key, column_keys, bare_columns, KeepsRules, IsRel}
use Rattle.relations.specs.Bound.{bindings}
use Rattle.relations.specs.Batches.{gathered}
use Rattle.relations.specs.Typed.{is_of, FitsSetting}
use Rattle.relations.proofs.TypeLaw.{keeps_type, row_is_bound, alone}
use Rattle.relations.proofs.Gathered.{fine, the_same, then_ok}
use Rattle.relations.proofs.Rules.{HasOnly, all_of, all_pass, ids_distinct}
use Rattle.rel_ops.specs.Project.{item_names, kind_of, output_column, item_column, item_columns, marked_value, values_over, with_values, item_row}

-- ---- values that fit

wrong : false ≡ true → ⊥
wrong e = cc

kind_fits : (v : Value) (t : ExprType) → IsTrue (is_of v t) → IsTrue (fits v (kind_of t))
kind_fits Null Unknown e = refl
kind_fits (Truth b) Unknown e = absurd (wrong e)
kind_fits (Int n) Unknown e = absurd (wrong e)
kind_fits (Fixed n) Unknown e = absurd (wrong e)
kind_fits (Text t) Unknown e = absurd (wrong e)
kind_fits v (Of k) e = e

-- ---- output columns

-- one value for each column, of its type
pub record FitAll (columns : List ScopeColumn) (values : List Marked) : Type 0 where
  pub count : length values ≡ length (bare_columns columns)
  pub fit : IsTrue (values_fit (bare_columns columns) values)

module _ (types : TypeSetting) where
  pub keys_are : (items : List Item) (columns : List ScopeColumn) → item_columns types items ≡ Ok columns → column_keys columns ≡ map (λ n. (None, n)) (item_names items)
  keys_are [] columns e = ap column_keys (sym (the_same [] columns e))
  keys_are (i ∷ is) columns e =
      let p = then_ok (item_column types i) (λ y. and_then (collect (item_column types) is) (λ ys. Ok (y ∷ ys))) columns e in
      let q = then_ok (collect (item_column types) is) (λ ys. fine (p.0 ∷ ys)) columns p.2 in
      let t = then_ok (type_at types i.expr) (λ t. fine (output_column i.name t)) p.0 p.1 in
      ap column_keys (sym (the_same (p.0 ∷ q.0) columns q.2))
      ∙ (ap (λ c. column_key c ∷ column_keys q.0) (sym (the_same (output_column i.name t.0) p.0 t.2)) ∙ ap (λ z. (None, i.name) ∷ z) (keys_are is q.0 q.1))

  module _ (s : MarkedSetting) (f : FitsSetting s types) (picks : List Pick) (cell : ℕ) where
    abbrev value_in : Item → Answer Marked
    value_in i = marked_value (marked_at s picks cell i.expr)

    -- the values of items in any setting fit their columns
    pub values_are : (items : List Item) (columns : List ScopeColumn) (values : List Marked) → item_columns types items ≡ Ok columns →
        collect (λ (i : Item). marked_value (marked_at s picks cell i.expr)) items ≡ Ok values → FitAll columns values
    values_are [] columns values e k =
        subst (λ z. FitAll z values) (the_same [] columns e) (subst (FitAll []) (the_same [] values k) (record { count = refl; fit = refl }))
    values_are (i ∷ is) columns values e k =
        let p = then_ok (item_column types i) (λ y. and_then (collect (item_column types) is) (λ ys. Ok (y ∷ ys))) columns e in
        let q = then_ok (collect (item_column types) is) (λ ys. fine (p.0 ∷ ys)) columns p.2 in
        let t = then_ok (type_at types i.expr) (λ t. fine (output_column i.name t)) p.0 p.1 in
        let m = then_ok (value_in i) (λ y. and_then (collect value_in is) (λ ys. Ok (y ∷ ys))) values k in
        let n = then_ok (collect value_in is) (λ ys. fine (m.0 ∷ ys)) values m.2 in
        let seen = marked_at s picks cell i.expr in
        let v = then_ok seen.answer (λ v. fine (record { value = v; marked = seen.marked })) m.0 m.1 in
        let rest = values_are is q.0 n.0 q.1 n.1 in
        let good = kind_fits v.0 t.0 (keeps_type i.expr s types picks cell f t.0 v.0 t.1 v.1) in
        subst (λ z. FitAll z values) (ap (λ c. c ∷ q.0) (the_same (output_column i.name t.0) p.0 t.2) ∙ the_same (p.0 ∷ q.0) columns q.2)
        (subst (FitAll (output_column i.name t.0 ∷ q.0)) (ap (λ w. w ∷ n.0) (the_same (record { value = v.0; marked = seen.marked }) m.0 v.2) ∙ the_same (m.0 ∷ n.0) values n.2)
        (record { count = ap suc rest.count; fit = rw good rest.fit }))

-- ---- rows

module _ (rel : RelData) (items : List Item) (columns : List ScopeColumn) (picks : List Pick) (cell : ℕ) (is : item_columns (over_columns rel.columns) items ≡ Ok columns) where
  abbrev step : Row → Answer Batch
  step = item_row rel.columns items picks cell

  on_row : (P : Batch → Type 0) (r : Row) (b : Batch) → ((values : List Marked) → values_over (bindings rel.columns r.values) items picks cell ≡ Ok values → P (with_values r values)) → step r ≡ Ok b → P b
  on_row P r b h e =
      let p = then_ok (values_over (bindings rel.columns r.values) items picks cell) (λ values. fine (with_values r values)) b e in
      subst P (the_same (with_values r p.0) b p.2) (h p.0 p.1)

  fits_out : (r : Row) (b : Batch) → IsTrue (row_fits (bare_columns rel.columns) r) → step r ≡ Ok b → IsTrue (list_all (row_fits (bare_columns columns)) b.rows)
  fits_out r b g e =
      let p = and_parts (length r.values == length (bare_columns rel.columns)) (values_fit (bare_columns rel.columns) r.values) g in
      let row = bindings rel.columns r.values in
      let types = over_columns rel.columns in
      let are = row_is_bound rel.columns r.values ((Decides-eqb (length r.values) (length (bare_columns rel.columns))).0 p.0) p.1 in
      on_row (λ c. IsTrue (list_all (row_fits (bare_columns columns)) c.rows)) r b
      (λ values k. let f = values_are types (at_row row) (alone row rel.columns are) picks cell items columns values is k in
      rw ((Decides-eqb (length values) (length (bare_columns columns))).1 f.count, f.fit) refl) e

  pub project_rules : (b : Batch) (is_loose : Bool) → IsRel rel → Distinct (item_names items) → gathered step rel.rows ≡ Ok b → KeepsRules (rel_of columns b.rows rel.is_open is_loose)
  project_rules b is_loose good names e = record {
    names = subst Distinct (sym (keys_are (over_columns rel.columns) items columns is)) (Distinct-map (λ n. (None, n)) (λ a c k. ap (λ (z : Option Name × Name). z.1) k) (item_names items) names);
    ids = ids_distinct step (λ r. r.id) (λ r c k. on_row (HasOnly r.id) r c (λ values h. inr refl) k) rel.rows b e good.rules.ids;
    fitting = all_pass step (λ r. IsTrue (row_fits (bare_columns rel.columns) r)) (row_fits (bare_columns columns)) fits_out rel.rows b
        (all_of (row_fits (bare_columns rel.columns)) rel.rows good.rules.fitting) e;
    sure = λ o. all_pass step (λ r. IsTrue r.sure) (λ r. r.sure) (λ r c g k. on_row (λ z. IsTrue (all_sure z.rows)) r c (λ values h. rw g refl) k) rel.rows b
        (all_of (λ r. r.sure) rel.rows (good.rules.sure o)) e;
  }

-- one output column alone
pub one_name : (i : Item) → Distinct (item_names (i ∷ []))
one_name i = distinct_one i.name
