-- Groups of rows in another order give the same where they give rows.
use Rattle.std.proofs.Common.{◌≡◌, ℕ, Bool, true, false, ◌||◌, Option, Some, None, Ok, List, [], ◌∷◌, map, refl, subst, ap, ◌∙◌, sym}
use Rattle.std.specs.Prelude.{if◌then◌else◌, IsTrue}
use Rattle.std.specs.Bool.{⊤}
use Rattle.value_types.specs.declared.value.Value.{Value}
use Rattle.value_types.specs.Order.{same_key}
use Rattle.cell_errors.specs.Answers.{and_then, collect}
use Rattle.dataset_types.specs.declared.picks.Pick.{Pick}
use Rattle.dataset_types.specs.declared.row.Marked.{Marked}
use Rattle.dataset_types.specs.declared.row.Row.{Row}
use Rattle.dataset_types.specs.Tables.{row_fits}
use Rattle.expr_lang.specs.declared.expr.Expr.{Expr}
use Rattle.expr_ops.specs.Truths.{is_true}
use Rattle.expr_meaning.specs.declared.bindings.Binding.{Binding}
use Rattle.expr_meaning.specs.declared.bindings.ScopeColumn.{ScopeColumn}
use Rattle.expr_meaning.specs.declared.expr_type.ExprType.{ExprType}
use Rattle.expr_meaning.specs.Settings.{MarkedSetting}
use Rattle.expr_meaning.specs.Meaning.{marked_at}
use Rattle.expr_meaning.specs.Types.{type_at}
use Rattle.relations.specs.declared.batch.Batch.{Batch}
use Rattle.relations.specs.declared.condition.Test.{Test}
use Rattle.relations.specs.declared.parts.Item.{Item}
use Rattle.relations.specs.Rels.{RelData, rel_of, bare_columns, whole}
use Rattle.relations.specs.Bound.{bindings}
use Rattle.relations.specs.Batches.{both, gathered}
use Rattle.relations.specs.Conditions.{test_of, kept}
use Rattle.relations.specs.Typed.{FitsColumns}
use Rattle.relations.proofs.Gathered.{fine, the_same, then_ok, Each}
use Rattle.rel_ops.specs.Project.{item_column, item_columns, output_column, marked_value}
use Rattle.rel_group.specs.Groups.{Group}
use Rattle.rel_group.specs.Group.{Tested}
use Rattle.rel_group.specs.Keys.{once, ascending, rows_at}
use Rattle.rel_group.specs.Groups.{key_values, has_marked_key, is_certain, is_uncertain, bound_rows, group_of, keyed_groups, groups, may_lack_groups, key_columns, certain, group_setting, group_types}
use Rattle.rel_group.specs.Group.{having_test, tested, group_value, group_values, row_of, group_row, group_rows, rows_of, grouped_to, grouped}
use Rattle.rel_group.specs.Laws.{IsTyped}
use Rattle.rel_group.proofs.KeyOrder.{Key, same_ascending}
use Rattle.rel_group.proofs.GroupFits.{groups_good}
use Rattle.rel_group.proofs.Moved.{Moved, moved_map, moved_filter, moved_any, moved_turn, moved_within}
use Rattle.rel_group.proofs.MovedExpr.{meaning_follows}

-- a group with these rows in place of its own
abbrev pub with_others : Group → List (List Binding) → Group
with_others g others = record { key = g.key; sure = g.sure; rows = others }

-- the same group with its rows in another order
abbrev GroupMoved : Group → Group → Type 0
GroupMoved g h = (others : List (List Binding)) × (h ≡ with_others g others) × Moved g.rows others

abbrev EachMoved : List Group → List Group → Type 0
EachMoved [] [] = ⊤
EachMoved (g ∷ gs) (h ∷ hs) = GroupMoved g h × EachMoved gs hs
EachMoved gs hs = ⊥

-- ---- the groups

module _ (columns : List ScopeColumn) (rows others : List Row) (m : Moved rows others) where
  key_moved : (keys : Option (List ℕ)) (k : Key) → GroupMoved (group_of columns keys k (rows_at (key_values keys) rows k)) (group_of columns keys k (rows_at (key_values keys) others k))
  key_moved keys k =
      let here = moved_filter (λ r. same_key k (key_values keys r)) rows others m in
      let sure = moved_any (is_certain keys) (rows_at (key_values keys) rows k) (rows_at (key_values keys) others k) here in (
        bound_rows columns (rows_at (key_values keys) others k),
        (λ i. record { key = k; sure = sym sure i; rows = bound_rows columns (rows_at (key_values keys) others k) }),
        moved_map (λ r. bindings columns r.values) (rows_at (key_values keys) rows k) (rows_at (key_values keys) others k) here,
      )

  each_moved : (keys : Option (List ℕ)) (ks : List Key) →
      EachMoved (map (λ k. group_of columns keys k (rows_at (key_values keys) rows k)) ks) (map (λ k. group_of columns keys k (rows_at (key_values keys) others k)) ks)
  each_moved keys [] = tt
  each_moved keys (k ∷ ks) = (key_moved keys k, each_moved keys ks)

  keyed_moved : (keys : Option (List ℕ)) → EachMoved (keyed_groups columns keys rows) (keyed_groups columns keys others)
  keyed_moved keys =
      let keys_of = moved_map (key_values keys) rows others m in
      let same = same_ascending (map (key_values keys) rows) (map (key_values keys) others) (moved_within _ _ keys_of) (moved_within _ _ (moved_turn _ _ keys_of)) in
      subst (λ ks. EachMoved (keyed_groups columns keys rows) (map (λ k. group_of columns keys k (rows_at (key_values keys) others k)) ks)) same
      (each_moved keys (ascending (map (key_values keys) rows)))

  groups_moved : (places : List ℕ) → EachMoved (groups columns places rows) (groups columns places others)
  groups_moved [] = ((bound_rows columns others, refl, moved_map (λ r. bindings columns r.values) rows others m), tt)
  groups_moved (p ∷ ps) = keyed_moved (Some (p ∷ ps))

-- ---- HAVING and the items

module _ (columns : List ScopeColumn) (places : List ℕ) (uncertain : Bool) (having : Option Expr) (items : List Item) (picks : List Pick) (cell : ℕ)
    (typed : IsTyped (group_types columns places) having) (outputs : List ScopeColumn) (is : item_columns (group_types columns places) items ≡ Ok outputs) where
  abbrev setting : Group → MarkedSetting
  setting = group_setting columns places uncertain

  abbrev Fit : Group → Type 0
  Fit g = Each (λ r. FitsColumns r columns) g.rows

  module _ (g : Group) (others : List (List Binding)) (m : Moved g.rows others) (fit : Each (λ r. FitsColumns r columns) g.rows) where
    follows_in : (e : Expr) (u : (t : ExprType) × (type_at (group_types columns places) e ≡ Ok t)) (v : Value) →
        (marked_at (setting g) picks cell e).answer ≡ Ok v → marked_at (setting (with_others g others)) picks cell e ≡ marked_at (setting g) picks cell e
    follows_in e u v k =
        meaning_follows picks cell (bindings (key_columns columns places) (map certain (once places g.key))) g.rows others uncertain m (key_columns columns places) columns fit e u.0 u.1 v k

    having_moved : (h : Option Expr) → IsTyped (group_types columns places) h → (t : Test) → having_test h picks cell (setting g) ≡ Ok t → having_test h picks cell (setting (with_others g others)) ≡ Ok t
    having_moved None u t e = e
    having_moved (Some condition) u t e =
        let s = marked_at (setting g) picks cell condition in
        let p = then_ok s.answer (λ v. and_then (is_true v) (λ h. Ok (record { holds = h; marked = s.marked }))) t e in
        ap test_of (follows_in condition u p.0 p.1) ∙ e

    values_moved : (is' : List Item) (cs : List ScopeColumn) → item_columns (group_types columns places) is' ≡ Ok cs → (values : List Marked) →
        group_values is' picks cell (setting g) ≡ Ok values → group_values is' picks cell (setting (with_others g others)) ≡ Ok values
    values_moved [] cs k values e = e
    values_moved (i ∷ rest) cs k values e =
        let types = group_types columns places in
        let s = marked_at (setting g) picks cell i.expr in
        let p = then_ok (item_column types i) (λ y. and_then (collect (item_column types) rest) (λ ys. Ok (y ∷ ys))) cs k in
        let q = then_ok (collect (item_column types) rest) (λ ys. fine (p.0 ∷ ys)) cs p.2 in
        let t = then_ok (type_at types i.expr) (λ t. fine (output_column i.name t)) p.0 p.1 in
        let n = then_ok (group_value picks cell (setting g) i) (λ y. and_then (collect (group_value picks cell (setting g)) rest) (λ ys. Ok (y ∷ ys))) values e in
        let o = then_ok (collect (group_value picks cell (setting g)) rest) (λ ys. fine (n.0 ∷ ys)) values n.2 in
        let v = then_ok s.answer (λ v. fine (record { value = v; marked = s.marked })) n.0 n.1 in
        let one = ap marked_value (follows_in i.expr (t.0, t.1) v.0 v.1) ∙ n.1 in
        let more = values_moved rest q.0 q.1 o.0 o.1 in
        ap (λ a. and_then a (λ y. and_then (collect (group_value picks cell (setting (with_others g others))) rest) (λ ys. fine (y ∷ ys)))) one
        ∙ (ap (λ a. and_then a (λ ys. fine (n.0 ∷ ys))) more ∙ o.2)

    row_moved : (t : Test) (b : Batch) → group_row setting items picks cell (record { group = g; test = t }) ≡ Ok b → group_row setting items picks cell (record { group = with_others g others; test = t }) ≡ Ok b
    row_moved t b e = at t.holds e
      where
        at : (h : Bool) → (if h then and_then (group_values items picks cell (setting g)) (λ values. Ok (kept (row_of g values) t)) else Ok (record { rows = []; marked = t.marked })) ≡ Ok b →
            (if h then and_then (group_values items picks cell (setting (with_others g others))) (λ values. Ok (kept (row_of g values) t)) else Ok (record { rows = []; marked = t.marked })) ≡ Ok b
        at true k =
            let p = then_ok (group_values items picks cell (setting g)) (λ values. fine (kept (row_of g values) t)) b k in
            ap (λ a. and_then a (λ values. fine (kept (row_of g values) t))) (values_moved items outputs is p.0 p.1) ∙ p.2
        at false k = k

  -- ---- all groups

  abbrev EachTested : List Tested → List Tested → Type 0
  EachTested [] [] = ⊤
  EachTested (x ∷ xs) (y ∷ ys) = ((others : List (List Binding)) × (y ≡ record { group = with_others x.group others; test = x.test }) × Moved x.group.rows others × Fit x.group) × EachTested xs ys
  EachTested xs ys = ⊥

  tested_moved : (gs hs : List Group) → EachMoved gs hs → Each Fit gs → (ts : List Tested) → collect (tested setting having picks cell) gs ≡ Ok ts →
      (us : List Tested) × (collect (tested setting having picks cell) hs ≡ Ok us) × EachTested ts us
  tested_moved [] [] m f ts e = (ts, e, subst (λ z. EachTested z z) (the_same [] ts e) tt)
  tested_moved [] (h ∷ hs) m f ts e = absurd m
  tested_moved (g ∷ gs) [] m f ts e = absurd m
  tested_moved (g ∷ gs) (h ∷ hs) m f ts e =
      let one = m.0 in
      let step = tested setting having picks cell in
      let p = then_ok (step g) (λ y. and_then (collect step gs) (λ ys. Ok (y ∷ ys))) ts e in
      let q = then_ok (collect step gs) (λ ys. fine (p.0 ∷ ys)) ts p.2 in
      let t = then_ok (having_test having picks cell (setting g)) (λ t. fine (record { group = g; test = t })) p.0 p.1 in
      let rest = tested_moved gs hs m.1 f.1 q.0 q.1 in
      let test = having_moved g one.0 one.2 f.0 having typed t.0 t.1 in
      let first : step h ≡ Ok (record { group = with_others g one.0; test = t.0 }) =
      ap step one.1 ∙ ap (λ a. and_then a (λ t. fine (record { group = with_others g one.0; test = t }))) test in
      let us = record { group = with_others g one.0; test = t.0 } ∷ rest.0 in (
        us,
        ap (λ a. and_then a (λ y. and_then (collect step hs) (λ ys. fine (y ∷ ys)))) first ∙ ap (λ a. and_then a (λ ys. fine (record { group = with_others g one.0; test = t.0 } ∷ ys))) rest.1,
        subst (λ z. EachTested z us) (the_same (p.0 ∷ q.0) ts q.2)
            (subst (λ z. EachTested (z ∷ q.0) us) (the_same (record { group = g; test = t.0 }) p.0 t.2) ((one.0, refl, one.2, f.0), rest.2)),
      )

  gathered_moved : (ts us : List Tested) → EachTested ts us → (b : Batch) → gathered (group_row setting items picks cell) ts ≡ Ok b → gathered (group_row setting items picks cell) us ≡ Ok b
  gathered_moved [] [] m b e = e
  gathered_moved [] (u ∷ us) m b e = absurd m
  gathered_moved (t ∷ ts) [] m b e = absurd m
  gathered_moved (t ∷ ts) (u ∷ us) m b e =
      let one = m.0 in
      let step = group_row setting items picks cell in
      let p = then_ok (step t) (λ x. and_then (gathered step ts) (λ y. Ok (both x y))) b e in
      let q = then_ok (gathered step ts) (λ y. fine (both p.0 y)) b p.2 in
      let first : step u ≡ Ok p.0 = ap step one.1 ∙ row_moved t.group one.0 one.2 one.3 t.test p.0 p.1 in
      ap (λ a. and_then a (λ x. and_then (gathered step us) (λ y. fine (both x y)))) first
      ∙ (ap (λ a. and_then a (λ y. fine (both p.0 y))) (gathered_moved ts us m.1 q.0 q.1) ∙ q.2)

  rows_moved : (gs hs : List Group) → EachMoved gs hs → Each Fit gs → (b : Batch) → group_rows setting having items picks cell gs ≡ Ok b → group_rows setting having items picks cell hs ≡ Ok b
  rows_moved gs hs m f b e =
      let step = group_row setting items picks cell in
      let t = then_ok (collect (tested setting having picks cell) gs) (λ ts. gathered step ts) b e in
      let u = tested_moved gs hs m f t.0 t.1 in
      ap (λ a. and_then a (λ ts. gathered step ts)) u.1 ∙ gathered_moved t.0 u.0 u.2 b t.2

-- ---- the steps

abbrev pub with_order : RelData → List Row → RelData
with_order rel others = rel_of rel.columns others rel.is_open rel.is_loose

-- whatever the order of rows, the groups are the same where they give a result
pub grouped_moved : (rel : RelData) (others : List Row) (places : List ℕ) (having : Option Expr) (items : List Item) (picks : List Pick) (cell : ℕ) (out : RelData) →
    IsTyped (group_types rel.columns places) having → Each (λ r. IsTrue (row_fits (bare_columns rel.columns) r)) rel.rows → Moved rel.rows others →
    grouped rel places having items picks cell ≡ Ok out → grouped (with_order rel others) places having items picks cell ≡ Ok out
grouped_moved rel others places having items picks cell out typed fit m e =
    let types = group_types rel.columns places in
    let c = then_ok (item_columns types items) (λ columns. grouped_to columns rel places having items picks cell) out e in
    let p = then_ok (rows_of rel places having items picks cell) (λ b. whole (rel_of c.0 b.rows (may_lack_groups places rel || b.marked) false)) out c.2 in
    let marks = λ (keys : Option (List ℕ)). ap (λ b. rel.is_open || b) (moved_any (has_marked_key keys) rel.rows others m) in
    let setting = group_setting rel.columns places in
    let rows : rows_of (with_order rel others) places having items picks cell ≡ Ok p.0 =
    ap (λ u. group_rows (setting u) having items picks cell (groups rel.columns places others)) (sym (marks (Some places)))
    ∙ rows_moved rel.columns places (is_uncertain (Some places) rel) having items picks cell typed c.0 c.1 (groups rel.columns places rel.rows) (groups rel.columns places others)
    (groups_moved rel.columns rel.rows others m places) (groups_good rel.columns places rel.rows fit) p.0 p.1 in
    ap (λ a. and_then a (λ columns. grouped_to columns (with_order rel others) places having items picks cell)) c.1
    ∙ (ap (λ a. and_then a (λ b. whole (rel_of c.0 b.rows (may_lack_groups places (with_order rel others) || b.marked) false))) rows
    ∙ (ap (λ l. whole (rel_of c.0 p.0.rows (l || p.0.marked) false)) (lacks places marks) ∙ p.2))
  where
    lacks : (ps : List ℕ) → ((keys : Option (List ℕ)) → is_uncertain keys rel ≡ is_uncertain keys (with_order rel others)) → may_lack_groups ps (with_order rel others) ≡ may_lack_groups ps rel
    lacks [] h = refl
    lacks (q ∷ qs) h = sym (h (Some (q ∷ qs)))
