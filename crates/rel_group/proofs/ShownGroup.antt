-- What is shown of groups is what the steps make of what is shown.
use Rattle.std.proofs.Common.{◌≡◌, ℕ, Bool, true, false, not, ◌&&◌, ◌||◌, Option, Some, None, Ok, List, [], ◌∷◌, ◌++◌, map, refl, subst, ap, ◌∙◌, sym}
use Rattle.std.specs.Prelude.{is_none, unwrap_or, option_map, IsTrue}
use Rattle.std.specs.List.{flat_map, list_any}
use Rattle.value_types.specs.declared.value.Value.{Value}
use Rattle.value_types.specs.declared.row_id.RowId.{Key as KeyId}
use Rattle.cell_errors.specs.Answers.{Answer, and_then, collect}
use Rattle.cell_errors.specs.Seen.{Seen}
use Rattle.dataset_types.specs.declared.picks.Pick.{Pick}
use Rattle.dataset_types.specs.declared.row.Marked.{Marked}
use Rattle.dataset_types.specs.declared.row.Row.{Row}
use Rattle.dataset_types.specs.Tables.{all_sure}
use Rattle.caveat_marks.specs.Shown.{ShownRow, shown_row, shown_value}
use Rattle.expr_lang.specs.declared.expr.Expr.{Expr}
use Rattle.expr_ops.specs.Truths.{is_true}
use Rattle.expr_meaning.specs.declared.bindings.ScopeColumn.{ScopeColumn}
use Rattle.expr_meaning.specs.Known.{known, unless_marked}
use Rattle.expr_meaning.specs.Settings.{MarkedSetting, KnownSetting, known_setting, known_binding}
use Rattle.expr_meaning.specs.Meaning.{marked_at, known_meaning}
use Rattle.expr_meaning.proofs.KnownLaw.{is_known}
use Rattle.relations.specs.declared.batch.Batch.{Batch}
use Rattle.relations.specs.declared.condition.Test.{Test}
use Rattle.relations.specs.declared.parts.Item.{Item}
use Rattle.relations.specs.Rels.{RelData, rel_of, whole}
use Rattle.relations.specs.Bound.{known_bindings}
use Rattle.relations.specs.Batches.{gathered}
use Rattle.relations.specs.Conditions.{test_of, kept_if, holds}
use Rattle.relations.specs.Shown.{SameShown, sure_rows, shown_rel}
use Rattle.relations.proofs.Binds.{binds_known}
use Rattle.relations.proofs.Gathered.{fine, the_same, then_ok, whole_ok, all_shown, sure_is, show_row, ShowsAs, Each}
use Rattle.relations.proofs.Sames.{same_from}
use Rattle.rel_ops.specs.Project.{item_columns, marked_value, value_known, columns_in}
use Rattle.rel_group.specs.Groups.{Group}
use Rattle.rel_group.specs.Group.{Tested}
use Rattle.rel_group.specs.Keys.{once}
use Rattle.rel_group.specs.Groups.{is_uncertain, keyed_groups, groups, may_lack_groups, key_columns, certain, group_setting, group_types}
use Rattle.rel_group.specs.Group.{passed, having_test, tested, group_value, group_values, row_of, group_row, group_rows, rows_of, grouped_to, grouped, key_row}
use Rattle.rel_group.specs.Shown.{KnownGroup, shown_groups, known_group_setting, known_having, shown_group_row, shown_grouped, shown_distinct}
use Rattle.rel_group.specs.Laws.{GroupShows, DistinctShows}
use Rattle.rel_group.proofs.GroupFits.{each_back, groups_sure}
use Rattle.rel_group.proofs.GroupRules.{tested_groups, on_group}
use Rattle.rel_group.proofs.ShownKeys.{show_group, show_sure, keyed_show, groups_show, lack_shows, uncertain_shows}

-- ---- settings

certain_shown : (vs : List Value) → map shown_value (map certain vs) ≡ map (λ v. Some v) vs
certain_shown [] = refl
certain_shown (v ∷ vs) = ap (λ z. Some v ∷ z) (certain_shown vs)

setting_known : (columns : List ScopeColumn) (places : List ℕ) (uncertain : Bool) (g : Group) →
    known_setting (group_setting columns places uncertain g) ≡ known_group_setting columns places (show_group uncertain g)
setting_known columns places uncertain g =
    let is = binds_known (key_columns columns places) (map certain (once places g.key)) ∙ ap (known_bindings (key_columns columns places)) (certain_shown (once places g.key)) in
    λ i. record { row = is i; group = Some (unless_marked uncertain (map (map known_binding) g.rows)) }

-- ---- HAVING

test_known : (s : Seen Value) (t : Test) → test_of s ≡ Ok t → option_map (λ a. holds (and_then a is_true)) (known s) ≡ unless_marked t.marked t.holds
test_known s t e =
    let p = then_ok s.answer (λ v. and_then (is_true v) (λ h. Ok (record { holds = h; marked = s.marked }))) t e in
    let q = then_ok (is_true p.0) (λ h. fine (record { holds = h; marked = s.marked })) t p.2 in
    subst (λ z. option_map (λ a. holds (and_then a is_true)) (known s) ≡ unless_marked z.marked z.holds) (the_same (record { holds = q.0; marked = s.marked }) t q.2)
    (at s.marked q.0 s.answer (ap (λ a. and_then a is_true) p.1 ∙ q.1))
  where
    at : (m h : Bool) (a : Answer Value) → and_then a is_true ≡ Ok h → option_map (λ x. holds (and_then x is_true)) (unless_marked m a) ≡ unless_marked m h
    at true h a k = refl
    at false h a k = ap (λ z. Some (holds z)) k

having_known : (having : Option Expr) (picks : List Pick) (cell : ℕ) (s : MarkedSetting) (t : Test) → having_test having picks cell s ≡ Ok t →
    known_having having (known_setting s) ≡ unless_marked t.marked t.holds
having_known None picks cell s t e = ap (λ z. unless_marked z.marked z.holds) (the_same passed t e)
having_known (Some condition) picks cell s t e =
    ap (option_map (λ a. holds (and_then a is_true))) (sym (is_known condition s picks cell)) ∙ test_known (marked_at s picks cell condition) t e

-- ---- the items

value_shows : (s : Seen Value) (m : Marked) → marked_value s ≡ Ok m → shown_value m ≡ value_known (known s)
value_shows s m e =
    let p = then_ok s.answer (λ v. fine (record { value = v; marked = s.marked })) m e in
    subst (λ z. shown_value z ≡ value_known (known s)) (the_same (record { value = p.0; marked = s.marked }) m p.2)
    (at s.marked p.0 ∙ ap (λ a. value_known (unless_marked s.marked a)) (sym p.1))
  where
    at : (b : Bool) (v : Value) → shown_value (record { value = v; marked = b }) ≡ value_known (unless_marked b (fine v))
    at true v = refl
    at false v = refl

values_show : (picks : List Pick) (cell : ℕ) (s : MarkedSetting) (items : List Item) (ms : List Marked) → group_values items picks cell s ≡ Ok ms →
    map shown_value ms ≡ map (λ i. value_known (known_meaning i.expr (known_setting s))) items
values_show picks cell s [] ms k = ap (map shown_value) (sym (the_same [] ms k))
values_show picks cell s (i ∷ is) ms k =
    let p = then_ok (group_value picks cell s i) (λ y. and_then (collect (group_value picks cell s) is) (λ ys. Ok (y ∷ ys))) ms k in
    let q = then_ok (collect (group_value picks cell s) is) (λ ys. fine (p.0 ∷ ys)) ms p.2 in
    let one = value_shows (marked_at s picks cell i.expr) p.0 p.1 ∙ ap value_known (is_known i.expr s picks cell) in
    let more = values_show picks cell s is q.0 q.1 in
    ap (map shown_value) (sym (the_same (p.0 ∷ q.0) ms q.2)) ∙ (λ j. one j ∷ more j)

-- ---- a group

module _ (setting : Group → MarkedSetting) (having : Option Expr) (items : List Item) (picks : List Pick) (cell : ℕ) (uncertain lacks : Bool)
    (other : KnownGroup → KnownSetting) (same : (g : Group) → known_setting (setting g) ≡ other (show_group uncertain g)) where
  abbrev step : Tested → Answer Batch
  step = group_row setting items picks cell

  abbrev show : Tested → List KnownGroup
  show x = show_sure uncertain x.group

  abbrev made_of : KnownGroup → List ShownRow
  made_of = shown_group_row other having items

  abbrev mark_of : KnownGroup → Bool
  mark_of g = is_none (known_having having (other g))

  -- a group that HAVING has looked at, and that is unsure only where groups may be missing
  abbrev Looked : Tested → Type 0
  Looked x = (having_test having picks cell (setting x.group) ≡ Ok x.test) × (x.group.sure ≡ false → lacks ≡ true)

  known_test : (x : Tested) → having_test having picks cell (setting x.group) ≡ Ok x.test → known_having having (other (show_group uncertain x.group)) ≡ unless_marked x.test.marked x.test.holds
  known_test x e = ap (known_having having) (sym (same x.group)) ∙ having_known having picks cell (setting x.group) x.test e

  abbrev ShowsOnly : Batch → KnownGroup → Bool → Type 0
  ShowsOnly b g sure = (sure_rows b.rows ≡ flat_map made_of (kept_if sure g)) × (lacks || b.marked ≡ lacks || list_any mark_of (kept_if sure g))

  kept_shows : (g : KnownGroup) (sure m h : Bool) (r : Row) (R : ShownRow) → made_of g ≡ kept_if (unwrap_or (unless_marked m h) false) R → mark_of g ≡ is_none (unless_marked m h) →
      (h ≡ true → shown_row r ≡ R) → (sure ≡ false → lacks ≡ true) →
      ShowsOnly (record { rows = kept_if h (record { id = r.id; sure = sure && not m; values = r.values }); marked = m }) g sure
  kept_shows g false m true r R f n s u = (refl, rw (u refl) refl)
  kept_shows g false m false r R f n s u = (refl, rw (u refl) refl)
  kept_shows g true true true r R f n s u = (rw f refl, rw n refl)
  kept_shows g true true false r R f n s u = (rw f refl, rw n refl)
  kept_shows g true false true r R f n s u = (rw f (ap (λ z. z ∷ []) (s refl)), rw n refl)
  kept_shows g true false false r R f n s u = (rw f refl, rw n refl)

  one_shows : (x : Tested) (b : Batch) → Looked x → step x ≡ Ok b → ShowsAs lacks step show made_of mark_of b (show x)
  one_shows x b l e =
      let g = show_group uncertain x.group in
      let test = known_test x l.0 in
      let row : ShownRow = record { id = KeyId x.group.key; values = map (λ i. value_known (known_meaning i.expr (other g))) items } in
      let of_row = λ (r : Row) (s : x.test.holds ≡ true → shown_row r ≡ row).
      kept_shows g x.group.sure x.test.marked x.test.holds r row (ap (λ t. kept_if (unwrap_or t false) row) test) (ap is_none test) s l.1 in
      on_group setting having items picks cell (λ c. ShowsOnly c g x.group.sure) x b
      (λ t values k.
      let is = values_show picks cell (setting x.group) items values k ∙ ap (λ s. map (λ i. value_known (known_meaning i.expr s)) items) (same x.group) in
      of_row (row_of x.group values) (λ h i. record { id = KeyId x.group.key; values = is i }))
      (λ t.
      let p = of_row (row_of x.group []) (λ h. absurd (wrong (sym h ∙ t))) in
      (sym (ap (λ h. sure_rows (kept_if h (record { id = KeyId x.group.key; sure = x.group.sure && not x.test.marked; values = [] }))) t) ∙ p.0, p.1)) e
    where
      wrong : true ≡ false → ⊥
      wrong z = cc

  -- HAVING has looked at each
  looked : (gs : List Group) (ts : List Tested) → collect (tested setting having picks cell) gs ≡ Ok ts → Each (λ x. having_test having picks cell (setting x.group) ≡ Ok x.test) ts
  looked [] ts e = subst (Each (λ x. having_test having picks cell (setting x.group) ≡ Ok x.test)) (the_same [] ts e) tt
  looked (g ∷ gs) ts e =
      let p = then_ok (tested setting having picks cell g) (λ y. and_then (collect (tested setting having picks cell) gs) (λ ys. Ok (y ∷ ys))) ts e in
      let q = then_ok (collect (tested setting having picks cell) gs) (λ ys. fine (p.0 ∷ ys)) ts p.2 in
      let t = then_ok (having_test having picks cell (setting g)) (λ t. fine (record { group = g; test = t })) p.0 p.1 in
      subst (Each (λ x. having_test having picks cell (setting x.group) ≡ Ok x.test)) (the_same (p.0 ∷ q.0) ts q.2)
      (subst (λ z. having_test having picks cell (setting z.group) ≡ Ok z.test) (the_same (record { group = g; test = t.0 }) p.0 t.2) t.1, looked gs q.0 q.1)

  both_of : {X : Type 0} (P Q : X → Type 0) (xs : List X) → Each P xs → Each Q xs → Each (λ x. P x × Q x) xs
  both_of P Q [] e k = tt
  both_of P Q (x ∷ xs) e k = ((e.0, k.0), both_of P Q xs e.1 k.1)

  flat_on_map : {X Y Z : Type 0} (f : Y → List Z) (g : X → Y) (xs : List X) → flat_map f (map g xs) ≡ flat_map (λ x. f (g x)) xs
  flat_on_map f g [] = refl
  flat_on_map f g (x ∷ xs) = ap (λ z. f (g x) ++ z) (flat_on_map f g xs)

  pub rows_show : (gs : List Group) (b : Batch) → Each (λ g. g.sure ≡ false → lacks ≡ true) gs → group_rows setting having items picks cell gs ≡ Ok b →
      (sure_rows b.rows ≡ flat_map made_of (flat_map (show_sure uncertain) gs)) × (lacks || b.marked ≡ lacks || list_any mark_of (flat_map (show_sure uncertain) gs))
  rows_show gs b u e =
      let t = then_ok (collect (tested setting having picks cell) gs) (λ ts. gathered step ts) b e in
      let same_groups = tested_groups setting having items picks cell gs t.0 t.1 in
      let good = both_of (λ x. having_test having picks cell (setting x.group) ≡ Ok x.test) (λ x. x.group.sure ≡ false → lacks ≡ true) t.0 (looked gs t.0 t.1)
      (each_back (λ x. x.group) (λ g. g.sure ≡ false → lacks ≡ true) t.0 (subst (Each (λ g. g.sure ≡ false → lacks ≡ true)) (sym same_groups) u)) in
      let s = all_shown lacks step show made_of mark_of Looked one_shows t.0 b good t.2 in
      let is = sym (flat_on_map (show_sure uncertain) (λ (x : Tested). x.group) t.0) ∙ ap (flat_map (show_sure uncertain)) same_groups in
      (s.0 ∙ ap (flat_map made_of) is, s.1 ∙ ap (λ z. lacks || list_any mark_of z) is)

-- ---- the steps

unsure_lacks : (rel : RelData) → (rel.is_open ≡ false → IsTrue (all_sure rel.rows)) → (places : List ℕ) → Each (λ g. g.sure ≡ false → may_lack_groups places rel ≡ true) (groups rel.columns places rel.rows)
unsure_lacks rel sure places = at (may_lack_groups places rel) refl
  where
    all : (gs : List Group) → may_lack_groups places rel ≡ true → Each (λ g. g.sure ≡ false → may_lack_groups places rel ≡ true) gs
    all [] e = tt
    all (g ∷ gs) e = (λ s. e, all gs e)

    never : (gs : List Group) → Each (λ g. IsTrue g.sure) gs → Each (λ g. g.sure ≡ false → may_lack_groups places rel ≡ true) gs
    never [] e = tt
    never (g ∷ gs) e = (λ s. absurd (wrong (sym e.0 ∙ s)), never gs e.1)
      where
        wrong : true ≡ false → ⊥
        wrong z = cc

    at : (b : Bool) → may_lack_groups places rel ≡ b → Each (λ g. g.sure ≡ false → may_lack_groups places rel ≡ true) (groups rel.columns places rel.rows)
    at true e = all (groups rel.columns places rel.rows) e
    at false e = never (groups rel.columns places rel.rows) (groups_sure rel sure places e)

-- of a relation in which an unsure row opens
pub group_shows_of : (places : List ℕ) (having : Option Expr) (items : List Item) (picks : List Pick) (cell : ℕ) (rel out : RelData) → (rel.is_open ≡ false → IsTrue (all_sure rel.rows)) →
    grouped rel places having items picks cell ≡ Ok out → SameShown (shown_rel out) (shown_grouped (shown_rel rel) places having items)
group_shows_of places having items picks cell rel out sure e =
    let uncertain = is_uncertain (Some places) rel in
    let setting = group_setting rel.columns places uncertain in
    let other = known_group_setting rel.columns places in
    let lacks = may_lack_groups places rel in
    let mark_of = λ (g : KnownGroup). is_none (known_having having (other g)) in
    let c = then_ok (item_columns (group_types rel.columns places) items) (λ columns. grouped_to columns rel places having items picks cell) out e in
    let p = then_ok (rows_of rel places having items picks cell) (λ b. whole (rel_of c.0 b.rows (lacks || b.marked) false)) out c.2 in
    let s = rows_show setting having items picks cell uncertain lacks other (setting_known rel.columns places uncertain)
    (groups rel.columns places rel.rows) p.0 (unsure_lacks rel sure places) p.1 in
    let gs = groups_show rel sure places in
    let columns : c.0 ≡ columns_in (item_columns (group_types rel.columns places) items) = ap columns_in (sym c.1) in
    let rows = s.0 ∙ ap (flat_map (shown_group_row other having items)) gs in
    let opens = s.1 ∙ (ap (λ z. lacks || list_any mark_of z) gs ∙ ap (λ l. l || list_any mark_of (shown_groups places (shown_rel rel))) (lack_shows rel sure places)) in
    subst (λ z. SameShown (shown_rel z) (shown_grouped (shown_rel rel) places having items)) (whole_ok _ out p.2)
    (same_from (shown_rel (rel_of c.0 p.0.rows (lacks || p.0.marked) false)) (shown_grouped (shown_rel rel) places having items)
    (λ i. record { columns = columns i; rows = rows i; is_open = opens i; is_loose = false }))

pub group_shows_all : (places : List ℕ) (having : Option Expr) (items : List Item) → GroupShows places having items
group_shows_all places having items picks cell rel out is e = group_shows_of places having items picks cell rel out is.rules.sure e

-- ---- DISTINCT

abbrev of_key : KnownGroup → ShownRow
of_key g = record { id = KeyId g.key; values = map (λ v. Some v) g.key }

distinct_rows : (uncertain : Bool) (gs : List Group) → sure_rows (map key_row gs) ≡ map of_key (flat_map (show_sure uncertain) gs)
distinct_rows uncertain gs = sure_is (map key_row gs) ∙ each gs
  where
    one : (g : Group) (b : Bool) (rest : List ShownRow) (more : List KnownGroup) → rest ≡ map of_key more →
        kept_if b (shown_row (key_row g)) ++ rest ≡ map of_key (kept_if b (show_group uncertain g) ++ more)
    one g true rest more e = let is = certain_shown g.key in λ i. record { id = KeyId g.key; values = is i } ∷ e i
    one g false rest more e = e

    each : (hs : List Group) → flat_map show_row (map key_row hs) ≡ map of_key (flat_map (show_sure uncertain) hs)
    each [] = refl
    each (h ∷ hs) = one h h.sure (flat_map show_row (map key_row hs)) (flat_map (show_sure uncertain) hs) (each hs)

pub distinct_shows : DistinctShows
distinct_shows rel out is e =
    let uncertain = is_uncertain None rel in
    let rows = distinct_rows uncertain (keyed_groups [] None rel.rows) ∙ ap (map of_key) (keyed_show [] rel is.rules.sure None) in
    let opens = sym (uncertain_shows None rel is.rules.sure) in
    subst (λ z. SameShown (shown_rel z) (shown_distinct (shown_rel rel))) (whole_ok _ out e)
    (same_from (shown_rel (rel_of rel.columns (map key_row (keyed_groups [] None rel.rows)) uncertain false)) (shown_distinct (shown_rel rel))
    (λ i. record { columns = rel.columns; rows = rows i; is_open = opens i; is_loose = false }))
