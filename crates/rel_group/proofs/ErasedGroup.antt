-- Dropping marks and flags before a step over groups or after it is one thing.
use Rattle.std.proofs.Common.{◌≡◌, ℕ, Bool, true, false, not, ◌&&◌, ◌||◌, Option, Some, None, Ok, Err, List, [], ◌∷◌, map, refl, ap, ◌∙◌, sym}
use Rattle.std.specs.Prelude.{if◌then◌else◌}
use Rattle.std.specs.Result.{result_map_both}
use Rattle.value_types.specs.declared.value.Value.{Value}
use Rattle.cell_errors.specs.Answers.{Answer, and_then, collect}
use Rattle.cell_errors.specs.Seen.{Seen}
use Rattle.dataset_types.specs.declared.picks.Pick.{Pick}
use Rattle.dataset_types.specs.declared.row.Marked.{Marked}
use Rattle.dataset_types.specs.declared.row.Row.{Row}
use Rattle.dataset_types.specs.Plain.{erased_row}
use Rattle.expr_lang.specs.declared.expr.Expr.{Expr}
use Rattle.expr_ops.specs.Truths.{is_true}
use Rattle.expr_meaning.specs.declared.bindings.ScopeColumn.{ScopeColumn}
use Rattle.expr_meaning.specs.Settings.{MarkedSetting, PlainSetting, plain_binding, plain_setting}
use Rattle.expr_meaning.specs.Meaning.{marked_at, plain_meaning}
use Rattle.expr_meaning.proofs.Erased.{erases_to}
use Rattle.relations.specs.declared.condition.Test.{Test}
use Rattle.relations.specs.declared.parts.Item.{Item}
use Rattle.relations.specs.Rels.{rel_of}
use Rattle.relations.specs.Bound.{plain_bindings}
use Rattle.relations.specs.Batches.{gathered}
use Rattle.relations.specs.Conditions.{test_of, kept_if, kept}
use Rattle.relations.specs.Plain.{erased_rel, erased_batch, listed, plain_whole}
use Rattle.relations.proofs.Binds.{binds_plain}
use Rattle.relations.proofs.Gathered.{fine, all_erased}
use Rattle.relations.proofs.Erasing.{whole_erased, batch_erased}
use Rattle.rel_ops.specs.Project.{item_columns, marked_value}
use Rattle.rel_group.specs.Groups.{Group}
use Rattle.rel_group.specs.Group.{Tested}
use Rattle.rel_group.specs.Keys.{once, ascending, rows_at}
use Rattle.rel_group.specs.Groups.{key_values, is_uncertain, bound_rows, group_of, keyed_groups, groups, may_lack_groups, key_columns, certain, group_setting, group_types}
use Rattle.rel_group.specs.Group.{having_test, tested, group_value, group_values, row_of, group_row, group_rows, rows_of, grouped_to, key_row}
use Rattle.rel_group.specs.Plain.{PlainGroup, plain_key, plain_group_of, plain_keyed, plain_groups, plain_group_setting, plain_having, plain_tested, plain_row_of, plain_group_row, plain_group_rows}
use Rattle.rel_group.specs.Laws.{GroupErases, DistinctErases}
use Rattle.rel_group.proofs.Natural.{key_map, keys_map, rows_map}

-- ---- groups

-- a group without marks
abbrev erased_group : Group → PlainGroup
erased_group g = record { key = g.key; rows = map (map plain_binding) g.rows }

plain_key_is : (keys : Option (List ℕ)) (r : Row) → plain_key keys (erased_row r) ≡ key_values keys r
plain_key_is keys r = key_map (λ (m : Marked). m.value) keys r.values

module _ (columns : List ScopeColumn) where
  rows_erase : (rows : List Row) → map (map plain_binding) (bound_rows columns rows) ≡ map (λ r. plain_bindings columns r.values) (map erased_row rows)
  rows_erase [] = refl
  rows_erase (r ∷ rs) = let one = binds_plain columns r.values in let more = rows_erase rs in λ i. one i ∷ more i

  group_erases : (keys : Option (List ℕ)) (rows : List Row) (k : List Value) →
      erased_group (group_of columns keys k (rows_at (key_values keys) rows k)) ≡ plain_group_of columns k (rows_at (plain_key keys) (map erased_row rows) k)
  group_erases keys rows k =
      let is = rows_erase (rows_at (key_values keys) rows k)
      ∙ ap (map (λ r. plain_bindings columns r.values)) (sym (rows_map erased_row (key_values keys) (plain_key keys) (plain_key_is keys) rows k)) in
      λ i. record { key = k; rows = is i }

  each_erases : (keys : Option (List ℕ)) (rows : List Row) (ks : List (List Value)) →
      map erased_group (map (λ k. group_of columns keys k (rows_at (key_values keys) rows k)) ks) ≡ map (λ k. plain_group_of columns k (rows_at (plain_key keys) (map erased_row rows) k)) ks
  each_erases keys rows [] = refl
  each_erases keys rows (k ∷ ks) = let one = group_erases keys rows k in let more = each_erases keys rows ks in λ i. one i ∷ more i

  keyed_erase : (keys : Option (List ℕ)) (rows : List Row) → map erased_group (keyed_groups columns keys rows) ≡ plain_keyed columns keys (map erased_row rows)
  keyed_erase keys rows =
      each_erases keys rows (ascending (map (key_values keys) rows))
      ∙ ap (λ ks. map (λ k. plain_group_of columns k (rows_at (plain_key keys) (map erased_row rows) k)) (ascending ks)) (sym (keys_map erased_row (key_values keys) (plain_key keys) (plain_key_is keys) rows))

  groups_erase : (places : List ℕ) (rows : List Row) → map erased_group (groups columns places rows) ≡ plain_groups columns places (map erased_row rows)
  groups_erase [] rows = let is = rows_erase rows in λ i. record { key = []; rows = is i } ∷ []
  groups_erase (p ∷ ps) rows = keyed_erase (Some (p ∷ ps)) rows

certain_values : (vs : List Value) → map (λ m. m.value) (map certain vs) ≡ vs
certain_values [] = refl
certain_values (v ∷ vs) = ap (λ z. v ∷ z) (certain_values vs)

setting_erases : (columns : List ScopeColumn) (places : List ℕ) (uncertain : Bool) (g : Group) →
    plain_setting (group_setting columns places uncertain g) ≡ plain_group_setting columns places (erased_group g)
setting_erases columns places uncertain g =
    let is = binds_plain (key_columns columns places) (map certain (once places g.key)) ∙ ap (plain_bindings (key_columns columns places)) (certain_values (once places g.key)) in
    λ i. record { row = is i; group = Some (map (map plain_binding) g.rows) }

-- ---- HAVING and the items

-- items in order, where each is erased so
module _ {X A B : Type 0} (f : X → Answer A) (g : X → Answer B) (h : A → B) (each : (x : X) → result_map_both h (λ e. e) (f x) ≡ g x) where
  one_more : (a : Answer A) (b : Answer (List A)) → result_map_both (map h) (λ e. e) (and_then a (λ y. and_then b (λ ys. Ok (y ∷ ys))))
      ≡ and_then (result_map_both h (λ e. e) a) (λ y. and_then (result_map_both (map h) (λ e. e) b) (λ ys. Ok (y ∷ ys)))
  one_more (Ok y) (Ok ys) = refl
  one_more (Ok y) (Err e) = refl
  one_more (Err e) b = refl

  collect_erased : (xs : List X) → result_map_both (map h) (λ e. e) (collect f xs) ≡ collect g xs
  collect_erased [] = refl
  collect_erased (x ∷ xs) = one_more (f x) (collect f xs) ∙ rw (each x, collect_erased xs) refl

collect_map : {X Y A : Type 0} (f : Y → Answer A) (g : X → Y) (xs : List X) → collect (λ x. f (g x)) xs ≡ collect f (map g xs)
collect_map f g [] = refl
collect_map f g (x ∷ xs) = ap (λ z. and_then (f (g x)) (λ y. and_then z (λ ys. fine (y ∷ ys)))) (collect_map f g xs)

value_erases : (s : Seen Value) → result_map_both (λ (m : Marked). m.value) (λ e. e) (marked_value s) ≡ s.answer
value_erases s = at s.answer
  where
    at : (a : Answer Value) → result_map_both (λ (m : Marked). m.value) (λ e. e) (and_then a (λ v. Ok (record { value = v; marked = s.marked }))) ≡ a
    at (Ok v) = refl
    at (Err e) = refl

test_erases : (s : Seen Value) → result_map_both (λ (t : Test). t.holds) (λ e. e) (test_of s) ≡ and_then s.answer is_true
test_erases s = on_answer s.answer
  where
    on_truth : (a : Answer Bool) → result_map_both (λ (t : Test). t.holds) (λ e. e) (and_then a (λ h. Ok (record { holds = h; marked = s.marked }))) ≡ a
    on_truth (Ok h) = refl
    on_truth (Err e) = refl

    on_answer : (a : Answer Value) → result_map_both (λ (t : Test). t.holds) (λ e. e) (and_then a (λ v. and_then (is_true v) (λ h. Ok (record { holds = h; marked = s.marked })))) ≡ and_then a is_true
    on_answer (Ok v) = on_truth (is_true v)
    on_answer (Err e) = refl

module _ (picks : List Pick) (cell : ℕ) where
  having_erases : (having : Option Expr) (s : MarkedSetting) → result_map_both (λ (t : Test). t.holds) (λ e. e) (having_test having picks cell s) ≡ plain_having having picks cell (plain_setting s)
  having_erases None s = refl
  having_erases (Some condition) s = test_erases (marked_at s picks cell condition) ∙ ap (λ a. and_then a is_true) (erases_to condition s picks cell)

  values_erase : (items : List Item) (s : MarkedSetting) → result_map_both (map (λ (m : Marked). m.value)) (λ e. e) (group_values items picks cell s) ≡ collect (λ i. plain_meaning picks cell i.expr (plain_setting s)) items
  values_erase items s =
      collect_erased (group_value picks cell s) (λ i. plain_meaning picks cell i.expr (plain_setting s)) (λ m. m.value)
      (λ i. value_erases (marked_at s picks cell i.expr) ∙ erases_to i.expr s picks cell) items

  module _ (setting : Group → MarkedSetting) (other : PlainGroup → PlainSetting) (same : (g : Group) → plain_setting (setting g) ≡ other (erased_group g)) (having : Option Expr) (items : List Item) where
    abbrev erased_tested : Tested → PlainGroup × Bool
    erased_tested x = (erased_group x.group, x.test.holds)

    tested_erases : (g : Group) → result_map_both erased_tested (λ e. e) (tested setting having picks cell g) ≡ plain_tested other having picks cell (erased_group g)
    tested_erases g =
        at (having_test having picks cell (setting g))
        ∙ ap (λ a. and_then a (λ t. fine (erased_group g, t))) (having_erases having (setting g) ∙ ap (plain_having having picks cell) (same g))
      where
        at : (a : Answer Test) → result_map_both erased_tested (λ e. e) (and_then a (λ t. Ok (record { group = g; test = t })))
            ≡ and_then (result_map_both (λ (t : Test). t.holds) (λ e. e) a) (λ t. fine (erased_group g, t))
        at (Ok t) = refl
        at (Err e) = refl

    row_erases : (x : Tested) → result_map_both erased_batch (λ e. e) (group_row setting items picks cell x) ≡ plain_group_row other items picks cell (erased_tested x)
    row_erases x = on x.test.holds refl
      where
        kept_erases : (values : List Marked) → x.test.holds ≡ true → erased_batch (kept (row_of x.group values) x.test) ≡ plain_row_of (erased_group x.group) (map (λ m. m.value) values) ∷ []
        kept_erases values e = ap (λ b. map erased_row (kept_if b (record { id = (row_of x.group values).id; sure = x.group.sure && not x.test.marked; values = values }))) e

        at : (a : Answer (List Marked)) → x.test.holds ≡ true → result_map_both erased_batch (λ e. e) (and_then a (λ values. Ok (kept (row_of x.group values) x.test)))
            ≡ and_then (result_map_both (map (λ (m : Marked). m.value)) (λ e. e) a) (λ values. fine (plain_row_of (erased_group x.group) values ∷ []))
        at (Ok values) e = ap (λ z. Ok z) (kept_erases values e)
        at (Err d) e = refl

        on : (b : Bool) → x.test.holds ≡ b →
            result_map_both erased_batch (λ e. e) (if b then and_then (group_values items picks cell (setting x.group)) (λ values. Ok (kept (row_of x.group values) x.test)) else Ok (record { rows = []; marked = x.test.marked }))
            ≡ (if b then and_then (collect (λ i. plain_meaning picks cell i.expr (other (erased_group x.group))) items) (λ values. Ok (plain_row_of (erased_group x.group) values ∷ [])) else Ok [])
        on true e =
            at (group_values items picks cell (setting x.group)) e
            ∙ ap (λ a. and_then a (λ values. fine (plain_row_of (erased_group x.group) values ∷ [])))
            (values_erase items (setting x.group) ∙ ap (λ s. collect (λ i. plain_meaning picks cell i.expr s) items) (same x.group))
        on false e = refl

    rows_erase_all : (gs : List Group) → result_map_both erased_batch (λ e. e) (group_rows setting having items picks cell gs) ≡ plain_group_rows other having items picks cell (map erased_group gs)
    rows_erase_all gs =
        at (collect (tested setting having picks cell) gs)
        ∙ ap (λ a. and_then a (listed (plain_group_row other items picks cell)))
        (collect_erased (tested setting having picks cell) (λ g. plain_tested other having picks cell (erased_group g)) erased_tested tested_erases gs
        ∙ collect_map (plain_tested other having picks cell) erased_group gs)
      where
        at : (a : Answer (List Tested)) → result_map_both erased_batch (λ e. e) (and_then a (gathered (group_row setting items picks cell)))
            ≡ and_then (result_map_both (map erased_tested) (λ e. e) a) (listed (plain_group_row other items picks cell))
        at (Ok ts) = all_erased (group_row setting items picks cell) (plain_group_row other items picks cell) erased_tested row_erases ts
        at (Err e) = refl

-- ---- the steps

pub group_erases_all : (places : List ℕ) (having : Option Expr) (items : List Item) → GroupErases places having items
group_erases_all places having items picks cell rel = at (item_columns (group_types rel.columns places) items)
  where
    setting : Group → MarkedSetting
    setting = group_setting rel.columns places (is_uncertain (Some places) rel)

    other : PlainGroup → PlainSetting
    other = plain_group_setting rel.columns places

    to : (columns : List ScopeColumn) → result_map_both erased_rel (λ e. e) (grouped_to columns rel places having items picks cell)
        ≡ and_then (plain_group_rows (plain_group_setting rel.columns places) having items picks cell (plain_groups rel.columns places (map erased_row rel.rows))) (λ rows. plain_whole (record { columns = columns; rows = rows }))
    to columns =
        batch_erased columns (λ b. may_lack_groups places rel || b.marked) false (rows_of rel places having items picks cell)
        ∙ ap (λ a. and_then a (λ rows. plain_whole (record { columns = columns; rows = rows })))
        (rows_erase_all picks cell (group_setting rel.columns places (is_uncertain (Some places) rel)) (plain_group_setting rel.columns places) (setting_erases rel.columns places (is_uncertain (Some places) rel)) having items (groups rel.columns places rel.rows)
        ∙ ap (plain_group_rows (plain_group_setting rel.columns places) having items picks cell) (groups_erase rel.columns places rel.rows))

    at : (a : Answer (List ScopeColumn)) → result_map_both erased_rel (λ e. e) (and_then a (λ columns. grouped_to columns rel places having items picks cell))
        ≡ and_then a (λ columns. and_then (plain_group_rows (plain_group_setting rel.columns places) having items picks cell (plain_groups rel.columns places (map erased_row rel.rows))) (λ rows. plain_whole (record { columns = columns; rows = rows })))
    at (Ok columns) = to columns
    at (Err e) = refl

pub distinct_erases : DistinctErases
distinct_erases rel =
    whole_erased (rel_of rel.columns (map key_row (keyed_groups [] None rel.rows)) (is_uncertain None rel) false)
    ∙ ap (λ rows. plain_whole (record { columns = rel.columns; rows = rows })) (each (keyed_groups [] None rel.rows) ∙ ap (map (λ g. plain_row_of g g.key)) (keyed_erase [] None rel.rows))
  where
    each : (gs : List Group) → map erased_row (map key_row gs) ≡ map (λ g. plain_row_of g g.key) (map erased_group gs)
    each [] = refl
    each (g ∷ gs) = let one = certain_values g.key in let more = each gs in λ i. record { id = (key_row g).id; values = one i } ∷ more i
