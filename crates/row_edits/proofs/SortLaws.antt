-- The laws of `sort`, from those of ORDER BY.
use Rattle.std.proofs.Common.{◌≡◌, Bool, true, false, ◌||◌, Ok, Err, List, [], ◌∷◌, map, refl, subst, ap, ◌∙◌, sym}
use Rattle.std.specs.Prelude.{if◌then◌else◌, None}
use Rattle.std.specs.List.{list_any}
use Rattle.std.specs.Result.{result_map_both}
use Rattle.cell_errors.specs.Answers.{Answer, and_then}
use Rattle.dataset_types.specs.declared.column.Column.{Column}
use Rattle.dataset_types.specs.Tables.{TableData, IsTable, table_of, Distinct, column_names}
use Rattle.dataset_types.specs.Plain.{erased}
use Rattle.caveat_marks.specs.Shown.{ShownRow, ShownTable, InOrder, ById, shown, values_at, placed}
use Rattle.relations.specs.declared.parts.SortKey.{SortKey}
use Rattle.relations.specs.Rels.{RelData, KeepsRules as RelRules, rel_of, bare_columns, qualified, table_rel, rel_table}
use Rattle.relations.specs.Plain.{erased_rel}
use Rattle.relations.specs.Shown.{sure_rows}
use Rattle.relations.proofs.FromTable.{table_is_rel, names_again}
use Rattle.relations.proofs.Gathered.{then_ok, whole_ok}
use Rattle.rel_ops.specs.Sorted.{sorted}
use Rattle.rel_ops.specs.Sort.{keys_lt, in_order, has_marked_key, ordered, plain_ordered, shown_at_key, has_unknown_key}
use Rattle.rel_ops.proofs.SortLaws.{sort_erases as order_erases, sort_shows as order_shows, sort_rules as order_rules}
use Rattle.sheet_commands.specs.declared.sort_names.SortName.{SortName}
use Rattle.edit_results.proofs.Whole.{whole_is, whole_table, whole_erased}
use Rattle.row_edits.specs.Sort.{sort_keys, rows_sorted, plain_rel, plain_table, is_astray, sort_shown, shown_rows_sorted}
use Rattle.row_edits.specs.Set.{given_or}
use Rattle.row_edits.specs.Laws.{SortErases, SortShows, SortKeepsShown, SortKeepsRules}
use Rattle.row_edits.proofs.Results.{keeps_shown}

-- ---- the rules

-- the columns of a sorted dataset keep their names
pub sorted_names : (t : TableData) (keys : List SortKey) (r : RelData) → IsTable t → ordered (table_rel None t) keys ≡ Ok r → Distinct (column_names (bare_columns r.columns))
sorted_names t keys r is e =
    subst (λ (x : RelData). Distinct (column_names (bare_columns x.columns)))
    (whole_ok (rel_of (map (qualified None) t.columns) (in_order keys t.rows) t.is_open (t.is_loose || list_any (has_marked_key keys) t.rows)) r e)
    (names_again None t is)

-- a sorted dataset keeps the rules
sorted_rules : (t : TableData) (keys : List SortKey) (r : RelData) → IsTable t → ordered (table_rel None t) keys ≡ Ok r → RelRules r
sorted_rules t keys r is e =
    let loose = t.is_loose || list_any (has_marked_key keys) t.rows in
    subst RelRules (whole_ok (rel_of (map (qualified None) t.columns) (in_order keys t.rows) t.is_open loose) r e) (order_rules (table_rel None t) keys loose (table_is_rel None t is))

pub sort_table : (by : List SortName) → SortKeepsRules by
sort_table by t out is e =
    let first = then_ok (sort_keys t.columns by) (λ keys. and_then (ordered (table_rel None t) keys) rel_table) out e in
    let next = then_ok (ordered (table_rel None t) first.0) rel_table out first.2 in
    let r = next.0 in
    let rules = sorted_rules t first.0 r is next.1 in
    whole_table (table_of (bare_columns r.columns) r.rows r.is_open r.is_loose) out
    (record { names = sorted_names t first.0 r is next.1; ids = rules.ids; fitting = rules.fitting; sure = rules.sure }) next.2

-- ---- erasure

table_erased : (a : Answer RelData) → result_map_both erased (λ e. e) (and_then a rel_table) ≡ and_then (result_map_both erased_rel (λ e. e) a) plain_table
table_erased (Ok r) = whole_erased (table_of (bare_columns r.columns) r.rows r.is_open r.is_loose)
table_erased (Err e) = refl

pub sort_erases : (by : List SortName) → SortErases by
sort_erases by t = on (sort_keys t.columns by)
  where
    on : (a : Answer (List SortKey)) →
        result_map_both erased (λ e. e) (and_then a (λ keys. and_then (ordered (table_rel None t) keys) rel_table))
        ≡ and_then a (λ keys. and_then (plain_ordered (plain_rel (erased t)) keys) plain_table)
    on (Ok keys) = table_erased (ordered (table_rel None t) keys) ∙ ap (λ z. and_then z plain_table) (order_erases keys (table_rel None t))
    on (Err e) = refl

-- ---- what is shown

pub bare_again : (columns : List Column) → bare_columns (map (qualified None) columns) ≡ columns
bare_again [] = refl
bare_again (c ∷ cs) = ap (λ z. c ∷ z) (bare_again cs)

module _ (keys : List SortKey) (seen : List ShownRow) where
  abbrev astray : Bool
  astray = list_any (has_unknown_key keys) seen

  abbrev in_turn : List ShownRow
  in_turn = sorted (keys_lt shown_at_key keys) seen

  certain : (u : Bool) → placed u (if u then seen else in_turn) ≡ (if u then ById (values_at seen) else InOrder in_turn)
  certain true = refl
  certain false = refl

  in_place : (l : Bool) → placed (l || astray) (if l || astray then seen else in_turn) ≡ sort_shown (is_astray keys (placed l seen)) keys (placed l seen)
  in_place true = refl
  in_place false = certain astray

  flag : (l : Bool) → (l || astray) ≡ (l || is_astray keys (placed l seen))
  flag true = refl
  flag false = refl

pub sort_shows : (by : List SortName) → SortShows by
sort_shows by t out is e =
    let first = then_ok (sort_keys t.columns by) (λ keys. and_then (ordered (table_rel None t) keys) rel_table) out e in
    let keys = first.0 in
    let next = then_ok (ordered (table_rel None t) keys) rel_table out first.2 in
    let r = next.0 in
    let same = order_shows keys (table_rel None t) r (table_is_rel None t is) next.1 in
    let seen = sure_rows t.rows in
    subst (λ x. shown x ≡ shown_rows_sorted (shown t) by) (whole_is (table_of (bare_columns r.columns) r.rows r.is_open r.is_loose) out next.2)
    ((λ i. record {
      columns = (ap bare_columns same.columns ∙ bare_again t.columns) i;
      rows = (same.rows ∙ in_place keys seen t.is_loose) i;
      is_open = same.opens i;
      is_loose = (same.looses ∙ flag keys seen t.is_loose) i;
    }) ∙ sym (given (sort_keys t.columns by) keys first.1))
  where
    shown_by : List SortKey → ShownTable
    shown_by keys = record {
      columns = t.columns;
      rows = sort_shown (is_astray keys (placed t.is_loose (sure_rows t.rows))) keys (placed t.is_loose (sure_rows t.rows));
      is_open = t.is_open;
      is_loose = t.is_loose || is_astray keys (placed t.is_loose (sure_rows t.rows));
    }

    given : (a : Answer (List SortKey)) (keys : List SortKey) → a ≡ Ok keys → given_or (shown t) (and_then a (λ ks. Ok (shown_by ks))) ≡ shown_by keys
    given a keys k = rw k refl

-- ---- other picks

pub sort_keeps : (by : List SortName) → SortKeepsShown by
sort_keeps by = keeps_shown (λ t. rows_sorted t by) (λ t. shown_rows_sorted t by) (sort_shows by)
