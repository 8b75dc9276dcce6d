-- Groups of what shows the same show the same.
use Rattle.std.proofs.Common.{◌≡◌, ℕ, Bool, true, false, ◌||◌, Option, Some, None, Ok, List, [], ◌∷◌, map, filter, refl, subst, ap, ◌∙◌, sym}
use Rattle.std.specs.Prelude.{is_none, IsTrue}
use Rattle.std.specs.List.{flat_map, filter_map, list_any}
use Rattle.value_types.specs.declared.row_id.RowId.{Key as KeyId}
use Rattle.dataset_types.specs.declared.picks.Pick.{Pick}
use Rattle.dataset_types.specs.declared.row.Row.{Row}
use Rattle.dataset_types.specs.Tables.{row_fits, all_sure}
use Rattle.caveat_marks.specs.Shown.{ShownRow, shown_row, placed}
use Rattle.expr_lang.specs.declared.expr.Expr.{Expr}
use Rattle.expr_meaning.specs.declared.bindings.ScopeColumn.{ScopeColumn}
use Rattle.relations.specs.declared.parts.Item.{Item}
use Rattle.relations.specs.Rels.{RelData, IsRel, bare_columns}
use Rattle.relations.specs.Shown.{ShownRel, SameShown, sure_rows, shown_rel}
use Rattle.relations.proofs.Rules.{or_parts, all_of, all_from}
use Rattle.relations.proofs.Sames.{same_from, same_back, same_on, in_order, by_ids, shown_distinct as shown_apart, with_rows, KeepsSame}
use Rattle.rel_ops.proofs.SameLaws.{keeps_shown}
use Rattle.rel_ops.specs.Project.{item_columns, columns_in}
use Rattle.rel_group.specs.Keys.{ascending}
use Rattle.rel_group.specs.Groups.{has_marked_key, is_uncertain, group_types}
use Rattle.rel_group.specs.Group.{grouped, distinct}
use Rattle.rel_group.specs.Shown.{KnownGroup, shown_key, is_key, shown_uncertain, shown_group_of, shown_keyed, shown_groups, shown_may_lack, known_group_setting, known_having, shown_group_row, shown_grouped, shown_distinct}
use Rattle.rel_group.specs.Laws.{IsTyped, GroupKeepsShown, DistinctKeepsShown}
use Rattle.rel_group.proofs.KeyOrder.{Key, same_ascending}
use Rattle.rel_group.proofs.Moved.{Moved, moved_back, moved_each, moved_any, moved_turn, keys_within}
use Rattle.rel_group.proofs.MovedIds.{moved_by_ids}
use Rattle.rel_group.proofs.MovedGroups.{with_order, grouped_moved}
use Rattle.rel_group.proofs.ShownKeys.{all_rows, uncertain_shows}
use Rattle.rel_group.proofs.ShownGroup.{group_shows_of, distinct_shows}

-- ---- rows in another order

module _ (s : ShownRel) (rows : List ShownRow) (m : Moved s.rows rows) where
  uncertain_moved : (keys : Option (List ℕ)) → shown_uncertain keys s ≡ shown_uncertain keys (with_rows s rows)
  uncertain_moved keys = ap (λ b. s.is_open || b) (moved_any (λ r. is_none (shown_key keys r)) s.rows rows m)

  keys_moved : (keys : Option (List ℕ)) → ascending (filter_map (shown_key keys) s.rows) ≡ ascending (filter_map (shown_key keys) rows)
  keys_moved keys =
      same_ascending (filter_map (shown_key keys) s.rows) (filter_map (shown_key keys) rows) (keys_within (shown_key keys) s.rows rows m)
      (keys_within (shown_key keys) rows s.rows (moved_turn s.rows rows m))

  lack_moved : (places : List ℕ) → shown_may_lack places s ≡ shown_may_lack places (with_rows s rows)
  lack_moved [] = refl
  lack_moved (p ∷ ps) = uncertain_moved (Some (p ∷ ps))

  -- a group whose rows aren't known
  unknown_group : (columns : List ScopeColumn) (u w : Bool) (k : Key) (xs ys : List ShownRow) → u ≡ true → w ≡ true → shown_group_of columns u k xs ≡ shown_group_of columns w k ys
  unknown_group columns u w k xs ys e h = rw (e, h) refl

  unknown_groups : (columns : List ScopeColumn) (keys : Option (List ℕ)) → shown_uncertain keys s ≡ true → shown_keyed columns keys s ≡ shown_keyed columns keys (with_rows s rows)
  unknown_groups columns keys e =
      each (ascending (filter_map (shown_key keys) s.rows))
      ∙ ap (map (λ k. shown_group_of columns (shown_uncertain keys (with_rows s rows)) k (filter (λ r. is_key k (shown_key keys r)) rows))) (keys_moved keys)
    where
      each : (ks : List Key) → map (λ k. shown_group_of columns (shown_uncertain keys s) k (filter (λ r. is_key k (shown_key keys r)) s.rows)) ks
          ≡ map (λ k. shown_group_of columns (shown_uncertain keys (with_rows s rows)) k (filter (λ r. is_key k (shown_key keys r)) rows)) ks
      each [] = refl
      each (k ∷ ks) =
          let one = unknown_group columns (shown_uncertain keys s) (shown_uncertain keys (with_rows s rows)) k (filter (λ r. is_key k (shown_key keys r)) s.rows) (filter (λ r. is_key k (shown_key keys r)) rows) e
          (sym (uncertain_moved keys) ∙ e) in
          let more = each ks in
          λ i. one i ∷ more i

  groups_unknown : (places : List ℕ) → shown_uncertain (Some places) s ≡ true → shown_groups places s ≡ shown_groups places (with_rows s rows)
  groups_unknown [] e =
      ap (λ g. g ∷ []) (unknown_group s.columns (shown_uncertain (Some []) s) (shown_uncertain (Some []) (with_rows s rows)) [] s.rows rows e (sym (uncertain_moved (Some [])) ∙ e))
  groups_unknown (p ∷ ps) e = unknown_groups s.columns (Some (p ∷ ps)) e

  -- where it is uncertain which rows are in a group, the keys alone count
  unknown_same : (places : List ℕ) (having : Option Expr) (items : List Item) → shown_uncertain (Some places) s ≡ true → shown_grouped s places having items ≡ shown_grouped (with_rows s rows) places having items
  unknown_same places having items e =
      let setting = known_group_setting s.columns places in
      let gs = groups_unknown places e in
      let lacks = lack_moved places in
      λ i. record {
        columns = columns_in (item_columns (group_types s.columns places) items);
        rows = flat_map (shown_group_row setting having items) (gs i);
        is_open = lacks i || list_any (λ g. is_none (known_having having (setting g))) (gs i);
        is_loose = false;
      }

-- ---- the relations

alike : (s t : ShownRel) → SameShown s t → with_rows s t.rows ≡ t
alike s t e = λ i. record { columns = e.columns i; rows = t.rows; is_open = e.opens i; is_loose = e.looses i }

sure_moved : (rows others : List Row) → Moved rows others → IsTrue (all_sure rows) → IsTrue (all_sure others)
sure_moved rows others m e = all_from (λ r. r.sure) others (moved_each (λ r. IsTrue r.sure) rows others m (all_of (λ r. r.sure) rows e))

module _ (places : List ℕ) (having : Option Expr) (items : List Item) (picks : List Pick) (cell : ℕ) (a b x : RelData) (is : IsRel a) (too : IsRel b)
    (typed : IsTyped (group_types a.columns places) having) (same : SameShown (shown_rel a) (shown_rel b)) (e : grouped a places having items picks cell ≡ Ok x) where
  -- where it is certain which rows are in a group, the rows of the one come in the order of the other
  turned_shows : Moved (sure_rows a.rows) (sure_rows b.rows) → is_uncertain (Some places) a ≡ false → SameShown (shown_rel x) (shown_grouped (shown_rel b) places having items)
  turned_shows m u =
      let q = or_parts a.is_open (list_any (has_marked_key (Some places)) a.rows) u in
      let sure = is.rules.sure q.0 in
      let p = moved_back shown_row (sure_rows a.rows) (sure_rows b.rows) m a.rows (sym (all_rows (Some places) a.rows sure)) in
      let others_sure = sure_moved a.rows p.0 p.2 sure in
      let out = grouped_moved a p.0 places having items picks cell x typed (all_of (row_fits (bare_columns a.columns)) a.rows is.rules.fitting) p.2 e in
      let rows : sure_rows p.0 ≡ sure_rows b.rows = all_rows (Some places) p.0 others_sure ∙ p.1 in
      let shown : shown_rel (with_order a p.0) ≡ shown_rel b =
      λ i. record { columns = same.columns i; rows = rows i; is_open = same.opens i; is_loose = same.looses i } in
      subst (λ z. SameShown (shown_rel x) (shown_grouped z places having items)) shown (group_shows_of places having items picks cell (with_order a p.0) x (λ o. others_sure) out)

  loose_shows : a.is_loose ≡ true → SameShown (shown_rel x) (shown_grouped (shown_rel b) places having items)
  loose_shows l =
      let placed_same : placed true (sure_rows a.rows) ≡ placed true (sure_rows b.rows) =
      sym (ap (λ z. placed z (sure_rows a.rows)) l) ∙ (same.rows ∙ ap (λ z. placed z (sure_rows b.rows)) (sym same.looses ∙ l)) in
      let ids = by_ids (sure_rows a.rows) (sure_rows b.rows) placed_same in
      at (moved_by_ids (sure_rows a.rows) (sure_rows b.rows) (shown_apart a is) (shown_apart b too) (λ i. ap (λ f. f i) ids)) (is_uncertain (Some places) a) refl
    where
      at : Moved (sure_rows a.rows) (sure_rows b.rows) → (u : Bool) → is_uncertain (Some places) a ≡ u → SameShown (shown_rel x) (shown_grouped (shown_rel b) places having items)
      at m false u = turned_shows m u
      at m true u =
          let unknown = unknown_same (shown_rel a) (sure_rows b.rows) m places having items (uncertain_shows (Some places) a is.rules.sure ∙ u) in
          subst (λ z. SameShown (shown_rel x) z) (unknown ∙ ap (λ z. shown_grouped z places having items) (alike (shown_rel a) (shown_rel b) same))
          (group_shows_of places having items picks cell a x is.rules.sure e)

  ordered_shows : a.is_loose ≡ false → SameShown (shown_rel x) (shown_grouped (shown_rel b) places having items)
  ordered_shows l =
      let placed_same : placed false (sure_rows a.rows) ≡ placed false (sure_rows b.rows) =
      sym (ap (λ z. placed z (sure_rows a.rows)) l) ∙ (same.rows ∙ ap (λ z. placed z (sure_rows b.rows)) (sym same.looses ∙ l)) in
      let rows = in_order (sure_rows a.rows) (sure_rows b.rows) placed_same in
      let shown : shown_rel a ≡ shown_rel b = λ i. record { columns = same.columns i; rows = rows i; is_open = same.opens i; is_loose = same.looses i } in
      subst (λ z. SameShown (shown_rel x) (shown_grouped z places having items)) shown (group_shows_of places having items picks cell a x is.rules.sure e)

  other_shows : SameShown (shown_rel x) (shown_grouped (shown_rel b) places having items)
  other_shows = at a.is_loose refl
    where
      at : (l : Bool) → a.is_loose ≡ l → SameShown (shown_rel x) (shown_grouped (shown_rel b) places having items)
      at true l = loose_shows l
      at false l = ordered_shows l

pub group_keeps_shown : (places : List ℕ) (having : Option Expr) (items : List Item) → GroupKeepsShown places having items
group_keeps_shown places having items picks others cell a b x y is too typed same e k =
    same_on (shown_rel x) (shown_grouped (shown_rel b) places having items) (shown_rel y) (other_shows places having items picks cell a b x is too typed same e)
    (same_back (shown_rel y) (shown_grouped (shown_rel b) places having items) (group_shows_of places having items others cell b y too.rules.sure k))

-- ---- DISTINCT

abbrev of_key : Key → ShownRow
of_key k = record { id = KeyId k; values = map (λ v. Some v) k }

abbrev of_group : KnownGroup → ShownRow
of_group g = of_key g.key

key_rows : (columns : List ScopeColumn) (u : Bool) (f : Key → List ShownRow) (ks : List Key) → map of_group (map (λ k. shown_group_of columns u k (f k)) ks) ≡ map of_key ks
key_rows columns u f [] = refl
key_rows columns u f (k ∷ ks) = ap (λ z. of_key k ∷ z) (key_rows columns u f ks)

distinct_moved : (s : ShownRel) (rows : List ShownRow) → Moved s.rows rows → shown_distinct s ≡ shown_distinct (with_rows s rows)
distinct_moved s rows m =
    let made = key_rows [] (shown_uncertain None s) (λ k. filter (λ r. is_key k (shown_key None r)) s.rows) (ascending (filter_map (shown_key None) s.rows))
    ∙ (ap (map of_key) (keys_moved s rows m None)
    ∙ sym (key_rows [] (shown_uncertain None (with_rows s rows)) (λ k. filter (λ r. is_key k (shown_key None r)) rows) (ascending (filter_map (shown_key None) rows)))) in
    let opens = uncertain_moved s rows m None in
    λ i. record { columns = s.columns; rows = made i; is_open = opens i; is_loose = false }

distinct_keeps : KeepsSame shown_distinct
distinct_keeps s rows d g e = at s.is_loose e
  where
    at : (l : Bool) → placed l s.rows ≡ placed l rows → SameShown (shown_distinct s) (shown_distinct (with_rows s rows))
    at true k =
        let ids = by_ids s.rows rows k in
        same_from (shown_distinct s) (shown_distinct (with_rows s rows)) (distinct_moved s rows (moved_by_ids s.rows rows d g (λ i. ap (λ f. f i) ids)))
    at false k =
        let same = in_order s.rows rows k in
        same_from (shown_distinct s) (shown_distinct (with_rows s rows)) (ap (λ z. shown_distinct (with_rows s z)) same)

pub distinct_keeps_shown : DistinctKeepsShown
distinct_keeps_shown = keeps_shown distinct distinct shown_distinct distinct_shows distinct_shows distinct_keeps
