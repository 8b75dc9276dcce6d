-- The laws of the items.
use Rattle.std.proofs.Common.{◌≡◌, ℕ, Bool, true, false, ◌||◌, Ok, Err, List, [], ◌∷◌, map, refl, subst, ap, ◌∙◌, sym}
use Rattle.std.specs.List.{flat_map, list_any}
use Rattle.std.specs.Result.{result_map_both}
use Rattle.value_types.specs.declared.value.Value.{Value}
use Rattle.cell_errors.specs.Answers.{Answer, and_then, collect}
use Rattle.cell_errors.specs.Seen.{Seen}
use Rattle.dataset_types.specs.declared.picks.Pick.{Pick}
use Rattle.dataset_types.specs.declared.row.Marked.{Marked}
use Rattle.dataset_types.specs.declared.row.Row.{Row}
use Rattle.dataset_types.specs.Plain.{erased_row}
use Rattle.caveat_marks.specs.Shown.{ShownRow, shown_row, shown_value}
use Rattle.expr_meaning.specs.declared.bindings.ScopeColumn.{ScopeColumn}
use Rattle.expr_meaning.specs.Known.{known, unless_marked}
use Rattle.expr_meaning.specs.Meaning.{marked_over_row, known_over_row}
use Rattle.expr_meaning.specs.Types.{over_columns}
use Rattle.relations.specs.declared.batch.Batch.{Batch}
use Rattle.relations.specs.declared.parts.Item.{Item}
use Rattle.relations.specs.Rels.{rel_of, whole}
use Rattle.relations.specs.Bound.{bindings, plain_bindings, known_bindings}
use Rattle.relations.specs.Batches.{gathered}
use Rattle.relations.specs.Conditions.{kept_if}
use Rattle.relations.specs.Plain.{erased_rel, erased_batch, listed, plain_whole}
use Rattle.relations.specs.Shown.{SameShown, sure_rows, shown_rel}
use Rattle.relations.proofs.Binds.{over_plain, over_known}
use Rattle.relations.proofs.Gathered.{fine, the_same, then_ok, whole_ok, all_erased, all_shown, show_row, sure_is, ShowsAs}
use Rattle.relations.proofs.Rules.{UnsureOpens, unsure_opens}
use Rattle.relations.proofs.Erasing.{batch_erased}
use Rattle.relations.proofs.Sames.{same_from, KeepsSame, map_placed}
use Rattle.rel_ops.specs.Project.{item_columns, marked_value, item_value, values_over, with_values, item_row, projected_to, projected, plain_value, plain_item, value_known, shown_values, shown_item, columns_in, shown_projected}
use Rattle.rel_ops.specs.Laws.{ProjectErases, ProjectShows, ProjectKeepsShown}
use Rattle.rel_ops.proofs.SameLaws.{keeps_shown}

-- ---- erasure

value_erases : (s : Seen Value) → result_map_both (λ (m : Marked). m.value) (λ e. e) (marked_value s) ≡ s.answer
value_erases s = at s.answer
  where
    at : (a : Answer Value) → result_map_both (λ (m : Marked). m.value) (λ e. e) (and_then a (λ v. Ok (record { value = v; marked = s.marked }))) ≡ a
    at (Ok v) = refl
    at (Err e) = refl

-- items in order, where each is erased so
module _ {X A B : Type 0} (f : X → Answer A) (g : X → Answer B) (h : A → B) (each : (x : X) → result_map_both h (λ e. e) (f x) ≡ g x) where
  one_more : (a : Answer A) (b : Answer (List A)) → result_map_both (map h) (λ e. e) (and_then a (λ y. and_then b (λ ys. Ok (y ∷ ys))))
      ≡ and_then (result_map_both h (λ e. e) a) (λ y. and_then (result_map_both (map h) (λ e. e) b) (λ ys. Ok (y ∷ ys)))
  one_more (Ok y) (Ok ys) = refl
  one_more (Ok y) (Err e) = refl
  one_more (Err e) b = refl

  collect_erased : (xs : List X) → result_map_both (map h) (λ e. e) (collect f xs) ≡ collect g xs
  collect_erased [] = refl
  collect_erased (x ∷ xs) = one_more (f x) (collect f xs) ∙ rw (each x, collect_erased xs) refl

module _ (columns : List ScopeColumn) (items : List Item) (picks : List Pick) (cell : ℕ) where
  values_erase : (values : List Marked) → result_map_both (map (λ m. m.value)) (λ e. e) (values_over (bindings columns values) items picks cell)
      ≡ collect (plain_value (plain_bindings columns (map (λ m. m.value) values)) picks cell) items
  values_erase values =
      collect_erased (item_value (bindings columns values) picks cell) (plain_value (plain_bindings columns (map (λ m. m.value) values)) picks cell) (λ m. m.value)
      (λ i. value_erases (marked_over_row (bindings columns values) picks cell i.expr) ∙ over_plain columns values picks cell i.expr) items

  row_erases : (r : Row) → result_map_both erased_batch (λ e. e) (item_row columns items picks cell r) ≡ plain_item columns items picks cell (erased_row r)
  row_erases r = at (values_over (bindings columns r.values) items picks cell)
      ∙ ap (λ a. and_then a (λ vs. fine (record { id = r.id; values = vs } ∷ []))) (values_erase r.values)
    where
      at : (a : Answer (List Marked)) → result_map_both erased_batch (λ e. e) (and_then a (λ values. Ok (with_values r values)))
          ≡ and_then (result_map_both (map (λ m. m.value)) (λ e. e) a) (λ vs. fine (record { id = r.id; values = vs } ∷ []))
      at (Ok values) = refl
      at (Err e) = refl

pub project_erases : (items : List Item) → ProjectErases items
project_erases items picks cell rel = at (item_columns (over_columns rel.columns) items)
  where
    to : (columns : List ScopeColumn) → result_map_both erased_rel (λ e. e) (projected_to columns rel items picks cell)
        ≡ and_then (listed (plain_item rel.columns items picks cell) (map erased_row rel.rows)) (λ rows. plain_whole (record { columns = columns; rows = rows }))
    to columns =
        batch_erased columns (λ b. rel.is_open) rel.is_loose (gathered (item_row rel.columns items picks cell) rel.rows)
        ∙ ap (λ a. and_then a (λ rows. plain_whole (record { columns = columns; rows = rows })))
        (all_erased (item_row rel.columns items picks cell) (plain_item rel.columns items picks cell) erased_row (row_erases rel.columns items picks cell) rel.rows)

    at : (a : Answer (List ScopeColumn)) → result_map_both erased_rel (λ e. e) (and_then a (λ columns. projected_to columns rel items picks cell))
        ≡ and_then a (λ columns. and_then (listed (plain_item rel.columns items picks cell) (map erased_row rel.rows)) (λ rows. plain_whole (record { columns = columns; rows = rows })))
    at (Ok columns) = to columns
    at (Err e) = refl

-- ---- what is shown

value_shows : (s : Seen Value) (m : Marked) → marked_value s ≡ Ok m → shown_value m ≡ value_known (known s)
value_shows s m e =
    let p = then_ok s.answer (λ v. fine (record { value = v; marked = s.marked })) m e in
    subst (λ z. shown_value z ≡ value_known (known s)) (the_same (record { value = p.0; marked = s.marked }) m p.2)
    (at s.marked p.0 ∙ ap (λ a. value_known (unless_marked s.marked a)) (sym p.1))
  where
    at : (b : Bool) (v : Value) → shown_value (record { value = v; marked = b }) ≡ value_known (unless_marked b (fine v))
    at true v = refl
    at false v = refl

flat_map_one : {X Y : Type 0} (f : X → Y) (xs : List X) → flat_map (λ x. f x ∷ []) xs ≡ map f xs
flat_map_one f [] = refl
flat_map_one f (x ∷ xs) = ap (λ z. f x ∷ z) (flat_map_one f xs)

no_marks : {X : Type 0} (xs : List X) → list_any (λ x. false) xs ≡ false
no_marks [] = refl
no_marks (x ∷ xs) = no_marks xs

module _ (columns : List ScopeColumn) (items : List Item) (picks : List Pick) (cell : ℕ) where
  values_show : (values made : List Marked) → values_over (bindings columns values) items picks cell ≡ Ok made →
      map shown_value made ≡ shown_values columns items (map shown_value values)
  values_show values made e = all items made e
    where
      all : (is : List Item) (ms : List Marked) → collect (item_value (bindings columns values) picks cell) is ≡ Ok ms →
          map shown_value ms ≡ map (λ i. value_known (known_over_row (known_bindings columns (map shown_value values)) i.expr)) is
      all [] ms k = ap (map shown_value) (sym (the_same [] ms k))
      all (i ∷ is) ms k =
          let p = then_ok (item_value (bindings columns values) picks cell i) (λ y. and_then (collect (item_value (bindings columns values) picks cell) is) (λ ys. Ok (y ∷ ys))) ms k in
          let q = then_ok (collect (item_value (bindings columns values) picks cell) is) (λ ys. fine (p.0 ∷ ys)) ms p.2 in
          let one = value_shows (marked_over_row (bindings columns values) picks cell i.expr) p.0 p.1 ∙ ap value_known (over_known columns values picks cell i.expr) in
          let more = all is q.0 q.1 in
          ap (map shown_value) (sym (the_same (p.0 ∷ q.0) ms q.2)) ∙ (λ j. one j ∷ more j)

  one_shows : (is_open : Bool) (r : Row) (b : Batch) → UnsureOpens is_open r → item_row columns items picks cell r ≡ Ok b →
      ShowsAs is_open (item_row columns items picks cell) show_row (λ s. shown_item columns items s ∷ []) (λ s. false) b (show_row r)
  one_shows is_open r b u e =
      let p = then_ok (values_over (bindings columns r.values) items picks cell) (λ values. fine (with_values r values)) b e in
      subst (λ z. ShowsAs is_open (item_row columns items picks cell) show_row (λ s. shown_item columns items s ∷ []) (λ s. false) z (show_row r)) (the_same (with_values r p.0) b p.2)
      (at r.sure p.0 (values_show r.values p.0 p.1))
    where
      at : (sure : Bool) (values : List Marked) → map shown_value values ≡ shown_values columns items (map shown_value r.values) →
          (sure_rows (record { id = r.id; sure = sure; values = values } ∷ []) ≡ flat_map (λ s. shown_item columns items s ∷ []) (kept_if sure (shown_row r)))
          × (is_open || false ≡ is_open || list_any (λ (s : ShownRow). false) (kept_if sure (shown_row r)))
      at true values k = ((λ i. record { id = r.id; values = k i } ∷ []), refl)
      at false values k = (refl, refl)

pub project_shows : (items : List Item) → ProjectShows items
project_shows items picks cell rel out is e =
    let step = item_row rel.columns items picks cell in
    let c = then_ok (item_columns (over_columns rel.columns) items) (λ columns. projected_to columns rel items picks cell) out e in
    let p = then_ok (gathered step rel.rows) (λ b. whole (rel_of c.0 b.rows rel.is_open rel.is_loose)) out c.2 in
    let s = all_shown rel.is_open step show_row (λ s. shown_item rel.columns items s ∷ []) (λ s. false) (UnsureOpens rel.is_open)
    (one_shows rel.columns items picks cell rel.is_open) rel.rows p.0 (unsure_opens rel.is_open rel.rows is.rules.sure) p.1 in
    let rows : sure_rows p.0.rows ≡ map (shown_item rel.columns items) (sure_rows rel.rows) =
    s.0 ∙ (ap (flat_map (λ s. shown_item rel.columns items s ∷ [])) (sym (sure_is rel.rows)) ∙ flat_map_one (shown_item rel.columns items) (sure_rows rel.rows)) in
    let columns : c.0 ≡ columns_in (item_columns (over_columns rel.columns) items) = ap columns_in (sym c.1) in
    subst (λ z. SameShown (shown_rel z) (shown_projected (shown_rel rel) items)) (whole_ok _ out p.2)
    (same_from (shown_rel (rel_of c.0 p.0.rows rel.is_open rel.is_loose)) (shown_projected (shown_rel rel) items)
    (λ i. record { columns = columns i; rows = rows i; is_open = rel.is_open; is_loose = rel.is_loose }))

-- ---- other picks

project_keeps : (items : List Item) → KeepsSame (λ s. shown_projected s items)
project_keeps items s rows d g e = record {
  columns = refl;
  rows = map_placed s.rows rows d g (shown_values s.columns items) s.is_loose e;
  opens = refl;
  looses = refl;
}

pub project_keeps_shown : (items : List Item) → ProjectKeepsShown items
project_keeps_shown items picks others cell =
    keeps_shown (λ r. projected r items picks cell) (λ r. projected r items others cell) (λ s. shown_projected s items)
    (project_shows items picks cell) (project_shows items others cell) (project_keeps items)
