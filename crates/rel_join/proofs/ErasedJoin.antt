-- Dropping marks and flags after a join or before it.
use Rattle.std.proofs.Common.{◌≡◌, ℕ, zero, suc, Bool, ◌||◌, Ok, Err, List, [], ◌∷◌, ◌++◌, map, length, replicate, refl, ap, ◌∙◌}
use Rattle.std.specs.Result.{result_map_both}
use Rattle.std.proofs.lemmas.List.{map-append, length-map}
use Rattle.value_types.specs.declared.value.Value.TheVariants.{Null}
use Rattle.cell_errors.specs.Answers.{Answer, and_then}
use Rattle.dataset_types.specs.declared.picks.Pick.{Pick}
use Rattle.dataset_types.specs.declared.row.Marked.{Marked}
use Rattle.dataset_types.specs.declared.row.Row.{Row}
use Rattle.dataset_types.specs.Plain.{erased_row}
use Rattle.expr_lang.specs.declared.expr.Expr.{Expr}
use Rattle.expr_meaning.specs.declared.bindings.ScopeColumn.{ScopeColumn}
use Rattle.expr_meaning.specs.Settings.{at_row, plain_binding}
use Rattle.expr_meaning.specs.Meaning.{marked_over_row, plain_over_row}
use Rattle.expr_meaning.proofs.Erased.{erases_to}
use Rattle.relations.specs.declared.batch.Batch.{Batch}
use Rattle.relations.specs.Rels.{RelData}
use Rattle.relations.specs.Bound.{bindings, plain_bindings}
use Rattle.relations.specs.Batches.{gathered}
use Rattle.relations.specs.Conditions.{plain_kept}
use Rattle.relations.specs.Plain.{erased_rel, erased_batch, plain_whole}
use Rattle.relations.proofs.Binds.{binds_plain}
use Rattle.relations.proofs.Gathered.{all_erased}
use Rattle.relations.proofs.KeptRows.{row_kept}
use Rattle.relations.proofs.Erasing.{batch_erased}
use Rattle.rel_join.specs.declared.kind.Kind.{Kind}
use Rattle.rel_join.specs.declared.kind.Kind.TheVariants.{Inner, Outer}
use Rattle.rel_join.specs.Join.{few_pairs, paired, pair_row, pairs_of, null_value, alone, or_one, by_kind, left_row, all_pairs, plain_paired, plain_pair, plain_alone, plain_by_kind, plain_left, plain_pairs}
use Rattle.rel_join.specs.Laws.{JoinErases}

-- ---- one pair

pair_erased : (l r : Row) → erased_row (paired l r) ≡ plain_paired (erased_row l) (erased_row r)
pair_erased l r = rw (map-append (λ (m : Marked). m.value) l.values r.values) refl

module _ (left right : List ScopeColumn) (on : Expr) (picks : List Pick) (cell : ℕ) where
  on_erased : (l r : Row) → (marked_over_row (bindings left l.values ++ bindings right r.values) picks cell on).answer
      ≡ plain_over_row (plain_bindings left (erased_row l).values ++ plain_bindings right (erased_row r).values) picks cell on
  on_erased l r =
      erases_to on (at_row (bindings left l.values ++ bindings right r.values)) picks cell
      ∙ ap (λ row. plain_over_row row picks cell on)
      (map-append plain_binding (bindings left l.values) (bindings right r.values) ∙ rw (binds_plain left l.values, binds_plain right r.values) refl)

  pair_erases : (l r : Row) → result_map_both erased_batch (λ e. e) (pair_row left right on picks cell l r) ≡ plain_pair left right on picks cell (erased_row l) (erased_row r)
  pair_erases l r =
      row_kept (paired l r) (marked_over_row (bindings left l.values ++ bindings right r.values) picks cell on)
      ∙ (ap (λ row. plain_kept row (marked_over_row (bindings left l.values ++ bindings right r.values) picks cell on).answer) (pair_erased l r)
      ∙ ap (plain_kept (plain_paired (erased_row l) (erased_row r))) (on_erased l r))

-- ---- one left row

nulls_erased : (n : ℕ) → map (λ (m : Marked). m.value) (replicate n null_value) ≡ replicate n Null
nulls_erased zero = refl
nulls_erased (suc n) = ap (λ z. Null ∷ z) (nulls_erased n)

kind_erased : (kind : Kind) (width : ℕ) (right_open : Bool) (l : Row) (b : Batch) → erased_batch (by_kind kind width right_open l b) ≡ plain_by_kind kind width (erased_row l) (erased_batch b)
kind_erased Inner width right_open l b = refl
kind_erased Outer width right_open l b = on_rows b.rows
  where
    on_rows : (rows : List Row) → map erased_row (or_one rows (alone width right_open b.marked l)) ≡ or_one (map erased_row rows) (plain_alone width (erased_row l))
    on_rows [] = rw (map-append (λ (m : Marked). m.value) l.values (replicate width null_value), nulls_erased width) refl
    on_rows (r ∷ rows) = refl

module _ (kind : Kind) (left : List ScopeColumn) (b : RelData) (on : Expr) (picks : List Pick) (cell : ℕ) where
  left_erases : (l : Row) → result_map_both erased_batch (λ e. e) (left_row kind left b on picks cell l) ≡ plain_left kind left (erased_rel b) on picks cell (erased_row l)
  left_erases l =
      on_found (pairs_of left b.columns on picks cell b.rows l)
      ∙ ap (λ a. and_then a (λ rows. Ok (plain_by_kind kind (length b.columns) (erased_row l) rows)))
      (all_erased (pair_row left b.columns on picks cell l) (plain_pair left b.columns on picks cell (erased_row l)) erased_row (pair_erases left b.columns on picks cell l) b.rows)
    where
      on_found : (a : Answer Batch) → result_map_both erased_batch (λ e. e) (and_then a (λ m. Ok (by_kind kind (length b.columns) b.is_open l m)))
          ≡ and_then (result_map_both erased_batch (λ e. e) a) (λ rows. Ok (plain_by_kind kind (length b.columns) (erased_row l) rows))
      on_found (Ok m) = ap (λ z. Ok z) (kind_erased kind (length b.columns) b.is_open l m)
      on_found (Err e) = refl

-- ---- the whole

pub join_erases : (kind : Kind) (on : Expr) → JoinErases kind on
join_erases kind on a b picks cell =
    counted (few_pairs (length a.rows) (length b.rows))
    ∙ ap (λ t. and_then t (λ u. plain_pairs kind (erased_rel a) (erased_rel b) on picks cell))
    (rw (length-map a.rows erased_row, length-map b.rows erased_row) refl)
  where
    rest : result_map_both erased_rel (λ e. e) (all_pairs kind a b on picks cell) ≡ plain_pairs kind (erased_rel a) (erased_rel b) on picks cell
    rest =
        batch_erased (a.columns ++ b.columns) (λ m. (a.is_open || b.is_open) || m.marked) (a.is_loose || b.is_loose) (gathered (left_row kind a.columns b on picks cell) a.rows)
        ∙ ap (λ z. and_then z (λ rows. plain_whole (record { columns = a.columns ++ b.columns; rows = rows })))
        (all_erased (left_row kind a.columns b on picks cell) (plain_left kind a.columns (erased_rel b) on picks cell) erased_row (left_erases kind a.columns b on picks cell) a.rows)

    counted : (t : Answer (Unit {0})) → result_map_both erased_rel (λ e. e) (and_then t (λ u. all_pairs kind a b on picks cell))
        ≡ and_then t (λ u. plain_pairs kind (erased_rel a) (erased_rel b) on picks cell)
    counted (Ok u) = rest
    counted (Err e) = refl
