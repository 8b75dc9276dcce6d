-- The laws of LIMIT, and the rules of the rows that it leaves.
use Rattle.std.proofs.Common.{◌≡◌, ℕ, Bool, true, false, ◌||◌, List, [], ◌∷◌, map, take, refl, subst, ap, ◌∙◌, sym}
use Rattle.std.specs.Prelude.{IsTrue, if◌then◌else◌}
use Rattle.dataset_types.specs.declared.column.Column.{Column}
use Rattle.dataset_types.specs.declared.row.Row.{Row}
use Rattle.dataset_types.specs.Tables.{Distinct, row_fits}
use Rattle.dataset_types.specs.Plain.{erased_row}
use Rattle.caveat_marks.specs.Shown.{InOrder, shown_row, placed}
use Rattle.relations.specs.Rels.{RelData, rel_of, bare_columns, KeepsRules, IsRel}
use Rattle.relations.specs.Plain.{plain_whole}
use Rattle.relations.specs.Shown.{SameShown, sure_rows, shown_rel}
use Rattle.relations.proofs.Gathered.{Each, whole_ok}
use Rattle.relations.proofs.Rules.{all_of, all_from, or_parts}
use Rattle.relations.proofs.Erasing.{whole_erased}
use Rattle.relations.proofs.Sames.{same_from, in_order, KeepsSame}
use Rattle.rel_ops.specs.Limit.{is_uncertain, doubted, limited, shown_limited}
use Rattle.rel_ops.specs.Laws.{LimitErases, LimitShows, LimitKeepsShown}
use Rattle.rel_ops.proofs.Lists.{take_each, take_distinct, take_map, map_each, map_same, map_twice, map_itself}
use Rattle.rel_ops.proofs.SameLaws.{keeps_shown}

doubted_erased : (u : Bool) (r : Row) → erased_row (doubted u r) ≡ erased_row r
doubted_erased true r = refl
doubted_erased false r = refl

doubted_id : (u : Bool) (r : Row) → (doubted u r).id ≡ r.id
doubted_id true r = refl
doubted_id false r = refl

pub limit_erases : (count : ℕ) → LimitErases count
limit_erases count rel =
    whole_erased (rel_of rel.columns (map (doubted (is_uncertain rel)) (take count rel.rows)) (is_uncertain rel) rel.is_loose)
    ∙ ap (λ rows. plain_whole (record { columns = rel.columns; rows = rows }))
    (map_twice (doubted (is_uncertain rel)) erased_row (take count rel.rows)
    ∙ (map_same (λ r. erased_row (doubted (is_uncertain rel) r)) erased_row (doubted_erased (is_uncertain rel)) (take count rel.rows) ∙ take_map erased_row count rel.rows))

-- ---- what is shown

none_sure : (rows : List Row) → sure_rows (map (doubted true) rows) ≡ []
none_sure [] = refl
none_sure (r ∷ rs) = none_sure rs

-- without doubt each row stays
pub certain : (rows : List Row) → map (doubted false) rows ≡ rows
certain rows = map_same (doubted false) (λ r. r) (λ r. refl) rows ∙ map_itself rows

sure_all : (rows : List Row) → Each (λ r. IsTrue r.sure) rows → sure_rows rows ≡ map shown_row rows
sure_all [] e = refl
sure_all (r ∷ rs) e = rw e.0 (ap (λ z. shown_row r ∷ z) (sure_all rs e.1))

first_sure : (count : ℕ) (rows : List Row) → Each (λ r. IsTrue r.sure) rows → sure_rows (take count rows) ≡ take count (sure_rows rows)
first_sure count rows e =
    sure_all (take count rows) (take_each (λ r. IsTrue r.sure) count rows e) ∙ (take_map shown_row count rows ∙ ap (take count) (sym (sure_all rows e)))

rows_shown : (count : ℕ) (u : Bool) (rows : List Row) → (u ≡ false → Each (λ r. IsTrue r.sure) rows) →
    sure_rows (map (doubted u) (take count rows)) ≡ (if u then [] else take count (sure_rows rows))
rows_shown count true rows h = none_sure (take count rows)
rows_shown count false rows h = ap sure_rows (certain (take count rows)) ∙ first_sure count rows (h refl)

pub limit_shows : (count : ℕ) → LimitShows count
limit_shows count rel out is e =
    let rows = rows_shown count (is_uncertain rel) rel.rows (λ k. all_of (λ r. r.sure) rel.rows (is.rules.sure (or_parts rel.is_open rel.is_loose k).0)) in
    subst (λ z. SameShown (shown_rel z) (shown_limited (shown_rel rel) count)) (whole_ok _ out e)
    (same_from (shown_rel (rel_of rel.columns (map (doubted (is_uncertain rel)) (take count rel.rows)) (is_uncertain rel) rel.is_loose)) (shown_limited (shown_rel rel) count)
    (λ i. record { columns = rel.columns; rows = rows i; is_open = is_uncertain rel; is_loose = rel.is_loose }))

-- ---- other picks

limit_keeps : (count : ℕ) → KeepsSame (λ s. shown_limited s count)
limit_keeps count s rows d g e = record { columns = refl; rows = at s.is_open s.is_loose e; opens = refl; looses = refl }
  where
    at : (o l : Bool) → placed l s.rows ≡ placed l rows →
        placed l (if o || l then [] else take count s.rows) ≡ placed l (if o || l then [] else take count rows)
    at true l k = refl
    at false true k = refl
    at false false k = ap (λ z. InOrder (take count z)) (in_order s.rows rows k)

pub limit_keeps_shown : (count : ℕ) → LimitKeepsShown count
limit_keeps_shown count =
    keeps_shown (λ r. limited r count) (λ r. limited r count) (λ s. shown_limited s count) (limit_shows count) (limit_shows count) (limit_keeps count)

-- ---- the rules

fits_doubted : (columns : List Column) (u : Bool) (r : Row) → IsTrue (row_fits columns r) → IsTrue (row_fits columns (doubted u r))
fits_doubted columns true r e = e
fits_doubted columns false r e = e

sure_doubted : (u : Bool) (r : Row) → u ≡ false → IsTrue r.sure → IsTrue (doubted u r).sure
sure_doubted true r e k = cc
sure_doubted false r e k = k

pub limit_rules : (rel : RelData) (count : ℕ) → IsRel rel →
    KeepsRules (rel_of rel.columns (map (doubted (is_uncertain rel)) (take count rel.rows)) (is_uncertain rel) rel.is_loose)
limit_rules rel count is =
    let u = is_uncertain rel in record {
      names = is.rules.names;
      ids = subst Distinct (sym (map_twice (doubted u) (λ r. r.id) (take count rel.rows) ∙ map_same (λ r. (doubted u r).id) (λ r. r.id) (doubted_id u) (take count rel.rows)))
          (take_distinct (λ r. r.id) count rel.rows is.rules.ids);
      fitting = all_from (row_fits (bare_columns rel.columns)) (map (doubted u) (take count rel.rows))
          (map_each (doubted u) (λ r. IsTrue (row_fits (bare_columns rel.columns) r)) (λ r. IsTrue (row_fits (bare_columns rel.columns) r)) (fits_doubted (bare_columns rel.columns) u) (take count rel.rows)
          (take_each (λ r. IsTrue (row_fits (bare_columns rel.columns) r)) count rel.rows (all_of (row_fits (bare_columns rel.columns)) rel.rows is.rules.fitting)));
      sure = λ o. all_from (λ r. r.sure) (map (doubted u) (take count rel.rows))
          (map_each (doubted u) (λ r. IsTrue r.sure) (λ r. IsTrue r.sure) (λ r k. sure_doubted u r o k) (take count rel.rows)
          (take_each (λ r. IsTrue r.sure) count rel.rows (all_of (λ r. r.sure) rel.rows (is.rules.sure (or_parts rel.is_open rel.is_loose o).0))));
    }
