-- What a condition makes of a row: erased, shown, and by the rules of a relation.
use Rattle.std.proofs.Common.{◌≡◌, Bool, true, false, ◌||◌, Ok, Err, List, map, refl, subst, ap, ◌∙◌, inl, inr}
use Rattle.std.specs.Prelude.{is_none, IsTrue}
use Rattle.std.specs.List.{flat_map, list_any, list_all}
use Rattle.std.specs.Result.{result_map_both}
use Rattle.value_types.specs.declared.value.Value.{Value}
use Rattle.value_types.specs.declared.row_id.RowId.{RowId}
use Rattle.cell_errors.specs.Answers.{Answer, and_then}
use Rattle.cell_errors.specs.Seen.{Seen}
use Rattle.dataset_types.specs.declared.column.Column.{Column}
use Rattle.dataset_types.specs.declared.row.Marked.{Marked}
use Rattle.dataset_types.specs.declared.row.Row.{Row}
use Rattle.dataset_types.specs.Tables.{row_fits, all_sure}
use Rattle.dataset_types.specs.Plain.{erased_row}
use Rattle.caveat_marks.specs.Shown.{ShownRow, shown_row}
use Rattle.expr_ops.specs.Truths.{is_true}
use Rattle.expr_meaning.specs.Known.{known, unless_marked}
use Rattle.relations.specs.declared.batch.Batch.{Batch}
use Rattle.relations.specs.declared.condition.Test.{Test}
use Rattle.relations.specs.Conditions.{test_of, kept_if, kept, plain_kept, known_true}
use Rattle.relations.specs.Plain.{erased_batch}
use Rattle.relations.specs.Shown.{sure_rows}
use Rattle.relations.proofs.Gathered.{the_same, then_ok}
use Rattle.relations.proofs.Rules.{HasOnly, UnsureOpens}

-- ---- erasure

pub row_kept : (r : Row) (s : Seen Value) → result_map_both erased_batch (λ d. d) (and_then (test_of s) (λ t. Ok (kept r t))) ≡ plain_kept (erased_row r) s.answer
row_kept r s = on_answer s.answer
  where
    on_test : (h : Bool) → map erased_row (kept r (record { holds = h; marked = s.marked })).rows ≡ kept_if h (erased_row r)
    on_test true = refl
    on_test false = refl

    on_truth : (a : Answer Bool) → result_map_both erased_batch (λ d. d) (and_then (and_then a (λ h. Ok (record { holds = h; marked = s.marked }))) (λ t. Ok (kept r t)))
        ≡ and_then a (λ t. Ok (kept_if t (erased_row r)))
    on_truth (Ok h) = ap (λ z. Ok z) (on_test h)
    on_truth (Err e) = refl

    on_answer : (a : Answer Value) → result_map_both erased_batch (λ d. d) (and_then (and_then a (λ v. and_then (is_true v) (λ h. Ok (record { holds = h; marked = s.marked })))) (λ t. Ok (kept r t)))
        ≡ plain_kept (erased_row r) a
    on_answer (Ok v) = on_truth (is_true v)
    on_answer (Err e) = refl

-- ---- what is shown

-- a row that stands for `x` where it is sure, its condition being known of `x` or not
module _ {S : Type 0} (is_open : Bool) (F : S → List ShownRow) (M : S → Bool) (x : S) where
  abbrev ShowsOnly : Batch → Bool → Type 0
  ShowsOnly b sure = (sure_rows b.rows ≡ flat_map F (kept_if sure x)) × (is_open || b.marked ≡ is_open || list_any M (kept_if sure x))

  kept_shows : (id : RowId) (values : List Marked) (sure m h : Bool) (v : Value) → is_true v ≡ Ok h →
      F x ≡ kept_if (known_true (unless_marked m (Ok v))) (shown_row (record { id = id; sure = sure; values = values })) → M x ≡ is_none (unless_marked {A = Answer Value} m (Ok v)) →
      (sure ≡ false → is_open ≡ true) → ShowsOnly (kept (record { id = id; sure = sure; values = values }) (record { holds = h; marked = m })) sure
  kept_shows id values false m true v e f n u = (refl, rw (u refl) refl)
  kept_shows id values false m false v e f n u = (refl, rw (u refl) refl)
  kept_shows id values true true true v e f n u = (rw f refl, rw n refl)
  kept_shows id values true true false v e f n u = (rw f refl, rw n refl)
  kept_shows id values true false true v e f n u = (rw (f, e) refl, rw n refl)
  kept_shows id values true false false v e f n u = (rw (f, e) refl, rw n refl)

  pub row_shows : (r : Row) (s : Seen Value) (b : Batch) → F x ≡ kept_if (known_true (known s)) (shown_row r) → M x ≡ is_none (known s) → UnsureOpens is_open r →
      and_then (test_of s) (λ t. Ok (kept r t)) ≡ Ok b → ShowsOnly b r.sure
  row_shows r s b f n u e =
      let p = then_ok (test_of s) (λ t. Ok (kept r t)) b e in
      let q = then_ok s.answer (λ v. and_then (is_true v) (λ h. Ok (record { holds = h; marked = s.marked }))) p.0 p.1 in
      let t = then_ok (is_true q.0) (λ h. Ok (record { holds = h; marked = s.marked })) p.0 q.2 in
      let test : record { holds = t.0; marked = s.marked } ≡ p.0 = the_same (record { holds = t.0; marked = s.marked }) p.0 t.2 in
      subst (λ z. ShowsOnly z r.sure) (ap (kept r) test ∙ the_same (kept r p.0) b p.2)
      (kept_shows r.id r.values r.sure s.marked t.0 q.0 t.1
      (f ∙ ap (λ a. kept_if (known_true (unless_marked s.marked a)) (shown_row r)) q.1)
      (n ∙ ap (λ (a : Answer Value). is_none (unless_marked s.marked a)) q.1) u)

-- ---- the rules

-- what holds of a row that is kept by any test holds of what a condition makes of it
pub on_kept : (P : Batch → Type 0) (r : Row) (s : Seen Value) (b : Batch) → ((t : Test) → P (kept r t)) → and_then (test_of s) (λ t. Ok (kept r t)) ≡ Ok b → P b
on_kept P r s b h e = let p = then_ok (test_of s) (λ t. Ok (kept r t)) b e in subst P (the_same (kept r p.0) b p.2) (h p.0)

only_kept : (r : Row) (h m : Bool) → HasOnly r.id (kept r (record { holds = h; marked = m }))
only_kept r true m = inr refl
only_kept r false m = inl refl

pub kept_has_only : (r : Row) (s : Seen Value) (b : Batch) → and_then (test_of s) (λ t. Ok (kept r t)) ≡ Ok b → HasOnly r.id b
kept_has_only r s b e = on_kept (HasOnly r.id) r s b (λ t. only_kept r t.holds t.marked) e

fits_kept : (columns : List Column) (r : Row) (h m : Bool) → IsTrue (row_fits columns r) → IsTrue (list_all (row_fits columns) (kept r (record { holds = h; marked = m })).rows)
fits_kept columns r true m e = rw e refl
fits_kept columns r false m e = refl

pub kept_fits : (columns : List Column) (r : Row) (s : Seen Value) (b : Batch) → IsTrue (row_fits columns r) → and_then (test_of s) (λ t. Ok (kept r t)) ≡ Ok b →
    IsTrue (list_all (row_fits columns) b.rows)
kept_fits columns r s b g e = on_kept (λ c. IsTrue (list_all (row_fits columns) c.rows)) r s b (λ t. fits_kept columns r t.holds t.marked g) e

sure_kept : (r : Row) (h m : Bool) → IsTrue r.sure → m ≡ false → IsTrue (all_sure (kept r (record { holds = h; marked = m })).rows)
sure_kept r true m e k = rw (e, k) refl
sure_kept r false m e k = refl

pub kept_sure : (r : Row) (s : Seen Value) (b : Batch) → IsTrue r.sure → and_then (test_of s) (λ t. Ok (kept r t)) ≡ Ok b → b.marked ≡ false → IsTrue (all_sure b.rows)
kept_sure r s b g e = on_kept (λ c. c.marked ≡ false → IsTrue (all_sure c.rows)) r s b (λ t. sure_kept r t.holds t.marked g) e
