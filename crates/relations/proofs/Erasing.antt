-- Dropping the marks and flags of a step's whole result.
use Rattle.std.proofs.Common.{◌≡◌, ◌+◌, ℕ, Ok, Err, List, [], ◌∷◌, length, map, Bool, true, false, refl, sym, ◌∙◌, ap}
use Rattle.std.specs.Prelude.{◌&&◌, nat_le, if◌then◌else◌}
use Rattle.std.specs.List.{list_all, sum_by}
use Rattle.std.specs.Result.{result_map_both}
use Rattle.std.proofs.lemmas.List.{length-map}
use Rattle.std.proofs.lemmas.List.Sums.{sum_by-cons}
use Rattle.value_types.specs.Text.{id, parts}
use Rattle.cell_errors.specs.Answers.{Answer, and_then}
use Rattle.cell_errors.specs.declared.fault.CellError.TheVariants as error
use Rattle.dataset_types.specs.declared.row.Marked.{Marked}
use Rattle.dataset_types.specs.declared.row.Row.{Row}
use Rattle.dataset_types.specs.Tables.{text_size, row_size, text_bytes, ids_short}
use Rattle.dataset_types.specs.Plain.{erased_row, plain_size}
use Rattle.expr_meaning.specs.declared.bindings.ScopeColumn.{ScopeColumn}
use Rattle.relations.specs.declared.batch.Batch.{Batch}
use Rattle.relations.specs.Rels.{RelData, rel_of, within_limits, whole}
use Rattle.relations.specs.Plain.{erased_rel, erased_batch, plain_within, plain_whole}

-- a sum over mapped items
sum_by-map : {A B : Type 0} (f : B → ℕ) (g : A → B) (xs : List A) → sum_by f (map g xs) ≡ sum_by (λ x. f (g x)) xs
sum_by-map f g [] = refl
sum_by-map f g (x ∷ xs) =
    sum_by-cons f (g x) (map g xs) ∙ (ap (λ n. f (g x) + n) (sum_by-map f g xs) ∙ sym (sum_by-cons (λ y. f (g y)) x xs))

sizes : (r : Row) → plain_size (erased_row r) ≡ row_size r
sizes r = ap (λ n. length (id r.id) + n) (sum_by-map text_size (λ (m : Marked). m.value) r.values)

all_sizes : (rows : List Row) → sum_by plain_size (map erased_row rows) ≡ text_bytes rows
all_sizes [] = refl
all_sizes (r ∷ rs) =
    sum_by-cons plain_size (erased_row r) (map erased_row rs) ∙ (ap (λ n. n + sum_by plain_size (map erased_row rs)) (sizes r)
    ∙ (ap (λ n. row_size r + n) (all_sizes rs) ∙ sym (sum_by-cons row_size r rs)))

all_parts : (rows : List Row) → list_all (λ r. nat_le (parts r.id) 8) (map erased_row rows) ≡ ids_short rows
all_parts [] = refl
all_parts (r ∷ rs) = ap (λ (b : Bool). nat_le (parts r.id) 8 && b) (all_parts rs)

-- erasing keeps whether a limit is passed
pub within_erased : (r : RelData) → plain_within (erased_rel r) ≡ within_limits r
within_erased r = rw (length-map r.rows erased_row, all_sizes r.rows, all_parts r.rows) refl

one_limit : (b : Bool) (r : RelData) →
    result_map_both erased_rel (λ e. e) (if b then Ok r else Err error.TooLarge) ≡ (if b then Ok (erased_rel r) else Err error.TooLarge)
one_limit true r = refl
one_limit false r = refl

pub whole_erased : (r : RelData) → result_map_both erased_rel (λ e. e) (whole r) ≡ plain_whole (erased_rel r)
whole_erased r = rw (within_erased r) (one_limit (within_limits r) r)

-- a relation of the rows of a batch
pub batch_erased : (columns : List ScopeColumn) (open_by : Batch → Bool) (is_loose : Bool) (a : Answer Batch) →
    result_map_both erased_rel (λ e. e) (and_then a (λ b. whole (rel_of columns b.rows (open_by b) is_loose)))
    ≡ and_then (result_map_both erased_batch (λ e. e) a) (λ rows. plain_whole (record { columns = columns; rows = rows }))
batch_erased columns open_by is_loose (Ok b) = whole_erased (rel_of columns b.rows (open_by b) is_loose)
batch_erased columns open_by is_loose (Err e) = refl
