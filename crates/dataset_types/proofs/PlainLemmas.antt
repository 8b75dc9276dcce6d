-- A table and its plain table pass the same limits.
use Rattle.std.proofs.Common.{◌≡◌, ◌+◌, ◌*◌, ℕ, suc, List, [], ◌∷◌, length, map, Bool, refl, sym, ◌∙◌, ap}
use Rattle.std.specs.Prelude.{◌&&◌, nat_le}
use Rattle.std.specs.List.{list_all, sum_by}
use Rattle.std.proofs.lemmas.List.{length-map}
use Rattle.std.proofs.lemmas.List.Sums.{sum_by-cons}
use Rattle.value_types.specs.Text.{id, parts}
use Rattle.dataset_types.specs.declared.row.Marked.{Marked}
use Rattle.dataset_types.specs.declared.row.Row.{Row}
use Rattle.dataset_types.specs.Tables.{TableData, text_size, row_size, text_bytes, ids_short, within_limits}
use Rattle.dataset_types.specs.Plain.{erased, erased_row, plain_size, plain_within}

-- a sum over mapped items
sum_by-map : {A B : Type 0} (f : B → ℕ) (g : A → B) (xs : List A) → sum_by f (map g xs) ≡ sum_by (λ x. f (g x)) xs
sum_by-map f g [] = refl
sum_by-map f g (x ∷ xs) =
    sum_by-cons f (g x) (map g xs) ∙ (ap (λ n. f (g x) + n) (sum_by-map f g xs) ∙ sym (sum_by-cons (λ y. f (g y)) x xs))

sizes : (r : Row) → plain_size (erased_row r) ≡ row_size r
sizes r = ap (λ n. length (id r.id) + n) (sum_by-map text_size (λ (m : Marked). m.value) r.values)

all_sizes : (rows : List Row) → sum_by plain_size (map erased_row rows) ≡ text_bytes rows
all_sizes [] = refl
all_sizes (r ∷ rs) =
    sum_by-cons plain_size (erased_row r) (map erased_row rs) ∙ (ap (λ n. n + sum_by plain_size (map erased_row rs)) (sizes r)
    ∙ (ap (λ n. row_size r + n) (all_sizes rs) ∙ sym (sum_by-cons row_size r rs)))

all_parts : (rows : List Row) → list_all (λ r. nat_le (parts r.id) 8) (map erased_row rows) ≡ ids_short rows
all_parts [] = refl
all_parts (r ∷ rs) = ap (λ (b : Bool). nat_le (parts r.id) 8 && b) (all_parts rs)

-- erasing keeps whether a limit is passed
pub within_erased : (t : TableData) → plain_within (erased t) ≡ within_limits t
within_erased t = rw (length-map t.rows erased_row, all_sizes t.rows, all_parts t.rows) refl
