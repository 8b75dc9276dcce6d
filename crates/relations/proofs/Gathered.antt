-- What a step over rows keeps, whatever the step is.
use Rattle.std.proofs.Common.{◌≡◌, Bool, true, false, ◌||◌, Ok, Err, List, [], ◌∷◌, ◌++◌, map, cond, filter, refl, subst, ap, ◌∙◌, sym}
use Rattle.std.specs.Prelude.{if◌then◌else◌}
use Rattle.std.specs.Bool.{⊤}
use Rattle.std.specs.List.{flat_map, list_any}
use Rattle.std.specs.Result.{result_map_both}
use Rattle.std.proofs.lemmas.List.{map-append}
use Rattle.std.proofs.lemmas.List.Concat.{flat_map-append}
use Rattle.std.proofs.lemmas.List.Folds.{list_any-append}
use Rattle.cell_errors.specs.Answers.{Answer, and_then}
use Rattle.cell_errors.specs.declared.fault.CellError.TheVariants as error
use Rattle.dataset_types.specs.declared.row.Row.{Row}
use Rattle.dataset_types.specs.Plain.{PlainRow, erased_row}
use Rattle.caveat_marks.specs.Shown.{ShownRow, shown_row}
use Rattle.relations.specs.declared.batch.Batch.{Batch}
use Rattle.relations.specs.Rels.{RelData, within_limits, whole}
use Rattle.relations.specs.Batches.{nothing, both, gathered}
use Rattle.relations.specs.Conditions.{kept_if}
use Rattle.relations.specs.Plain.{erased_batch, listed}
use Rattle.relations.specs.Shown.{sure_rows}

-- ---- runs without error

-- an answer without error
abbrev pub fine : {A : Type 0} → A → Answer A
fine a = Ok a

pub the_same : {A : Type 0} (a b : A) → fine a ≡ fine b → a ≡ b
the_same a b e = cc

-- a run without error, taken apart
pub then_ok : {A B : Type 0} (a : Answer A) (k : A → Answer B) (b : B) → and_then a k ≡ Ok b → (y : A) × (a ≡ Ok y) × (k y ≡ Ok b)
then_ok (Ok y) k b e = (y, refl, e)
then_ok (Err d) k b e = cc

-- a whole result within the limits is that result
pub whole_ok : (r out : RelData) → whole r ≡ Ok out → r ≡ out
whole_ok r out e = at (within_limits r) e
  where
    at : (b : Bool) → (if b then Ok r else Err error.TooLarge) ≡ Ok out → r ≡ out
    at true e = cc
    at false e = cc

-- what holds of no rows, and of a batch and what comes after it, holds of all that is gathered
module _ {X : Type 0} (f : X → Answer Batch) (R : List X → Batch → Type 0) (none : R [] nothing)
    (more : (x : X) (xs : List X) (a b : Batch) → f x ≡ Ok a → R xs b → R (x ∷ xs) (both a b)) where
  pub all_gathered : (xs : List X) (b : Batch) → gathered f xs ≡ Ok b → R xs b
  all_gathered [] b e = subst (R []) (the_same nothing b e) none
  all_gathered (x ∷ xs) b e =
      let p = then_ok (f x) (λ m. and_then (gathered f xs) (λ n. Ok (both m n))) b e in
      let q = then_ok (gathered f xs) (λ n. Ok (both p.0 n)) b p.2 in
      subst (R (x ∷ xs)) (the_same (both p.0 q.0) b q.2) (more x xs p.0 q.0 p.1 (all_gathered xs q.0 q.1))

-- each of a list
abbrev pub Each : {X : Type 0} → (X → Type 0) → List X → Type 0
Each P [] = ⊤
Each P (x ∷ xs) = P x × Each P xs

-- ---- erasure

-- a step whose rows, erased, are those of the plain step
module _ {X Y : Type 0} (f : X → Answer Batch) (g : Y → Answer (List PlainRow)) (e : X → Y)
    (each : (x : X) → result_map_both erased_batch (λ d. d) (f x) ≡ g (e x)) where
  one_more : (a b : Answer Batch) → result_map_both erased_batch (λ d. d) (and_then a (λ m. and_then b (λ n. Ok (both m n))))
      ≡ and_then (result_map_both erased_batch (λ d. d) a) (λ m. and_then (result_map_both erased_batch (λ d. d) b) (λ n. Ok (m ++ n)))
  one_more (Ok m) (Ok n) = ap (λ z. Ok z) (map-append erased_row m.rows n.rows)
  one_more (Ok m) (Err d) = refl
  one_more (Err d) b = refl

  pub all_erased : (xs : List X) → result_map_both erased_batch (λ d. d) (gathered f xs) ≡ listed g (map e xs)
  all_erased [] = refl
  all_erased (x ∷ xs) = one_more (f x) (gathered f xs) ∙ rw (each x, all_erased xs) refl

-- ---- what is shown

-- a row that is sure, as it is shown
abbrev pub show_row : Row → List ShownRow
show_row r = kept_if r.sure (shown_row r)

pub sure_is : (rows : List Row) → sure_rows rows ≡ flat_map show_row rows
sure_is [] = refl
sure_is (r ∷ rs) = by r.sure (sure_is rs)
  where
    by : (b : Bool) → sure_rows rs ≡ flat_map show_row rs →
        map shown_row (cond b (r ∷ filter (λ x. x.sure) rs) (filter (λ x. x.sure) rs)) ≡ kept_if b (shown_row r) ++ flat_map show_row rs
    by true e = ap (λ z. shown_row r ∷ z) e
    by false e = e

pub sure_append : (xs ys : List Row) → sure_rows (xs ++ ys) ≡ sure_rows xs ++ sure_rows ys
sure_append xs ys = rw (sure_is (xs ++ ys), sure_is xs, sure_is ys) (flat_map-append show_row xs ys)

or_each : (o x y x' y' : Bool) → o || x ≡ o || x' → o || y ≡ o || y' → o || (x || y) ≡ o || (x' || y')
or_each true x y x' y' p q = refl
or_each false x y x' y' p q = rw (p, q) refl

-- `show` gives what is shown of an item, `rows_of` and `mark_of` what the step makes of that
module _ {X S : Type 0} (is_open : Bool) (f : X → Answer Batch) (show : X → List S) (rows_of : S → List ShownRow) (mark_of : S → Bool) where
  abbrev pub ShowsAs : Batch → List S → Type 0
  ShowsAs b ss = (sure_rows b.rows ≡ flat_map rows_of ss) × (is_open || b.marked ≡ is_open || list_any mark_of ss)

  shows_both : (a b : Batch) (ss ts : List S) → ShowsAs a ss → ShowsAs b ts → ShowsAs (both a b) (ss ++ ts)
  shows_both a b ss ts m n = (
    sure_append a.rows b.rows ∙ rw (m.0, n.0) (sym (flat_map-append rows_of ss ts)),
    or_each is_open a.marked b.marked (list_any mark_of ss) (list_any mark_of ts) m.1 n.1 ∙ ap (λ z. is_open || z) (sym (list_any-append mark_of ss ts)),
  )

  module _ (Good : X → Type 0) (each : (x : X) (b : Batch) → Good x → f x ≡ Ok b → ShowsAs b (show x)) where
    pub all_shown : (xs : List X) (b : Batch) → Each Good xs → gathered f xs ≡ Ok b → ShowsAs b (flat_map show xs)
    all_shown xs b g e =
        all_gathered f (λ ys c. Each Good ys → ShowsAs c (flat_map show ys)) (λ h. (refl, refl))
        (λ y ys a c k rest h. shows_both a c (show y) (flat_map show ys) (each y a h.0 k) (rest h.1)) xs b e g
