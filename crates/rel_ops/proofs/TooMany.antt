-- Rows whose values are too many, which are looked at for their errors alone.
use Rattle.std.proofs.Common.{◌≡◌, ℕ, suc, ◌+◌, ◌<◌, ◌≤◌, length, drop, get_or, Bool, true, false, ◌&&◌, Ok, Err, List, [], ◌∷◌, ap, refl, subst, sym, ◌∙◌}
use Rattle.std.proofs.lemmas.List.{drop_more, drop_all}
use Rattle.cell_errors.specs.Answers.{Answer, and_then, collect}
use Rattle.cell_errors.specs.declared.fault.CellError.TheVariants.{TooLarge}
use Rattle.dataset_types.specs.declared.picks.Pick.{Pick}
use Rattle.dataset_types.specs.declared.row.Marked.{Marked}
use Rattle.dataset_types.specs.declared.row.Row.{Row}
use Rattle.dataset_types.specs.Tables.{few_rows, few_values}
use Rattle.expr_meaning.specs.declared.bindings.ScopeColumn.{ScopeColumn}
use Rattle.expr_meaning.specs.Types.{over_columns}
use Rattle.relations.specs.declared.batch.Batch.{Batch}
use Rattle.relations.specs.declared.parts.Item.{Item}
use Rattle.relations.specs.Batches.{nothing, both, gathered}
use Rattle.relations.specs.Rels.{RelData, rel_of, whole}
use Rattle.relations.proofs.Gathered.{fine, the_same, then_ok}
use Rattle.relations.proofs.Revalued.{none_under}
use Rattle.rel_ops.specs.Project.{no_error, item_columns, item_column, item_row, projected_to, values_at, with_values}

-- ---- the loop over what is looked at

module _ {X : Type 0} (f : X → Answer Batch) where
  past : (x : X) (xs : List X) (y : Batch) → f x ≡ Ok y → no_error (gathered f (x ∷ xs)) ≡ no_error (gathered f xs)
  past x xs y e = rw e (on (gathered f xs))
    where
      on : (a : Answer Batch) → no_error (and_then a (λ c. Ok (both y c))) ≡ no_error a
      on (Ok c) = refl
      on (Err d) = refl

  pub checked_on : (xs : List X) (i : ℕ) (x : X) (y : Batch) → i < length xs → x ≡ get_or xs i x → f x ≡ Ok y →
      no_error (gathered f (drop i xs)) ≡ no_error (gathered f (drop (i + 1) xs))
  checked_on xs i x y h e k =
      ap (λ z. no_error (gathered f z)) (drop_more xs i x h ∙ ap (λ z. z ∷ drop (i + 1) xs) (sym e)) ∙ past x (drop (i + 1) xs) y k

  pub checked_end : (xs : List X) (i : ℕ) → length xs ≤ i → no_error (gathered f (drop i xs)) ≡ Ok tt
  checked_end xs i h = ap (λ z. no_error (gathered f z)) (drop_all i xs h)

-- ---- as many as there are

pub as_many : {X Y : Type 0} (f : X → Answer Y) (xs : List X) (ys : List Y) → collect f xs ≡ Ok ys → length ys ≡ length xs
as_many f [] ys e = ap length (sym (the_same [] ys e))
as_many f (x ∷ xs) ys e =
    let p = then_ok (f x) (λ y. and_then (collect f xs) (λ zs. fine (y ∷ zs))) ys e in
    let q = then_ok (collect f xs) (λ zs. fine (p.0 ∷ zs)) ys p.2 in
    subst (λ zs. length zs ≡ suc (length xs)) (the_same (p.0 ∷ q.0) ys q.2) (ap suc (as_many f xs q.0 q.1))

second_fails : (a b c d : Bool) → b ≡ false → (a && b && c && d) ≡ false
second_fails true true c d e = cc
second_fails true false c d e = refl
second_fails false b c d e = refl

-- a relation of too many values
pub too_large : (columns : List ScopeColumn) (rows : List Row) (is_open is_loose : Bool) → few_values (length rows) (length columns) ≡ false →
    whole (rel_of columns rows is_open is_loose) ≡ Err TooLarge
too_large columns rows is_open is_loose e = rw (second_fails (few_rows (length rows)) (few_values (length rows) (length columns)) _ _ e) refl

-- ---- the items

module _ (columns : List ScopeColumn) (items : List Item) (picks : List Pick) (cell : ℕ) where
  abbrev step : Row → Answer Batch
  step = item_row columns items picks cell

  row_is : (r : Row) (values : List Marked) → values_at columns items picks cell r ≡ Ok values → step r ≡ Ok (with_values r values)
  row_is r values e = rw e refl

  pub row_checked : (rows : List Row) (i : ℕ) (r : Row) (values : List Marked) → i < length rows → r ≡ get_or rows i r →
      values_at columns items picks cell r ≡ Ok values → no_error (gathered step (drop i rows)) ≡ no_error (gathered step (drop (i + 1) rows))
  row_checked rows i r values h e k = checked_on step rows i r (with_values r values) h e (row_is r values k)

  pub rows_checked : (rows : List Row) (i : ℕ) → length rows ≤ i → no_error (gathered step (drop i rows)) ≡ Ok tt
  rows_checked rows i h = checked_end step rows i h

  -- each row gives one
  one_each : (rows : List Row) (b : Batch) → gathered step rows ≡ Ok b → length b.rows ≡ length rows
  one_each [] b e = ap (λ (c : Batch). length c.rows) (sym (the_same nothing b e))
  one_each (r ∷ rs) b e =
      let p = then_ok (step r) (λ m. and_then (gathered step rs) (λ n. fine (both m n))) b e in
      let q = then_ok (gathered step rs) (λ n. fine (both p.0 n)) b p.2 in
      let v = then_ok (values_at columns items picks cell r) (λ values. fine (with_values r values)) p.0 p.1 in
      subst (λ (c : Batch). length c.rows ≡ suc (length rs)) (the_same (both p.0 q.0) b q.2)
      (subst (λ (m : Batch). length (both m q.0).rows ≡ suc (length rs)) (the_same (with_values r v.0) p.0 v.2) (ap suc (one_each rs q.0 q.1)))

-- where no row has an error and the values are too many, that is the answer
pub many_items : (rel : RelData) (items : List Item) (columns : List ScopeColumn) (picks : List Pick) (cell : ℕ) →
    item_columns (over_columns rel.columns) items ≡ Ok columns → few_values (length rel.rows) (length items) ≡ false →
    no_error (gathered (item_row rel.columns items picks cell) rel.rows) ≡ Ok tt → projected_to columns rel items picks cell ≡ Err TooLarge
many_items rel items columns picks cell are many ok = on (gathered (item_row rel.columns items picks cell) rel.rows) refl ok
  where
    on : (a : Answer Batch) → gathered (item_row rel.columns items picks cell) rel.rows ≡ a → no_error a ≡ Ok tt →
        and_then a (λ b. whole (rel_of columns b.rows rel.is_open rel.is_loose)) ≡ Err TooLarge
    on (Ok b) is e =
        let rows = one_each rel.columns items picks cell rel.rows b is in
        let width = as_many (item_column (over_columns rel.columns)) items columns are in
        too_large columns b.rows rel.is_open rel.is_loose (ap (λ n. few_values n (length columns)) rows ∙ (ap (λ n. few_values (length rel.rows) n) width ∙ many))
    on (Err d) is e = cc

-- what the proof of the loop uses
pub ruleset checking = (row_checked, rows_checked, none_under)

-- what the proof of a loop over any step uses
pub ruleset looking = (checked_on, checked_end)
