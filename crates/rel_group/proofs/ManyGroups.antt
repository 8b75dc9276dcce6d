-- Groups whose values are too many, which are looked at for their errors alone.
use Rattle.std.proofs.Common.{◌≡◌, ℕ, ◌+◌, length, filter, Bool, true, false, cond, ◌||◌, Option, Ok, Err, List, [], ◌∷◌, ap, refl, subst, sym, ◌∙◌, arith}
use Rattle.std.specs.Prelude.{if◌then◌else◌}
use Rattle.std.proofs.lemmas.List.{length-append}
use Rattle.dataset_types.specs.declared.row.Marked.{Marked}
use Rattle.dataset_types.specs.Tables.{few_values}
use Rattle.cell_errors.specs.Answers.{Answer, and_then, collect, Fails}
use Rattle.cell_errors.specs.declared.fault.CellError.TheVariants.{TooLarge}
use Rattle.cell_errors.specs.declared.fault.EvalFault.{EvalFault}
use Rattle.cell_errors.specs.declared.fault.EvalFault.TheVariants as fault
use Rattle.expr_lang.specs.declared.expr.Expr.{Expr}
use Rattle.expr_meaning.specs.declared.bindings.ScopeColumn.{ScopeColumn}
use Rattle.relations.specs.declared.batch.Batch.{Batch}
use Rattle.relations.specs.declared.parts.Item.{Item}
use Rattle.relations.specs.Batches.{nothing, both, gathered}
use Rattle.relations.specs.Conditions.{kept_if, kept}
use Rattle.relations.specs.Rels.{RelData, rel_of, whole}
use Rattle.relations.proofs.Gathered.{fine, the_same, then_ok}
use Rattle.rel_ops.specs.Project.{no_error, item_column}
use Rattle.rel_ops.proofs.TooMany.{as_many, too_large}
use Rattle.rel_group.specs.declared.job.Job.{Job}
use Rattle.rel_group.specs.declared.parts.Lot.{Lot}
use Rattle.rel_group.specs.declared.parts.TestedLot.{TestedLot}
use Rattle.rel_group.specs.Groups.{group_types, may_lack_groups}
use Rattle.rel_group.specs.Group.{group_values, row_of}
use Rattle.rel_group.specs.Calls.{bound_in, columns_in, grouped_in, kept_count, lots_within, row_in, rows_in, rows_within, setting_in, tested_in, if_few_values}

-- a group more
count_more : (x : TestedLot) (xs : List TestedLot) → kept_count (x ∷ xs) ≡ length (kept_if x.test.holds x) + kept_count xs
count_more x xs = on x.test.holds
  where
    on : (b : Bool) → length (cond b (x ∷ filter (λ y. y.test.holds) xs) (filter (λ y. y.test.holds) xs)) ≡ length (kept_if b x) + kept_count xs
    on true = omega arith
    on false = omega arith

one_of : {A : Type 0} (b : Bool) (x : A) → b ≡ true → length (kept_if b x) ≡ 1
one_of true x e = refl
one_of false x e = cc

module _ (job : Job) (items : List Item) where
  -- each group that HAVING keeps gives a row, and no other does
  one_if_kept : (x : TestedLot) (m : Batch) → row_in job items x ≡ Ok m → length m.rows ≡ length (kept_if x.test.holds x)
  one_if_kept x m = on x.test.holds refl
    where
      values : Answer (List Marked)
      values = group_values items job.picks.now job.cell (setting_in job (bound_in job x.lot))

      on : (b : Bool) → x.test.holds ≡ b →
          (if b then and_then values (λ vs. Ok (kept (row_of (bound_in job x.lot) vs) x.test)) else Ok (record { rows = []; marked = x.test.marked })) ≡ Ok m →
          length m.rows ≡ length (kept_if b x)
      on true is e =
          let p = then_ok values (λ vs. fine (kept (row_of (bound_in job x.lot) vs) x.test)) m e in
          subst (λ (n : Batch). length n.rows ≡ 1) (the_same (kept (row_of (bound_in job x.lot) p.0) x.test) m p.2) (one_of x.test.holds _ is)
      on false is e = ap (λ (n : Batch). length n.rows) (sym (the_same (record { rows = []; marked = x.test.marked }) m e))

  kept_rows : (ts : List TestedLot) (b : Batch) → gathered (row_in job items) ts ≡ Ok b → length b.rows ≡ kept_count ts
  kept_rows [] b e = ap (λ (c : Batch). length c.rows) (sym (the_same nothing b e))
  kept_rows (x ∷ xs) b e =
      let p = then_ok (row_in job items x) (λ m. and_then (gathered (row_in job items) xs) (λ n. fine (both m n))) b e in
      let q = then_ok (gathered (row_in job items) xs) (λ n. fine (both p.0 n)) b p.2 in
      subst (λ (c : Batch). length c.rows ≡ kept_count (x ∷ xs)) (the_same (both p.0 q.0) b q.2)
      (length-append p.0.rows q.0.rows ∙ (ap (λ n. n + length q.0.rows) (one_if_kept x p.0 p.1)
      ∙ (ap (λ n. length (kept_if x.test.holds x) + n) (kept_rows xs q.0 q.1) ∙ sym (count_more x xs))))

  module _ (having : Option Expr) (gs : List Lot) (ts : List TestedLot) (are : collect (tested_in job having) gs ≡ Ok ts) where
    is_of_tests : lots_within job having items gs ≡ and_then (gathered (row_in job items) ts) (if_few_values (length items))
    is_of_tests = ap (λ a. and_then (and_then a (λ xs. gathered (row_in job items) xs)) (if_few_values (length items))) are

    -- too many values of groups without an error
    pub many_kept : few_values (kept_count ts) (length items) ≡ false → no_error (gathered (row_in job items) ts) ≡ Ok tt →
        lots_within job having items gs ≡ Err TooLarge
    many_kept many ok = is_of_tests ∙ on (gathered (row_in job items) ts) refl ok
      where
        on : (a : Answer Batch) → gathered (row_in job items) ts ≡ a → no_error a ≡ Ok tt → and_then a (if_few_values (length items)) ≡ Err TooLarge
        on (Ok b) is e = rw (ap (λ n. few_values n (length items)) (kept_rows ts b is) ∙ many) refl
        on (Err d) is e = cc

    -- values that are not too many are all there
    pub few_kept : few_values (kept_count ts) (length items) ≡ true → lots_within job having items gs ≡ gathered (row_in job items) ts
    few_kept few = is_of_tests ∙ on (gathered (row_in job items) ts) refl
      where
        on : (a : Answer Batch) → gathered (row_in job items) ts ≡ a → and_then a (if_few_values (length items)) ≡ a
        on (Ok b) is = rw (ap (λ n. few_values n (length items)) (kept_rows ts b is) ∙ few) refl
        on (Err d) is = refl

-- ---- the whole

within_is : (n : ℕ) (a : Answer Batch) (m : Batch) → and_then a (if_few_values n) ≡ Ok m → a ≡ Ok m
within_is n (Ok b) m e = at (few_values (length b.rows) n) e
  where
    at : (few : Bool) → (if few then Ok b else Err TooLarge) ≡ Ok m → fine b ≡ Ok m
    at true k = k
    at false k = cc
within_is n (Err d) m e = cc

module _ (job : Job) (having : Option Expr) (items : List Item) (columns : List ScopeColumn) (are : columns_in job items ≡ Ok columns) where
  -- the rows within the limit are those of the groups
  pub rows_are_within : (m : Batch) → rows_within job having items ≡ Ok m → rows_in job having items ≡ Ok m
  rows_are_within m e = within_is (length items) (rows_in job having items) m e

  abbrev under : Batch → Answer RelData
  under b = whole (rel_of columns b.rows (may_lack_groups job.places.now job.rel.now || b.marked) false)

  -- that their values are not too many may be looked at first
  within_first : grouped_in job columns having items ≡ and_then (rows_within job having items) under
  within_first = on (rows_in job having items)
    where
      on : (a : Answer Batch) → and_then a under ≡ and_then (and_then a (if_few_values (length items))) under
      on (Err d) = refl
      on (Ok b) = at (few_values (length b.rows) (length items)) refl
        where
          at : (few : Bool) → few_values (length b.rows) (length items) ≡ few → under b ≡ and_then (if few then Ok b else Err TooLarge) under
          at true is = refl
          at false is =
              let width = as_many (item_column (group_types job.rel.now.columns job.places.now)) items columns are in
              too_large columns b.rows (may_lack_groups job.places.now job.rel.now || b.marked) false (ap (λ n. few_values (length b.rows) n) width ∙ is)

  pub whole_stops : (f : EvalFault) → Fails f (rows_within job having items) → Fails f (grouped_in job columns having items)
  whole_stops (fault.Error e) h = within_first ∙ ap (λ a. and_then a under) h
  whole_stops fault.NoMemory h = tt

  pub whole_goes : (m : Batch) → rows_within job having items ≡ Ok m → grouped_in job columns having items ≡ under m
  whole_goes m e = within_first ∙ ap (λ a. and_then a under) e
