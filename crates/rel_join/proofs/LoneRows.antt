-- A left row without a pair, where few pairs are kept.
use Rattle.std.proofs.Common.{◌≡◌, ℕ, Bool, true, false, length, None, Some, Ok, Err, List, [], ◌∷◌, refl, ap}
use Rattle.std.specs.Prelude.{if◌then◌else◌, IsTrue}
use Rattle.std.specs.Option.{option_and_then}
use Rattle.std.proofs.Math.Bool.{or-false, and-true}
use Rattle.cell_errors.specs.Answers.{Answer, and_then}
use Rattle.dataset_types.specs.declared.row.Row.{Row}
use Rattle.relations.specs.declared.batch.Batch.{Batch}
use Rattle.relations.specs.Batches.{both}
use Rattle.relations.specs.Conditions.{kept}
use Rattle.rel_join.specs.declared.kind.Kind.{Kind}
use Rattle.rel_join.specs.declared.kind.Kind.TheVariants.{Inner, Outer}
use Rattle.rel_join.specs.declared.pairs.Job.{Job}
use Rattle.rel_join.specs.Join.{or_one, alone, by_kind}
use Rattle.rel_join.specs.Few.{are_few, if_few, few_of, both_few}
use Rattle.rel_join.specs.Jobs.{job_pairs, job_row}
use Rattle.rel_join.proofs.FewRows.{none_few, some_few}

-- a row put after none is the row alone
pub put_alone : (m : Batch) (r : Row) → length m.rows ≡ 0 →
    both_few (Some m) (Some (kept r (record { holds = true; marked = false }))) ≡ if_few (record { rows = or_one m.rows r; marked = m.marked })
put_alone m r e = at m.rows e
  where
    at : (rows : List Row) → length rows ≡ 0 → if_few (both (record { rows = rows; marked = m.marked }) (kept r (record { holds = true; marked = false })))
        ≡ if_few (record { rows = or_one rows r; marked = m.marked })
    at [] k = rw (or-false m.marked, and-true r.sure) refl
    at (x ∷ xs) k = cc

-- where there are rows none is put after them
pub left_so : (m : Batch) (r : Row) → (length m.rows ≡ 0 → ⊥) → IsTrue (are_few m.rows) → if_few (record { rows = or_one m.rows r; marked = m.marked }) ≡ Some m
left_so m r e h = at m.rows e h
  where
    at : (rows : List Row) → (length rows ≡ 0 → ⊥) → IsTrue (are_few rows) →
        if_few (record { rows = or_one rows r; marked = m.marked }) ≡ Some (record { rows = rows; marked = m.marked })
    at [] k few = absurd (k refl)
    at (x ∷ xs) k few = some_few (record { rows = x ∷ xs; marked = m.marked }) few

-- pairs that aren't few are all that comes of their left row
still_many : (kind : Kind) (width : ℕ) (right_open : Bool) (l : Row) (m : Batch) → are_few m.rows ≡ false → if_few (by_kind kind width right_open l m) ≡ None
still_many Inner width right_open l m e = none_few m e
still_many Outer width right_open l m e = at m.rows e
  where
    at : (rows : List Row) → are_few rows ≡ false → if_few (record { rows = or_one rows (alone width right_open m.marked l); marked = m.marked }) ≡ None
    at [] k = cc
    at (x ∷ xs) k = none_few (record { rows = x ∷ xs; marked = m.marked }) k

-- that the pairs are few may be looked at before
pub few_row : (job : Job) (l : Row) → few_of (job_row job l)
    ≡ and_then (few_of (job_pairs job l)) (λ o. Ok (option_and_then (λ m. if_few (by_kind job.kind (length job.right.now.columns) job.right.now.is_open l m)) o))
few_row job l = turn (job_pairs job l)
  where
    make : Batch → Batch
    make m = by_kind job.kind (length job.right.now.columns) job.right.now.is_open l m

    turn : (a : Answer Batch) → few_of (and_then a (λ m. Ok (make m))) ≡ and_then (few_of a) (λ o. Ok (option_and_then (λ m. if_few (make m)) o))
    turn (Ok m) = at (are_few m.rows) refl
      where
        at : (few : Bool) → are_few m.rows ≡ few → few_of (Ok (make m)) ≡ Ok (option_and_then (λ n. if_few (make n)) (if few then Some m else None))
        at true e = refl
        at false e = ap (λ z. Ok z) (still_many job.kind (length job.right.now.columns) job.right.now.is_open l m e)
    turn (Err d) = refl
