-- The loop of WHERE over the rows, and the rules of the rows that it keeps.
use Rattle.std.proofs.Common.{◌≡◌, ℕ, ◌+◌, ◌<◌, ◌||◌, false, length, drop, get_or, Ok, List, ◌∷◌, refl, append-nil}
use Rattle.std.specs.Prelude.{IsTrue}
use Rattle.value_types.specs.declared.value.Value.{Value}
use Rattle.cell_errors.specs.Answers.{Answer, Fails}
use Rattle.cell_errors.specs.Seen.{Seen}
use Rattle.cell_errors.specs.declared.fault.EvalFault.{EvalFault}
use Rattle.cell_errors.specs.declared.fault.EvalFault.TheVariants as fault
use Rattle.dataset_types.specs.declared.picks.Pick.{Pick}
use Rattle.dataset_types.specs.declared.row.Row.{Row}
use Rattle.dataset_types.specs.Tables.{row_fits}
use Rattle.expr_lang.specs.declared.expr.Expr.{Expr}
use Rattle.expr_meaning.specs.declared.bindings.ScopeColumn.{ScopeColumn}
use Rattle.expr_meaning.specs.Meaning.{marked_over_row}
use Rattle.relations.specs.declared.batch.Batch.{Batch}
use Rattle.relations.specs.declared.condition.Test.{Test}
use Rattle.relations.specs.Rels.{RelData, rel_of, whole, bare_columns, KeepsRules, IsRel}
use Rattle.relations.specs.Bound.{bindings}
use Rattle.relations.specs.Batches.{both, gathered}
use Rattle.relations.specs.Conditions.{test_of, kept}
use Rattle.relations.proofs.Loops.{resumed, begun, went_on, went_on_at, stops, stops_at, ended, ended_at}
use Rattle.relations.proofs.Rules.{or_parts, all_of, all_pass, all_pass_unmarked, ids_distinct}
use Rattle.relations.proofs.Revalued.{none_under, still_under}
use Rattle.relations.proofs.KeptRows.{kept_has_only, kept_fits, kept_sure}
use Rattle.rel_ops.specs.Filter.{where_row, filtered}

module _ (columns : List ScopeColumn) (condition : Expr) (picks : List Pick) (cell : ℕ) where
  abbrev seen_at : Row → Seen Value
  seen_at r = marked_over_row (bindings columns r.values) picks cell condition

  abbrev step : Row → Answer Batch
  step = where_row columns condition picks cell

  where_is : (r : Row) (t : Test) → test_of (seen_at r) ≡ Ok t → step r ≡ Ok (kept r t)
  where_is r t e = rw e refl

  -- one row more
  pub kept_on : (b : Batch) (rows rest : List Row) (r : Row) (t : Test) → rows ≡ r ∷ rest → test_of (seen_at r) ≡ Ok t →
      resumed b step rows ≡ resumed (both b (kept r t)) step rest
  kept_on b rows rest r t e k = went_on step b (kept r t) rows rest r e (where_is r t k)

  -- the same over a slice
  pub kept_on_at : (b : Batch) (rows : List Row) (i : ℕ) (r : Row) (t : Test) → i < length rows → r ≡ get_or rows i r → test_of (seen_at r) ≡ Ok t →
      resumed b step (drop i rows) ≡ resumed (both b (kept r t)) step (drop (i + 1) rows)
  kept_on_at b rows i r t h e k = went_on_at step b (kept r t) rows i r h e (where_is r t k)

  fails_too : (r : Row) (f : EvalFault) → Fails f (test_of (seen_at r)) → Fails f (step r)
  fails_too r (fault.Error e) h = rw h refl
  fails_too r fault.NoMemory h = tt

  -- the error of one condition is that of all
  pub kept_stops : (whole : Answer Batch) (b : Batch) (rows rest : List Row) (r : Row) (f : EvalFault) → whole ≡ resumed b step rows → rows ≡ r ∷ rest →
      Fails f (test_of (seen_at r)) → Fails f whole
  kept_stops whole b rows rest r f w e h = stops step whole b rows rest r f w e (fails_too r f h)

  pub kept_stops_at : (whole : Answer Batch) (b : Batch) (rows : List Row) (i : ℕ) (r : Row) (f : EvalFault) → whole ≡ resumed b step (drop i rows) →
      i < length rows → r ≡ get_or rows i r → Fails f (test_of (seen_at r)) → Fails f whole
  kept_stops_at whole b rows i r f w l e h = stops_at step whole b rows i r f w l e (fails_too r f h)

-- a row for which the condition isn't TRUE adds its mark
pub left_out_adds : (b : Batch) (r : Row) (t : Test) → t.holds ≡ false → both b (kept r t) ≡ record { rows = b.rows; marked = b.marked || t.marked }
left_out_adds b r t e = rw (e, append-nil) refl

-- what WHERE gives, from the rows that it keeps
pub filtered_is : (rel : RelData) (condition : Expr) (picks : List Pick) (cell : ℕ) (b : Batch) →
    gathered (where_row rel.columns condition picks cell) rel.rows ≡ Ok b →
    filtered rel condition picks cell ≡ whole (rel_of rel.columns b.rows (rel.is_open || b.marked) rel.is_loose)
filtered_is rel condition picks cell b e = rw e refl

-- the rows that are kept follow the rules
pub where_rules : (rel : RelData) (condition : Expr) (picks : List Pick) (cell : ℕ) (b : Batch) → IsRel rel →
    gathered (where_row rel.columns condition picks cell) rel.rows ≡ Ok b → KeepsRules (rel_of rel.columns b.rows (rel.is_open || b.marked) rel.is_loose)
where_rules rel condition picks cell b is e =
    let given = where_row rel.columns condition picks cell in
    let fits = row_fits (bare_columns rel.columns) in
    let seen = seen_at rel.columns condition picks cell in record {
      names = is.rules.names;
      ids = ids_distinct given (λ r. r.id) (λ r c k. kept_has_only r (seen r) c k) rel.rows b e is.rules.ids;
      fitting = all_pass given (λ r. IsTrue (fits r)) fits (λ r c g k. kept_fits (bare_columns rel.columns) r (seen r) c g k) rel.rows b
          (all_of fits rel.rows is.rules.fitting) e;
      sure = λ o.
          let p = or_parts rel.is_open b.marked o in
          all_pass_unmarked given (λ r. IsTrue r.sure) (λ r. r.sure) (λ r c g k m. kept_sure r (seen r) c g k m) rel.rows b
          (all_of (λ r. r.sure) rel.rows (is.rules.sure p.0)) e p.1;
    }

-- what the proof of the loop uses
pub ruleset keeping = (begun, kept_on, kept_on_at, ended, ended_at, none_under)

-- what the proof of binding a row uses
pub ruleset binding = (still_under)

-- what the proof of one row uses
pub ruleset left_out = (left_out_adds)
