-- The loop of the items over the rows.
use Rattle.std.proofs.Common.{◌≡◌, ℕ, ◌+◌, ◌<◌, length, drop, get_or, Ok, List, refl}
use Rattle.std.proofs.Math.Bool.{or-false}
use Rattle.dataset_types.specs.declared.picks.Pick.{Pick}
use Rattle.dataset_types.specs.declared.row.Marked.{Marked}
use Rattle.dataset_types.specs.declared.row.Row.{Row}
use Rattle.cell_errors.specs.Answers.{Answer, Fails}
use Rattle.cell_errors.specs.declared.fault.EvalFault.{EvalFault}
use Rattle.cell_errors.specs.declared.fault.EvalFault.TheVariants as fault
use Rattle.expr_meaning.specs.declared.bindings.ScopeColumn.{ScopeColumn}
use Rattle.relations.specs.declared.batch.Batch.{Batch}
use Rattle.relations.specs.declared.parts.Item.{Item}
use Rattle.relations.specs.Batches.{both}
use Rattle.relations.proofs.Loops.{resumed, begun, went_on_at, stops_at, ended_at}
use Rattle.relations.proofs.Revalued.{none_under}
use Rattle.rel_ops.specs.Project.{item_row, values_at, with_values}

module _ (columns : List ScopeColumn) (items : List Item) (picks : List Pick) (cell : ℕ) where
  abbrev step : Row → Answer Batch
  step = item_row columns items picks cell

  row_is : (r : Row) (values : List Marked) → values_at columns items picks cell r ≡ Ok values → step r ≡ Ok (with_values r values)
  row_is r values e = rw e refl

  -- one row more
  pub row_on : (b : Batch) (rows : List Row) (i : ℕ) (r : Row) (values : List Marked) → i < length rows → r ≡ get_or rows i r →
      values_at columns items picks cell r ≡ Ok values → resumed b step (drop i rows) ≡ resumed (both b (with_values r values)) step (drop (i + 1) rows)
  row_on b rows i r values h e k = went_on_at step b (with_values r values) rows i r h e (row_is r values k)

  fails_too : (r : Row) (f : EvalFault) → Fails f (values_at columns items picks cell r) → Fails f (step r)
  fails_too r (fault.Error e) h = rw h refl
  fails_too r fault.NoMemory h = tt

  -- the error of one row is that of all
  pub rows_stop : (whole : Answer Batch) (b : Batch) (rows : List Row) (i : ℕ) (r : Row) (f : EvalFault) → whole ≡ resumed b step (drop i rows) →
      i < length rows → r ≡ get_or rows i r → Fails f (values_at columns items picks cell r) → Fails f whole
  rows_stop whole b rows i r f w l e h = stops_at step whole b rows i r f w l e (fails_too r f h)

-- an item's row adds no mark
pub row_adds : (b : Batch) (r : Row) (values : List Marked) → (both b (with_values r values)).marked ≡ b.marked
row_adds b r values = or-false b.marked

-- what the proof of the loop uses
pub ruleset rows = (begun, row_on, ended_at, none_under)

-- what the proof of one row uses
pub ruleset adding = (row_adds)
