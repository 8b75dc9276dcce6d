use Rattle.std.proofs.Common.{◌≡◌, ◌+◌, ◌∷◌, true, length, arith}
use Rattle.std.proofs.lemmas.Result.{err_from_is_err_and}
use Rattle.csv.specs.Records.{fields_of}
use Rattle.csv_load.specs.Reading.{left_of}
use Rattle.csv_load.specs.Rows.{is_surplus, some_surplus}
use Rattle.csv_load.specs.Calls.{repairs_of}
use Rattle.csv_load.proofs.RowLemmas.{row_more, surplus_more, count_more, row_fault}
use Rattle.csv_load.proofs.row.rows_of.Goals as goal

pub loop-fields-preserved : goal.loop-fields-preserved
loop-fields-preserved g c =
    let was = c.loop-fields.invariant in
    let next = rw c.if-branch.true at c.in_ok-read_next.ensures.next in
    record {
      reading = c.in_ok-read_next.ensures.reading c.if-branch.true;
      rows = row_more (repairs_of c.args.repairs.now) c.args.columns.now (c.loop-fields.number + 1) _ _ _ _ c.loop-fields.rows _ was.rows next c.in_ok-add_row.ensures;
      surplus = surplus_more (length c.args.columns.now) _ _ _ (fields_of c.read_next.new.fields) c.loop-fields.is_open c.is_surplus-is_open.result was.surplus next c.is_surplus-is_open.ensures;
      counted = count_more _ _ _ _ c.loop-fields.number was.counted next;
    }

pub returns-in_err-add_row : goal.returns-in_err-add_row
returns-in_err-add_row g c =
    let was = c.loop-fields.invariant in
    let next = rw c.if-branch.true at c.in_ok-read_next.ensures.next in
    let p = err_from_is_err_and c.from_residual-in_err-add_row.result c.from_residual-in_err-add_row.ensures.1 in
    rw (p.1, p.2) (row_fault (repairs_of c.args.repairs.now) c.args.columns.now (c.loop-fields.number + 1) _ _ _ _ c.loop-fields.rows c.add_row.new.rows c.in_err-add_row.field-0.0 was.rows next c.in_err-add_row.ensures)
