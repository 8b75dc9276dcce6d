use Rattle.std.proofs.Common.{◌≡◌, ◌∙◌, sym}
use Rattle.csv_load.specs.Reading.{left_of}
use Rattle.csv_load.specs.Calls.{repairs_of}
use Rattle.csv_load.proofs.TableParts.{ids_are_distinct, rows_are_fit, rows_are_sure}
use Rattle.csv_load.proofs.file.table_of.Goals as goal

pub new-requires-clause-ids : goal.new-requires-clause-ids
new-requires-clause-ids g c =
    rw (c.in_ok-body.ensures.rows, c.as_slice.ensures) (ids_are_distinct (repairs_of c.args.repairs.now) c.args.columns (left_of g.R.Read.remaining c.args.reader.now))

pub new-requires-clause-fitting : goal.new-requires-clause-fitting
new-requires-clause-fitting g c =
    rw (c.in_ok-body.ensures.rows, c.as_slice.ensures) (rows_are_fit (repairs_of c.args.repairs.now) c.args.columns (left_of g.R.Read.remaining c.args.reader.now))

pub new-requires-clause-sure : goal.new-requires-clause-sure
new-requires-clause-sure g c = λ closed.
    rw (c.in_ok-body.ensures.rows, c.as_slice.ensures)
    (rows_are_sure (repairs_of c.args.repairs.now) c.args.columns (left_of g.R.Read.remaining c.args.reader.now) (rw c.as_slice.ensures at (sym c.in_ok-body.ensures.open_flag ∙ closed)))
