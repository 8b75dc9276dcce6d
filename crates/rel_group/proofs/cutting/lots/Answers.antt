use Rattle.rel_group.specs.Calls.{AreLots, StandFor}
use Rattle.std.proofs.Common.{Some}
use Rattle.rel_group.proofs.Lots.{keyed_stand, after_if_ok}
use Rattle.rel_group.proofs.cutting.lots.Goals as goal

pub returns-else-is_empty : goal.returns-else-is_empty
returns-else-is_empty c =
    let places = c.args.places.now in
    let rows = c.args.rows.now in
    after_if_ok c.keyed_lots.result (AreLots (Some places) rows) (StandFor places rows)
    (keyed_stand places rows c.is_empty.result c.is_empty.ensures c.if-is_empty.false) c.keyed_lots.ensures
