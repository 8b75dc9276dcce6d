use Rattle.csv_load.proofs.BaseNames.{base_is}
use Rattle.csv_load.proofs.header.name_for.Goals as goal

pub free_name-requires-clause-base : goal.free_name-requires-clause-base
free_name-requires-clause-base c = rw (c.as_slice.ensures.value, c.in_ok-base.ensures) (base_is c.args.field.now)
