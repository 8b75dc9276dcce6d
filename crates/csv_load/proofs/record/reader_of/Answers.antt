use Rattle.std.proofs.Common.{refl, ◌∙◌}
use Rattle.csv_load.specs.Load.{records_of}
use Rattle.csv_load.proofs.record.reader_of.Goals as goal

pub returns-clause-records : goal.returns-clause-records
unfolding records_of
returns-clause-records c =
    let made = c.from_reader.ensures in
    rw (made.state, made.source) refl
