use Rattle.std.specs.List.{flat_map}
use Rattle.sql_parse.specs.Names.{datasets_of}
use Rattle.sql_meaning.proofs.NamesOnce.{nub_distinct}
use Rattle.sql_meaning.proofs.run.run_select.Goals as goal

pub read_inputs-requires-clause-once : goal.read_inputs-requires-clause-once
read_inputs-requires-clause-once g c = rw (c.as_slice.ensures, c.in_ok-names.ensures) (nub_distinct (flat_map datasets_of c.args.select.now.cores))
