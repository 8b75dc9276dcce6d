use Rattle.csv_load.proofs.Records.{read_on}
use Rattle.csv_load.proofs.record.read_next.Goals as goal

pub returns-in-Ok-clause-reading : goal.returns-in-Ok-clause-reading
returns-in-Ok-clause-reading g c =
    let e = c.in-Ok.ensures in
    (read_on g.R.Read.remaining c.args.reader.now c.read_byte_record.new.self c.in-Ok.found _ c.requires
    (e.reads c.requires.trim c.requires.ready) (e.ready c.requires.trim) e.flexible e.goes).1

pub returns-in-Ok-clause-next : goal.returns-in-Ok-clause-next
returns-in-Ok-clause-next g c =
    let e = c.in-Ok.ensures in
    (read_on g.R.Read.remaining c.args.reader.now c.read_byte_record.new.self c.in-Ok.found _ c.requires
    (e.reads c.requires.trim c.requires.ready) (e.ready c.requires.trim) e.flexible e.goes).0
