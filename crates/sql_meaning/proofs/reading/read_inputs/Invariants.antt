use Rattle.std.proofs.Common.{◌≡◌, None}
use Rattle.cell_model.specs.Works.{KeepsSource}
use Rattle.sql_meaning.proofs.NamesRead.{SoFar}
use Rattle.sql_meaning.proofs.reading.read_inputs.Given as goal

abbrev pub invariant-loop-name : goal.invariant-loop-name
invariant-loop-name g l = record {
  going : g.R.Reads.ended l.reads ≡ None;
  sofar : SoFar l.names l.name-index l.inputs (g.R.Reads.asked l.reads);
  source : KeepsSource (g.R.Reads.source l.initial.reads) (g.R.Reads.source l.reads) (g.R.Reads.asked l.reads);
}
