use Rattle.version_tree.proofs.Distinct.{distinct_law}
use Rattle.version_tree.proofs.limits.law_of_prefixes.Goals as goal

pub returns : goal.returns
returns c = distinct_law c.args.versions.now
