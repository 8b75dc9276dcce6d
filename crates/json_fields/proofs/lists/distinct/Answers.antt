use Rattle.json_fields.proofs.ListsBack.{distinct_are}
use Rattle.json_fields.proofs.lists.distinct.Goals as goal

pub returns : goal.returns
returns c = distinct_are c.of.result c.args.names c.of.ensures.found c.of.ensures.value
