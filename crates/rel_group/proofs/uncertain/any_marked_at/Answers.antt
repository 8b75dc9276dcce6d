use Rattle.std.proofs.Common.{◌∙◌}
use Rattle.rel_group.proofs.Places.{marked_places}
use Rattle.rel_group.proofs.uncertain.any_marked_at.Goals as goal

pub returns : goal.returns
returns c = c.any_place_marked.ensures ∙ marked_places c.args.places.now c.args.values.now
