use Rattle.std.proofs.Common.{◌≡◌, drop}
use Rattle.relations.proofs.Collecting.{rest_of}
use Rattle.sql_plan.specs.Groups.{key_place, key_places}
use Rattle.sql_plan.proofs.groups.keys_among.Given as goal

abbrev pub invariant-loop-key : goal.invariant-loop-key
invariant-loop-key l = key_places l.places l.keys ≡ rest_of l.all (key_place l.places) (drop l.key-index l.keys)
