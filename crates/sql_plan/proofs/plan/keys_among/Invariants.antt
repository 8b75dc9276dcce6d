use Rattle.std.proofs.Common.{◌≡◌, drop}
use Rattle.relations.proofs.Collecting.{rest_of}
use Rattle.sql_plan.specs.Plan.{key_checked, keys_checked}
use Rattle.sql_plan.proofs.plan.keys_among.Given as goal

abbrev pub invariant-loop-key : goal.invariant-loop-key
invariant-loop-key l = keys_checked l.places l.keys ≡ rest_of l.all (key_checked l.places) (drop l.key-index l.keys)
