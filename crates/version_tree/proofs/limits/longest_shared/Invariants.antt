use Rattle.std.proofs.Common.{◌≡◌, ◌≤◌, max, drop, length}
use Rattle.version_tree.specs.Limits.{longest_shared}
use Rattle.version_tree.proofs.limits.longest_shared.Given as goal

abbrev pub invariant-loop-version : goal.invariant-loop-version
invariant-loop-version l = record {
  value : max l.longest (longest_shared (drop l.version-index l.versions) l.ids) ≡ longest_shared l.versions l.ids;
  within : l.longest ≤ length l.ids;
}
