use Rattle.std.proofs.Common.{◌≡◌, ◌+◌, drop}
use Rattle.version_tree.specs.Versions.{last_on, none_on, or_head, IsHeadOf}
use Rattle.version_tree.proofs.head.head_of.Given as goal

abbrev pub invariant-loop-version : goal.invariant-loop-version
invariant-loop-version l = record {
  number : l.number ≡ l.version-index;
  found : or_head (last_on (l.number + 1) (drop l.version-index l.versions) l.branch) l.head ≡ or_head (last_on 1 l.versions l.branch) (none_on l.branch);
  within : IsHeadOf l.versions l.head;
}
