use Rattle.std.proofs.Common.{◌≡◌, drop}
use Rattle.outside_io.specs.Files.{answer_for}
use Rattle.outside_io.proofs.shelf.fetch_from.Given as goal

abbrev pub invariant-loop-known : goal.invariant-loop-known
invariant-loop-known l =
    answer_for (drop l.known-index l.files) l.name l.limit ≡ answer_for l.files l.name l.limit
