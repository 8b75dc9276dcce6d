-- The statements that are left add the rest.
use Rattle.std.proofs.Common.{◌≡◌, drop}
use Rattle.name_lists.specs.Nub.{all_added}
use Rattle.script_parse.specs.Touched.{in_block}
use Rattle.script_parse.proofs.touched.+touched.Given as goal

abbrev pub invariant-add_block-loop-stmt : goal.invariant-add_block-loop-stmt
invariant-add_block-loop-stmt l = all_added l.names (in_block l.touch (drop l.stmt-index l.block)) ≡ all_added l.initial.names (in_block l.touch l.block)
