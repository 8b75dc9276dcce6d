-- The steps that are left build the tree of all of them.
use Rattle.std.proofs.Common.{◌≡◌, [], drop}
use Rattle.ll1_grammar.specs.Pieces.{built}
use Rattle.script_parse.specs.Trees.{builder}
use Rattle.script_parse.proofs.parse.parse_script.Given as goal

abbrev pub invariant-loop-step : goal.invariant-loop-step
invariant-loop-step l = built (builder l.text) (drop l.step-index l.step-items) l.pieces ≡ built (builder l.text) l.step-items []
