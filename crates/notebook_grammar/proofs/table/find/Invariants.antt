use Rattle.std.proofs.Common.{◌≡◌, map, drop}
use Rattle.ll1_grammar.specs.Table.{entry}
use Rattle.notebook_grammar.specs.Kinds.{code_of}
use Rattle.notebook_grammar.specs.Rows.{shown}
use Rattle.notebook_grammar.proofs.table.find.Given as goal

abbrev pub invariant-loop-entry : goal.invariant-loop-entry
invariant-loop-entry l = entry (code_of l.kind) (map shown (drop l.entry-index l.entries)) ≡ entry (code_of l.kind) (map shown l.entries)
