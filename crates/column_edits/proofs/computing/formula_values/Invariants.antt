use Rattle.std.proofs.Common.{◌≡◌, drop}
use Rattle.cell_errors.specs.Answers.{collect}
use Rattle.relations.specs.Bound.{AreUnder}
use Rattle.relations.proofs.Collecting.{rest_of}
use Rattle.column_edits.specs.Filling.{value_by}
use Rattle.column_edits.proofs.computing.formula_values.Given as goal

abbrev pub invariant-loop-row : goal.invariant-loop-row
invariant-loop-row l =
    AreUnder l.how.scope.now l.bound ×
    (collect (value_by l.how) l.rows ≡ rest_of l.all (value_by l.how) (drop l.row-index l.rows))
