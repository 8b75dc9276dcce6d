use Rattle.std.proofs.lemmas.Bool.Decides.{same_from_decides}
use Rattle.rel_ops.specs.Union.{types_agree}
use Rattle.rel_ops.proofs.UnionLaws.{types_decide}
use Rattle.sql_plan.proofs.plan.agrees.Goals as goal

pub returns : goal.returns
returns c =
    same_from_decides c.types_agree.result (types_agree c.args.columns.now c.args.core.now.columns)
    (rw c.as_slice.ensures at c.types_agree.ensures) (types_decide c.args.columns.now c.args.core.now.columns)
