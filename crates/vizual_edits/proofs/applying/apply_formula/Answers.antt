use Rattle.vizual_edits.proofs.applying.apply_formula.Goals as goal

pub returns-clause-works : goal.returns-clause-works
returns-clause-works g c = rw c.in_ok-expr.ensures c.edit_dataset.ensures.works
