-- Where a step shows what it makes of what is shown, equal inputs show equal results.
use Rattle.cell_errors.specs.Answers.{Answer}
use Rattle.relations.specs.Rels.{RelData}
use Rattle.relations.specs.Shown.{ShownRel, shown_rel}
use Rattle.relations.proofs.Sames.{same_on, same_back, shown_distinct, KeepsSame, kept_same}
use Rattle.rel_ops.specs.Laws.{Shows, KeepsShown}

pub keeps_shown : (step other : RelData → Answer RelData) (shown_step : ShownRel → ShownRel) → Shows step shown_step → Shows other shown_step → KeepsSame shown_step →
    KeepsShown step other
keeps_shown step other shown_step shows also keeps a b x y is too e k l =
    let first = shows a x is k in
    let second = also b y too l in
    same_on (shown_rel x) (shown_step (shown_rel a)) (shown_rel y) first
    (same_on (shown_step (shown_rel a)) (shown_step (shown_rel b)) (shown_rel y)
    (kept_same shown_step keeps (shown_rel a) (shown_rel b) (shown_distinct a is) (shown_distinct b too) e)
    (same_back (shown_rel y) (shown_step (shown_rel b)) second))
