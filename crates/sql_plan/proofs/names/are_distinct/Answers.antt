use Rattle.std.proofs.Common.{◌∙◌, ap}
use Rattle.sql_plan.specs.Names.{are_distinct}
use Rattle.sql_plan.proofs.Sorting.{texts, texts_in_any_order}
use Rattle.sql_plan.proofs.names.are_distinct.Goals as goal

pub returns : goal.returns
returns c =
    c.neighbours_differ.ensures ∙ (ap (λ ts. are_distinct (texts ts)) c.as_slice.ensures.value
    ∙ (texts_in_any_order _ _ c.sort_unstable.ensures.permutation ∙ ap are_distinct c.in_ok-texts.ensures))
