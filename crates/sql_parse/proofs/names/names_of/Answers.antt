-- A core adds its names, and none is left at the end.
use Rattle.std.proofs.Common.{◌+◌, drop, sym, ap, ◌∙◌}
use Rattle.std.specs.List.{flat_map}
use Rattle.std.proofs.lemmas.List.{at_drop_all}
use Rattle.sql_parse.specs.Names.{datasets_of}
use Rattle.name_lists.specs.Nub.{all_added, nub}
use Rattle.name_lists.proofs.Nubs.{added_to_none}
use Rattle.sql_parse.proofs.LaterNames.{one_core}
use Rattle.sql_parse.proofs.names.names_of.Goals as goal

pub loop-core-preserved : goal.loop-core-preserved
loop-core-preserved c =
    let items = c.as_slice-core-items.result.now in
    ap (λ n. all_added n (flat_map datasets_of (drop (c.loop-core.core-index + 1) items))) c.in_ok-add_core.ensures
    ∙ sym (one_core c.loop-core.names items c.loop-core.core-index c.core-item.result c.loop-core-test.true c.core-item.is)
    ∙ c.loop-core.invariant

pub returns : goal.returns
returns c =
    let items = c.as_slice-core-items.result.now in
    sym (at_drop_all (λ cs. all_added c.loop-core.names (flat_map datasets_of cs)) items c.loop-core.core-index c.loop-core-test.false)
    ∙ c.loop-core.invariant
    ∙ added_to_none (flat_map datasets_of items)
    ∙ ap (λ cs. nub (flat_map datasets_of cs)) c.as_slice-core-items.ensures
