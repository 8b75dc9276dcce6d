use Rattle.std.proofs.Common.{◌∙◌, sym, arith}
use Rattle.rel_group.proofs.Placed.{put_there, put_new, place_fits, after_ok}
use Rattle.rel_group.proofs.placing.put_row.Goals as goal

pub insert-requires : goal.insert-requires
insert-requires c =
    let fits = place_fits c.as_slice-2.result.now c.as_slice.result.now in
    omega (arith, fits, c.lots_before-at.ensures, c.as_slice.ensures.len)

pub returns-then-has_key : goal.returns-then-has_key
returns-then-has_key c =
    let place = rw (c.as_slice.ensures.value, c.as_slice-2.ensures) at c.lots_before-at.ensures in
    let there = rw c.as_slice-3.ensures.value at (sym c.has_key.ensures ∙ c.if-has_key.true) in
    after_ok c.add_row.result (λ e. put_there c.args.row c.args.lots.now.items c.lots_before-at.result c.index_mut.result.now c.add_row.new.lot place there c.index_mut.ensures.value e)
    c.add_row.ensures

pub returns-in_ok-insert : goal.returns-in_ok-insert
returns-in_ok-insert c =
    let place = rw (c.as_slice.ensures.value, c.as_slice-2.ensures) at c.lots_before-at.ensures in
    let none = rw c.as_slice-3.ensures.value at (sym c.has_key.ensures ∙ c.if-has_key.false) in
    c.in_ok-insert.ensures.items ∙ put_new c.args.row c.args.lots.now.items c.lots_before-at.result c.in_ok-lot.lot place none c.in_ok-lot.ensures
