use Rattle.row_edits.proofs.SortStays.{sort_stays}
use Rattle.row_edits.proofs.sorting.sort.Goals as goal

pub returns-then-is_in_order : goal.returns-then-is_in_order
returns-then-is_in_order c =
    let is = rw c.get-own.ensures at c.law_of_rules.ensures in
    let named = rw (c.as_slice.ensures, c.columns.ensures, c.as_slice-2.ensures, c.get-own.ensures) at c.in_ok-keys.ensures in
    let stays = rw (c.as_slice-3.ensures, c.get-own.ensures) at (c.is_in_order.ensures.0 c.if-is_in_order.true) in
    rw c.in_ok-copy.ensures (sort_stays c.args.table.now c.args.by.now c.in_ok-keys.keys is named stays)
