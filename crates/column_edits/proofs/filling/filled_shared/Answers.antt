use Rattle.column_edits.proofs.FillStays.{filled_stays}
use Rattle.column_edits.proofs.filling.filled_shared.Goals as goal

pub returns-then-all_stay : goal.returns-then-all_stay
returns-then-all_stay c =
    let is = rw c.get-own.ensures at c.law_of_rules.ensures in
    let holds = rw (c.all_stay.ensures, c.as_slice-2.ensures, c.in_ok-layout.ensures, c.as_slice.ensures, c.columns.ensures, c.as_slice-rows.ensures, c.rows.ensures, c.get-own.ensures) at c.if-all_stay.true in
    rw c.in_ok-copy.ensures (filled_stays c.args.column.now c.args.new.now c.args.table.now is c.requires.long holds)

pub whole_table-requires : goal.whole_table-requires
whole_table-requires c =
    rw (c.in_ok-columns.ensures, c.columns-2.ensures, c.in_ok-rows.ensures, c.as_slice-3.ensures, c.in_ok-layout.ensures, c.as_slice.ensures, c.columns.ensures, c.as_slice-rows.ensures, c.rows.ensures, c.is_open.ensures, c.is_loose.ensures, c.get-own.ensures)
    c.requires.rules

pub returns : goal.returns
returns c =
    rw (c.in_ok-columns.ensures, c.columns-2.ensures, c.in_ok-rows.ensures, c.as_slice-3.ensures, c.in_ok-layout.ensures, c.as_slice.ensures, c.columns.ensures, c.as_slice-rows.ensures, c.rows.ensures, c.is_open.ensures, c.is_loose.ensures, c.get-own.ensures)
    at c.whole_table.ensures
