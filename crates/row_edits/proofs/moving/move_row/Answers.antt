use Rattle.row_edits.proofs.Staying.{row_stays, apart}
use Rattle.row_edits.proofs.moving.move_row.Goals as goal

pub returns-then-branch : goal.returns-then-branch
returns-then-branch c =
    let there = rw (c.in_ok-are_there.ensures, c.as_slice.ensures, c.rows.ensures, c.get-own.ensures) at c.if-not-branch.false in
    let holds = rw (c.in_ok-stays.ensures, c.get-own.ensures) at c.if-branch.true in
    rw c.in_ok-copy.ensures
    (row_stays c.args.table.now c.args.row.now c.args.after.now (rw c.get-own.ensures at c.law_of_rules.ensures) there holds)

pub moved_table-requires : goal.moved_table-requires
moved_table-requires c = record {
  there = rw (c.in_ok-are_there.ensures, c.as_slice.ensures, c.rows.ensures) at c.if-not-branch.false;
  apart = apart c.get-own.result.now c.args.row.now c.args.after.now (rw c.in_ok-stays.ensures at c.if-branch.false);
}
