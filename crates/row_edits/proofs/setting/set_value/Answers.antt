use Rattle.std.proofs.Common.{sym}
use Rattle.row_edits.proofs.SetLaws.{set_rules}
use Rattle.row_edits.proofs.Staying.{set_stays}
use Rattle.row_edits.proofs.setting.set_value.Goals as goal

pub returns-then-branch : goal.returns-then-branch
returns-then-branch c =
    let is = rw c.get-own.ensures at c.law_of_rules.ensures in
    let found = rw (c.as_slice.ensures, c.columns.ensures, c.get-own.ensures) at (sym c.in_ok-found.ensures.value) in
    let there = rw (c.in_ok-is_there.ensures, c.as_slice-2.ensures, c.rows.ensures, c.get-own.ensures) at c.if-not-branch.false in
    let fits = rw c.in_ok-copy.ensures at (sym c.in_ok-value.ensures) in
    let holds = rw (c.in_ok-stands.ensures, c.as_slice-3.ensures, c.rows-2.ensures, c.get-own.ensures) at c.if-branch.true in
    rw c.in_ok-copy-2.ensures
    (set_stays c.args.table.now c.args.row.now c.args.column.now c.args.value.now c.in_ok-value.value c.in_ok-found.found is found there fits holds)

pub whole_table-requires : goal.whole_table-requires
whole_table-requires c =
    rw (c.in_ok-columns.ensures, c.columns-2.ensures, c.in_ok-rows.ensures, c.in_ok-copy-3.ensures, c.rows-3.ensures, c.is_open.ensures, c.is_loose.ensures)
    (set_rules c.get-own.result.now c.args.row.now c.args.column.now c.args.value.now c.in_ok-found.found c.in_ok-value.value c.law_of_rules.ensures
    (rw (c.as_slice.ensures, c.columns.ensures) at (sym c.in_ok-found.ensures.value)) (rw c.in_ok-copy.ensures at (sym c.in_ok-value.ensures)))
