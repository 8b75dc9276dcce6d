use Rattle.column_edits.proofs.Standing.{table_stands}
use Rattle.column_edits.proofs.result.lay_out_shared.Goals as goal

pub returns-then-branch : goal.returns-then-branch
returns-then-branch c =
    let stands = rw (c.as_slice.ensures, c.columns.ensures, c.get-own.ensures) at (c.in_ok-is_standing.ensures.0 c.if-branch.true) in
    rw c.in_ok-copy.ensures (table_stands c.args.layout.now c.args.table.now (rw c.get-own.ensures at c.law_of_rules.ensures) stands)
