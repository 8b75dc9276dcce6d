use Rattle.std.proofs.Common.{subst, arith, ℕ, List, Some, Bor}
use Rattle.std.proofs.lemmas.Bool.Decides.{nat_tests}
use Rattle.csv.specs.Records.{fields_of}
use Rattle.cell_errors.specs.Answers.{Gives}
use Rattle.csv_load.specs.Reading.{left_of}
use Rattle.csv_load.proofs.LoadLemmas.{no_header, too_wide, records_few, columns_narrow, columns_apart, second_reading}
use Rattle.csv_load.proofs.file.load.Goals as goal

pub returns-in_default : goal.returns-in_default
returns-in_default c =
    no_header c.args.bytes.now c.args.types.now c.args.repair c.args.picks.now c.args.cell (rw c.in_default.is at c.in_ok-reader.ensures)

pub returns-then-not-few_columns : goal.returns-then-not-few_columns
returns-then-not-few_columns c =
    let past = rw c.in-Some.is at c.in_ok-reader.ensures in
    too_wide c.args.bytes.now c.args.types.now c.args.repair c.args.picks.now c.args.cell _ _ past.1 (grind (arith, nat_tests))

pub columns_of-requires-clause-few : goal.columns_of-requires-clause-few
columns_of-requires-clause-few c =
    let past = rw c.in-Some.is at c.in_ok-reader.ensures in
    records_few c.args.bytes.now _ _ past.1 (omega arith)

pub table_of-requires-clause-narrow : goal.table_of-requires-clause-narrow
table_of-requires-clause-narrow c = columns_narrow c.as_slice.result.now (fields_of c.past_header.new.header) (left_of (λ (s : Bor (List ℕ)). Some s.now) c.in-Some.reader) c.in_ok-columns.columns c.in_ok-columns.ensures (grind (arith, nat_tests))

pub table_of-requires-clause-names : goal.table_of-requires-clause-names
table_of-requires-clause-names c = columns_apart c.as_slice.result.now (fields_of c.past_header.new.header) (left_of (λ (s : Bor (List ℕ)). Some s.now) c.in-Some.reader) c.in_ok-columns.columns c.in_ok-columns.ensures (grind (arith, nat_tests))

pub returns : goal.returns
returns c =
    let past = rw c.in-Some.is at c.in_ok-reader.ensures in
    let again = rw c.in-Some-2.is at c.in_ok-reader-2.ensures in
    subst (Gives c.table_of.result)
    (second_reading c.args.bytes.now c.args.types.now _ c.args.repair c.args.picks.now c.args.cell _ _ _ _ c.in_ok-columns.columns past.1 again.1 c.as_slice.ensures c.in_ok-columns.ensures)
    c.table_of.ensures
