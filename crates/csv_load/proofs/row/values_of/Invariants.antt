use Rattle.std.proofs.Common.{◌≡◌, ◌+◌, ◌++◌, drop, map}
use Rattle.std.specs.Prelude.{slice_get}
use Rattle.std.specs.List.{enumerate_from}
use Rattle.csv.specs.Records.{fields_of}
use Rattle.dataset_types.specs.declared.picks.Site.TheVariants as site
use Rattle.csv_load.specs.Fields.{marked_value}
use Rattle.csv_load.specs.Rows.{by_columns}
use Rattle.csv_load.specs.Calls.{repairs_of}
use Rattle.csv_load.proofs.row.values_of.Given as goal

abbrev pub invariant-loop-place : goal.invariant-loop-place
invariant-loop-place l =
    by_columns (marked_value (repairs_of l.repairs)) l.columns (l.number, fields_of l.fields)
    ≡ l.values.items ++ map (λ c. marked_value (repairs_of l.repairs) c.1.kind (site.Field l.number (c.0 + 1)) (slice_get (fields_of l.fields) c.0)) (enumerate_from l.place (drop l.place l.columns))
