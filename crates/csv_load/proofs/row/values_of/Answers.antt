use Rattle.std.proofs.Common.{◌≡◌, ◌+◌, ◌∙◌, ap, arith}
use Rattle.std.specs.Prelude.{slice_get}
use Rattle.csv.specs.Records.{fields_of}
use Rattle.dataset_types.specs.declared.picks.Site.TheVariants as site
use Rattle.csv_load.specs.Fields.{marked_value}
use Rattle.csv_load.specs.Calls.{repairs_of}
use Rattle.csv_load.proofs.RowLemmas.{column_more}
use Rattle.csv_load.proofs.row.values_of.Goals as goal

pub loop-place-preserved : goal.loop-place-preserved
loop-place-preserved c =
    let r = repairs_of c.args.repairs.now in
    let n = c.args.number in
    let place = c.loop-place.place in
    let column = c.index-columns-place.result in
    let made = c.in_ok-value.ensures ∙ ap (marked_value r column.kind (site.Field n (place + 1))) c.field_of.ensures in
    rw c.in_ok-push.ensures.items (column_more (λ p. marked_value r p.1.kind (site.Field n (p.0 + 1)) (slice_get (fields_of c.args.fields.now) p.0)) _ c.loop-place.values.items c.args.columns.now place column c.in_ok-value.value
    c.loop-place.invariant c.loop-place-test.true c.index-columns-place.is made)
