use Rattle.std.proofs.Common.{◌≡◌, false, sym, subst, ◌∙◌}
use Rattle.serde_json.specs.View.{items_view}
use Rattle.dataset_types.specs.Tables.{few_rows}
use Rattle.edit_wire.proofs.Made.{rows_read, distinct_ids, too_many, counted}
use Rattle.edit_wire.proofs.make.table_from.Goals as goal

pub returns-then-not-few_rows : goal.returns-then-not-few_rows
returns-then-not-few_rows c =
    too_many (items_view c.args.heads.now) (items_view c.args.list.now)
    (subst (λ n. few_rows n ≡ false) (sym (counted c.args.list.now)) (sym c.few_rows.ensures ∙ c.if-not-few_rows.true))

pub limited-requires-clause-ids : goal.limited-requires-clause-ids
limited-requires-clause-ids c =
    distinct_ids _ _ (rows_read c.in-Some.columns _ _ _ _ c.as_slice.ensures c.in_ok-rows.ensures c.in-Some-2.is)

pub limited-requires-clause-fitting : goal.limited-requires-clause-fitting
limited-requires-clause-fitting c =
    (rows_read c.in-Some.columns _ _ _ _ c.as_slice.ensures c.in_ok-rows.ensures c.in-Some-2.is).fitting

pub limited-requires-clause-sure : goal.limited-requires-clause-sure
limited-requires-clause-sure c =
    (rows_read c.in-Some.columns _ _ _ _ c.as_slice.ensures c.in_ok-rows.ensures c.in-Some-2.is).sure
