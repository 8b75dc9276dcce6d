use Rattle.std.proofs.Common.{◌≡◌, ◌∙◌, ap, codes, rules, subst}
use Rattle.serde_json.specs.Data.{Data, array, member, no_members, object, string}
use Rattle.serde_json.specs.View.{view, items_view, members_view}
use Rattle.serde_json.specs.declared.value.Value.{Array}
use Rattle.serde_json.proofs.Views.{view-Array, view-Object}
use Rattle.sheet_json.proofs.ColumnsBack.{keep_columns_back}
use Rattle.dataset_types.specs.Tables.{Distinct}
use Rattle.json_fields.proofs.ListsBack.{kept_whole, names_back}
use Rattle.sheet_json.proofs.columns_json.keep_columns_json.Goals as goal

pub returns : goal.returns
returns c =
    let each = c.in_ok-names.names.items in
    let on = view c.in_ok-dataset.dataset in
    let word = member (codes "vizual") (string (codes "keep_columns")) no_members in
    let put : members_view c.put.new.map.entries ≡ member (codes "dataset") on (member (codes "names") (view (Array c.in_ok-names.names)) word) = search rules in
    let fields : members_view c.put.new.map.entries ≡ member (codes "dataset") on (member (codes "names") (array (items_view each)) word) =
    put ∙ ap (λ (d : Data). member (codes "dataset") on (member (codes "names") d word)) (view-Array c.in_ok-names.names) in
    keep_columns_back c.args.dataset.now c.args.names.now _ (view c.in_ok-dataset.dataset) (items_view each) c.in_ok-dataset.ensures (kept_whole c.args.names.now c.requires (subst Distinct c.as_names.ensures.names c.as_names.ensures.distinct)) (names_back c.args.names.now c.as_slice.result.now each (c.as_slice.ensures ∙ c.as_names.ensures.names) c.in_ok-names.ensures) (view-Object c.put.new.map ∙ ap object fields)
