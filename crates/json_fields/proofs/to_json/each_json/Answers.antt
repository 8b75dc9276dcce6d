use Rattle.serde_json.specs.View.{view}
use Rattle.json_fields.proofs.Each.{one_more}
use Rattle.json_fields.proofs.to_json.each_json.Goals as goal

pub loop-item-preserved : goal.loop-item-preserved
loop-item-preserved g c =
    one_more (λ x json. g.T.ToJson.says x (view json)) c.args.list.now c.loop-item.item-index c.item-item.result _ _ _ c.loop-item-test.true c.item-item.is c.in_ok-push.ensures.items c.loop-item.invariant c.in_ok-to_json.ensures
