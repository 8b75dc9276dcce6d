use Rattle.std.proofs.Common.{map, drop, ◌+◌, ◌||◌, List, sym, ap, ◌∙◌}
use Rattle.std.proofs.lemmas.Result.{err_from_is_err_and}
use Rattle.value_types.specs.declared.value.Value.{Value}
use Rattle.cell_errors.specs.Seen.{Seen, after}
use Rattle.expr_meaning.specs.declared.bindings.Binding.{Binding}
use Rattle.expr_meaning.specs.Settings.{at_row}
use Rattle.expr_meaning.specs.Sees.{seen, setting_of}
use Rattle.expr_meaning.specs.Meaning.{marked_at}
use Rattle.expr_meaning.specs.Steps.{or_equal_marked, all_marked}
use Rattle.expr_meaning.proofs.Lists.{all_turn, all_stops, sees_wrong, turn}
use Rattle.expr_meaning.proofs.+eval.Goals as goal

pub evaluate::any_equal-returns-in_err-found : goal.evaluate::any_equal-returns-in_err-found
evaluate::any_equal-returns-in_err-found t c =
    let m = marked_at (setting_of c.args.setting.now) c.args.setting.now.picks.now c.args.setting.now.cell in
    let p = err_from_is_err_and c.from_residual.result c.from_residual.ensures.1 in
    rw (c.loop-item.invariant, turn m c.args.list.now c.loop-item.item-index c.item-item.result c.loop-item-test.true c.item-item.is)
    (rw (p.1, p.2) (sees_wrong (or_equal_marked (seen c.loop-item.found) c.args.value.now (m c.item-item.result)) c.args.value.now (map m (drop (c.loop-item.item-index + 1) c.args.list.now)) c.in_err-found.field-0.0 c.in_err-found.ensures))

pub evaluate::operands_over-loop-row-preserved : goal.evaluate::operands_over-loop-row-preserved
evaluate::operands_over-loop-row-preserved t c = λ k.
    let m : List Binding → Seen Value = λ r. marked_at (at_row r) c.args.setting.now.picks.now c.args.setting.now.cell c.args.of.now in
    all_turn m c.args.rows.now c.loop-row.row-index c.row-item.result c.loop-row-test.true c.row-item.is
    c.in_ok-value.value c.loop-row.marked c.loop-row.values k _ (c.loop-row.invariant k) c.in_ok-value.ensures
    ∙ ap (λ vs. after (c.loop-row.marked || c.in_ok-value.value.marked) (all_marked (map m (drop (c.loop-row.row-index + 1) c.args.rows.now)) vs k)) (sym c.in_ok-push.ensures.ok)

pub evaluate::operands_over-returns-in_err-value : goal.evaluate::operands_over-returns-in_err-value
evaluate::operands_over-returns-in_err-value t c =
    let p = err_from_is_err_and c.from_residual-in_err-value.result c.from_residual-in_err-value.ensures.1 in
    rw (p.1, p.2)
    (all_stops (λ r. marked_at (at_row r) c.args.setting.now.picks.now c.args.setting.now.cell c.args.of.now) c.args.rows.now c.loop-row.row-index c.row-item.result c.loop-row-test.true c.row-item.is
    c.in_err-value.field-0.0 c.loop-row.marked c.loop-row.values c.loop-row.invariant c.in_err-value.ensures)
