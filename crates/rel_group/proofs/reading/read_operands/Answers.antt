use Rattle.std.proofs.Common.{◌≡◌, ◌∙◌, ◌+◌, drop, get_or, slice_index_or, refl, ap, sym, arith}
use Rattle.std.proofs.lemmas.Grind.{common_steps}
use Rattle.rel_group.specs.Calls.{rows_by}
use Rattle.rel_group.proofs.ReadLots.{read_on, operand_here, no_operand_here}
use Rattle.rel_group.proofs.reading.read_operands.Goals as goal
use Rattle.rel_group.proofs.reading.read_operands.Goals.{in-Some+in_ok-add_operand, in_default}

pub loop-at-preserved : goal.loop-at-preserved
loop-at-preserved c =
    let ps = c.args.of_group.now in
    let i = c.loop-at.at-index in
    let p = slice_index_or ps i 0 in
    let here : p ≡ get_or ps i p = grind (arith, common_steps) in
    elim c.match-operand_at.branch [
      | in-Some+in_ok-add_operand w ↦
          let found = sym c.operand_at.ensures ∙ rw w.in-Some.is refl in
          c.loop-at.invariant
          ∙ (operand_here c.args.place c.args.rows.now c.loop-at.all ps i p w.in-Some.operand.now c.loop-at-test.true here found
          ∙ ap (λ all. read_on c.args.place all (rows_by c.args.rows.now (drop (i + 1) ps))) (sym (w.all-is ∙ w.in_ok-add_operand.ensures)))
      | in_default w ↦
          let none = sym c.operand_at.ensures ∙ rw w.in_default.is refl in
          c.loop-at.invariant
          ∙ (no_operand_here c.args.place c.args.rows.now c.loop-at.all ps i p c.loop-at-test.true here none
          ∙ ap (λ all. read_on c.args.place all (rows_by c.args.rows.now (drop (i + 1) ps))) (sym w.all-is))
    ]
