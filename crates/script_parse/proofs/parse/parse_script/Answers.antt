-- Each token stands in the text, and no action lacks a piece.
use Rattle.std.proofs.Common.{◌≡◌, ◌+◌, [], ◌∷◌, Some, drop, sym, ap, ◌∙◌, subst}
use Rattle.std.proofs.lemmas.Option.{slice_get-get_or}
use Rattle.ll1_grammar.specs.declared.symbol.Step.TheVariants.{Did}
use Rattle.ll1_grammar.specs.Pieces.{built}
use Rattle.notebook_grammar.specs.declared.action.Action.TheVariants as act
use Rattle.notebook_grammar.specs.declared.start.Start.TheVariants as start
use Rattle.notebook_grammar.specs.Texts.{AreSteps}
use Rattle.expr_parse.specs.declared.piece.Piece.TheVariants as piece
use Rattle.expr_parse.proofs.Along.{after_took, can_do, after_did, at_end}
use Rattle.expr_parse.proofs.Standing.{each_stands}
use Rattle.script_parse.specs.declared.piece.ScriptPiece.TheVariants as part
use Rattle.script_parse.specs.Trees.{builder}
use Rattle.script_parse.proofs.Built.{trees, no_select}
use Rattle.script_parse.proofs.parse.parse_script.Goals as goal
use Rattle.script_parse.proofs.parse.parse_script.Goals.{in-Took+in_ok-take-in-Took, in-Did+in-Expr+in_ok-act_on-in-Expr, in-Did+in-Script+in_ok-act_on_script-in-Script}

pub take-requires : goal.take-requires
take-requires c =
    let items = c.as_slice-step-items.result.now in
    let are = subst (λ s. AreSteps start.Script c.args.text.now s) (sym c.as_slice-step-items.ensures) c.in_ok-steps.ensures in
    let here = slice_get-get_or items c.loop-step.step-index _ c.loop-step-test.true ∙ ap Some c.in-Took.is in
    each_stands start.Script c.args.text.now items are c.loop-step.step-index c.in-Took.token here

pub act_on-requires : goal.act_on-requires
act_on-requires c =
    let items = c.as_slice-step-items.result.now in
    let are = subst (λ s. AreSteps start.Script c.args.text.now s) (sym c.as_slice-step-items.ensures) c.in_ok-steps.ensures in
    let made = trees c.args.text.now items are in
    can_do (builder c.args.text.now) items (built (builder c.args.text.now) items []) c.loop-step.step-index c.loop-step.pieces c.loop-step.invariant _ (act.Expr c.in-Expr.action) (piece.Other (part.Script made.0) ∷ []) made.1 c.loop-step-test.true (c.in-Did.is ∙ ap Did c.in-Expr.is)

pub act_on_script-requires : goal.act_on_script-requires
act_on_script-requires c =
    let items = c.as_slice-step-items.result.now in
    let are = subst (λ s. AreSteps start.Script c.args.text.now s) (sym c.as_slice-step-items.ensures) c.in_ok-steps.ensures in
    let made = trees c.args.text.now items are in
    can_do (builder c.args.text.now) items (built (builder c.args.text.now) items []) c.loop-step.step-index c.loop-step.pieces c.loop-step.invariant _ (act.Script c.in-Script.action) (piece.Other (part.Script made.0) ∷ []) made.1 c.loop-step-test.true (c.in-Did.is ∙ ap Did c.in-Script.is)

pub unreachable-requires : goal.unreachable-requires
unreachable-requires c =
    let items = c.as_slice-step-items.result.now in
    let are = subst (λ s. AreSteps start.Script c.args.text.now s) (sym c.as_slice-step-items.ensures) c.in_ok-steps.ensures in
    let made = trees c.args.text.now items are in
    let done = can_do (builder c.args.text.now) items (built (builder c.args.text.now) items []) c.loop-step.step-index c.loop-step.pieces c.loop-step.invariant _ (act.Select c.in-Select.field-0) (piece.Other (part.Script made.0) ∷ []) made.1 c.loop-step-test.true (c.in-Did.is ∙ ap Did c.in-Select.is) in
    no_select c.in-Select.field-0 c.loop-step.pieces done.0 done.1

pub loop-step-preserved : goal.loop-step-preserved
loop-step-preserved c =
    let items = c.as_slice-step-items.result.now in
    let rest = built (builder c.args.text.now) (drop (c.loop-step.step-index + 1) items) in
    elim c.match-step.branch [
      | in-Took+in_ok-take-in-Took w ↦
          ap rest (w.pieces-is ∙ w.in_ok-take-in-Took.ensures)
          ∙ after_took (builder c.args.text.now) items (built (builder c.args.text.now) items []) c.loop-step.step-index c.loop-step.pieces c.loop-step.invariant _ w.in-Took.token c.loop-step-test.true w.in-Took.is
      | in-Did+in-Expr+in_ok-act_on-in-Expr w ↦
          ap rest w.pieces-is
          ∙ after_did (builder c.args.text.now) items (built (builder c.args.text.now) items []) c.loop-step.step-index c.loop-step.pieces c.loop-step.invariant _ (act.Expr w.in-Expr.action) w.act_on.new.pieces w.in_ok-act_on-in-Expr.ensures c.loop-step-test.true (w.in-Did.is ∙ ap Did w.in-Expr.is)
      | in-Did+in-Script+in_ok-act_on_script-in-Script w ↦
          ap rest w.pieces-is
          ∙ after_did (builder c.args.text.now) items (built (builder c.args.text.now) items []) c.loop-step.step-index c.loop-step.pieces c.loop-step.invariant _ (act.Script w.in-Script.action) w.act_on_script.new.pieces w.in_ok-act_on_script-in-Script.ensures c.loop-step-test.true (w.in-Did.is ∙ ap Did w.in-Script.is)
    ]

pub pop_script-requires : goal.pop_script-requires
pop_script-requires c =
    let items = c.as_slice-step-items.result.now in
    let are = subst (λ s. AreSteps start.Script c.args.text.now s) (sym c.as_slice-step-items.ensures) c.in_ok-steps.ensures in
    let made = trees c.args.text.now items are in
    let ended = at_end (builder c.args.text.now) items (built (builder c.args.text.now) items []) c.loop-step.step-index c.loop-step.pieces c.loop-step.invariant c.loop-step-test.false ∙ made.1 in
    (made.0, [], cc)

pub returns : goal.returns
returns c =
    let items = c.as_slice-step-items.result.now in
    let are = subst (λ s. AreSteps start.Script c.args.text.now s) (sym c.as_slice-step-items.ensures) c.in_ok-steps.ensures in
    let made = trees c.args.text.now items are in
    let ended = at_end (builder c.args.text.now) items (built (builder c.args.text.now) items []) c.loop-step.step-index c.loop-step.pieces c.loop-step.invariant c.loop-step-test.false in
    let popped = c.pop_script.ensures in
    let both : Some c.loop-step.pieces ≡ Some (piece.Other (part.Script made.0) ∷ []) = ended ∙ made.1 in
    let none : c.pop_script.new.pieces ≡ [] = cc in
    (items, are, sym ended ∙ ap Some (popped ∙ ap (λ r. piece.Other (part.Script c.pop_script.result) ∷ r) none))
