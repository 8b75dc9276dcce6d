use Rattle.std.proofs.Common.{Ok, sym, subst}
use Rattle.notebook_grammar.specs.declared.start.Start.TheVariants as start
use Rattle.notebook_grammar.specs.Texts.{IsRefused}
use Rattle.cell_errors.specs.Answers.{Fails}
use Rattle.expr_parse.specs.Trees.{IsTreeOf}
use Rattle.text_answers.specs.Answers.{expr_of}
use Rattle.text_answers.proofs.TheAnswer.{expr_is, expr_fails}
use Rattle.text_answers.proofs.parsed.parsed_expr.Goals as goal

pub returns-in-Ok : goal.returns-in-Ok
returns-in-Ok c = expr_is c.args.text.now (Ok c.in-Ok.expr) (subst (λ t. IsTreeOf t c.in-Ok.expr) c.as_text.ensures c.in-Ok.ensures)

pub returns-in-Err : goal.returns-in-Err
returns-in-Err c =
    let refused = subst (λ t. IsRefused start.Expression t c.in-Err.fault) c.as_text.ensures c.in-Err.ensures in
    subst (λ f. Fails f (expr_of c.args.text.now)) (sym c.fault_of.ensures) (expr_fails c.args.text.now c.in-Err.fault refused)
