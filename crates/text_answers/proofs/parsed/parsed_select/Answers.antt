use Rattle.std.proofs.Common.{Ok, sym, subst}
use Rattle.notebook_grammar.specs.declared.start.Start.TheVariants as start
use Rattle.notebook_grammar.specs.Texts.{IsRefused}
use Rattle.cell_errors.specs.Answers.{Fails}
use Rattle.sql_parse.specs.Trees.{IsTreeOf}
use Rattle.text_answers.specs.Answers.{select_of}
use Rattle.text_answers.proofs.TheAnswer.{select_is, select_fails}
use Rattle.text_answers.proofs.parsed.parsed_select.Goals as goal

pub returns-in-Ok : goal.returns-in-Ok
returns-in-Ok c = select_is c.args.text.now (Ok c.in-Ok.select) (subst (λ t. IsTreeOf t c.in-Ok.select) c.as_text.ensures c.in-Ok.ensures)

pub returns-in-Err : goal.returns-in-Err
returns-in-Err c =
    let refused = subst (λ t. IsRefused start.Select t c.in-Err.fault) c.as_text.ensures c.in-Err.ensures in
    subst (λ f. Fails f (select_of c.args.text.now)) (sym c.fault_of.ensures) (select_fails c.args.text.now c.in-Err.fault refused)
