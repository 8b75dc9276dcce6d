use Rattle.std.proofs.Common.{◌∙◌, subst}
use Rattle.cell_model.specs.Answers.{IsRun}
use Rattle.cell_model.specs.declared.run.Ran.{Ran}
use Rattle.cell_model.specs.declared.run.Policy.TheVariants.{Stop}
use Rattle.report_words.specs.Reports.{run_at}
use Rattle.session_core.proofs.Blocks.{block_is}
use Rattle.session_core.proofs.book.earned_by.Goals as goal

pub returns-in_ok-settled-in-Done-clause-earned : goal.returns-in_ok-settled-in-Done-clause-earned
returns-in_ok-settled-in-Done-clause-earned c =
    let book = c.args.notebook.now in
    let n = c.args.version in
    block_is book n c.copy-branch.result c.in_ok-settled-in-Done.settled c.in-Done.trail (c.copy-branch.ensures ∙ c.requires.branch)
    (subst (λ (r : Ran). IsRun r Stop (run_at book n)) c.in-Done.is c.requires.run) c.in_ok-settled-in-Done.ensures
