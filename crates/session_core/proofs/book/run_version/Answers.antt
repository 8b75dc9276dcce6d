use Rattle.std.proofs.Common.{◌∙◌, ap, arith, unwrap_or, Option, List, []}
use Rattle.cell_model.specs.declared.cell.Cell.{Cell}
use Rattle.version_tree.specs.Versions.{cells_at}
use Rattle.session_core.proofs.Fronts.{run_front}
use Rattle.session_core.proofs.book.run_version.Goals as goal

pub returns-clause-front : goal.returns-clause-front
returns-clause-front c =
    run_front c.run.result c.args.kept.now c.run.new.self c.args.notebook.now.versions c.as_slice-2.result.now
    (omega (arith, c.if-len-version.false, c.len.ensures, c.requires.last))
    (c.as_slice-2.ensures ∙ ap (λ (o : Option (List Cell)). unwrap_or o []) c.in-Some.ensures.value ∙ ap (cells_at c.args.notebook.now.versions) c.requires.last)
    c.run.ensures.kept c.run.ensures.starved c.run.ensures.err c.requires.front
