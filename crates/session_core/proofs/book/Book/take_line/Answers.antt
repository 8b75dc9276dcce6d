use Rattle.std.proofs.Common.{◌∙◌, subst, IfOk}
use Rattle.session_core.specs.Earned.{Took}
use Rattle.session_core.proofs.Taken.{said_kept}
use Rattle.session_core.proofs.book.Book.take_line.Goals as goal

pub returns-clause-took : goal.returns-clause-took
returns-clause-took g c = λ whole is.
    subst (λ s. IfOk c.take_said.result (λ e. Took (g.H.Shelf.files c.args.shelf.now) (g.H.Shelf.faults c.args.shelf.now) (g.H.Shelf.faults c.take_said.new.shelf) c.args.self.now c.args.line s e c.take_said.new.self))
    (c.in_ok-said.ensures ∙ said_kept whole c.args.kept.now is) c.take_said.ensures.took
