use Rattle.std.proofs.Common.{sym, subst, IfOk}
use Rattle.version_tree.specs.Notebook.{NotebookData}
use Rattle.report_words.specs.declared.said.Said.TheVariants.{Edits}
use Rattle.session_core.specs.Earned.{Took}
use Rattle.session_core.proofs.Taken.{took_made, branch_made, front_made}
use Rattle.session_core.proofs.book.Book.take_edit.Goals as goal

pub returns-in-Ok-clause-took : goal.returns-in-Ok-clause-took
returns-in-Ok-clause-took g c =
    let h = g.H.Shelf in
    let r = c.run_last.result in
    subst (λ (k : NotebookData). IfOk r (λ e. Took (h.files c.args.shelf.now) (h.faults c.args.shelf.now) (h.faults c.accept.new.shelf) k c.args.line (Edits c.args.edit.now) e c.run_last.new.self)) c.self.view_is
    (subst (λ (m : NotebookData). IfOk r (λ e. Took (h.files c.args.shelf.now) (h.faults c.args.shelf.now) (h.faults c.accept.new.shelf) c.self.inside.notebook c.args.line (Edits c.args.edit.now) e m)) (sym c.run_last.ensures.same)
    (took_made r (h.files c.args.shelf.now) (h.faults c.args.shelf.now) (h.faults c.accept.new.shelf) c.self.inside.notebook c.accept.new.self c.args.line c.in-Ok.version c.args.edit.now c.in-Ok.ensures.step c.run_last.ensures.earned))

pub invariant_of-self : goal.invariant_of-self
invariant_of-self g c =
    let h = g.H.Shelf in (
      c.self.invariant.0,
      front_made c.self.inside.kept.versions (h.files c.args.shelf.now) (h.faults c.args.shelf.now) (h.faults c.accept.new.shelf) c.self.inside.notebook c.accept.new.self c.in-Ok.version c.args.edit.now c.in-Ok.ensures.step c.self.invariant.1,
    )

pub run_last-requires-clause-branch : goal.run_last-requires-clause-branch
run_last-requires-clause-branch g c =
    let h = g.H.Shelf in
    branch_made (h.files c.args.shelf.now) (h.faults c.args.shelf.now) (h.faults c.accept.new.shelf) c.self.inside.notebook c.accept.new.self c.in-Ok.version c.args.edit.now c.in-Ok.ensures.step
