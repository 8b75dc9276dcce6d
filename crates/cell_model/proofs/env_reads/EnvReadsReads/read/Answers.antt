use Rattle.std.proofs.Common.{ap, sym, subst}
use Rattle.dataset_types.specs.Envs.{look}
use Rattle.cell_model.specs.Reading.{IsAsked, Answers, noted}
use Rattle.cell_model.proofs.Asked.{noted_asked, noted_answers}
use Rattle.cell_model.proofs.env_reads.EnvReadsReads.read.Goals as goal

pub invariant_of-self-2 : goal.invariant_of-self-2
invariant_of-self-2 c =
    let env = c.self.inside.env.now in
    subst (IsAsked env) (sym c.in_ok-note.ensures.ok) (noted_asked env c.self.inside.asked c.args.name.now c.in_ok-slot.slot c.in_ok-slot.ensures c.self.invariant)

pub returns-clause-ok : goal.returns-clause-ok
returns-clause-ok c =
    let asked = c.self.inside.asked in
    let name = c.args.name.now in
    let slot = c.in_ok-slot.slot in
    let base = noted_answers (look c.self.inside.env.now) asked name slot c.self.invariant.gives c.in_ok-slot.ensures in
    subst (λ new. Answers c.args.self.now.asked name slot new) (sym c.in_ok-note.ensures.ok)
    (subst (λ old. Answers old name slot (noted asked name slot)) (ap (λ d. d.asked) c.self.view_is) base)
