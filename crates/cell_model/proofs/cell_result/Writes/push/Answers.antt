use Rattle.std.proofs.Common.{subst, sym, Contains}
use Rattle.dataset_types.specs.Envs.{names_of}
use Rattle.cell_model.proofs.Distinctness.{names_pushed}
use Rattle.cell_model.proofs.cell_result.Writes.push.Goals as goal

pub invariant_of-self : goal.invariant_of-self
invariant_of-self c =
    names_pushed c.push.result c.self.inside.slots c.push.new.self _ c.push.ensures.ok c.push.ensures.err
    (subst (λ l. Contains (names_of l) c.args.name → ⊥) (sym c.self.view_is) c.requires) c.self.invariant
