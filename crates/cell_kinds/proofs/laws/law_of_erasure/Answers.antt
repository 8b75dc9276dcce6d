use Rattle.cell_kinds.proofs.Erasure.{erases}
use Rattle.cell_kinds.proofs.laws.law_of_erasure.Goals as goal

pub returns : goal.returns
returns c = λ p cells. erases p cells
