use Rattle.ll1_grammar.proofs.OnePiece.{one_piece}
use Rattle.ll1_grammar.proofs.laws.law_of_trees.Goals as goal

pub returns : goal.returns
returns g c = λ table kind f flows part closed b shape keeps n x of none one w steps d. one_piece table kind f flows part closed b shape keeps n x w steps of none one d
