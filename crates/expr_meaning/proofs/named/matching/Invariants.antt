use Rattle.std.proofs.Common.{◌≡◌, filter, drop}
use Rattle.std.specs.Option.{option_copied}
use Rattle.expr_meaning.specs.Names.{is_match, at_most_one}
use Rattle.expr_meaning.proofs.Found.{with_found}
use Rattle.expr_meaning.proofs.named.matching.Given as goal

abbrev pub invariant-loop-item : goal.invariant-loop-item
invariant-loop-item g l =
    at_most_one (filter (λ b. is_match l.free l.written l.name (g.T.Named.qualifier_of b) (g.T.Named.name_of b)) l.items)
    ≡ with_found (option_copied l.found) (filter (λ b. is_match l.free l.written l.name (g.T.Named.qualifier_of b) (g.T.Named.name_of b)) (drop l.item-index l.items))
