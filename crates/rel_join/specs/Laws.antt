-- The laws of joins: erasure, and other picks.
use Rattle.std.specs.Prelude.{◌≡◌, ℕ, List, Ok}
use Rattle.std.specs.Result.{result_map_both}
use Rattle.dataset_types.specs.declared.picks.Pick.{Pick}
use Rattle.expr_lang.specs.declared.expr.Expr.{Expr}
use Rattle.relations.specs.Rels.{RelData, IsRel}
use Rattle.relations.specs.Plain.{erased_rel}
use Rattle.relations.specs.Shown.{SameShown, shown_rel}
use Rattle.rel_join.specs.declared.kind.Kind.{Kind}
use Rattle.rel_join.specs.Join.{joined, plain_joined, shown_joined}

-- dropping marks and flags after the join or before it is one thing, errors included
abbrev pub JoinErases : Kind → Expr → Type 0
JoinErases kind on =
    (a b : RelData) (picks : List Pick) (cell : ℕ) →
    result_map_both erased_rel (λ e. e) (joined kind a b on picks cell) ≡ plain_joined kind (erased_rel a) (erased_rel b) on picks cell

-- what is shown of the result is what the join makes of what is shown
abbrev pub JoinShows : Kind → Expr → Type 0
JoinShows kind on =
    (a b out : RelData) (picks : List Pick) (cell : ℕ) → IsRel a → IsRel b → joined kind a b on picks cell ≡ Ok out →
    SameShown (shown_rel out) (shown_joined kind (shown_rel a) (shown_rel b) on)

-- where the sides show the same as two others, so do the results, whatever the picks
abbrev pub JoinKeepsShown : Kind → Expr → Type 0
JoinKeepsShown kind on =
    (a b c d x y : RelData) (picks others : List Pick) (cell : ℕ) → IsRel a → IsRel b → IsRel c → IsRel d →
    SameShown (shown_rel a) (shown_rel c) → SameShown (shown_rel b) (shown_rel d) →
    joined kind a b on picks cell ≡ Ok x → joined kind c d on others cell ≡ Ok y → SameShown (shown_rel x) (shown_rel y)
