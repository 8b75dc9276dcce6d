-- The laws of the steps: erasure, and other picks.
use Rattle.std.specs.Prelude.{◌≡◌, ℕ, List, Ok}
use Rattle.std.specs.Result.{result_map_both}
use Rattle.dataset_types.specs.declared.picks.Pick.{Pick}
use Rattle.cell_errors.specs.Answers.{Answer}
use Rattle.expr_lang.specs.declared.expr.Expr.{Expr}
use Rattle.relations.specs.declared.parts.Item.{Item}
use Rattle.relations.specs.declared.parts.SortKey.{SortKey}
use Rattle.relations.specs.Rels.{RelData, IsRel}
use Rattle.relations.specs.Plain.{PlainRel, erased_rel}
use Rattle.relations.specs.Shown.{ShownRel, SameShown, shown_rel}
use Rattle.rel_ops.specs.Filter.{filtered, plain_filtered, shown_filtered}
use Rattle.rel_ops.specs.Project.{projected, plain_projected, shown_projected}
use Rattle.rel_ops.specs.Sort.{ordered, plain_ordered, shown_ordered}
use Rattle.rel_ops.specs.Limit.{limited, plain_limited, shown_limited}
use Rattle.rel_ops.specs.Union.{united, plain_united, shown_united}

-- ---- what a law says of a step

-- dropping marks and flags after the step or before it is one thing, errors included
abbrev pub Erases : (RelData → Answer RelData) → (PlainRel → Answer PlainRel) → Type 0
Erases step plain_step = (rel : RelData) → result_map_both erased_rel (λ e. e) (step rel) ≡ plain_step (erased_rel rel)

-- what is shown of the result is what the step makes of what is shown
abbrev pub Shows : (RelData → Answer RelData) → (ShownRel → ShownRel) → Type 0
Shows step shown_step = (rel out : RelData) → IsRel rel → step rel ≡ Ok out → SameShown (shown_rel out) (shown_step (shown_rel rel))

-- where two relations show the same, so do their results
abbrev pub KeepsShown : (RelData → Answer RelData) → (RelData → Answer RelData) → Type 0
KeepsShown step other =
    (a b x y : RelData) → IsRel a → IsRel b → SameShown (shown_rel a) (shown_rel b) → step a ≡ Ok x → other b ≡ Ok y →
    SameShown (shown_rel x) (shown_rel y)

-- ---- WHERE

-- WHERE erases
abbrev pub FilterErases : Expr → Type 0
FilterErases condition = (picks : List Pick) (cell : ℕ) → Erases (λ r. filtered r condition picks cell) (λ r. plain_filtered r condition picks cell)

-- what WHERE shows
abbrev pub FilterShows : Expr → Type 0
FilterShows condition = (picks : List Pick) (cell : ℕ) → Shows (λ r. filtered r condition picks cell) (λ r. shown_filtered r condition)

-- WHERE under other picks
abbrev pub FilterKeepsShown : Expr → Type 0
FilterKeepsShown condition =
    (picks others : List Pick) (cell : ℕ) → KeepsShown (λ r. filtered r condition picks cell) (λ r. filtered r condition others cell)

-- ---- the items

-- the items erase
abbrev pub ProjectErases : List Item → Type 0
ProjectErases items = (picks : List Pick) (cell : ℕ) → Erases (λ r. projected r items picks cell) (λ r. plain_projected r items picks cell)

-- what the items show
abbrev pub ProjectShows : List Item → Type 0
ProjectShows items = (picks : List Pick) (cell : ℕ) → Shows (λ r. projected r items picks cell) (λ r. shown_projected r items)

-- the items under other picks
abbrev pub ProjectKeepsShown : List Item → Type 0
ProjectKeepsShown items =
    (picks others : List Pick) (cell : ℕ) → KeepsShown (λ r. projected r items picks cell) (λ r. projected r items others cell)

-- ---- ORDER BY

-- ORDER BY erases
abbrev pub SortErases : List SortKey → Type 0
SortErases keys = Erases (λ r. ordered r keys) (λ r. plain_ordered r keys)

-- what ORDER BY shows
abbrev pub SortShows : List SortKey → Type 0
SortShows keys = Shows (λ r. ordered r keys) (λ r. shown_ordered r keys)

-- ORDER BY of what shows the same
abbrev pub SortKeepsShown : List SortKey → Type 0
SortKeepsShown keys = KeepsShown (λ r. ordered r keys) (λ r. ordered r keys)

-- ---- LIMIT

-- LIMIT erases
abbrev pub LimitErases : ℕ → Type 0
LimitErases count = Erases (λ r. limited r count) (λ r. plain_limited r count)

-- what LIMIT shows
abbrev pub LimitShows : ℕ → Type 0
LimitShows count = Shows (λ r. limited r count) (λ r. shown_limited r count)

-- LIMIT of what shows the same
abbrev pub LimitKeepsShown : ℕ → Type 0
LimitKeepsShown count = KeepsShown (λ r. limited r count) (λ r. limited r count)

-- ---- UNION ALL

-- UNION ALL erases
abbrev pub UnionErases : Type 0
UnionErases = (a b : RelData) → result_map_both erased_rel (λ e. e) (united a b) ≡ plain_united (erased_rel a) (erased_rel b)

-- what UNION ALL shows of two sides
abbrev pub UnionShows : Type 0
UnionShows = (a b out : RelData) → united a b ≡ Ok out → SameShown (shown_rel out) (shown_united (shown_rel a) (shown_rel b))

-- UNION ALL of sides that show the same
abbrev pub UnionKeepsShown : Type 0
UnionKeepsShown =
    (a b c d x y : RelData) → SameShown (shown_rel a) (shown_rel c) → SameShown (shown_rel b) (shown_rel d) →
    united a b ≡ Ok x → united c d ≡ Ok y → SameShown (shown_rel x) (shown_rel y)
