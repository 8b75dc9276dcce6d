-- The laws of groups: erasure, and other picks.
use Rattle.std.specs.Prelude.{◌≡◌, ℕ, Option, Some, None, Ok, List}
use Rattle.std.specs.Bool.{⊤}
use Rattle.dataset_types.specs.declared.picks.Pick.{Pick}
use Rattle.expr_lang.specs.declared.expr.Expr.{Expr}
use Rattle.expr_meaning.specs.declared.expr_type.ExprType.{ExprType}
use Rattle.expr_meaning.specs.Types.{TypeSetting, type_at}
use Rattle.relations.specs.declared.parts.Item.{Item}
use Rattle.relations.specs.Rels.{RelData, IsRel}
use Rattle.relations.specs.Shown.{SameShown, shown_rel}
use Rattle.rel_ops.specs.Laws.{Erases, Shows, KeepsShown}
use Rattle.rel_group.specs.Groups.{group_types}
use Rattle.rel_group.specs.Group.{grouped, distinct}
use Rattle.rel_group.specs.Plain.{plain_grouped, plain_distinct}
use Rattle.rel_group.specs.Shown.{shown_grouped, shown_distinct}

-- groups erase
abbrev pub GroupErases : List ℕ → Option Expr → List Item → Type 0
GroupErases places having items =
    (picks : List Pick) (cell : ℕ) → Erases (λ r. grouped r places having items picks cell) (λ r. plain_grouped r places having items picks cell)

-- what groups show
abbrev pub GroupShows : List ℕ → Option Expr → List Item → Type 0
GroupShows places having items =
    (picks : List Pick) (cell : ℕ) → Shows (λ r. grouped r places having items picks cell) (λ r. shown_grouped r places having items)

-- a condition that has a type, or none
abbrev pub IsTyped : TypeSetting → Option Expr → Type 0
IsTyped types None = ⊤
IsTyped types (Some condition) = (t : ExprType) × (type_at types condition ≡ Ok t)

-- groups of what shows the same, where HAVING has a type
abbrev pub GroupKeepsShown : List ℕ → Option Expr → List Item → Type 0
GroupKeepsShown places having items =
    (picks others : List Pick) (cell : ℕ) (a b x y : RelData) → IsRel a → IsRel b → IsTyped (group_types a.columns places) having →
    SameShown (shown_rel a) (shown_rel b) → grouped a places having items picks cell ≡ Ok x → grouped b places having items others cell ≡ Ok y →
    SameShown (shown_rel x) (shown_rel y)

-- DISTINCT erases
abbrev pub DistinctErases : Type 0
DistinctErases = Erases distinct plain_distinct

-- what DISTINCT shows
abbrev pub DistinctShows : Type 0
DistinctShows = Shows distinct shown_distinct

-- DISTINCT of what shows the same
abbrev pub DistinctKeepsShown : Type 0
DistinctKeepsShown = KeepsShown distinct distinct
