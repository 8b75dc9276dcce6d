-- Values of types, and settings whose values are of the types of their columns.
use Rattle.std.specs.Prelude.{◌≡◌, ℕ, Bool, IsTrue, Option, Some, None, Ok, List, [], ◌∷◌}
use Rattle.std.specs.Bool.{⊤}
use Rattle.std.specs.List.{Contains}
use Rattle.value_types.specs.declared.value.Value.{Value}
use Rattle.dataset_types.specs.declared.picks.Pick.{Pick}
use Rattle.dataset_types.specs.Tables.{fits}
use Rattle.expr_lang.specs.declared.expr.Expr.{Expr}
use Rattle.expr_ops.specs.Truths.{is_null}
use Rattle.expr_meaning.specs.declared.bindings.Binding.{Binding}
use Rattle.expr_meaning.specs.declared.bindings.ScopeColumn.{ScopeColumn}
use Rattle.expr_meaning.specs.declared.expr_type.ExprType.{ExprType}
use Rattle.expr_meaning.specs.declared.expr_type.ExprType.TheVariants.{Null, Of}
use Rattle.expr_meaning.specs.Settings.{MarkedSetting}
use Rattle.expr_meaning.specs.Meaning.{marked_at}
use Rattle.expr_meaning.specs.Types.{TypeSetting, type_at}

-- a value of a type, or NULL
abbrev pub is_of : Value → ExprType → Bool
is_of v Null = is_null v
is_of v (Of k) = fits v k

-- a binding under its column, with a value of the column's type
pub record FitsColumn (b : Binding) (c : ScopeColumn) : Type 0 where
  pub qualifier : b.qualifier ≡ c.qualifier
  pub name : b.name ≡ c.column.name
  pub value : IsTrue (fits b.value.value c.column.kind)

-- as many bindings as columns, each under its own
abbrev pub FitsColumns : List Binding → List ScopeColumn → Type 0
FitsColumns [] [] = ⊤
FitsColumns (b ∷ bs) (c ∷ cs) = FitsColumn b c × FitsColumns bs cs
FitsColumns bs cs = ⊥

-- the rows of a group under its columns, or no group
abbrev pub GroupFits : Option (List (List Binding)) → Option (List ScopeColumn) → Type 0
GroupFits None None = ⊤
GroupFits (Some rows) (Some columns) = (r : List Binding) → Contains rows r → FitsColumns r columns
GroupFits rows columns = ⊥

-- a setting whose row and group are under the columns of the types' setting
pub record FitsSetting (s : MarkedSetting) (t : TypeSetting) : Type 0 where
  pub row : FitsColumns s.row t.columns
  pub group : GroupFits s.group t.group

-- what an expression gives over values that fit is of its static type
abbrev pub KeepsType : Expr → Type 0
KeepsType e =
    (s : MarkedSetting) (types : TypeSetting) (picks : List Pick) (cell : ℕ) → FitsSetting s types →
    (t : ExprType) (v : Value) → type_at types e ≡ Ok t → (marked_at s picks cell e).answer ≡ Ok v → IsTrue (is_of v t)
