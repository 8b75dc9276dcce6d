-- The law of types, and values that fit columns.
use Rattle.std.proofs.Common.{◌≡◌, Option, Some, None, List, [], ◌∷◌, length, refl, subst, sym, inl, inr, arith}
use Rattle.std.specs.Prelude.{IsTrue}
use Rattle.std.proofs.lemmas.Bool.{and_parts}
use Rattle.value_types.specs.declared.value.ColumnType.{ColumnType}
use Rattle.value_types.specs.declared.value.ColumnType.TheVariants as kind
use Rattle.value_types.specs.declared.value.Value.{Value}
use Rattle.value_types.specs.declared.value.Value.TheVariants.{Null, Bool as Truth, Int, Fixed, Text}
use Rattle.dataset_types.specs.declared.row.Marked.{Marked}
use Rattle.dataset_types.specs.Tables.{fits, values_fit}
use Rattle.expr_lang.specs.declared.expr.Expr.{Expr}
use Rattle.expr_meaning.specs.declared.bindings.Binding.{Binding}
use Rattle.expr_meaning.specs.declared.bindings.ScopeColumn.{ScopeColumn}
use Rattle.expr_meaning.specs.declared.expr_type.ExprType.{ExprType}
use Rattle.expr_meaning.specs.declared.expr_type.ExprType.TheVariants.{Null as Unknown, Of}
use Rattle.expr_meaning.specs.Settings.{at_row}
use Rattle.expr_meaning.specs.Types.{type_of_value, over_columns}
use Rattle.relations.specs.Rels.{bare_columns}
use Rattle.relations.specs.Bound.{bindings}
use Rattle.relations.specs.Typed.{is_of, FitsColumns, GroupFits, FitsSetting, KeepsType}
use Rattle.relations.proofs.TypedOps.{Is}
use Rattle.relations.proofs.TypedParts.{EachIsBound}
use Rattle.relations.proofs.Typed.{GroupIsBound, value_is}

-- ---- values

fits_is : (v : Value) (k : ColumnType) → IsTrue (fits v k) → Is v (Of k)
fits_is Null k e = inl refl
fits_is (Truth x) kind.Bool e = inr refl
fits_is (Truth x) kind.Int e = cc
fits_is (Truth x) kind.Fixed e = cc
fits_is (Truth x) kind.Text e = cc
fits_is (Int x) kind.Bool e = cc
fits_is (Int x) kind.Int e = inr refl
fits_is (Int x) kind.Fixed e = cc
fits_is (Int x) kind.Text e = cc
fits_is (Fixed x) kind.Bool e = cc
fits_is (Fixed x) kind.Int e = cc
fits_is (Fixed x) kind.Fixed e = inr refl
fits_is (Fixed x) kind.Text e = cc
fits_is (Text x) kind.Bool e = cc
fits_is (Text x) kind.Int e = cc
fits_is (Text x) kind.Fixed e = cc
fits_is (Text x) kind.Text e = inr refl

null_of : (t : ExprType) → IsTrue (is_of Null t)
null_of Unknown = refl
null_of (Of k) = refl

exactly_of : (v : Value) → IsTrue (is_of v (type_of_value v))
exactly_of Null = refl
exactly_of (Truth b) = refl
exactly_of (Int n) = refl
exactly_of (Fixed n) = refl
exactly_of (Text t) = refl

is_so : (v : Value) (t : ExprType) → Is v t → IsTrue (is_of v t)
is_so v t i = elim i [
  | inl e ↦ subst (λ z. IsTrue (is_of z t)) (sym e) (null_of t)
  | inr e ↦ subst (λ z. IsTrue (is_of v z)) e (exactly_of v)
]

-- ---- bindings

are_bound : (bs : List Binding) (cs : List ScopeColumn) → FitsColumns bs cs → EachIsBound bs cs
are_bound [] [] f = tt
are_bound [] (c ∷ cs) f = absurd f
are_bound (b ∷ bs) [] f = absurd f
are_bound (b ∷ bs) (c ∷ cs) f = ((f.0.qualifier, f.0.name, fits_is b.value.value c.column.kind f.0.value), are_bound bs cs f.1)

group_bound : (g : Option (List (List Binding))) (h : Option (List ScopeColumn)) → GroupFits g h → GroupIsBound g h
group_bound None None f = tt
group_bound (Some rows) (Some columns) f = λ r c. are_bound r columns (f r c)
group_bound None (Some columns) f = absurd f
group_bound (Some rows) None f = absurd f

pub keeps_type : (e : Expr) → KeepsType e
keeps_type e s types picks cell f t v is gives =
    is_so v t (value_is picks cell e s types (record { row = are_bound s.row types.columns f.row; group = group_bound s.group types.group f.group }) t v is gives)

-- ---- rows

-- the bindings of a row that fits its columns fit them
pub row_is_bound : (cs : List ScopeColumn) (ms : List Marked) → length ms ≡ length (bare_columns cs) → IsTrue (values_fit (bare_columns cs) ms) → FitsColumns (bindings cs ms) cs
row_is_bound [] [] n e = tt
row_is_bound [] (m ∷ ms) n e = absurd (omega (arith, n))
row_is_bound (c ∷ cs) [] n e = absurd (omega (arith, n))
row_is_bound (c ∷ cs) (m ∷ ms) n e =
    let p = and_parts (fits m.value c.column.kind) (values_fit (bare_columns cs) ms) e in
    (record { qualifier = refl; name = refl; value = p.0 }, row_is_bound cs ms (omega (arith, n)) p.1)

-- over a row alone
pub alone : (row : List Binding) (columns : List ScopeColumn) → FitsColumns row columns → FitsSetting (at_row row) (over_columns columns)
alone row columns f = record { row = f; group = tt }
