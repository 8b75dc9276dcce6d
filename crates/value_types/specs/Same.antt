-- Two values, and two column types, are the same exactly where they are equal.
use Rattle.std.specs.Prelude.{◌≡◌, true, false, List}
use Rattle.std.proofs.Common.{refl, ap, subst}
use Rattle.std.specs.Bool.{Decides}
use Rattle.std.specs.Cmp.{IsEquivalence, decided, booleans_Decides, signed_Decides}
use Rattle.std.specs.Cmp.Lexicographic.{bytes_decides, pointwise_decides}
use Rattle.value_types.specs.declared.value.ColumnType.{ColumnType}
use Rattle.value_types.specs.declared.value.Value.{Value}
use Rattle.value_types.specs.declared.value.Value.TheVariants.{Null, Bool as Truth, Int, Fixed, Text}
use Rattle.value_types.specs.Order.{same_value, same_type, same_key}

same_itself : (a : Value) → same_value a a ≡ true
same_itself Null = refl
same_itself (Truth a) = (booleans_Decides a a).1 refl
same_itself (Int a) = (signed_Decides a a).1 refl
same_itself (Fixed a) = (signed_Decides a a).1 refl
same_itself (Text a) = (bytes_decides a a).1 refl

pub not_so : {A : Type 0} → false ≡ true → A
not_so e = absurd (subst (λ b. elim b as (λ _. Type 0) [ true ↦ ⊥ | false ↦ Unit {0} ]) e tt)

same_is : (a b : Value) → same_value a b ≡ true → a ≡ b
same_is Null Null e = refl
same_is (Truth a) (Truth b) e = ap (λ x. Truth x) ((booleans_Decides a b).0 e)
same_is (Int a) (Int b) e = ap (λ x. Int x) ((signed_Decides a b).0 e)
same_is (Fixed a) (Fixed b) e = ap (λ x. Fixed x) ((signed_Decides a b).0 e)
same_is (Text a) (Text b) e = ap (λ x. Text x) ((bytes_decides a b).0 e)
same_is a b e = not_so e

pub value_decides : (a b : Value) → Decides (same_value a b) (a ≡ b)
value_decides a b = (same_is a b, λ e. subst (λ v. same_value a v ≡ true) e (same_itself a))

pub same_equiv : IsEquivalence same_value
same_equiv = decided same_value value_decides

pub key_decides : (a b : List Value) → Decides (same_key a b) (a ≡ b)
key_decides = pointwise_decides value_decides

type_itself : (a : ColumnType) → same_type a a ≡ true
type_itself ColumnType.Bool = refl
type_itself ColumnType.Int = refl
type_itself ColumnType.Fixed = refl
type_itself ColumnType.Text = refl

type_is : (a b : ColumnType) → same_type a b ≡ true → a ≡ b
type_is ColumnType.Bool ColumnType.Bool e = refl
type_is ColumnType.Int ColumnType.Int e = refl
type_is ColumnType.Fixed ColumnType.Fixed e = refl
type_is ColumnType.Text ColumnType.Text e = refl
type_is a b e = not_so e

pub type_decides : (a b : ColumnType) → Decides (same_type a b) (a ≡ b)
type_decides a b = (type_is a b, λ e. subst (λ t. same_type a t ≡ true) e (type_itself a))

pub type_equiv : IsEquivalence same_type
type_equiv = decided same_type type_decides
