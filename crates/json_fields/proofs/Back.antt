-- Written values, columns and types are read back.
use Rattle.std.proofs.Common.{◌≡◌, ℕ, ℤ, codes, ◌≤◌, List, [], ◌∷◌, map, Bool, true, false, Option, Some, None, refl, ap, sym, subst, ◌∙◌, option_map, arith, FitsSigned}
use Rattle.std.specs.Int.{w64}
use Rattle.std.specs.Prelude.{if◌then◌else◌}
use Rattle.std.specs.Str.{bytes_eq}
use Rattle.std.proofs.lemmas.Slice.Eq.{bytes_eq-Decides}
use Rattle.serde_json.specs.Data.{Data, items_depth, string, array, object, member, no_members}
use Rattle.value_types.specs.Numbers.{fixed_of}
use Rattle.value_types.specs.Text.{fixed_text}
use Rattle.value_types.specs.declared.value.ColumnType.{ColumnType}
use Rattle.value_types.specs.declared.value.Value.TheVariants as value
use Rattle.std.specs.List.{AllZip}
use Rattle.serde_json.specs.View.{view, items_view}
use Rattle.serde_json.specs.declared.value.Value.{Value as Json}
use Rattle.dataset_types.specs.declared.column.Column.{Column}
use Rattle.dataset_types.specs.declared.row.Marked.{Marked}
use Rattle.dataset_types.specs.declared.row.Row.{Row}
use Rattle.json_fields.specs.Json.{all_of}
use Rattle.json_fields.specs.LoadOptions.{declared_named, declared_in}
use Rattle.json_fields.specs.Columns.{type_named, column_in}
use Rattle.json_fields.specs.Values.{value_of}
use Rattle.json_fields.specs.Written.{IsJsonOf, bare_values, values_in}
use Rattle.json_fields.proofs.Each.{each_back}
use Rattle.json_fields.proofs.FixedTexts.{fixed_of-fixed_text}

-- an object of a Fixed's text is the Fixed
pub fixed_back : (n : ℤ) (text : List ℕ) (d : Data) → FitsSigned w64 n → text ≡ fixed_text n → d ≡ object (member (codes "fixed") (string text) no_members) → IsJsonOf value_of 1 (value.Fixed n) d
fixed_back n text d fits is made =
    let read : fixed_of text ≡ Some n = ap fixed_of is ∙ fixed_of-fixed_text n fits in
    subst (IsJsonOf value_of 1 (value.Fixed n)) (sym made) (record { read = ap (option_map value.Fixed) read; depth = omega arith })

-- an array of values is read as these
pub row_back : (row : Row) (seen : List Marked) (vs : List Json) → seen ≡ row.values
    → AllZip (λ (m : Marked) v. IsJsonOf value_of 1 m.value (view v)) seen vs → IsJsonOf bare_values 2 (values_in row) (array (items_view vs))
row_back row seen vs same all =
    let each = each_back value_of 1 (λ (m : Marked). m.value) row.values seen vs same all in
    record { read = each.0; depth = omega (arith, each.1) }

pub as_they_are : {A : Type 0} (xs : List A) → map (λ x. x) xs ≡ xs
as_they_are [] = refl
as_they_are (x ∷ xs) = ap (λ l. x ∷ l) (as_they_are xs)

-- columns are read as they are
pub columns_back : (columns seen : List Column) (vs : List Json) → seen ≡ columns → AllZip (λ c v. IsJsonOf column_in 1 c (view v)) seen vs
    → (all_of column_in (items_view vs) ≡ Some columns) × (items_depth (items_view vs) ≤ 1)
columns_back columns seen vs same all =
    let each = each_back column_in 1 (λ (c : Column). c) columns seen vs same all in
    (each.0 ∙ ap Some (as_they_are columns), each.1)

-- rows are read as their values
pub rows_back : (rows seen : List Row) (vs : List Json) → seen ≡ rows → AllZip (λ r v. IsJsonOf bare_values 2 (values_in r) (view v)) seen vs
    → (all_of bare_values (items_view vs) ≡ Some (map values_in rows)) × (items_depth (items_view vs) ≤ 2)
rows_back rows seen vs same all = each_back bare_values 2 values_in rows seen vs same all

-- the name of a type is not that of a guess
pub declared_type : (word : List ℕ) (k : ColumnType) → type_named word ≡ Some k → declared_named word ≡ Some (Some k)
declared_type word k named = by (bytes_eq word (codes "guess")) refl
  where
    by : (b : Bool) → bytes_eq word (codes "guess") ≡ b → (if b then Some None else option_map Some (type_named word)) ≡ Some (Some k)
    by true is =
        let guess : word ≡ codes "guess" = (bytes_eq-Decides word (codes "guess")).0 is in
        let none : type_named (codes "guess") ≡ Some k = sym (ap type_named guess) ∙ named in
        absurd (cc)
    by false is = ap (option_map Some) named

-- declared types are read as they are
pub types_back : (types seen : List (Option ColumnType)) (vs : List Json) → seen ≡ types → AllZip (λ t v. IsJsonOf declared_in 0 t (view v)) seen vs
    → (all_of declared_in (items_view vs) ≡ Some types) × (items_depth (items_view vs) ≤ 0)
types_back types seen vs same all =
    let each = each_back declared_in 0 (λ (t : Option ColumnType). t) types seen vs same all in
    (each.0 ∙ ap Some (as_they_are types), each.1)
