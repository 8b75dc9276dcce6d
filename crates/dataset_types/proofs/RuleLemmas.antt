-- Names of columns that are tested two by two.
use Rattle.std.proofs.Common.{◌≡◌, List, [], ◌∷◌, ℕ, Bool, refl, ap, subst}
use Rattle.std.specs.Prelude.{◌||◌}
use Rattle.std.specs.Bool.{Decides}
use Rattle.std.specs.List.{Contains, list_any}
use Rattle.std.specs.Str.{bytes_eq}
use Rattle.std.proofs.lemmas.Bool.Decides.{Decides-and, Decides-not}
use Rattle.std.proofs.lemmas.Cmp.{nat_list_eq_equiv}
use Rattle.std.proofs.lemmas.Map.Views.{list_any-from_Contains, Contains-from_any}
use Rattle.std.proofs.lemmas.Slice.Eq.{bytes_eq-Decides}
use Rattle.dataset_types.specs.declared.column.Column.{Column}
use Rattle.dataset_types.specs.Tables.{Distinct, column_names, is_named, names_apart}

is_named-names : (name : List ℕ) (columns : List Column) → list_any (bytes_eq name) (column_names columns) ≡ is_named name columns
is_named-names name [] = refl
is_named-names name (c ∷ cs) = ap (λ (b : Bool). bytes_eq name c.name || b) (is_named-names name cs)

named_decides : (name : List ℕ) (columns : List Column) → Decides (is_named name columns) (Contains (column_names columns) name)
named_decides name columns =
    subst (λ (b : Bool). Decides b (Contains (column_names columns) name)) (is_named-names name columns) (
      λ e. Contains-from_any {eq = bytes_eq} (λ x y. (bytes_eq-Decides x y).0) name (column_names columns) e,
      λ held. list_any-from_Contains nat_list_eq_equiv name (column_names columns) held,
    )

-- tested so, exactly the distinct names pass
pub names_decide : (columns : List Column) → Decides (names_apart columns) (Distinct (column_names columns))
names_decide [] = (λ e. tt, λ d. refl)
names_decide (c ∷ cs) = Decides-and _ _ (Decides-not _ (named_decides c.name cs)) (names_decide cs)
