-- Names that are tested two by two.
use Rattle.std.proofs.Common.{◌≡◌, List, [], ◌∷◌, Bool, true, false, Ok, Err, refl}
use Rattle.std.specs.Prelude.{if◌then◌else◌}
use Rattle.std.specs.Bool.{Decides}
use Rattle.std.specs.List.{Contains}
use Rattle.std.specs.Str.{bytes_eq}
use Rattle.std.proofs.lemmas.Bool.Decides.{Decides-and, Decides-not}
use Rattle.std.proofs.lemmas.Cmp.{nat_list_eq_equiv}
use Rattle.std.proofs.lemmas.Map.Views.{list_any-from_Contains, Contains-from_any}
use Rattle.std.proofs.lemmas.Slice.Eq.{bytes_eq-Decides}
use Rattle.cell_errors.specs.declared.fault.CellError.TheVariants as error
use Rattle.dataset_types.specs.Tables.{Distinct}
use Rattle.expr_meaning.specs.Names.{Name}
use Rattle.sql_plan.specs.Names.{stands_in, are_distinct, each_once}

standing : (name : Name) (names : List Name) → Decides (stands_in name names) (Contains names name)
standing name names = (
  λ e. Contains-from_any {eq = bytes_eq} (λ x y. (bytes_eq-Decides x y).0) name names e,
  λ held. list_any-from_Contains nat_list_eq_equiv name names held,
)

-- tested so, exactly the distinct names pass
pub distinct_decide : (names : List Name) → Decides (are_distinct names) (Distinct names)
distinct_decide [] = (λ e. tt, λ d. refl)
distinct_decide (n ∷ ns) = Decides-and _ _ (Decides-not _ (standing n ns)) (distinct_decide ns)

-- names that stand once are distinct
pub once_distinct : (names : List Name) (u : Unit {0}) → each_once names ≡ Ok u → Distinct names
once_distinct names u e = (distinct_decide names).0 (passed (are_distinct names) e)
  where
    passed : (b : Bool) → (if b then Ok tt else Err error.NameTaken) ≡ Ok u → b ≡ true
    passed true k = refl
    passed false k = cc
