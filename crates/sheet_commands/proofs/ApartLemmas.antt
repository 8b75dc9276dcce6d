-- Tested two by two, exactly the distinct names pass.
use Rattle.std.proofs.Common.{ℕ, List, [], ◌∷◌, refl}
use Rattle.std.specs.Bool.{Decides}
use Rattle.std.specs.List.{Contains, list_any}
use Rattle.std.specs.Str.{bytes_eq}
use Rattle.std.proofs.lemmas.Bool.Decides.{Decides-and, Decides-not}
use Rattle.std.proofs.lemmas.Cmp.{nat_list_eq_equiv}
use Rattle.std.proofs.lemmas.Map.Views.{list_any-from_Contains, Contains-from_any}
use Rattle.std.proofs.lemmas.Slice.Eq.{bytes_eq-Decides}
use Rattle.dataset_types.specs.Tables.{Distinct}
use Rattle.sheet_commands.specs.Apart.{are_apart}

among_decides : (name : List ℕ) (names : List (List ℕ)) → Decides (list_any (bytes_eq name) names) (Contains names name)
among_decides name names = (
  λ e. Contains-from_any {eq = bytes_eq} (λ x y. (bytes_eq-Decides x y).0) name names e,
  λ there. list_any-from_Contains nat_list_eq_equiv name names there,
)

pub apart_decides : (names : List (List ℕ)) → Decides (are_apart names) (Distinct names)
apart_decides [] = (λ e. tt, λ d. refl)
apart_decides (name ∷ names) = Decides-and _ _ (Decides-not _ (among_decides name names)) (apart_decides names)
