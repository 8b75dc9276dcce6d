-- Lists of names and of columns to sort by, in commands that have a line.
use Rattle.std.proofs.Common.{◌≡◌, ℕ, ◌≤◌, List, length, Bool, true, false, Option, Some, None, IfSome, refl, sym, ◌∙◌, ap}
use Rattle.std.specs.Prelude.{◌↔◌, IsSome, if◌then◌else◌}
use Rattle.std.specs.List.{AllZip}
use Rattle.std.proofs.lemmas.Bool.{le-leb}
use Rattle.serde_json.specs.Data.{items_depth}
use Rattle.serde_json.specs.View.{view, items_view}
use Rattle.serde_json.specs.declared.value.Value.{Value as Json}
use Rattle.dataset_types.specs.Tables.{Distinct}
use Rattle.sheet_commands.specs.Apart.{are_apart}
use Rattle.sheet_commands.specs.declared.sort_names.SortName.{SortName}
use Rattle.sheet_commands.proofs.ApartLemmas.{apart_decides}
use Rattle.json_fields.specs.Json.{all_of}
use Rattle.json_fields.specs.Values.{name_in}
use Rattle.json_fields.specs.Lists.{distinct_names, are_kept}
use Rattle.json_fields.specs.Lists.{sort_name_in, are_sorted_by}
use Rattle.json_fields.specs.Written.{IsJsonOf}
use Rattle.json_fields.proofs.Back.{as_they_are}
use Rattle.json_fields.proofs.Each.{each_back}

-- a test of names that answers them exactly where they are distinct
pub distinct_are : (r : Option (List (List ℕ))) (names : List (List ℕ)) → (IsSome r ↔ Distinct names) → IfSome r (λ ns. ns ≡ names) → r ≡ distinct_names names
distinct_are r names found value = by r (are_apart names) refl found value
  where
    by : (r : Option (List (List ℕ))) (b : Bool) → are_apart names ≡ b → (IsSome r ↔ Distinct names) → IfSome r (λ ns. ns ≡ names) → r ≡ (if b then Some names else None)
    by (Some ns) true e found value = ap Some value
    by (Some ns) false e found value = let wrong : false ≡ true = sym e ∙ (apart_decides names).1 (found.0 refl) in cc
    by None true e found value = let wrong : false ≡ true = found.1 ((apart_decides names).0 e) in cc
    by None false e found value = refl

-- 1 to 32 distinct names pass
pub kept_whole : (names : List (List ℕ)) → (1 ≤ length names) × (length names ≤ 32) → Distinct names → are_kept names ≡ Some names
kept_whole names sized apart = rw (le-leb 1 (length names) sized.0, le-leb (length names) 32 sized.1, (apart_decides names).1 apart) refl

-- so do 1 to 32 columns to sort by
pub sorted_whole : (by : List SortName) → (1 ≤ length by) × (length by ≤ 32) → are_sorted_by by ≡ Some by
sorted_whole by sized = rw (le-leb 1 (length by) sized.0, le-leb (length by) 32 sized.1) refl

-- names are read as they are
pub names_back : (names seen : List (List ℕ)) (vs : List Json) → seen ≡ names → AllZip (λ n v. IsJsonOf name_in 0 n (view v)) seen vs
    → (all_of name_in (items_view vs) ≡ Some names) × (items_depth (items_view vs) ≤ 0)
names_back names seen vs same all =
    let each = each_back name_in 0 (λ (n : List ℕ). n) names seen vs same all in
    (each.0 ∙ ap Some (as_they_are names), each.1)

-- columns to sort by are read as they are
pub by_back : (by seen : List SortName) (vs : List Json) → seen ≡ by → AllZip (λ s v. IsJsonOf sort_name_in 1 s (view v)) seen vs
    → (all_of sort_name_in (items_view vs) ≡ Some by) × (items_depth (items_view vs) ≤ 1)
by_back by seen vs same all =
    let each = each_back sort_name_in 1 (λ (s : SortName). s) by seen vs same all in
    (each.0 ∙ ap Some (as_they_are by), each.1)
