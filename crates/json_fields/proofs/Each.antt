-- Lists of things beside their JSON.
use Rattle.std.proofs.Common.{◌≡◌, ℕ, ◌+◌, ◌<◌, ◌≤◌, List, [], ◌∷◌, ◌++◌, map, length, take, get_or, Option, Some, refl, ap, sym, subst, ◌∙◌, arith}
use Rattle.std.specs.List.{AllZip}
use Rattle.std.proofs.lemmas.List.{take_more}
use Rattle.serde_json.specs.Data.{Data, items_depth}
use Rattle.serde_json.specs.View.{view, items_view}
use Rattle.serde_json.specs.declared.value.Value.{Value as Json}
use Rattle.json_fields.specs.Json.{all_of}
use Rattle.json_fields.specs.Written.{IsJsonOf}

push : {A B : Type 0} (R : A → B → Type 0) (xs : List A) (ys : List B) (x : A) (y : B) → AllZip R xs ys → R x y → AllZip R (xs ++ x ∷ []) (ys ++ y ∷ [])
push R [] [] x y all last = (last, tt)
push R [] (b ∷ ys) x y all last = absurd all
push R (a ∷ xs) [] x y all last = absurd all
push R (a ∷ xs) (b ∷ ys) x y all last = (all.0, push R xs ys x y all.1 last)

-- one thing more
pub one_more : {A B : Type 0} (R : A → B → Type 0) (xs : List A) (i : ℕ) (x : A) (ys more : List B) (y : B)
    → i < length xs → x ≡ get_or xs i x → more ≡ ys ++ y ∷ [] → AllZip R (take i xs) ys → R x y → AllZip R (take (i + 1) xs) more
one_more R xs i x ys more y within is made all last =
    let longer : take (i + 1) xs ≡ take i xs ++ x ∷ [] = take_more xs i x within ∙ ap (λ z. take i xs ++ z ∷ []) (sym is) in
    subst (λ front. AllZip R front more) (sym longer) (subst (AllZip R (take i xs ++ x ∷ [])) (sym made) (push R (take i xs) ys x y all last))

each_read : {A B : Type 0} (reader : Data → Option B) (most : ℕ) (f : A → B) (xs : List A) (vs : List Json)
    → AllZip (λ x v. IsJsonOf reader most (f x) (view v)) xs vs
    → (all_of reader (items_view vs) ≡ Some (map f xs)) × (items_depth (items_view vs) ≤ most)
each_read reader most f [] [] all = (refl, omega arith)
each_read reader most f [] (v ∷ vs) all = absurd all
each_read reader most f (x ∷ xs) [] all = absurd all
each_read reader most f (x ∷ xs) (v ∷ vs) all =
    let rest = each_read reader most f xs vs all.1 in
    (rw (all.0.read, rest.0) refl, omega (arith, all.0.depth, rest.1))

-- each thing of a list is read of its JSON, and none nests deeper than they may
pub each_back : {A B : Type 0} (reader : Data → Option B) (most : ℕ) (f : A → B) (xs seen : List A) (vs : List Json) → seen ≡ xs
    → AllZip (λ x v. IsJsonOf reader most (f x) (view v)) seen vs
    → (all_of reader (items_view vs) ≡ Some (map f xs)) × (items_depth (items_view vs) ≤ most)
each_back reader most f xs seen vs same all =
    let each = each_read reader most f seen vs all in
    (each.0 ∙ ap (λ l. Some (map f l)) same, each.1)
