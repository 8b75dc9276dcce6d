-- The cells of a version by its number, and parts of their lists.
use Rattle.std.proofs.Common.{◌≡◌, ◌<◌, ◌≤◌, ◌+◌, ◌-◌, ℕ, zero, suc, List, [], ◌∷◌, ◌++◌, length, take, drop, refl, ap, sym, ◌∙◌, subst, arith}
use Rattle.std.proofs.lemmas.List.{length_push, take-map, drop-map, take_rest}
use Rattle.std.specs.Prelude.{Some, option_map, unwrap_or}
use Rattle.cell_model.specs.declared.cell.Cell.{Cell}
use Rattle.version_tree.specs.Versions.{version_of, cells_at}
use Rattle.version_tree.specs.Limits.{ids_of}
use Rattle.version_tree.specs.Kept.{AllSmall, Shares, InPlace}
use Rattle.version_tree.specs.declared.version.Version.{Version}
use Rattle.version_tree.specs.declared.place.Place.{Place}

small_get : (vs : List Version) (i : ℕ) → AllSmall vs → length (cells_at vs (suc i)) ≤ 48
small_get [] i a = omega arith
small_get (v ∷ vs) zero a = a.0
small_get (v ∷ vs) (suc i) a = small_get vs i a.1

-- no version has more cells than are allowed
pub small_at : (vs : List Version) (n : ℕ) → AllSmall vs → length (cells_at vs n) ≤ 48
small_at vs zero a = omega arith
small_at vs (suc i) a = small_get vs i a

-- the version with a number has no more cells than are allowed
pub small_of : (vs : List Version) (n : ℕ) (v : Version) → Some v ≡ version_of vs n → AllSmall vs → length v.cells ≤ 48
small_of vs n v is a =
    let e : v.cells ≡ cells_at vs n = ap (λ o. unwrap_or (option_map (λ (w : Version). w.cells) o) []) is in
    omega (arith, ap (λ (l : List Cell). length l) e, small_at vs n a)

-- the ids of a front are a front of the ids
pub ids_front : (cells : List Cell) (n : ℕ) → ids_of (take n cells) ≡ take n (ids_of cells)
ids_front cells n = sym (take-map (λ (c : Cell). c.id) n cells)

-- the ids of what comes after a front
pub ids_after : (cells : List Cell) (n : ℕ) → ids_of (take (length cells - n) (drop n cells)) ≡ drop n (ids_of cells)
ids_after cells n = ap ids_of (take_rest cells n) ∙ sym (drop-map (λ (c : Cell). c.id) n cells)

-- ---- a version more

at_in : (vs : List Version) (v : Version) (i : ℕ) → i < length vs → cells_at (vs ++ v ∷ []) (suc i) ≡ cells_at vs (suc i)
at_in [] v i h = absurd (omega (arith, h))
at_in (x ∷ vs) v zero h = refl
at_in (x ∷ vs) v (suc i) h = at_in vs v i (omega (arith, h))

at_last : (vs : List Version) (v : Version) → cells_at (vs ++ v ∷ []) (suc (length vs)) ≡ v.cells
at_last [] v = refl
at_last (x ∷ vs) v = at_last vs v

-- the cells of the earlier versions stay
pub cells_before : (vs : List Version) (v : Version) (n : ℕ) → n ≤ length vs → cells_at (vs ++ v ∷ []) n ≡ cells_at vs n
cells_before vs v zero h = refl
cells_before vs v (suc i) h = at_in vs v i (omega (arith, h))

-- the cells of the new version
pub cells_last : (vs : List Version) (v : Version) → cells_at (vs ++ v ∷ []) (length (vs ++ v ∷ [])) ≡ v.cells
cells_last vs v = ap (cells_at (vs ++ v ∷ [])) (length_push vs v ∙ (let e : length vs + 1 ≡ suc (length vs) = omega arith in e)) ∙ at_last vs v

-- ---- what is shared

-- the last version shares the front of its place with the place's base
pub shares_push : (vs new : List Version) (v : Version) (place : Place) → new ≡ vs ++ v ∷ [] → InPlace vs place
    → take place.front (cells_at vs place.base) ≡ take place.front v.cells → place.front ≤ length v.cells → Shares new place.base place.front
shares_push vs new v place is inside same le =
    let before = cells_before vs v place.base inside.base in
    let last = cells_last vs v in
    subst (λ l. Shares l place.base place.front) (sym is) (record {
      earlier = omega (arith, inside.base, length_push vs v);
      most = omega (arith, inside.front, ap (λ (l : List Cell). length l) before);
      fits = omega (arith, le, ap (λ (l : List Cell). length l) last);
      same = ap (take place.front) before ∙ same ∙ ap (take place.front) (sym last);
    })
