-- The places of key columns are those of columns.
use Rattle.std.proofs.Common.{◌≡◌, ℕ, ◌+◌, ◌<◌, true, Option, Ok, List, [], ◌∷◌, length, refl, sym, ap, subst, arith}
use Rattle.std.specs.Prelude.{nat_le}
use Rattle.std.proofs.lemmas.Bool.Decides.{nat_tests}
use Rattle.cell_errors.specs.Answers.{and_then}
use Rattle.expr_meaning.specs.declared.bindings.ScopeColumn.{ScopeColumn}
use Rattle.expr_meaning.specs.Names.{Name}
use Rattle.relations.specs.Places.{place_of}
use Rattle.relations.proofs.Gathered.{fine, the_same, then_ok}
use Rattle.relations.proofs.PlacesWithin.{place_within}
use Rattle.rel_group.specs.Keys.{is_place, are_places}
use Rattle.sql_parse.specs.declared.columns.ColumnName.{ColumnName}
use Rattle.sql_plan.specs.Places.{named_place}
use Rattle.sql_plan.specs.Groups.{key_place, key_places}

place_is : (columns : List ScopeColumn) (q : Option Name) (name : Name) (p : ℕ) → named_place columns q name ≡ Ok p → is_place columns p ≡ true
place_is columns q name p e =
    let h = then_ok (place_of columns q name) (λ place. fine (place + 1)) p e in
    subst (λ z. is_place columns z ≡ true) (the_same (h.0 + 1) p h.2) (tested h.0 (place_within columns q name h.0 h.1))
  where
    tested : (place : ℕ) → place < length columns → is_place columns (place + 1) ≡ true
    tested place below =
        let first : nat_le 1 (place + 1) ≡ true = grind (arith, nat_tests) in
        let last : nat_le (place + 1) (length columns) ≡ true = grind (arith, nat_tests) in
        rw (first, last) refl

-- the keys of a core are places of its columns
pub keys_are_places : (columns : List ScopeColumn) (keys : List ColumnName) (places : List ℕ) → key_places columns keys ≡ Ok places → are_places columns places ≡ true
keys_are_places columns [] places e = ap (are_places columns) (sym (the_same [] places e))
keys_are_places columns (k ∷ ks) places e =
    let p = then_ok (key_place columns k) (λ y. and_then (key_places columns ks) (λ ys. fine (y ∷ ys))) places e in
    let q = then_ok (key_places columns ks) (λ ys. fine (p.0 ∷ ys)) places p.2 in
    subst (λ z. are_places columns z ≡ true) (the_same (p.0 ∷ q.0) places q.2) (rw (place_is columns k.qualifier k.name p.0 p.1) (keys_are_places columns ks q.0 q.1))
