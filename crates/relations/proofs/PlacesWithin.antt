-- The place of a column that a name stands for is one of the columns' places.
use Rattle.std.proofs.Common.{◌≡◌, ℕ, ◌+◌, ◌<◌, ◌≤◌, Bool, true, false, Option, Some, None, Ok, List, [], ◌∷◌, length, refl, subst, ap, ◌∙◌, arith}
use Rattle.std.specs.Prelude.{filter}
use Rattle.cell_errors.specs.Answers.{and_then}
use Rattle.expr_meaning.specs.declared.bindings.ScopeColumn.{ScopeColumn}
use Rattle.expr_meaning.specs.Names.{Name, is_match, at_most_one, matching, or_no_column, or_any, meant}
use Rattle.relations.specs.declared.places.ColumnAt.{ColumnAt}
use Rattle.relations.specs.Places.{placed_from, find_placed, place_of}
use Rattle.relations.proofs.Gathered.{fine, the_same, then_ok, Each}

-- what holds of each holds of the one that a name stands for
module _ {X : Type 0} (q : X → Option Name) (n : X → Name) (P : X → Type 0) where
  each_filtered : (f : X → Bool) (xs : List X) → Each P xs → Each P (filter f xs)
  each_filtered f [] e = tt
  each_filtered f (x ∷ xs) e = by (f x) refl (each_filtered f xs e.1)
    where
      by : (t : Bool) → f x ≡ t → Each P (filter f xs) → Each P (filter f (x ∷ xs))
      by true is rest = rw is (e.0, rest)
      by false is rest = rw is rest

  one_has : (xs : List X) (x : X) → Each P xs → at_most_one xs ≡ Ok (Some x) → P x
  one_has [] x e k = cc
  one_has (y ∷ []) x e k = let same : y ≡ x = cc in subst P same e.0
  one_has (y ∷ z ∷ xs) x e k = cc

  found_has : (free : Bool) (p : Option Name) (name : Name) (xs : List X) (o : Option X) (x : X) → Each P xs → matching q n free p name xs ≡ Ok o → o ≡ Some x → P x
  found_has free p name xs o x e k is =
      one_has (filter (λ y. is_match free p name (q y) (n y)) xs) x (each_filtered (λ y. is_match free p name (q y) (n y)) xs e) (k ∙ ap fine is)

  written_has : (p : Option Name) (name : Name) (xs : List X) (x : X) → Each P xs → and_then (matching q n false p name xs) (or_no_column q n) ≡ Ok x → P x
  written_has p name xs x e k =
      let h = then_ok (matching q n false p name xs) (or_no_column q n) x k in
      found_has false p name xs h.0 x e h.1 (there h.0 h.2)
    where
      there : (o : Option X) → or_no_column q n o ≡ Ok x → o ≡ Some x
      there None e = cc
      there (Some y) e = let same : y ≡ x = cc in ap Some same

  meant_has : (p : Option Name) (name : Name) (xs : List X) (x : X) → Each P xs → meant q n p name xs ≡ Ok x → P x
  meant_has None name xs x e k =
      let h = then_ok (matching q n true None name xs) (or_any q n name xs) x k in
      by h.0 h.1 h.2
    where
      by : (o : Option X) → matching q n true None name xs ≡ Ok o → or_any q n name xs o ≡ Ok x → P x
      by None is rest = written_has None name xs x e rest
      by (Some y) is rest = let same : y ≡ x = cc in found_has true None name xs (Some y) x e is (ap Some same)
  meant_has (Some r) name xs x e k = written_has (Some r) name xs x e k

-- a place is below these many
abbrev IsBelow : ℕ → ColumnAt → Type 0
IsBelow n at = at.place < n

placed_below : (n : ℕ) (cs : List ScopeColumn) (end : ℕ) → n + length cs ≤ end → Each (IsBelow end) (placed_from n cs)
placed_below n [] end h = tt
placed_below n (c ∷ cs) end h = (omega (arith, h), placed_below (n + 1) cs end (omega (arith, h)))

pub found_within : (columns : List ScopeColumn) (q : Option Name) (name : Name) (at : ColumnAt) → find_placed columns q name ≡ Ok at → at.place < length columns
found_within columns q name at e =
    meant_has (λ p. p.column.qualifier) (λ p. p.column.column.name) (IsBelow (length columns)) q name (placed_from 0 columns) at (placed_below 0 columns (length columns) (omega arith)) e

pub place_within : (columns : List ScopeColumn) (q : Option Name) (name : Name) (place : ℕ) → place_of columns q name ≡ Ok place → place < length columns
place_within columns q name place e =
    let h = then_ok (find_placed columns q name) (λ at. fine at.place) place e in
    subst (λ p. p < length columns) (the_same h.0.place place h.2) (found_within columns q name h.0 h.1)
