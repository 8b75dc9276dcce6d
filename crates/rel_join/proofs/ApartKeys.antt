-- Columns that are tested to be apart are.
use Rattle.std.proofs.Common.{◌≡◌, Bool, true, false, not, ◌&&◌, ◌||◌, Option, Some, None, List, [], ◌∷◌, refl, subst, ap, ◌∙◌, sym, inl, inr}
use Rattle.std.proofs.Math.Bool.{or-true}
use Rattle.std.specs.List.{list_any, Contains}
use Rattle.std.specs.Str.{bytes_eq}
use Rattle.std.specs.Cmp.Lexicographic.{bytes_decides}
use Rattle.dataset_types.proofs.TableLemmas.{empty_contains, Contains-cases}
use Rattle.expr_meaning.specs.declared.bindings.ScopeColumn.{ScopeColumn}
use Rattle.expr_meaning.specs.Names.{Name}
use Rattle.relations.specs.Rels.{column_key, column_keys}
use Rattle.rel_join.specs.Rules.{AreApart, same_qualifier, same_key, are_apart}

itself : (q : Option Name) → same_qualifier q q ≡ true
itself None = refl
itself (Some a) = (bytes_decides a a).1 refl

same : (c d : ScopeColumn) → column_key d ≡ column_key c → same_key c d ≡ true
same c d e =
    let q : same_qualifier c.qualifier d.qualifier ≡ true = ap (same_qualifier c.qualifier) (ap (λ (k : Option Name × Name). k.0) e) ∙ itself c.qualifier in
    let n : bytes_eq c.column.name d.column.name ≡ true = ap (bytes_eq c.column.name) (ap (λ (k : Option Name × Name). k.1) e) ∙ (bytes_decides c.column.name c.column.name).1 refl in
    rw (q, n) refl

-- a column whose key stands there is found
found : (c : ScopeColumn) (right : List ScopeColumn) → Contains (column_keys right) (column_key c) → list_any (same_key c) right ≡ true
found c [] h = absurd (empty_contains (column_key c) h)
found c (d ∷ right) h = elim (Contains-cases (column_key d) (column_keys right) (column_key c) h) [
  | inl e ↦ ap (λ b. b || list_any (same_key c) right) (same c d e)
  | inr there ↦ ap (λ b. same_key c d || b) (found c right there) ∙ or-true (same_key c d)
]

parts : (a b : Bool) → a && b ≡ true → (a ≡ true) × (b ≡ true)
parts true b e = (refl, e)
parts false b e = cc

on_one_side : (left right : List ScopeColumn) → are_apart left right ≡ true → (key : Option Name × Name) → Contains (column_keys left) key → Contains (column_keys right) key → ⊥
on_one_side [] right e key h k = empty_contains key h
on_one_side (c ∷ left) right e key h k =
    let p = parts (not (list_any (same_key c) right)) (are_apart left right) e in
    elim (Contains-cases (column_key c) (column_keys left) key h) [
      | inl here ↦ wrong (list_any (same_key c) right) p.0 (found c right (subst (λ z. Contains (column_keys right) z) (sym here) k))
      | inr there ↦ on_one_side left right p.1 key there k
    ]
  where
    wrong : (b : Bool) → not b ≡ true → b ≡ true → ⊥
    wrong true e k = cc
    wrong false e k = cc

pub apart_is : (left right : List ScopeColumn) → are_apart left right ≡ true → AreApart left right
apart_is left right e = record { on_one = on_one_side left right e }
