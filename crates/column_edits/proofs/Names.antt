-- The names of layouts: which stand there, and that none stands twice.
use Rattle.std.proofs.Common.{◌≡◌, ℕ, ◌+◌, Bool, true, false, Ok, List, [], ◌∷◌, map, cond, refl, subst, ap, ◌∙◌, sym, inl, inr, ◌⊎◌}
use Rattle.std.specs.Prelude.{not, if◌then◌else◌}
use Rattle.std.specs.List.{Contains, enumerate_from}
use Rattle.std.proofs.lemmas.Bool.{or_parts}
use Rattle.std.proofs.lemmas.Slice.Eq.{bytes_eq-Decides}
use Rattle.cell_errors.specs.Answers.{and_then, collect}
use Rattle.dataset_types.specs.declared.column.Column.{Column}
use Rattle.dataset_types.specs.Tables.{Distinct, column_names}
use Rattle.dataset_types.proofs.TableLemmas.{empty_contains, Contains-cases, Distinct-filter}
use Rattle.expr_meaning.specs.Names.{Name}
use Rattle.relations.proofs.Gathered.{fine, the_same, then_ok, Each}
use Rattle.column_edits.specs.declared.layout.LaidColumn.{LaidColumn}
use Rattle.column_edits.specs.Layout.{standing, as_they_stand, columns_of}
use Rattle.column_edits.specs.Plans.{has_name, find, is_taken, others, put, under, renamed}
use Rattle.column_edits.specs.Rules.{names_of}
use Rattle.column_edits.proofs.Places.{here, there, map_insert, distinct_insert}

-- ---- the names of layouts and of columns

pub names_are : (layout : List LaidColumn) → column_names (columns_of layout) ≡ names_of layout
names_are [] = refl
names_are (c ∷ cs) = ap (λ z. c.column.name ∷ z) (names_are cs)

standing_names : (n : ℕ) (columns : List Column) → names_of (map standing (enumerate_from n columns)) ≡ column_names columns
standing_names n [] = refl
standing_names n (c ∷ cs) = ap (λ z. c.name ∷ z) (standing_names (n + 1) cs)

pub names_stand : (columns : List Column) → names_of (as_they_stand columns) ≡ column_names columns
names_stand columns = standing_names 0 columns

pub not_both : (b : Bool) → b ≡ true → b ≡ false → ⊥
not_both true e k = cc
not_both false e k = cc

pub name_is : (name : Name) (c : LaidColumn) → has_name name c ≡ true → name ≡ c.column.name
name_is name c e = (bytes_eq-Decides name c.column.name).0 e

pub name_has : (name : Name) (c : LaidColumn) → name ≡ c.column.name → has_name name c ≡ true
name_has name c e = (bytes_eq-Decides name c.column.name).1 e

-- a name that no column has isn't among their names
pub not_taken : (name : Name) (layout : List LaidColumn) → is_taken name layout ≡ false → Contains (names_of layout) name → ⊥
not_taken name [] e c = empty_contains name c
not_taken name (x ∷ xs) e c = elim (Contains-cases x.column.name (names_of xs) name c) [
  | inl is ↦ not_both (has_name name x) (name_has name x (sym is)) (or_parts (has_name name x) (is_taken name xs) e).0
  | inr held ↦ not_taken name xs (or_parts (has_name name x) (is_taken name xs) e).1 held
]

-- ---- the column of a name

module _ (name : Name) where
  -- what holds of the columns that have the name holds of the one that is found
  pub found_is : (P : LaidColumn → Type 0) (layout : List LaidColumn) (c : LaidColumn) → Each P layout → find name layout ≡ Ok c → P c
  found_is P [] c e k = cc
  found_is P (x ∷ xs) c e k = by (has_name name x) k (λ h. found_is P xs c e.1 h)
    where
      by : (b : Bool) → (if b then Ok x else find name xs) ≡ Ok c → (find name xs ≡ Ok c → P c) → P c
      by true h rest = subst P (the_same x c h) e.0
      by false h rest = rest h

  pub found_name : (layout : List LaidColumn) (c : LaidColumn) → find name layout ≡ Ok c → name ≡ c.column.name
  found_name [] c k = cc
  found_name (x ∷ xs) c k = by (has_name name x) refl k (λ h. found_name xs c h)
    where
      by : (b : Bool) → has_name name x ≡ b → (if b then Ok x else find name xs) ≡ Ok c → (find name xs ≡ Ok c → name ≡ c.column.name) → name ≡ c.column.name
      by true e h rest = name_is name x e ∙ ap (λ z. z.column.name) (the_same x c h)
      by false e h rest = rest h

  -- ---- the others

  pub others_distinct : (layout : List LaidColumn) → Distinct (names_of layout) → Distinct (names_of (others name layout))
  others_distinct layout d = Distinct-filter (λ c. c.column.name) (λ c. not (has_name name c)) layout d

  -- the name isn't among the others'
  pub not_other : (layout : List LaidColumn) → Contains (names_of (others name layout)) name → ⊥
  not_other [] c = empty_contains name c
  not_other (x ∷ xs) c = by (has_name name x) refl c (λ h. not_other xs h)
    where
      by : (b : Bool) → has_name name x ≡ b → Contains (names_of (cond (not b) (x ∷ others name xs) (others name xs))) name →
          (Contains (names_of (others name xs)) name → ⊥) → ⊥
      by true e h rest = rest h
      by false e h rest = elim (Contains-cases x.column.name (names_of (others name xs)) name h) [
        | inl is ↦ not_both (has_name name x) (name_has name x (sym is)) e
        | inr held ↦ rest held
      ]

  -- ---- one of them under another name

  module _ (to : Name) where
    unchanged : (layout : List LaidColumn) → (Contains (names_of layout) name → ⊥) → renamed name to layout ≡ layout
    unchanged [] h = refl
    unchanged (x ∷ xs) h = by (has_name name x) refl (unchanged xs (λ c. h (there name x.column.name (names_of xs) c)))
      where
        by : (b : Bool) → has_name name x ≡ b → renamed name to xs ≡ xs → (if b then under to x else x) ∷ renamed name to xs ≡ x ∷ xs
        by true e rest = absurd (h (here name x.column.name (names_of xs) (sym (name_is name x e))))
        by false e rest = ap (λ z. x ∷ z) rest

    all_others : (layout : List LaidColumn) → (Contains (names_of layout) name → ⊥) → others name layout ≡ layout
    all_others [] h = refl
    all_others (x ∷ xs) h = by (has_name name x) refl (all_others xs (λ c. h (there name x.column.name (names_of xs) c)))
      where
        by : (b : Bool) → has_name name x ≡ b → others name xs ≡ xs → cond (not b) (x ∷ others name xs) (others name xs) ≡ x ∷ xs
        by true e rest = absurd (h (here name x.column.name (names_of xs) (sym (name_is name x e))))
        by false e rest = ap (λ z. x ∷ z) rest

    in_renamed : (layout : List LaidColumn) (z : Name) → Contains (names_of (renamed name to layout)) z → (to ≡ z) ⊎ Contains (names_of layout) z
    in_renamed [] z c = inr c
    in_renamed (x ∷ xs) z c = by (has_name name x) c (λ held. in_renamed xs z held)
      where
        later : (to ≡ z) ⊎ Contains (names_of xs) z → (to ≡ z) ⊎ Contains (names_of (x ∷ xs)) z
        later s = elim s [ inl e ↦ inl e | inr held ↦ inr (there z x.column.name (names_of xs) held) ]

        by : (b : Bool) → Contains ((if b then under to x else x).column.name ∷ names_of (renamed name to xs)) z →
            (Contains (names_of (renamed name to xs)) z → (to ≡ z) ⊎ Contains (names_of xs) z) → (to ≡ z) ⊎ Contains (names_of (x ∷ xs)) z
        by true h rest = elim (Contains-cases to (names_of (renamed name to xs)) z h) [ inl e ↦ inl e | inr held ↦ later (rest held) ]
        by false h rest = elim (Contains-cases x.column.name (names_of (renamed name to xs)) z h) [
          | inl e ↦ inr (here z x.column.name (names_of xs) e)
          | inr held ↦ later (rest held)
        ]

    pub renamed_distinct : (layout : List LaidColumn) → Distinct (names_of layout) → (Contains (names_of (others name layout)) to → ⊥) → Distinct (names_of (renamed name to layout))
    renamed_distinct [] d free = tt
    renamed_distinct (x ∷ xs) d free = by (has_name name x) refl free (λ h. renamed_distinct xs d.1 h)
      where
        by : (b : Bool) → has_name name x ≡ b → (Contains (names_of (cond (not b) (x ∷ others name xs) (others name xs))) to → ⊥) →
            ((Contains (names_of (others name xs)) to → ⊥) → Distinct (names_of (renamed name to xs))) → Distinct ((if b then under to x else x).column.name ∷ names_of (renamed name to xs))
        by true e h rest =
            let gone = λ (c : Contains (names_of xs) name). d.0 (subst (Contains (names_of xs)) (name_is name x e) c) in
            rw (unchanged xs gone) (λ c. h (subst (λ z. Contains (names_of z) to) (sym (all_others xs gone)) c), d.1)
        by false e h rest = (
          λ c. elim (in_renamed xs x.column.name c) [
            | inl is ↦ h (here to x.column.name (names_of (others name xs)) (sym is))
            | inr held ↦ d.0 held
          ],
          rest (λ c. h (there to x.column.name (names_of (others name xs)) c)),
        )

-- ---- a column at a place

pub put_distinct : (at : ℕ) (c : LaidColumn) (layout : List LaidColumn) → Distinct (names_of layout) → (Contains (names_of layout) c.column.name → ⊥) → Distinct (names_of (put at c layout))
put_distinct at c layout d new = rw (map_insert (λ z. z.column.name) layout _ c) (distinct_insert (names_of layout) _ c.column.name d new)

-- ---- the columns of names

pub kept_names : (layout : List LaidColumn) (names : List Name) (kept : List LaidColumn) → collect (λ name. find name layout) names ≡ Ok kept → names_of kept ≡ names
kept_names layout [] kept e = ap names_of (sym (the_same [] kept e))
kept_names layout (n ∷ ns) kept e =
    let p = then_ok (find n layout) (λ y. and_then (collect (λ name. find name layout) ns) (λ ys. Ok (y ∷ ys))) kept e in
    let q = then_ok (collect (λ name. find name layout) ns) (λ ys. fine (p.0 ∷ ys)) kept p.2 in
    let one = found_name n layout p.0 p.1 in
    let more = kept_names layout ns q.0 q.1 in
    ap names_of (sym (the_same (p.0 ∷ q.0) kept q.2)) ∙ (λ i. sym one i ∷ more i)
