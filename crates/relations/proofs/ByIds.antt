-- What is shown of rows by their ids alone.
use Rattle.std.proofs.Common.{◌≡◌, Bool, true, false, ◌||◌, Option, Some, None, List, [], ◌∷◌, map, cond, filter, refl, subst, ap, ◌∙◌, sym, arith}
use Rattle.std.specs.Prelude.{if◌then◌else◌, option_map}
use Rattle.std.specs.List.{list_any, Contains}
use Rattle.std.proofs.lemmas.List.Elements.{Contains-append_right}
use Rattle.std.proofs.Math.Bool.{or-true}
use Rattle.value_types.specs.declared.value.Value.{Value}
use Rattle.value_types.specs.declared.row_id.RowId.{RowId}
use Rattle.value_types.specs.SameIds.{same_id, id_decides}
use Rattle.dataset_types.specs.Tables.{Distinct}
use Rattle.caveat_marks.specs.Shown.{ShownRow, values_at}

abbrev pub shown_ids : List ShownRow → List RowId
shown_ids rows = map (λ r. r.id) rows

abbrev pub Values : Type 0
Values = List (Option Value)

none_is_some : {vs : Values} → None ≡ Some vs → ⊥
none_is_some e = cc

pub some_is : (a b : Values) → Some a ≡ Some b → a ≡ b
some_is a b e = cc

-- an id that isn't there has no values
pub not_there : (xs : List ShownRow) (i : RowId) → (Contains (shown_ids xs) i → ⊥) → values_at xs i ≡ None
not_there [] i h = refl
not_there (x ∷ xs) i h = by (same_id x.id i) refl (not_there xs i (λ c. h (Contains-append_right (x.id ∷ []) (shown_ids xs) i c)))
  where
    by : (b : Bool) → same_id x.id i ≡ b → values_at xs i ≡ None → (if b then Some x.values else values_at xs i) ≡ None
    by true e rest = absurd (h (0, omega arith, (id_decides x.id i).0 e))
    by false e rest = rest

-- the values where they pass a test
abbrev pub only_if : (Values → Bool) → Option Values → Option Values
only_if p None = None
only_if p (Some vs) = if p vs then Some vs else None

pub filter_by_id : (p : Values → Bool) (xs : List ShownRow) → Distinct (shown_ids xs) → (i : RowId) →
    values_at (filter (λ r. p r.values) xs) i ≡ only_if p (values_at xs i)
filter_by_id p [] d i = refl
filter_by_id p (x ∷ xs) d i = by (p x.values) (same_id x.id i) refl refl (filter_by_id p xs d.1 i)
  where
    by : (pass same : Bool) → p x.values ≡ pass → same_id x.id i ≡ same → values_at (filter (λ r. p r.values) xs) i ≡ only_if p (values_at xs i) →
        values_at (cond pass (x ∷ filter (λ r. p r.values) xs) (filter (λ r. p r.values) xs)) i ≡ only_if p (if same then Some x.values else values_at xs i)
    by true true e k rest = rw (k, e) refl
    by true false e k rest = rw k rest
    by false true e k rest =
        rw e (rest ∙ ap (only_if p) (not_there xs i (λ c. d.0 (subst (λ z. Contains (shown_ids xs) z) (sym ((id_decides x.id i).0 k)) c))))
    by false false e k rest = rest

pub map_by_id : (f : Values → Values) (xs : List ShownRow) (i : RowId) →
    values_at (map (λ r. record { id = r.id; values = f r.values }) xs) i ≡ option_map f (values_at xs i)
map_by_id f [] i = refl
map_by_id f (x ∷ xs) i = by (same_id x.id i) (map_by_id f xs i)
  where
    by : (b : Bool) → values_at (map (λ r. record { id = r.id; values = f r.values }) xs) i ≡ option_map f (values_at xs i) →
        (if b then Some (f x.values) else values_at (map (λ r. record { id = r.id; values = f r.values }) xs) i) ≡ option_map f (if b then Some x.values else values_at xs i)
    by true e = refl
    by false e = e

-- a row that passes a test, by its id
record Passes (m : Values → Bool) (xs : List ShownRow) : Type 0 where
  at : RowId
  values : Values
  there : values_at xs at ≡ Some values
  passes : m values ≡ true

any_passes : (m : Values → Bool) (xs : List ShownRow) → Distinct (shown_ids xs) → list_any (λ r. m r.values) xs ≡ true → Passes m xs
any_passes m [] d e = cc
any_passes m (x ∷ xs) d e = by (m x.values) refl e (λ h. any_passes m xs d.1 h)
  where
    beside : (i : RowId) (vs : Values) (s : Bool) → same_id x.id i ≡ s → values_at xs i ≡ Some vs → (if s then Some x.values else values_at xs i) ≡ Some vs
    beside i vs true same there =
        let gone = not_there xs x.id d.0 in absurd (none_is_some (sym gone ∙ (ap (values_at xs) ((id_decides x.id i).0 same) ∙ there)))
    beside i vs false same there = there

    by : (b : Bool) → m x.values ≡ b → (b || list_any (λ r. m r.values) xs) ≡ true → (list_any (λ r. m r.values) xs ≡ true → Passes m xs) → Passes m (x ∷ xs)
    by true k h rest = record { at = x.id; values = x.values; there = rw ((id_decides x.id x.id).1 refl) refl; passes = k }
    by false k h rest =
        let p = rest h in record {
          at = p.at;
          values = p.values;
          there = beside p.at p.values (same_id x.id p.at) refl p.there;
          passes = p.passes;
        }

passes_any : (m : Values → Bool) (xs : List ShownRow) (i : RowId) (vs : Values) → values_at xs i ≡ Some vs → m vs ≡ true → list_any (λ r. m r.values) xs ≡ true
passes_any m [] i vs e k = cc
passes_any m (x ∷ xs) i vs e k = by (same_id x.id i) e (λ h. passes_any m xs i vs h k)
  where
    by : (b : Bool) → (if b then Some x.values else values_at xs i) ≡ Some vs → (values_at xs i ≡ Some vs → list_any (λ r. m r.values) xs ≡ true) →
        (m x.values || list_any (λ r. m r.values) xs) ≡ true
    by true h rest = rw (ap m (some_is x.values vs h) ∙ k) refl
    by false h rest = rw (rest h) (or-true (m x.values))

pub any_by_id : (m : Values → Bool) (xs ys : List ShownRow) → Distinct (shown_ids xs) → Distinct (shown_ids ys) → values_at xs ≡ values_at ys →
    list_any (λ r. m r.values) xs ≡ list_any (λ r. m r.values) ys
any_by_id m xs ys d g e = as_one (list_any (λ r. m r.values) xs) (list_any (λ r. m r.values) ys) (other xs ys d e) (other ys xs g (sym e))
  where
    as_one : (a b : Bool) → (a ≡ true → b ≡ true) → (b ≡ true → a ≡ true) → a ≡ b
    as_one true b f h = sym (f refl)
    as_one false true f h = h refl
    as_one false false f h = refl

    other : (us ws : List ShownRow) → Distinct (shown_ids us) → values_at us ≡ values_at ws → list_any (λ r. m r.values) us ≡ true → list_any (λ r. m r.values) ws ≡ true
    other us ws d e a = let p = any_passes m us d a in passes_any m ws p.at p.values (sym (ap (λ v. v p.at) e) ∙ p.there) p.passes
