-- Relations that show the same.
use Rattle.std.proofs.Common.{◌≡◌, Bool, true, false, Option, List, [], ◌∷◌, map, filter, refl, subst, ap, ◌∙◌, sym}
use Rattle.std.specs.Prelude.{option_map}
use Rattle.std.specs.List.{list_any}
use Rattle.value_types.specs.declared.row_id.RowId.{RowId}
use Rattle.dataset_types.specs.declared.row.Row.{Row}
use Rattle.dataset_types.specs.Tables.{Distinct, row_ids}
use Rattle.dataset_types.proofs.TableLemmas.{Distinct-filter}
use Rattle.caveat_marks.specs.Shown.{ShownRow, ShownRows, InOrder, ById, shown_row, values_at, placed}
use Rattle.relations.specs.Rels.{RelData, IsRel}
use Rattle.relations.specs.Shown.{ShownRel, SameShown, shown_rel}
use Rattle.relations.proofs.ByIds.{shown_ids, Values, only_if, filter_by_id, map_by_id, any_by_id}

pub same_from : (a b : ShownRel) → a ≡ b → SameShown a b
same_from a b e = record {
  columns = ap (λ s. s.columns) e;
  rows = ap (λ s. placed s.is_loose s.rows) e;
  opens = ap (λ s. s.is_open) e;
  looses = ap (λ s. s.is_loose) e;
}

pub same_back : (a b : ShownRel) → SameShown a b → SameShown b a
same_back a b e = record { columns = sym e.columns; rows = sym e.rows; opens = sym e.opens; looses = sym e.looses }

pub same_on : (a b c : ShownRel) → SameShown a b → SameShown b c → SameShown a c
same_on a b c e k = record {
  columns = e.columns ∙ k.columns;
  rows = e.rows ∙ k.rows;
  opens = e.opens ∙ k.opens;
  looses = e.looses ∙ k.looses;
}

-- ---- rows in their order, or by their ids

abbrev listed : ShownRows → List ShownRow
listed (InOrder rows) = rows
listed (ById f) = []

abbrev found : ShownRows → RowId → Option Values
found (InOrder rows) = values_at []
found (ById f) = f

pub in_order : (xs ys : List ShownRow) → InOrder xs ≡ InOrder ys → xs ≡ ys
in_order xs ys e = ap listed e

pub by_ids : (xs ys : List ShownRow) → ById (values_at xs) ≡ ById (values_at ys) → values_at xs ≡ values_at ys
by_ids xs ys e = ap found e

-- the same by each id
pub by_each_id : (xs ys : List ShownRow) → ((i : RowId) → values_at xs i ≡ values_at ys i) → ById (values_at xs) ≡ ById (values_at ys)
by_each_id xs ys h = λ k. ById (λ i. h i k)

module _ (xs ys : List ShownRow) (d : Distinct (shown_ids xs)) (g : Distinct (shown_ids ys)) where
  pub filter_placed : (p : Values → Bool) (l : Bool) → placed l xs ≡ placed l ys → placed l (filter (λ r. p r.values) xs) ≡ placed l (filter (λ r. p r.values) ys)
  filter_placed p false e = ap (λ zs. InOrder (filter (λ r. p r.values) zs)) (in_order xs ys e)
  filter_placed p true e =
      by_each_id (filter (λ r. p r.values) xs) (filter (λ r. p r.values) ys)
      (λ i. filter_by_id p xs d i ∙ (ap (λ v. only_if p (v i)) (by_ids xs ys e) ∙ sym (filter_by_id p ys g i)))

  pub map_placed : (f : Values → Values) (l : Bool) → placed l xs ≡ placed l ys →
      placed l (map (λ r. record { id = r.id; values = f r.values }) xs) ≡ placed l (map (λ r. record { id = r.id; values = f r.values }) ys)
  map_placed f false e = ap (λ zs. InOrder (map (λ r. record { id = r.id; values = f r.values }) zs)) (in_order xs ys e)
  map_placed f true e =
      by_each_id (map (λ r. record { id = r.id; values = f r.values }) xs) (map (λ r. record { id = r.id; values = f r.values }) ys)
      (λ i. map_by_id f xs i ∙ (ap (λ v. option_map f (v i)) (by_ids xs ys e) ∙ sym (map_by_id f ys i)))

  pub any_placed : (m : Values → Bool) (l : Bool) → placed l xs ≡ placed l ys → list_any (λ r. m r.values) xs ≡ list_any (λ r. m r.values) ys
  any_placed m false e = ap (list_any (λ r. m r.values)) (in_order xs ys e)
  any_placed m true e = any_by_id m xs ys d g (by_ids xs ys e)

-- ---- ids of what is shown

ids_shown : (rows : List Row) → shown_ids (map shown_row rows) ≡ row_ids rows
ids_shown [] = refl
ids_shown (r ∷ rs) = ap (λ z. r.id ∷ z) (ids_shown rs)

-- the ids of what is shown of a relation are distinct
pub shown_distinct : (r : RelData) → IsRel r → Distinct (shown_ids (shown_rel r).rows)
shown_distinct r is = subst Distinct (sym (ids_shown (filter (λ x. x.sure) r.rows))) (Distinct-filter (λ x. x.id) (λ x. x.sure) r.rows is.rules.ids)

-- ---- a step that keeps what is the same

abbrev pub with_rows : ShownRel → List ShownRow → ShownRel
with_rows s rows = record { columns = s.columns; rows = rows; is_open = s.is_open; is_loose = s.is_loose }

-- a step, where other rows in the place of a relation's show the same
abbrev pub KeepsSame : (ShownRel → ShownRel) → Type 0
KeepsSame step = (s : ShownRel) (rows : List ShownRow) → Distinct (shown_ids s.rows) → Distinct (shown_ids rows) →
    placed s.is_loose s.rows ≡ placed s.is_loose rows → SameShown (step s) (step (with_rows s rows))

same_is : (s t : ShownRel) → SameShown s t → with_rows s t.rows ≡ t
same_is s t e = λ i. record { columns = e.columns i; rows = t.rows; is_open = e.opens i; is_loose = e.looses i }

pub kept_same : (step : ShownRel → ShownRel) → KeepsSame step → (s t : ShownRel) → Distinct (shown_ids s.rows) → Distinct (shown_ids t.rows) →
    SameShown s t → SameShown (step s) (step t)
kept_same step keeps s t d g e =
    subst (λ z. SameShown (step s) (step z)) (same_is s t e) (keeps s t.rows d g (e.rows ∙ ap (λ l. placed l t.rows) (sym e.looses)))
