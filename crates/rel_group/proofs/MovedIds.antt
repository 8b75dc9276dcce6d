-- Rows that are the same by their ids are the same in another order.
use Rattle.std.proofs.Common.{◌≡◌, Bool, true, false, Some, None, List, [], ◌∷◌, ◌++◌, refl, subst, ap, ◌∙◌, sym, inl, inr, arith}
use Rattle.std.specs.Prelude.{if◌then◌else◌}
use Rattle.std.specs.List.{Contains}
use Rattle.std.proofs.lemmas.List.Elements.{Contains-append_right}
use Rattle.value_types.specs.declared.row_id.RowId.{RowId}
use Rattle.value_types.specs.SameIds.{same_id, id_decides}
use Rattle.dataset_types.specs.Tables.{Distinct}
use Rattle.dataset_types.proofs.TableLemmas.{Contains-cases}
use Rattle.caveat_marks.specs.Shown.{ShownRow, values_at}
use Rattle.relations.proofs.ByIds.{shown_ids, Values, not_there}
use Rattle.rel_group.proofs.Moved.{Moved, stays, more, follows, past}

here : (i : RowId) (is : List RowId) (k : RowId) → i ≡ k → Contains (i ∷ is) k
here i is k e = (0, omega arith, e)

none_is_some : {vs : Values} → None ≡ Some vs → ⊥
none_is_some e = cc

some_is : (a b : Values) → Some a ≡ Some b → a ≡ b
some_is a b e = cc

-- where a row stands
record Found (ys : List ShownRow) (i : RowId) (vs : Values) : Type 0 where
  before : List ShownRow
  after : List ShownRow
  is : ys ≡ before ++ (record { id = i; values = vs } ∷ after)

find_row : (ys : List ShownRow) (i : RowId) (vs : Values) → values_at ys i ≡ Some vs → Found ys i vs
find_row [] i vs e = absurd (none_is_some e)
find_row (y ∷ ys) i vs e = at (same_id y.id i) refl e (λ h. find_row ys i vs h)
  where
    at : (b : Bool) → same_id y.id i ≡ b → (if b then Some y.values else values_at ys i) ≡ Some vs → (values_at ys i ≡ Some vs → Found ys i vs) → Found (y ∷ ys) i vs
    at true k h rest =
        let s = (id_decides y.id i).0 k in
        let v = some_is y.values vs h in
        record { before = []; after = ys; is = λ j. record { id = s j; values = v j } ∷ ys }
    at false k h rest =
        let p = rest h in record { before = y ∷ p.before; after = p.after; is = ap (λ z. y ∷ z) p.is }

-- one row left out
skips : (us ws : List ShownRow) (x : ShownRow) (i : RowId) → (x.id ≡ i → ⊥) → values_at (us ++ x ∷ ws) i ≡ values_at (us ++ ws) i
skips [] ws x i apart = at (same_id x.id i) refl
  where
    at : (b : Bool) → same_id x.id i ≡ b → (if b then Some x.values else values_at ws i) ≡ values_at ws i
    at true k = absurd (apart ((id_decides x.id i).0 k))
    at false k = refl
skips (u ∷ us) ws x i apart = ap (λ o. if same_id u.id i then Some u.values else o) (skips us ws x i apart)

there : (i : RowId) (is : List RowId) (k : RowId) → Contains is k → Contains (i ∷ is) k
there i is k c = Contains-append_right (i ∷ []) is k c

ids_skip : (us ws : List ShownRow) (x : ShownRow) (k : RowId) → Contains (shown_ids (us ++ ws)) k → Contains (shown_ids (us ++ x ∷ ws)) k
ids_skip [] ws x k c = there x.id (shown_ids ws) k c
ids_skip (u ∷ us) ws x k c = elim (Contains-cases u.id (shown_ids (us ++ ws)) k c) [
  | inl e ↦ here u.id (shown_ids (us ++ x ∷ ws)) k e
  | inr t ↦ there u.id (shown_ids (us ++ x ∷ ws)) k (ids_skip us ws x k t)
]

left_distinct : (us ws : List ShownRow) (x : ShownRow) → Distinct (shown_ids (us ++ x ∷ ws)) → Distinct (shown_ids (us ++ ws))
left_distinct [] ws x d = d.1
left_distinct (u ∷ us) ws x d = (λ c. d.0 (ids_skip us ws x u.id c), left_distinct us ws x d.1)

amid : (us ws : List ShownRow) (x : ShownRow) → Contains (shown_ids (us ++ x ∷ ws)) x.id
amid [] ws x = here x.id (shown_ids ws) x.id refl
amid (u ∷ us) ws x = there u.id (shown_ids (us ++ x ∷ ws)) x.id (amid us ws x)

-- the row that is left out stands nowhere else
alone : (us ws : List ShownRow) (x : ShownRow) → Distinct (shown_ids (us ++ x ∷ ws)) → Contains (shown_ids (us ++ ws)) x.id → ⊥
alone [] ws x d c = d.0 c
alone (u ∷ us) ws x d c = elim (Contains-cases u.id (shown_ids (us ++ ws)) x.id c) [
  | inl e ↦ d.0 (subst (Contains (shown_ids (us ++ x ∷ ws))) (sym e) (amid us ws x))
  | inr t ↦ alone us ws x d.1 t
]

-- the first row is found by its id
first_found : (x : ShownRow) (xs : List ShownRow) → values_at (x ∷ xs) x.id ≡ Some x.values
first_found x xs = ap (λ (b : Bool). if b then Some x.values else values_at xs x.id) ((id_decides x.id x.id).1 refl)

-- the same by each id is the same in another order
pub moved_by_ids : (xs ys : List ShownRow) → Distinct (shown_ids xs) → Distinct (shown_ids ys) → ((i : RowId) → values_at xs i ≡ values_at ys i) → Moved xs ys
moved_by_ids [] [] d g e = stays []
moved_by_ids [] (y ∷ ys) d g e = absurd (none_is_some (e y.id ∙ first_found y ys))
moved_by_ids (x ∷ xs) ys d g e =
    let f = find_row ys x.id x.values (sym (e x.id) ∙ first_found x xs) in
    let apart = subst (λ z. Distinct (shown_ids z)) f.is g in
    let rest = moved_by_ids xs (f.before ++ f.after) d.1 (left_distinct f.before f.after x apart) (λ i. same f.before f.after apart (λ j. e j ∙ ap (λ z. values_at z j) f.is) i (same_id x.id i) refl) in
    subst (Moved (x ∷ xs)) (sym f.is) (follows (x ∷ xs) (x ∷ (f.before ++ f.after)) (f.before ++ x ∷ f.after) (more x xs (f.before ++ f.after) rest) (past x f.before f.after))
  where
    same : (us ws : List ShownRow) → Distinct (shown_ids (us ++ x ∷ ws)) → ((j : RowId) → values_at (x ∷ xs) j ≡ values_at (us ++ x ∷ ws) j) → (i : RowId) → (b : Bool) → same_id x.id i ≡ b →
        values_at xs i ≡ values_at (us ++ ws) i
    same us ws apart h i true k =
        let s = (id_decides x.id i).0 k in
        not_there xs i (λ c. d.0 (subst (Contains (shown_ids xs)) (sym s) c)) ∙ sym (not_there (us ++ ws) i (λ c. alone us ws x apart (subst (Contains (shown_ids (us ++ ws))) (sym s) c)))
    same us ws apart h i false k =
        sym (ap (λ (b : Bool). if b then Some x.values else values_at xs i) k) ∙ (h i ∙ skips us ws x i (λ s. wrong (sym ((id_decides x.id i).1 s) ∙ k)))
      where
        wrong : true ≡ false → ⊥
        wrong z = cc
