-- Groups of rows that fit their columns: values, distinct keys, and groups that are sure.
use Rattle.std.proofs.Common.{◌≡◌, ℕ, suc, zero, ◌-◌, Bool, true, false, not, ◌||◌, Option, Some, None, List, [], ◌∷◌, ◌++◌, map, filter, cond, length, refl, subst, ap, ◌∙◌, sym, inl, inr, arith}
use Rattle.std.specs.Prelude.{IsTrue, ◌==◌, slice_get}
use Rattle.std.specs.Bool.{⊤}
use Rattle.std.specs.List.{list_any, Contains}
use Rattle.std.proofs.lemmas.Bool.{and_parts}
use Rattle.std.proofs.lemmas.Bool.Decides.{Decides-eqb}
use Rattle.std.proofs.Math.Bool.{or-true}
use Rattle.value_types.specs.declared.value.Value.{Value}
use Rattle.value_types.specs.declared.row_id.RowId.{RowId, Key as KeyId, out-RowId}
use Rattle.value_types.specs.declared.row_id.RowId.TheOpen.{RowId-F}
use Rattle.value_types.specs.declared.row_id.RowId.TheVariants.{outs-Key}
use Rattle.value_types.specs.Order.{same_key}
use Rattle.value_types.specs.Same.{key_decides}
use Rattle.dataset_types.specs.declared.row.Marked.{Marked}
use Rattle.dataset_types.specs.declared.row.Row.{Row}
use Rattle.dataset_types.specs.Tables.{Distinct, fits, values_fit, row_fits, all_sure}
use Rattle.dataset_types.proofs.TableLemmas.{Distinct-map, empty_contains, Contains-cases}
use Rattle.expr_meaning.specs.declared.bindings.ScopeColumn.{ScopeColumn}
use Rattle.relations.specs.Rels.{RelData, bare_columns}
use Rattle.relations.specs.Bound.{bindings}
use Rattle.relations.specs.Conditions.{kept_if}
use Rattle.relations.specs.Typed.{FitsColumns, FitsSetting}
use Rattle.relations.proofs.TypeLaw.{row_is_bound}
use Rattle.relations.proofs.Gathered.{Each}
use Rattle.relations.proofs.Rules.{or_parts}
use Rattle.rel_group.specs.Groups.{Group}
use Rattle.std.specs.List.{cons_option}
use Rattle.rel_group.specs.Keys.{items_at, key_of, once_after, once, ascending, rows_at}
use Rattle.rel_group.specs.Groups.{key_values, has_marked_key, is_certain, bound_rows, group_of, keyed_groups, whole_group, groups, may_lack_groups, certain, group_setting, group_types}
use Rattle.rel_group.proofs.KeyOrder.{Key, Below, below_apart, Ascends, ascends, Stands, each_at, from_ascending}
use Rattle.rel_group.proofs.Natural.{key_map}

-- ---- lists

pub each_contains : {X : Type 0} (P : X → Type 0) (xs : List X) → Each P xs → (x : X) → Contains xs x → P x
each_contains P [] e x c = absurd (empty_contains x c)
each_contains P (y ∷ ys) e x c = elim (Contains-cases y ys x c) [ inl h ↦ subst P h e.0 | inr h ↦ each_contains P ys e.1 x h ]

pub each_to : {X Y : Type 0} (f : X → Y) (P : Y → Type 0) (xs : List X) → Each (λ x. P (f x)) xs → Each P (map f xs)
each_to f P [] e = tt
each_to f P (x ∷ xs) e = (e.0, each_to f P xs e.1)

pub each_back : {X Y : Type 0} (f : X → Y) (P : Y → Type 0) (xs : List X) → Each P (map f xs) → Each (λ x. P (f x)) xs
each_back f P [] e = tt
each_back f P (x ∷ xs) e = (e.0, each_back f P xs e.1)

pub each_more : {X : Type 0} (P Q : X → Type 0) → ((x : X) → P x → Q x) → (xs : List X) → Each P xs → Each Q xs
each_more P Q h [] e = tt
each_more P Q h (x ∷ xs) e = (h x e.0, each_more P Q h xs e.1)

pub each_filter : {X : Type 0} (P : X → Type 0) (p : X → Bool) (xs : List X) → Each P xs → Each P (filter p xs)
each_filter P p [] e = tt
each_filter P p (x ∷ xs) e = on (p x) (each_filter P p xs e.1)
  where
    on : (b : Bool) → Each P (filter p xs) → Each P (cond b (x ∷ filter p xs) (filter p xs))
    on true rest = (e.0, rest)
    on false rest = rest

-- what holds of each key holds of each in ascending order
pub each_ascending : (P : Key → Type 0) (ks : List Key) → Each P ks → Each P (ascending ks)
each_ascending P ks e = all (ascending ks) (λ k s. each_at P ks k e (from_ascending ks k s))
  where
    all : (ls : List Key) → ((k : Key) → Stands k ls → P k) → Each P ls
    all [] h = tt
    all (l ∷ ls) h = (h l (inl refl), all ls (λ k s. h k (inr s)))

ascending_distinct : (ls : List Key) → Ascends ls → Distinct ls
ascending_distinct [] a = tt
ascending_distinct (l ∷ ls) a = (λ c. below_apart l l (each_contains (Below l) ls a.0 l c) refl, ascending_distinct ls a.1)

-- ---- values that fit columns

-- a value for each column, of its type
abbrev pub FitsBare : List ScopeColumn → List Value → Type 0
FitsBare [] [] = ⊤
FitsBare (c ∷ cs) (v ∷ vs) = IsTrue (fits v c.column.kind) × FitsBare cs vs
FitsBare cs vs = ⊥

bare_fit : (cs : List ScopeColumn) (ms : List Marked) → length ms ≡ length (bare_columns cs) → IsTrue (values_fit (bare_columns cs) ms) → FitsBare cs (map (λ m. m.value) ms)
bare_fit [] [] n e = tt
bare_fit [] (m ∷ ms) n e = absurd (omega (arith, n))
bare_fit (c ∷ cs) [] n e = absurd (omega (arith, n))
bare_fit (c ∷ cs) (m ∷ ms) n e =
    let p = and_parts (fits m.value c.column.kind) (values_fit (bare_columns cs) ms) e in (p.0, bare_fit cs ms (omega (arith, n)) p.1)

-- a column and a value at one place, or neither
abbrev FitsAt : Option ScopeColumn → Option Value → Type 0
FitsAt None None = ⊤
FitsAt (Some c) (Some v) = IsTrue (fits v c.column.kind)
FitsAt o p = ⊥

fit_at : (cs : List ScopeColumn) (vs : List Value) (i : ℕ) → FitsBare cs vs → FitsAt (slice_get cs i) (slice_get vs i)
fit_at [] [] i e = tt
fit_at [] (v ∷ vs) i e = absurd e
fit_at (c ∷ cs) [] i e = absurd e
fit_at (c ∷ cs) (v ∷ vs) zero e = e.0
fit_at (c ∷ cs) (v ∷ vs) (suc i) e = fit_at cs vs i e.1

fit_before : (o : Option ScopeColumn) (p : Option Value) (cs : List ScopeColumn) (vs : List Value) → FitsAt o p → FitsBare cs vs → FitsBare (cons_option o cs) (cons_option p vs)
fit_before None None cs vs e h = h
fit_before None (Some v) cs vs e h = absurd e
fit_before (Some c) None cs vs e h = absurd e
fit_before (Some c) (Some v) cs vs e h = (e, h)

items_fit : (ps : List ℕ) (cs : List ScopeColumn) (vs : List Value) → FitsBare cs vs → FitsBare (items_at ps cs) (items_at ps vs)
items_fit [] cs vs e = tt
items_fit (p ∷ ps) cs vs e =
    fit_before (slice_get cs (p - 1)) (slice_get vs (p - 1)) (items_at ps cs) (items_at ps vs) (fit_at cs vs (p - 1) e) (items_fit ps cs vs e)

once_fit : (earlier ps : List ℕ) (cs : List ScopeColumn) (vs : List Value) → FitsBare cs vs → FitsBare (once_after earlier ps cs) (once_after earlier ps vs)
once_fit earlier [] cs vs e = tt
once_fit earlier (p ∷ ps) [] [] e = tt
once_fit earlier (p ∷ ps) [] (v ∷ vs) e = absurd e
once_fit earlier (p ∷ ps) (c ∷ cs) [] e = absurd e
once_fit earlier (p ∷ ps) (c ∷ cs) (v ∷ vs) e = on (not (list_any (λ q. q == p) earlier)) (once_fit (earlier ++ p ∷ []) ps cs vs e.1)
  where
    on : (b : Bool) → FitsBare (once_after (earlier ++ p ∷ []) ps cs) (once_after (earlier ++ p ∷ []) ps vs) →
        FitsBare (kept_if b c ++ once_after (earlier ++ p ∷ []) ps cs) (kept_if b v ++ once_after (earlier ++ p ∷ []) ps vs)
    on true rest = (e.0, rest)
    on false rest = rest

bound_fit : (cs : List ScopeColumn) (vs : List Value) → FitsBare cs vs → FitsColumns (bindings cs (map certain vs)) cs
bound_fit [] [] e = tt
bound_fit [] (v ∷ vs) e = absurd e
bound_fit (c ∷ cs) [] e = absurd e
bound_fit (c ∷ cs) (v ∷ vs) e = (record { qualifier = refl; name = refl; value = e.0 }, bound_fit cs vs e.1)

-- values that fit as they are fit where none is marked
pub certain_fit : (cs : List ScopeColumn) (vs : List Value) → FitsBare cs vs → (length (map certain vs) ≡ length (bare_columns cs)) × IsTrue (values_fit (bare_columns cs) (map certain vs))
certain_fit [] [] e = (refl, refl)
certain_fit [] (v ∷ vs) e = absurd e
certain_fit (c ∷ cs) [] e = absurd e
certain_fit (c ∷ cs) (v ∷ vs) e = let p = certain_fit cs vs e.1 in (ap suc p.0, rw (e.0, p.1) refl)

-- ---- the groups of rows that fit

module _ (columns : List ScopeColumn) where
  abbrev pub Good : Row → Type 0
  Good r = IsTrue (row_fits (bare_columns columns) r)

  pub good_parts : (r : Row) → Good r → (length r.values ≡ length (bare_columns columns)) × IsTrue (values_fit (bare_columns columns) r.values)
  good_parts r g =
      let p = and_parts (length r.values == length (bare_columns columns)) (values_fit (bare_columns columns) r.values) g in
      ((Decides-eqb (length r.values) (length (bare_columns columns))).0 p.0, p.1)

  key_fits : (keys : Option (List ℕ)) (r : Row) → Good r → FitsBare (key_of keys columns) (key_values keys r)
  key_fits keys r g =
      let p = good_parts r g in
      subst (FitsBare (key_of keys columns)) (key_map (λ (m : Marked). m.value) keys r.values) (at keys (bare_fit columns r.values p.0 p.1))
    where
      at : (ks : Option (List ℕ)) → FitsBare columns (map (λ m. m.value) r.values) → FitsBare (key_of ks columns) (key_of ks (map (λ m. m.value) r.values))
      at None e = e
      at (Some ps) e = items_fit ps columns (map (λ m. m.value) r.values) e

  bound_good : (r : Row) → Good r → FitsColumns (bindings columns r.values) columns
  bound_good r g = let p = good_parts r g in row_is_bound columns r.values p.0 p.1

  rows_good : (rows : List Row) → Each Good rows → Each (λ b. FitsColumns b columns) (bound_rows columns rows)
  rows_good rows e = each_to (λ r. bindings columns r.values) (λ b. FitsColumns b columns) rows (each_more Good (λ r. FitsColumns (bindings columns r.values) columns) bound_good rows e)

  -- the rows of the groups fit
  pub keyed_good : (keys : Option (List ℕ)) (rows : List Row) → Each Good rows → Each (λ g. Each (λ b. FitsColumns b columns) g.rows) (keyed_groups columns keys rows)
  keyed_good keys rows e =
      each_to (λ k. group_of columns keys k (rows_at (key_values keys) rows k)) (λ g. Each (λ b. FitsColumns b columns) g.rows) (ascending (map (key_values keys) rows)) (all (ascending (map (key_values keys) rows)))
    where
      all : (ks : List Key) → Each (λ k. Each (λ b. FitsColumns b columns) (bound_rows columns (rows_at (key_values keys) rows k))) ks
      all [] = tt
      all (k ∷ ks) = (rows_good (rows_at (key_values keys) rows k) (each_filter Good (λ r. same_key k (key_values keys r)) rows e), all ks)

  pub groups_good : (places : List ℕ) (rows : List Row) → Each Good rows → Each (λ g. Each (λ b. FitsColumns b columns) g.rows) (groups columns places rows)
  groups_good [] rows e = (rows_good rows e, tt)
  groups_good (p ∷ ps) rows e = keyed_good (Some (p ∷ ps)) rows e

  -- the keys of rows that fit
  pub keys_fit : (keys : Option (List ℕ)) (rows : List Row) → Each Good rows → Each (FitsBare (key_of keys columns)) (ascending (map (key_values keys) rows))
  keys_fit keys rows e =
      each_ascending (FitsBare (key_of keys columns)) (map (key_values keys) rows)
      (each_to (key_values keys) (FitsBare (key_of keys columns)) rows (each_more Good (λ r. FitsBare (key_of keys columns) (key_values keys r)) (key_fits keys) rows e))

  -- a group whose key and rows fit
  module _ (places : List ℕ) (uncertain : Bool) where
    abbrev Fitting : Group → Type 0
    Fitting g = FitsSetting (group_setting columns places uncertain g) (group_types columns places)

    keyed_fitting : (rows : List Row) → Each Good rows → (ps : List ℕ) → ps ≡ places → Each Fitting (keyed_groups columns (Some ps) rows)
    keyed_fitting rows e ps is =
        each_to (λ k. group_of columns (Some ps) k (rows_at (key_values (Some ps)) rows k)) Fitting (ascending (map (key_values (Some ps)) rows))
        (each_more (FitsBare (items_at ps columns)) (λ k. Fitting (group_of columns (Some ps) k (rows_at (key_values (Some ps)) rows k)))
        (λ k f. record {
          row = bound_fit (once places (items_at places columns)) (once places k)
              (once_fit [] places (items_at places columns) k (subst (λ z. FitsBare (items_at z columns) k) is f));
          group = each_contains (λ b. FitsColumns b columns) (bound_rows columns (rows_at (key_values (Some ps)) rows k))
              (rows_good (rows_at (key_values (Some ps)) rows k) (each_filter Good (λ r. same_key k (key_values (Some ps) r)) rows e));
        })
        (ascending (map (key_values (Some ps)) rows)) (keys_fit (Some ps) rows e))

    whole_fitting : (rows : List Row) → Each Good rows → [] ≡ places → Fitting (whole_group columns rows)
    whole_fitting rows e is = record {
      row = subst (λ z. FitsColumns (bindings (once z (items_at z columns)) (map certain (once z []))) (once z (items_at z columns))) is tt;
      group = each_contains (λ b. FitsColumns b columns) (bound_rows columns rows) (rows_good rows e);
    }

    pub groups_fitting : (rows : List Row) → Each Good rows → (ps : List ℕ) → ps ≡ places → Each Fitting (groups columns ps rows)
    groups_fitting rows e [] is = (whole_fitting rows e is, tt)
    groups_fitting rows e (p ∷ ps) is = keyed_fitting rows e (p ∷ ps) is

-- ---- the keys of the groups are distinct

keys_of_keyed : (columns : List ScopeColumn) (keys : Option (List ℕ)) (rows : List Row) (ks : List Key) →
    map (λ g. g.key) (map (λ k. group_of columns keys k (rows_at (key_values keys) rows k)) ks) ≡ ks
keys_of_keyed columns keys rows [] = refl
keys_of_keyed columns keys rows (k ∷ ks) = ap (λ z. k ∷ z) (keys_of_keyed columns keys rows ks)

pub keyed_apart : (columns : List ScopeColumn) (keys : Option (List ℕ)) (rows : List Row) → Distinct (map (λ g. g.key) (keyed_groups columns keys rows))
keyed_apart columns keys rows =
    subst Distinct (sym (keys_of_keyed columns keys rows (ascending (map (key_values keys) rows))))
    (ascending_distinct (ascending (map (key_values keys) rows)) (ascends (map (key_values keys) rows)))

pub groups_apart : (columns : List ScopeColumn) (places : List ℕ) (rows : List Row) → Distinct (map (λ g. g.key) (groups columns places rows))
groups_apart columns [] rows = (λ c. empty_contains [] c, tt)
groups_apart columns (p ∷ ps) rows = keyed_apart columns (Some (p ∷ ps)) rows

abbrev layer : Key → RowId-F RowId
layer k = RowId-F.Key k

same_layer : (k l : Key) → layer k ≡ layer l → k ≡ l
same_layer k l e = cc

same_ids : (k l : Key) → KeyId k ≡ KeyId l → k ≡ l
same_ids k l e = same_layer k l (sym (outs-Key k) ∙ (ap out-RowId e ∙ outs-Key l))

pub ids_apart : (gs : List Group) → Distinct (map (λ g. g.key) gs) → Distinct (map KeyId (map (λ g. g.key) gs))
ids_apart gs d = Distinct-map KeyId same_ids (map (λ g. g.key) gs) d

-- ---- where nothing is uncertain, each group is sure

any_at : {X : Type 0} (p q : X → Bool) (xs : List X) → Each (λ x. p x ≡ true) xs → list_any q xs ≡ true → list_any p (filter q xs) ≡ true
any_at p q [] e h = cc
any_at p q (x ∷ xs) e h = on (q x) refl h (λ z. any_at p q xs e.1 z)
  where
    on : (b : Bool) → q x ≡ b → (b || list_any q xs) ≡ true → (list_any q xs ≡ true → list_any p (filter q xs) ≡ true) → list_any p (cond b (x ∷ filter q xs) (filter q xs)) ≡ true
    on true k z rest = rw e.0 refl
    on false k z rest = rest z

-- a key that stands among those of rows is that of one
has_row : {R : Type 0} (key : R → Key) (rows : List R) (k : Key) → Stands k (map key rows) → list_any (λ r. same_key k (key r)) rows ≡ true
has_row key [] k s = absurd s
has_row key (r ∷ rs) k s = elim s [
  | inl e ↦ rw ((key_decides k (key r)).1 (sym e)) refl
  | inr h ↦ rw (has_row key rs k h) (or-true (same_key k (key r)))
]

pub all_certain : (keys : Option (List ℕ)) (rows : List Row) → IsTrue (all_sure rows) → list_any (has_marked_key keys) rows ≡ false → Each (λ r. is_certain keys r ≡ true) rows
all_certain keys [] s e = tt
all_certain keys (r ∷ rs) s e =
    let p = and_parts r.sure (all_sure rs) s in
    let q = or_parts (has_marked_key keys r) (list_any (has_marked_key keys) rs) e in
    (rw (p.0, q.0) refl, all_certain keys rs p.1 q.1)

pub keyed_sure : (columns : List ScopeColumn) (keys : Option (List ℕ)) (rows : List Row) → Each (λ r. is_certain keys r ≡ true) rows → Each (λ g. IsTrue g.sure) (keyed_groups columns keys rows)
keyed_sure columns keys rows e =
    each_to (λ k. group_of columns keys k (rows_at (key_values keys) rows k)) (λ g. IsTrue g.sure) (ascending (map (key_values keys) rows))
    (all (ascending (map (key_values keys) rows)) (λ k s. from_ascending (map (key_values keys) rows) k s))
  where
    all : (ks : List Key) → ((k : Key) → Stands k ks → Stands k (map (key_values keys) rows)) → Each (λ k. IsTrue (list_any (is_certain keys) (rows_at (key_values keys) rows k))) ks
    all [] h = tt
    all (k ∷ ks) h = (
      any_at (is_certain keys) (λ r. same_key k (key_values keys r)) rows e (has_row (key_values keys) rows k (h k (inl refl))),
      all ks (λ l s. h l (inr s)),
    )

pub groups_sure : (rel : RelData) → (rel.is_open ≡ false → IsTrue (all_sure rel.rows)) → (places : List ℕ) → may_lack_groups places rel ≡ false → Each (λ g. IsTrue g.sure) (groups rel.columns places rel.rows)
groups_sure rel sure [] e = (refl, tt)
groups_sure rel sure (p ∷ ps) e =
    let q = or_parts rel.is_open (list_any (has_marked_key (Some (p ∷ ps))) rel.rows) e in
    keyed_sure rel.columns (Some (p ∷ ps)) rel.rows (all_certain (Some (p ∷ ps)) rel.rows (sure q.0) q.1)
