-- The laws of ORDER BY, and the rules of the rows in their order.
use Rattle.std.proofs.Common.{◌≡◌, ◌-◌, Bool, true, false, ◌&&◌, ◌||◌, Option, Some, List, [], ◌∷◌, map, filter, cond, refl, subst, ap, ◌∙◌, sym, is_lt, arith}
use Rattle.std.specs.Prelude.{IsTrue, if◌then◌else◌, is_none, unwrap_or}
use Rattle.std.specs.List.{list_any}
use Rattle.std.specs.Cmp.{IsStrictWeakOrder}
use Rattle.std.proofs.lemmas.List.Elements.{Contains-append_right}
use Rattle.std.specs.Ordering.{ordering_then}
use Rattle.value_types.specs.declared.value.Value.{Value}
use Rattle.value_types.specs.declared.value.Value.TheVariants.{Null}
use Rattle.value_types.specs.declared.row_id.RowId.{RowId}
use Rattle.value_types.specs.Order.{value_cmp}
use Rattle.value_types.specs.SameIds.{same_id, id_decides}
use Rattle.dataset_types.specs.declared.row.Marked.{Marked}
use Rattle.dataset_types.specs.declared.row.Row.{Row}
use Rattle.dataset_types.specs.Tables.{Distinct, row_ids, row_fits}
use Rattle.dataset_types.specs.Plain.{erased_row}
use Rattle.caveat_marks.specs.Shown.{InOrder, ById, shown_row, shown_value, values_at, placed}
use Rattle.relations.specs.declared.parts.SortKey.{SortKey}
use Rattle.relations.specs.Rels.{RelData, rel_of, bare_columns, KeepsRules, IsRel}
use Rattle.relations.specs.Plain.{plain_whole}
use Rattle.relations.specs.Shown.{SameShown, sure_rows, shown_rel}
use Rattle.relations.proofs.Gathered.{Each, whole_ok}
use Rattle.relations.proofs.Rules.{all_of, all_from}
use Rattle.relations.proofs.ByIds.{Values}
use Rattle.relations.proofs.Erasing.{whole_erased}
use Rattle.relations.proofs.Sames.{in_order, by_each_id, any_placed, KeepsSame}
use Rattle.rel_ops.specs.Sorted.{insert_at, inserted, sorted}
use Rattle.rel_ops.specs.Sort.{item_at, turned, keys_cmp, keys_lt, marked_at_key, value_at_key, has_marked_key, ordered, plain_at_key, known_at_key, shown_at_key, has_unknown_key, shown_ordered}
use Rattle.rel_ops.specs.Laws.{SortErases, SortShows, SortKeepsShown}
use Rattle.rel_ops.proofs.Lists.{get_map, each_sorted, map_sorted, sorted_distinct, from_sorted}
use Rattle.rel_ops.proofs.Stable.{Rises, rises_sorted, AtLeast}
use Rattle.rel_ops.proofs.Ranks.{keys_rank}
use Rattle.rel_ops.proofs.SameLaws.{keeps_shown}

-- ---- the order of rows that are read otherwise

-- two readings of rows by which keys have the same values
module _ {R S : Type 0} (value : SortKey → R → Value) (value' : SortKey → S → Value) (f : R → S) where
  abbrev Alike : List SortKey → R → Type 0
  Alike ks r = Each (λ k. value' k (f r) ≡ value k r) ks

  alike_cmp : (ks : List SortKey) (a b : R) → Alike ks a → Alike ks b → keys_cmp value' ks (f a) (f b) ≡ keys_cmp value ks a b
  alike_cmp [] a b s t = refl
  alike_cmp (k ∷ ks) a b s t =
      ap (λ z. ordering_then z (keys_cmp value' ks (f a) (f b))) (ap (λ v. turned k.descending (value_cmp v (value' k (f b)))) s.0 ∙ ap (λ v. turned k.descending (value_cmp (value k a) v)) t.0)
      ∙ ap (ordering_then (turned k.descending (value_cmp (value k a) (value k b)))) (alike_cmp ks a b s.1 t.1)

  -- so they are sorted alike
  alike_sorted : (ks : List SortKey) (rows : List R) → Each (Alike ks) rows → map f (sorted (keys_lt value ks) rows) ≡ sorted (keys_lt value' ks) (map f rows)
  alike_sorted ks rows e = map_sorted (keys_lt value ks) (keys_lt value' ks) f (Alike ks) (λ a b s t. ap is_lt (alike_cmp ks a b s t)) rows e

-- ---- erasure

plain_alike : (k : SortKey) (r : Row) → plain_at_key k (erased_row r) ≡ value_at_key k r
plain_alike k r = get_map (λ (m : Marked). m.value) r.values (k.column - 1) (record { value = Null; marked = false })

every : {X : Type 0} (P : X → Type 0) → ((x : X) → P x) → (xs : List X) → Each P xs
every P h [] = tt
every P h (x ∷ xs) = (h x, every P h xs)

pub sort_erases : (keys : List SortKey) → SortErases keys
sort_erases keys rel =
    whole_erased (rel_of rel.columns (sorted (keys_lt value_at_key keys) rel.rows) rel.is_open (rel.is_loose || list_any (has_marked_key keys) rel.rows))
    ∙ ap (λ rows. plain_whole (record { columns = rel.columns; rows = rows }))
    (alike_sorted value_at_key plain_at_key erased_row keys rel.rows
    (every (Alike value_at_key plain_at_key erased_row keys) (λ r. every (λ k. plain_at_key k (erased_row r) ≡ value_at_key k r) (λ k. plain_alike k r) keys) rel.rows))

-- ---- sorting keeps what is shown of each id

-- the values of a row, where it is sure and has the id
abbrev at_first : Bool → Bool → Values → Option Values → Option Values
at_first true true vs rest = Some vs
at_first true false vs rest = rest
at_first false same vs rest = rest

abbrev first_at : Row → RowId → Option Values → Option Values
first_at r i rest = at_first r.sure (same_id r.id i) (map shown_value r.values) rest

abbrev sure_at : List Row → RowId → Option Values
sure_at rows i = values_at (sure_rows rows) i

sure_first : (r : Row) (rs : List Row) (i : RowId) → sure_at (r ∷ rs) i ≡ first_at r i (sure_at rs i)
sure_first r rs i = at r.sure (same_id r.id i) refl
  where
    at : (s b : Bool) → same_id r.id i ≡ b →
        values_at (map shown_row (cond s (r ∷ filter (λ x. x.sure) rs) (filter (λ x. x.sure) rs))) i ≡ at_first s b (map shown_value r.values) (sure_at rs i)
    at true true e = rw e refl
    at true false e = rw e refl
    at false b e = refl

first_swap : (x y : Row) (i : RowId) (rest : Option Values) → (x.id ≡ y.id → ⊥) → first_at x i (first_at y i rest) ≡ first_at y i (first_at x i rest)
first_swap x y i rest apart = at x.sure y.sure (same_id x.id i) (same_id y.id i) refl refl
  where
    both_are : same_id x.id i ≡ true → same_id y.id i ≡ true → ⊥
    both_are e k = apart ((id_decides x.id i).0 e ∙ sym ((id_decides y.id i).0 k))

    at : (s t b c : Bool) → same_id x.id i ≡ b → same_id y.id i ≡ c →
        at_first s b (map shown_value x.values) (at_first t c (map shown_value y.values) rest) ≡ at_first t c (map shown_value y.values) (at_first s b (map shown_value x.values) rest)
    at true true true true e k = absurd (both_are e k)
    at true true true false e k = refl
    at true true false true e k = refl
    at true true false false e k = refl
    at true false true c e k = refl
    at true false false c e k = refl
    at false true b true e k = refl
    at false true b false e k = refl
    at false false b c e k = refl

module _ (lt : Row → Row → Bool) where
  inserted_at : (x : Row) (ys : List Row) (i : RowId) → Distinct (x.id ∷ row_ids ys) → sure_at (inserted lt x ys) i ≡ sure_at (x ∷ ys) i
  inserted_at x [] i d = refl
  inserted_at x (y ∷ ys) i d = on (lt y x) (inserted_at x ys i (λ c. d.0 (Contains-append_right (y.id ∷ []) (row_ids ys) x.id c), d.1.1))
    where
      apart : x.id ≡ y.id → ⊥
      apart e = d.0 (0, omega arith, sym e)

      on : (b : Bool) → sure_at (inserted lt x ys) i ≡ sure_at (x ∷ ys) i → sure_at (insert_at lt b x y ys (inserted lt x ys)) i ≡ sure_at (x ∷ y ∷ ys) i
      on true rest =
          sure_first y (inserted lt x ys) i ∙ ap (first_at y i) (rest ∙ sure_first x ys i)
          ∙ (sym (first_swap x y i (sure_at ys i) apart) ∙ (ap (first_at x i) (sym (sure_first y ys i)) ∙ sym (sure_first x (y ∷ ys) i)))
      on false rest = refl

  pub sorted_at : (rows : List Row) (i : RowId) → Distinct (row_ids rows) → sure_at (sorted lt rows) i ≡ sure_at rows i
  sorted_at [] i d = refl
  sorted_at (x ∷ xs) i d =
      inserted_at x (sorted lt xs) i (λ c. d.0 (from_sorted lt (λ r. r.id) xs x.id c), sorted_distinct lt (λ r. r.id) xs d.1)
      ∙ (sure_first x (sorted lt xs) i ∙ (ap (first_at x i) (sorted_at xs i d.1) ∙ sym (sure_first x xs i)))

-- ---- where no sure row is placed by a marked value

-- sorting what passes a test is passing what is sorted
module _ {X : Type 0} (lt : X → X → Bool) (o : IsStrictWeakOrder lt) (p : X → Bool) where
  insert_front : (x : X) (xs : List X) → Each (AtLeast lt o x) xs → inserted lt x xs ≡ x ∷ xs
  insert_front x [] e = refl
  insert_front x (y ∷ ys) e = rw e.0 refl

  each_filter : (P : X → Type 0) (xs : List X) → Each P xs → Each P (filter p xs)
  each_filter P [] e = tt
  each_filter P (x ∷ xs) e = on (p x) (each_filter P xs e.1)
    where
      on : (b : Bool) → Each P (filter p xs) → Each P (cond b (x ∷ filter p xs) (filter p xs))
      on true rest = (e.0, rest)
      on false rest = rest

  drops_in : (x : X) (ys : List X) → p x ≡ false → filter p (inserted lt x ys) ≡ filter p ys
  drops_in x [] e = rw e refl
  drops_in x (y ∷ ys) e = on (lt y x) (drops_in x ys e)
    where
      on : (b : Bool) → filter p (inserted lt x ys) ≡ filter p ys → filter p (insert_at lt b x y ys (inserted lt x ys)) ≡ filter p (y ∷ ys)
      on true rest = ap (λ z. cond (p y) (y ∷ z) z) rest
      on false rest = rw e refl

  keeps_in : (x : X) (ys : List X) → p x ≡ true → Rises lt o ys → filter p (inserted lt x ys) ≡ inserted lt x (filter p ys)
  keeps_in x [] e r = rw e refl
  keeps_in x (y ∷ ys) e r = on (lt y x) (p y) refl refl (keeps_in x ys e r.1)
    where
      on : (b c : Bool) → lt y x ≡ b → p y ≡ c → filter p (inserted lt x ys) ≡ inserted lt x (filter p ys) →
          filter p (insert_at lt b x y ys (inserted lt x ys)) ≡ inserted lt x (cond c (y ∷ filter p ys) (filter p ys))
      on true true l k rest = rw (k, l) (ap (λ z. y ∷ z) rest)
      on true false l k rest = rw k rest
      on false true l k rest = rw (e, k, l) refl
      on false false l k rest =
          rw (e, k) (sym (insert_front x (filter p ys) (each_filter (AtLeast lt o x) ys (above ys r.0))))
        where
          above : (zs : List X) → Each (AtLeast lt o y) zs → Each (AtLeast lt o x) zs
          above [] h = tt
          above (z ∷ zs) h = (o.chain z y x h.0 l, above zs h.1)

  filter_sorted : (xs : List X) → filter p (sorted lt xs) ≡ sorted lt (filter p xs)
  filter_sorted [] = refl
  filter_sorted (x ∷ xs) = on (p x) refl (filter_sorted xs)
    where
      on : (b : Bool) → p x ≡ b → filter p (sorted lt xs) ≡ sorted lt (filter p xs) → filter p (inserted lt x (sorted lt xs)) ≡ sorted lt (cond b (x ∷ filter p xs) (filter p xs))
      on true e rest = keeps_in x (sorted lt xs) e (rises_sorted lt o xs) ∙ ap (inserted lt x) rest
      on false e rest = drops_in x (sorted lt xs) e ∙ rest

-- ---- what is shown

abbrev IsPlaced : List SortKey → Row → Type 0
IsPlaced ks r = Each (λ k. (marked_at_key k r).marked ≡ false) ks

known_get : (r : Row) (k : SortKey) → known_at_key k (shown_row r) ≡ shown_value (marked_at_key k r)
known_get r k = get_map shown_value r.values (k.column - 1) (record { value = Null; marked = false })

unmarked_known : (m : Marked) → m.marked ≡ false → unwrap_or (shown_value m) Null ≡ m.value
unmarked_known m e = rw e refl

shown_alike : (ks : List SortKey) (r : Row) → IsPlaced ks r → Alike value_at_key shown_at_key shown_row ks r
shown_alike [] r e = tt
shown_alike (k ∷ ks) r e = (ap (λ v. unwrap_or v Null) (known_get r k) ∙ unmarked_known (marked_at_key k r) e.0, shown_alike ks r e.1)

unknown_is_marked : (m : Marked) → is_none (shown_value m) ≡ m.marked
unknown_is_marked m = at m.marked
  where
    at : (b : Bool) → is_none (shown_value (record { value = m.value; marked = b })) ≡ b
    at true = refl
    at false = refl

-- a key isn't known where it is marked
unknown_is : (ks : List SortKey) (r : Row) → has_unknown_key ks (shown_row r) ≡ list_any (λ k. (marked_at_key k r).marked) ks
unknown_is [] r = refl
unknown_is (k ∷ ks) r =
    ap (λ b. b || has_unknown_key ks (shown_row r)) (ap is_none (known_get r k) ∙ unknown_is_marked (marked_at_key k r))
    ∙ ap (λ b. (marked_at_key k r).marked || b) (unknown_is ks r)

any_unknown : (ks : List SortKey) (rows : List Row) → list_any (has_unknown_key ks) (sure_rows rows) ≡ list_any (has_marked_key ks) rows
any_unknown ks [] = refl
any_unknown ks (r ∷ rs) = at r.sure (any_unknown ks rs)
  where
    at : (s : Bool) → list_any (has_unknown_key ks) (sure_rows rs) ≡ list_any (has_marked_key ks) rs →
        list_any (has_unknown_key ks) (map shown_row (cond s (r ∷ filter (λ x. x.sure) rs) (filter (λ x. x.sure) rs)))
        ≡ ((s && list_any (λ k. (marked_at_key k r).marked) ks) || list_any (has_marked_key ks) rs)
    at true e = ap (λ b. has_unknown_key ks (shown_row r) || b) e ∙ ap (λ b. b || list_any (has_marked_key ks) rs) (unknown_is ks r)
    at false e = e

neither : (a b : Bool) → (a || b) ≡ false → (a ≡ false) × (b ≡ false)
neither true b e = cc
neither false b e = (refl, e)

placed_keys : (ks : List SortKey) (r : Row) → list_any (λ k. (marked_at_key k r).marked) ks ≡ false → IsPlaced ks r
placed_keys [] r e = tt
placed_keys (k ∷ ks) r e = let n = neither (marked_at_key k r).marked (list_any (λ j. (marked_at_key j r).marked) ks) e in (n.0, placed_keys ks r n.1)

sure_placed : (ks : List SortKey) (rows : List Row) → list_any (has_marked_key ks) rows ≡ false → Each (IsPlaced ks) (filter (λ r. r.sure) rows)
sure_placed ks [] e = tt
sure_placed ks (r ∷ rs) e =
    let n = neither (has_marked_key ks r) (list_any (has_marked_key ks) rs) e in
    at r.sure n.0 (sure_placed ks rs n.1)
  where
    at : (s : Bool) → (s && list_any (λ k. (marked_at_key k r).marked) ks) ≡ false → Each (IsPlaced ks) (filter (λ x. x.sure) rs) →
        Each (IsPlaced ks) (cond s (r ∷ filter (λ x. x.sure) rs) (filter (λ x. x.sure) rs))
    at true k rest = (placed_keys ks r k, rest)
    at false k rest = rest

-- where each sure row is placed by values without a caveat, what is shown is sorted
shown_in_order : (ks : List SortKey) (rows : List Row) → list_any (has_marked_key ks) rows ≡ false →
    sure_rows (sorted (keys_lt value_at_key ks) rows) ≡ sorted (keys_lt shown_at_key ks) (sure_rows rows)
shown_in_order ks rows e =
    ap (map shown_row) (filter_sorted (keys_lt value_at_key ks) (keys_rank value_at_key ks) (λ r. r.sure) rows)
    ∙ alike_sorted value_at_key shown_at_key shown_row ks (filter (λ r. r.sure) rows) (all_alike (filter (λ r. r.sure) rows) (sure_placed ks rows e))
  where
    all_alike : (rs : List Row) → Each (IsPlaced ks) rs → Each (Alike value_at_key shown_at_key shown_row ks) rs
    all_alike [] h = tt
    all_alike (r ∷ rs) h = (shown_alike ks r h.0, all_alike rs h.1)

rows_ordered : (ks : List SortKey) (rows : List Row) (l m : Bool) → Distinct (row_ids rows) → list_any (has_marked_key ks) rows ≡ m →
    placed (l || m) (sure_rows (sorted (keys_lt value_at_key ks) rows)) ≡ placed (l || m) (if l || m then sure_rows rows else sorted (keys_lt shown_at_key ks) (sure_rows rows))
rows_ordered ks rows true m d e = by_each_id (sure_rows (sorted (keys_lt value_at_key ks) rows)) (sure_rows rows) (λ i. sorted_at (keys_lt value_at_key ks) rows i d)
rows_ordered ks rows false true d e = by_each_id (sure_rows (sorted (keys_lt value_at_key ks) rows)) (sure_rows rows) (λ i. sorted_at (keys_lt value_at_key ks) rows i d)
rows_ordered ks rows false false d e = ap InOrder (shown_in_order ks rows e)

pub sort_shows : (keys : List SortKey) → SortShows keys
sort_shows keys rel out is e =
    let same = any_unknown keys rel.rows in
    let unknown = list_any (has_unknown_key keys) (sure_rows rel.rows) in
    let shows : SameShown (shown_rel (rel_of rel.columns (sorted (keys_lt value_at_key keys) rel.rows) rel.is_open (rel.is_loose || list_any (has_marked_key keys) rel.rows)))
    (shown_ordered (shown_rel rel) keys) = record {
      columns = refl;
      rows = ap (λ m. placed (rel.is_loose || m) (sure_rows (sorted (keys_lt value_at_key keys) rel.rows))) (sym same)
          ∙ rows_ordered keys rel.rows rel.is_loose unknown is.rules.ids (sym same);
      opens = refl;
      looses = ap (λ m. rel.is_loose || m) (sym same);
    } in
    subst (λ z. SameShown (shown_rel z) (shown_ordered (shown_rel rel) keys)) (whole_ok _ out e) shows

-- ---- other picks

sort_keeps : (keys : List SortKey) → KeepsSame (λ s. shown_ordered s keys)
sort_keeps keys s rows d g e =
    let same = any_placed s.rows rows d g (λ vs. list_any (λ k. is_none (item_at (Some Null) k vs)) keys) s.is_loose e in record {
      columns = refl;
      rows = at s.is_loose (list_any (has_unknown_key keys) s.rows) e ∙ ap (λ m. placed (s.is_loose || m) (if s.is_loose || m then rows else sorted (keys_lt shown_at_key keys) rows)) same;
      opens = refl;
      looses = ap (λ m. s.is_loose || m) same;
    }
  where
    at : (l m : Bool) → placed l s.rows ≡ placed l rows →
        placed (l || m) (if l || m then s.rows else sorted (keys_lt shown_at_key keys) s.rows) ≡ placed (l || m) (if l || m then rows else sorted (keys_lt shown_at_key keys) rows)
    at true m k = k
    at false true k = ap (λ z. ById (values_at z)) (in_order s.rows rows k)
    at false false k = ap (λ z. InOrder (sorted (keys_lt shown_at_key keys) z)) (in_order s.rows rows k)

pub sort_keeps_shown : (keys : List SortKey) → SortKeepsShown keys
sort_keeps_shown keys =
    keeps_shown (λ r. ordered r keys) (λ r. ordered r keys) (λ s. shown_ordered s keys) (sort_shows keys) (sort_shows keys) (sort_keeps keys)

-- ---- the rules

pub sort_rules : (rel : RelData) (keys : List SortKey) (is_loose : Bool) → IsRel rel → KeepsRules (rel_of rel.columns (sorted (keys_lt value_at_key keys) rel.rows) rel.is_open is_loose)
sort_rules rel keys is_loose is =
    let lt = keys_lt value_at_key keys in
    let fits = row_fits (bare_columns rel.columns) in record {
      names = is.rules.names;
      ids = sorted_distinct lt (λ r. r.id) rel.rows is.rules.ids;
      fitting = all_from fits (sorted lt rel.rows) (each_sorted lt (λ r. IsTrue (fits r)) rel.rows (all_of fits rel.rows is.rules.fitting));
      sure = λ o. all_from (λ r. r.sure) (sorted lt rel.rows) (each_sorted lt (λ r. IsTrue r.sure) rel.rows (all_of (λ r. r.sure) rel.rows (is.rules.sure o)));
    }
