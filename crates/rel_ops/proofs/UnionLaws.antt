-- The laws of UNION ALL, and the rules of its rows.
use Rattle.std.proofs.Common.{◌≡◌, suc, Bool, true, false, ◌&&◌, ◌||◌, Option, Some, None, List, [], ◌∷◌, ◌++◌, map, filter, cond, refl, subst, ap, ◌∙◌, sym, inl, inr}
use Rattle.std.specs.Prelude.{IsTrue, if◌then◌else◌, length, ◌==◌}
use Rattle.std.specs.List.{Contains}
use Rattle.std.proofs.lemmas.List.{map-append}
use Rattle.value_types.specs.declared.value.ColumnType.{ColumnType}
use Rattle.value_types.specs.declared.row_id.RowId.{RowId, First, Second, out-RowId, roll-RowId}
use Rattle.value_types.specs.declared.row_id.RowId.TheOpen.{RowId-F}
use Rattle.value_types.specs.declared.row_id.RowId.TheViews.{roll-out-RowId}
use Rattle.value_types.specs.declared.row_id.RowId.TheVariants.{outs-First, outs-Second, rolls-First, rolls-Second}
use Rattle.std.specs.Bool.{Decides}
use Rattle.std.specs.Cmp.Lexicographic.{pointwise_decides}
use Rattle.value_types.specs.Same.{type_decides}
use Rattle.value_types.specs.SameIds.{same_id, id_decides}
use Rattle.dataset_types.specs.declared.row.Marked.{Marked}
use Rattle.dataset_types.specs.declared.row.Row.{Row}
use Rattle.dataset_types.specs.Tables.{Distinct, row_ids, fits, values_fit, row_fits}
use Rattle.dataset_types.specs.Plain.{erased_row}
use Rattle.dataset_types.proofs.TableLemmas.{empty_contains, Contains-cases, Distinct-append, Distinct-map}
use Rattle.caveat_marks.specs.Shown.{ShownRow, InOrder, ById, shown_row, values_at, placed}
use Rattle.expr_meaning.specs.declared.bindings.ScopeColumn.{ScopeColumn}
use Rattle.relations.specs.Rels.{RelData, rel_of, bare_columns, KeepsRules, IsRel}
use Rattle.relations.specs.Plain.{plain_whole}
use Rattle.relations.specs.Shown.{ShownRel, SameShown, sure_rows, shown_rel}
use Rattle.relations.proofs.Gathered.{whole_ok, sure_append}
use Rattle.relations.proofs.Rules.{all_of, all_from, all_append, or_parts}
use Rattle.relations.proofs.ByIds.{Values}
use Rattle.relations.proofs.Erasing.{whole_erased}
use Rattle.relations.proofs.Sames.{same_from, same_on, same_back, in_order, by_ids, by_each_id}
use Rattle.rel_ops.specs.Union.{column_types, types_agree, sided, plain_sided, shown_sided, shown_united}
use Rattle.rel_ops.specs.Laws.{UnionErases, UnionShows, UnionKeepsShown}
use Rattle.rel_ops.proofs.Lists.{map_each}

-- ---- erasure

sides_erased : (side : RowId → RowId) (rows : List Row) → map erased_row (map (sided side) rows) ≡ map (plain_sided side) (map erased_row rows)
sides_erased side [] = refl
sides_erased side (r ∷ rs) = ap (λ z. plain_sided side (erased_row r) ∷ z) (sides_erased side rs)

pub union_erases : UnionErases
union_erases a b =
    whole_erased (rel_of a.columns (map (sided First) a.rows ++ map (sided Second) b.rows) (a.is_open || b.is_open) (a.is_loose || b.is_loose))
    ∙ ap (λ rows. plain_whole (record { columns = a.columns; rows = rows }))
    (map-append erased_row (map (sided First) a.rows) (map (sided Second) b.rows) ∙ rw (sides_erased First a.rows, sides_erased Second b.rows) refl)

-- ---- what is shown

sides_shown : (side : RowId → RowId) (rows : List Row) → sure_rows (map (sided side) rows) ≡ map (shown_sided side) (sure_rows rows)
sides_shown side [] = refl
sides_shown side (r ∷ rs) = at r.sure (sides_shown side rs)
  where
    at : (s : Bool) → sure_rows (map (sided side) rs) ≡ map (shown_sided side) (sure_rows rs) →
        map shown_row (cond s (sided side r ∷ filter (λ x. x.sure) (map (sided side) rs)) (filter (λ x. x.sure) (map (sided side) rs)))
        ≡ map (shown_sided side) (map shown_row (cond s (r ∷ filter (λ x. x.sure) rs) (filter (λ x. x.sure) rs)))
    at true e = ap (λ z. shown_sided side (shown_row r) ∷ z) e
    at false e = e

pub union_shows : UnionShows
union_shows a b out e =
    let rows = sure_append (map (sided First) a.rows) (map (sided Second) b.rows) ∙ (λ i. sides_shown First a.rows i ++ sides_shown Second b.rows i) in
    subst (λ z. SameShown (shown_rel z) (shown_united (shown_rel a) (shown_rel b))) (whole_ok _ out e)
    (same_from (shown_rel (rel_of a.columns (map (sided First) a.rows ++ map (sided Second) b.rows) (a.is_open || b.is_open) (a.is_loose || b.is_loose)))
    (shown_united (shown_rel a) (shown_rel b))
    (λ i. record { columns = a.columns; rows = rows i; is_open = a.is_open || b.is_open; is_loose = a.is_loose || b.is_loose }))

-- ---- rows of one side by their ids

-- the id that has become one of the left side, and of the right
abbrev of_first : RowId-F RowId → Option RowId
of_first (RowId-F.Rec n) = None
of_first (RowId-F.Named n) = None
of_first (RowId-F.Emit n) = None
of_first (RowId-F.Pair l r) = None
of_first (RowId-F.Alone l) = None
of_first (RowId-F.First i) = Some i
of_first (RowId-F.Second i) = None
of_first (RowId-F.Key vs) = None

abbrev of_second : RowId-F RowId → Option RowId
of_second (RowId-F.Rec n) = None
of_second (RowId-F.Named n) = None
of_second (RowId-F.Emit n) = None
of_second (RowId-F.Pair l r) = None
of_second (RowId-F.Alone l) = None
of_second (RowId-F.First i) = None
of_second (RowId-F.Second i) = Some i
of_second (RowId-F.Key vs) = None

some_id : (a b : RowId) → Some a ≡ Some b → a ≡ b
some_id a b e = cc

first_back : (o : RowId-F RowId) (j : RowId) → of_first o ≡ Some j → roll-RowId o ≡ First j
first_back (RowId-F.Rec n) j e = cc
first_back (RowId-F.Named n) j e = cc
first_back (RowId-F.Emit n) j e = cc
first_back (RowId-F.Pair l r) j e = cc
first_back (RowId-F.Alone l) j e = cc
first_back (RowId-F.First i) j e = rolls-First i ∙ ap First (some_id i j e)
first_back (RowId-F.Second i) j e = cc
first_back (RowId-F.Key vs) j e = cc

second_back : (o : RowId-F RowId) (j : RowId) → of_second o ≡ Some j → roll-RowId o ≡ Second j
second_back (RowId-F.Rec n) j e = cc
second_back (RowId-F.Named n) j e = cc
second_back (RowId-F.Emit n) j e = cc
second_back (RowId-F.Pair l r) j e = cc
second_back (RowId-F.Alone l) j e = cc
second_back (RowId-F.First i) j e = cc
second_back (RowId-F.Second i) j e = rolls-Second i ∙ ap Second (some_id i j e)
second_back (RowId-F.Key vs) j e = cc

abbrev at_option : Option RowId → (RowId → Option Values) → Option Values
at_option None f = None
at_option (Some j) f = f j

-- a side, and the id that each of its ids comes from
module _ (side : RowId → RowId) (from : RowId → Option RowId) (out : (j : RowId) → from (side j) ≡ Some j) (back : (i j : RowId) → from i ≡ Some j → i ≡ side j) where
  pub side_apart : (a b : RowId) → side a ≡ side b → a ≡ b
  side_apart a b e = some_id a b (sym (out a) ∙ (ap from e ∙ out b))

  side_at : (xs : List ShownRow) (i : RowId) → values_at (map (shown_sided side) xs) i ≡ at_option (from i) (values_at xs)
  side_at [] i = none (from i)
    where
      none : (o : Option RowId) → None ≡ at_option o (values_at [])
      none None = refl
      none (Some j) = refl
  side_at (x ∷ xs) i = at (same_id (side x.id) i) (from i) refl refl (side_at xs i)
    where
      one : (j : RowId) (b : Bool) → same_id x.id j ≡ b → (x.id ≡ j → ⊥) → values_at xs j ≡ (if b then Some x.values else values_at xs j)
      one j true k apart = absurd (apart ((id_decides x.id j).0 k))
      one j false k apart = refl

      at : (b : Bool) (o : Option RowId) → same_id (side x.id) i ≡ b → from i ≡ o → values_at (map (shown_sided side) xs) i ≡ at_option o (values_at xs) →
          (if b then Some x.values else values_at (map (shown_sided side) xs) i) ≡ at_option o (values_at (x ∷ xs))
      at true o k f rest =
          let is : Some x.id ≡ o = sym (out x.id) ∙ (ap from ((id_decides (side x.id) i).0 k) ∙ f) in
          subst (λ z. Some x.values ≡ at_option z (values_at (x ∷ xs))) is (rw ((id_decides x.id x.id).1 refl) refl)
      at false None k f rest = rest
      at false (Some j) k f rest =
          rest ∙ one j (same_id x.id j) refl (λ e. wrong (sym k ∙ (id_decides (side x.id) i).1 (ap side e ∙ sym (back i j f))))
        where
          wrong : false ≡ true → ⊥
          wrong z = cc

abbrev or_at : Option Values → Option Values → Option Values
or_at None other = other
or_at (Some vs) other = Some vs

append_at : (xs ys : List ShownRow) (i : RowId) → values_at (xs ++ ys) i ≡ or_at (values_at xs i) (values_at ys i)
append_at [] ys i = refl
append_at (x ∷ xs) ys i = at (same_id x.id i) (append_at xs ys i)
  where
    at : (b : Bool) → values_at (xs ++ ys) i ≡ or_at (values_at xs i) (values_at ys i) →
        (if b then Some x.values else values_at (xs ++ ys) i) ≡ or_at (if b then Some x.values else values_at xs i) (values_at ys i)
    at true e = refl
    at false e = e

out_first : (j : RowId) → of_first (out-RowId (First j)) ≡ Some j
out_first j = ap of_first (outs-First j)

out_second : (j : RowId) → of_second (out-RowId (Second j)) ≡ Some j
out_second j = ap of_second (outs-Second j)

back_first : (i j : RowId) → of_first (out-RowId i) ≡ Some j → i ≡ First j
back_first i j e = sym (roll-out-RowId i) ∙ first_back (out-RowId i) j e

back_second : (i j : RowId) → of_second (out-RowId i) ≡ Some j → i ≡ Second j
back_second i j e = sym (roll-out-RowId i) ∙ second_back (out-RowId i) j e

united_at : (xs ys : List ShownRow) (i : RowId) → values_at (map (shown_sided First) xs ++ map (shown_sided Second) ys) i
    ≡ or_at (at_option (of_first (out-RowId i)) (values_at xs)) (at_option (of_second (out-RowId i)) (values_at ys))
united_at xs ys i =
    append_at (map (shown_sided First) xs) (map (shown_sided Second) ys) i
    ∙ rw (side_at First (λ j. of_first (out-RowId j)) out_first back_first xs i, side_at Second (λ j. of_second (out-RowId j)) out_second back_second ys i) refl

-- ---- other picks

united_by_ids : (xs ys zs ws : List ShownRow) → values_at xs ≡ values_at zs → values_at ys ≡ values_at ws →
    ById (values_at (map (shown_sided First) xs ++ map (shown_sided Second) ys)) ≡ ById (values_at (map (shown_sided First) zs ++ map (shown_sided Second) ws))
united_by_ids xs ys zs ws e k =
    by_each_id (map (shown_sided First) xs ++ map (shown_sided Second) ys) (map (shown_sided First) zs ++ map (shown_sided Second) ws)
    (λ i. united_at xs ys i ∙ ((λ j. or_at (at_option (of_first (out-RowId i)) (e j)) (at_option (of_second (out-RowId i)) (k j))) ∙ sym (united_at zs ws i)))

as_ids : (l : Bool) (xs ys : List ShownRow) → placed l xs ≡ placed l ys → values_at xs ≡ values_at ys
as_ids true xs ys e = by_ids xs ys e
as_ids false xs ys e = ap values_at (in_order xs ys e)

united_placed : (l m : Bool) (xs ys zs ws : List ShownRow) → placed l xs ≡ placed l zs → placed m ys ≡ placed m ws →
    placed (l || m) (map (shown_sided First) xs ++ map (shown_sided Second) ys) ≡ placed (l || m) (map (shown_sided First) zs ++ map (shown_sided Second) ws)
united_placed true m xs ys zs ws e k = united_by_ids xs ys zs ws (as_ids true xs zs e) (as_ids m ys ws k)
united_placed false true xs ys zs ws e k = united_by_ids xs ys zs ws (as_ids false xs zs e) (as_ids true ys ws k)
united_placed false false xs ys zs ws e k =
    λ i. InOrder (map (shown_sided First) (in_order xs zs e i) ++ map (shown_sided Second) (in_order ys ws k i))

union_same : (a b c d : ShownRel) → SameShown a c → SameShown b d → SameShown (shown_united a b) (shown_united c d)
union_same a b c d e k = record {
  columns = e.columns;
  rows = united_placed a.is_loose b.is_loose a.rows b.rows c.rows d.rows (e.rows ∙ ap (λ l. placed l c.rows) (sym e.looses)) (k.rows ∙ ap (λ l. placed l d.rows) (sym k.looses))
      ∙ (λ i. placed (e.looses i || k.looses i) (map (shown_sided First) c.rows ++ map (shown_sided Second) d.rows));
  opens = λ i. e.opens i || k.opens i;
  looses = λ i. e.looses i || k.looses i;
}

pub union_keeps_shown : UnionKeepsShown
union_keeps_shown a b c d x y e k f g =
    same_on (shown_rel x) (shown_united (shown_rel a) (shown_rel b)) (shown_rel y) (union_shows a b x f)
    (same_on (shown_united (shown_rel a) (shown_rel b)) (shown_united (shown_rel c) (shown_rel d)) (shown_rel y) (union_same (shown_rel a) (shown_rel b) (shown_rel c) (shown_rel d) e k)
    (same_back (shown_rel y) (shown_united (shown_rel c) (shown_rel d)) (union_shows c d y g)))

-- ---- the rules

ids_sided : (side : RowId → RowId) (rows : List Row) → row_ids (map (sided side) rows) ≡ map side (row_ids rows)
ids_sided side [] = refl
ids_sided side (r ∷ rs) = ap (λ z. side r.id ∷ z) (ids_sided side rs)

-- a value that fits one column fits each of its type
fits_types : (columns others : List ScopeColumn) (values : List Marked) → column_types columns ≡ column_types others →
    values_fit (bare_columns columns) values ≡ values_fit (bare_columns others) values
fits_types [] [] values e = refl
fits_types [] (o ∷ os) values e = cc
fits_types (c ∷ cs) [] values e = cc
fits_types (c ∷ cs) (o ∷ os) [] e = refl
fits_types (c ∷ cs) (o ∷ os) (v ∷ vs) e =
    λ i. fits v.value (head_type c.column.kind o.column.kind (column_types cs) (column_types os) e i) && fits_types cs os vs (rest_types c.column.kind o.column.kind (column_types cs) (column_types os) e) i
  where
    head_type : (k l : ColumnType) (ks ls : List ColumnType) → k ∷ ks ≡ l ∷ ls → k ≡ l
    head_type k l ks ls h = cc

    rest_types : (k l : ColumnType) (ks ls : List ColumnType) → k ∷ ks ≡ l ∷ ls → ks ≡ ls
    rest_types k l ks ls h = cc

widths : (columns others : List ScopeColumn) → column_types columns ≡ column_types others → length (bare_columns columns) ≡ length (bare_columns others)
widths columns others e = sym (length-types columns) ∙ (ap length e ∙ length-types others)
  where
    length-types : (cs : List ScopeColumn) → length (column_types cs) ≡ length (bare_columns cs)
    length-types [] = refl
    length-types (c ∷ cs) = ap suc (length-types cs)

row_of_types : (columns others : List ScopeColumn) (r : Row) → column_types columns ≡ column_types others → row_fits (bare_columns columns) r ≡ row_fits (bare_columns others) r
row_of_types columns others r e = λ i. (length r.values == widths columns others e i) && fits_types columns others r.values e i

pub union_rules : (a b : RelData) → IsRel a → IsRel b → column_types a.columns ≡ column_types b.columns →
    KeepsRules (rel_of a.columns (map (sided First) a.rows ++ map (sided Second) b.rows) (a.is_open || b.is_open) (a.is_loose || b.is_loose))
union_rules a b is too types =
    let left = map (sided First) a.rows in
    let right = map (sided Second) b.rows in
    let fits_a = row_fits (bare_columns a.columns) in record {
      names = is.rules.names;
      ids = subst Distinct (sym (map-append (λ (r : Row). r.id) left right))
          (Distinct-append (row_ids left) (row_ids right)
          (subst Distinct (sym (ids_sided First a.rows)) (Distinct-map First (side_apart First (λ j. of_first (out-RowId j)) out_first back_first) (row_ids a.rows) is.rules.ids))
          (subst Distinct (sym (ids_sided Second b.rows)) (Distinct-map Second (side_apart Second (λ j. of_second (out-RowId j)) out_second back_second) (row_ids b.rows) too.rules.ids))
          (λ i c k. apart i (is_first a.rows i c) (is_second b.rows i k)));
      fitting = all_append fits_a left right
          (all_from fits_a left (map_each (sided First) (λ r. IsTrue (fits_a r)) (λ r. IsTrue (fits_a r)) (λ r e. e) a.rows (all_of fits_a a.rows is.rules.fitting)))
          (all_from fits_a right (map_each (sided Second) (λ r. IsTrue (row_fits (bare_columns b.columns) r)) (λ r. IsTrue (fits_a r)) (λ r e. row_of_types a.columns b.columns r types ∙ e) b.rows
          (all_of (row_fits (bare_columns b.columns)) b.rows too.rules.fitting)));
      sure = λ o.
          let p = or_parts a.is_open b.is_open o in
          all_append (λ r. r.sure) left right
          (all_from (λ r. r.sure) left (map_each (sided First) (λ r. IsTrue r.sure) (λ r. IsTrue r.sure) (λ r e. e) a.rows (all_of (λ r. r.sure) a.rows (is.rules.sure p.0))))
          (all_from (λ r. r.sure) right (map_each (sided Second) (λ r. IsTrue r.sure) (λ r. IsTrue r.sure) (λ r e. e) b.rows (all_of (λ r. r.sure) b.rows (too.rules.sure p.1))));
    }
  where
    is_first : (rows : List Row) (i : RowId) → Contains (row_ids (map (sided First) rows)) i → (j : RowId) × (i ≡ First j)
    is_first [] i c = absurd (empty_contains i c)
    is_first (r ∷ rs) i c = elim (Contains-cases (First r.id) (row_ids (map (sided First) rs)) i c) [ inl e ↦ (r.id, sym e) | inr held ↦ is_first rs i held ]

    is_second : (rows : List Row) (i : RowId) → Contains (row_ids (map (sided Second) rows)) i → (j : RowId) × (i ≡ Second j)
    is_second [] i c = absurd (empty_contains i c)
    is_second (r ∷ rs) i c = elim (Contains-cases (Second r.id) (row_ids (map (sided Second) rs)) i c) [ inl e ↦ (r.id, sym e) | inr held ↦ is_second rs i held ]

    apart : (i : RowId) → (j : RowId) × (i ≡ First j) → (k : RowId) × (i ≡ Second k) → ⊥
    apart i p q = wrong (sym (outs-First p.0) ∙ (ap out-RowId (sym p.1 ∙ q.1) ∙ outs-Second q.0))
      where
        wrong : {a b : RowId} → RowId-F.First a ≡ RowId-F.Second b → ⊥
        wrong z = cc

-- sides whose types agree, tested column by column
pub types_decide : (a b : List ScopeColumn) → Decides (types_agree a b) (column_types a ≡ column_types b)
types_decide a b = pointwise_decides type_decides (column_types a) (column_types b)
