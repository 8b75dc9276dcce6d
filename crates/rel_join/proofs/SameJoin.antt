-- Where the sides of a join show the same, so does the join.
use Rattle.std.proofs.Common.{◌≡◌, Bool, true, false, not, ◌&&◌, ◌||◌, Option, Some, None, List, [], ◌∷◌, ◌++◌, length, refl, subst, ap, ◌∙◌, sym}
use Rattle.std.specs.Prelude.{is_none, if◌then◌else◌}
use Rattle.std.specs.List.{flat_map, list_any, Contains}
use Rattle.value_types.specs.declared.row_id.RowId.{RowId}
use Rattle.value_types.specs.SameIds.{same_id, id_decides}
use Rattle.dataset_types.specs.Tables.{Distinct}
use Rattle.caveat_marks.specs.Shown.{ShownRow, values_at, placed}
use Rattle.expr_lang.specs.declared.expr.Expr.{Expr}
use Rattle.expr_meaning.specs.declared.bindings.ScopeColumn.{ScopeColumn}
use Rattle.expr_meaning.specs.Meaning.{known_over_row}
use Rattle.relations.specs.Bound.{known_bindings}
use Rattle.relations.specs.Conditions.{kept_if, known_true}
use Rattle.relations.specs.Shown.{ShownRel, shown_rel}
use Rattle.relations.proofs.Gathered.{Each}
use Rattle.relations.proofs.ByIds.{shown_ids, Values, not_there}
use Rattle.relations.proofs.Sames.{same_on, same_back, in_order, by_ids, by_each_id, any_placed, shown_distinct, with_rows, KeepsSame, kept_same}
use Rattle.rel_join.specs.declared.kind.Kind.{Kind}
use Rattle.rel_join.specs.declared.kind.Kind.TheVariants.{Inner, Outer}
use Rattle.rel_join.specs.Join.{shown_paired, known_on, shown_pairs, unknown_on, shown_alone, or_alone, shown_left, shown_joined}
use Rattle.rel_join.specs.Laws.{JoinKeepsShown}
use Rattle.rel_join.proofs.PairIds.{left_of, right_of, left_of_pair, left_of_alone, right_of_pair, some_id}
use Rattle.rel_join.proofs.ShownJoin.{join_shows}

-- ---- rows by their ids

abbrev or_at : Option Values → Option Values → Option Values
or_at None other = other
or_at (Some vs) other = Some vs

or_none : (v : Option Values) → or_at v None ≡ v
or_none None = refl
or_none (Some vs) = refl

append_at : (xs ys : List ShownRow) (i : RowId) → values_at (xs ++ ys) i ≡ or_at (values_at xs i) (values_at ys i)
append_at [] ys i = refl
append_at (x ∷ xs) ys i = at (same_id x.id i) (append_at xs ys i)
  where
    at : (b : Bool) → values_at (xs ++ ys) i ≡ or_at (values_at xs i) (values_at ys i) →
        (if b then Some x.values else values_at (xs ++ ys) i) ≡ or_at (if b then Some x.values else values_at xs i) (values_at ys i)
    at true e = refl
    at false e = e

none_is_some : {A : Type 0} {x : A} → None ≡ Some x → ⊥
none_is_some e = cc

-- rows whose ids come from other items aren't there
not_from : (of : RowId → Option RowId) (k i : RowId) (rows : List ShownRow) → Each (λ r. of r.id ≡ Some k) rows → (of i ≡ Some k → ⊥) → values_at rows i ≡ None
not_from of k i [] e h = refl
not_from of k i (r ∷ rows) e h = at (same_id r.id i) refl (not_from of k i rows e.1 h)
  where
    at : (b : Bool) → same_id r.id i ≡ b → values_at rows i ≡ None → (if b then Some r.values else values_at rows i) ≡ None
    at true s rest = absurd (h (sym (ap of ((id_decides r.id i).0 s)) ∙ e.0))
    at false s rest = rest

-- what each item gives, by ids: `of` says from which item an id comes
module _ (of : RowId → Option RowId) (F : ShownRow → List ShownRow) (mine : (x : ShownRow) → Each (λ r. of r.id ≡ Some x.id) (F x)) where
  abbrev at_item : Option Values → RowId → RowId → Option Values
  at_item None k i = None
  at_item (Some vs) k i = values_at (F (record { id = k; values = vs })) i

  abbrev at_from : Option RowId → (RowId → Option Values) → RowId → Option Values
  at_from None f i = None
  at_from (Some k) f i = at_item (f k) k i

  flat_by_id : (xs : List ShownRow) → Distinct (shown_ids xs) → (i : RowId) → values_at (flat_map F xs) i ≡ at_from (of i) (values_at xs) i
  flat_by_id [] d i = none (of i)
    where
      none : (o : Option RowId) → None ≡ at_from o (values_at []) i
      none None = refl
      none (Some k) = refl
  flat_by_id (x ∷ xs) d i = append_at (F x) (flat_map F xs) i ∙ step (of i) refl (flat_by_id xs d.1 i)
    where
      here : (k : RowId) (b : Bool) → of i ≡ Some k → same_id x.id k ≡ b → values_at (flat_map F xs) i ≡ at_item (values_at xs k) k i →
          or_at (values_at (F x) i) (values_at (flat_map F xs) i) ≡ at_item (if b then Some x.values else values_at xs k) k i
      here k true e s rest =
          let same : x.id ≡ k = (id_decides x.id k).0 s in
          let gone : values_at xs k ≡ None = not_there xs k (λ c. d.0 (subst (λ z. Contains (shown_ids xs) z) (sym same) c)) in
          let nothing : values_at (flat_map F xs) i ≡ None = rest ∙ ap (λ z. at_item z k i) gone in
          ap (λ z. or_at (values_at (F x) i) z) nothing
          ∙ (or_none (values_at (F x) i)
          ∙ ap (λ z. values_at (F (record { id = z; values = x.values })) i) same)
      here k false e s rest =
          let other : values_at (F x) i ≡ None = not_from of x.id i (F x) (mine x) (λ h. wrong (sym s ∙ (id_decides x.id k).1 (some_id x.id k (sym h ∙ e)))) in
          ap (λ z. or_at z (values_at (flat_map F xs) i)) other ∙ rest
        where
          wrong : false ≡ true → ⊥
          wrong z = cc

      step : (o : Option RowId) → of i ≡ o → values_at (flat_map F xs) i ≡ at_from o (values_at xs) i →
          or_at (values_at (F x) i) (values_at (flat_map F xs) i) ≡ at_from o (values_at (x ∷ xs)) i
      step None e rest =
          ap (λ z. or_at z (values_at (flat_map F xs) i)) (not_from of x.id i (F x) (mine x) (λ h. none_is_some (sym e ∙ h))) ∙ rest
      step (Some k) e rest = here k (same_id x.id k) e refl rest

-- ---- one left row, by ids

each_append : {X : Type 0} (P : X → Type 0) (xs ys : List X) → Each P xs → Each P ys → Each P (xs ++ ys)
each_append P [] ys e k = k
each_append P (x ∷ xs) ys e k = (e.0, each_append P xs ys e.1 k)

each_if : {X : Type 0} (P : X → Type 0) (b : Bool) (x : X) → P x → Each P (kept_if b x)
each_if P true x p = (p, tt)
each_if P false x p = tt

module _ (left right : List ScopeColumn) (on : Expr) (l : ShownRow) where
  abbrev pair_of : ShownRow → List ShownRow
  pair_of r = kept_if (known_true (known_on left right on l r)) (shown_paired l r)

  right_mine : (r : ShownRow) → Each (λ q. right_of q.id ≡ Some r.id) (pair_of r)
  right_mine r = each_if (λ q. right_of q.id ≡ Some r.id) (known_true (known_on left right on l r)) (shown_paired l r) (right_of_pair l.id r.id)

  left_mine : (rs : List ShownRow) → Each (λ q. left_of q.id ≡ Some l.id) (shown_pairs left right on rs l)
  left_mine [] = tt
  left_mine (r ∷ rs) =
      each_append (λ q. left_of q.id ≡ Some l.id) (pair_of r) (shown_pairs left right on rs l)
      (each_if (λ q. left_of q.id ≡ Some l.id) (known_true (known_on left right on l r)) (shown_paired l r) (left_of_pair l.id r.id)) (left_mine rs)

  pairs_by_ids : (rs qs : List ShownRow) → Distinct (shown_ids rs) → Distinct (shown_ids qs) → values_at rs ≡ values_at qs → (i : RowId) →
      values_at (shown_pairs left right on rs l) i ≡ values_at (shown_pairs left right on qs l) i
  pairs_by_ids rs qs d g e i =
      flat_by_id right_of pair_of right_mine rs d i
      ∙ (ap (λ f. at_from right_of pair_of right_mine (right_of i) f i) e ∙ sym (flat_by_id right_of pair_of right_mine qs g i))

alone_mine : (l : RowId) (rows : List ShownRow) (certain : Bool) (x : ShownRow) → Each (λ q. left_of q.id ≡ Some l) rows → left_of x.id ≡ Some l →
    Each (λ q. left_of q.id ≡ Some l) (or_alone rows certain x)
alone_mine l [] certain x e k = each_if (λ q. left_of q.id ≡ Some l) certain x k
alone_mine l (r ∷ rows) certain x e k = e

itself : (q : ShownRow) (qs : List ShownRow) → values_at (q ∷ qs) q.id ≡ Some q.values
itself q qs = rw ((id_decides q.id q.id).1 refl) refl

alone_by_ids : (P Q : List ShownRow) (c f : Bool) (x : ShownRow) → ((i : RowId) → values_at P i ≡ values_at Q i) → c ≡ f → (i : RowId) →
    values_at (or_alone P c x) i ≡ values_at (or_alone Q f x) i
alone_by_ids [] [] c f x h e i = ap (λ z. values_at (kept_if z x) i) e
alone_by_ids [] (q ∷ qs) c f x h e i = absurd (none_is_some (h q.id ∙ itself q qs))
alone_by_ids (p ∷ ps) [] c f x h e i = absurd (none_is_some (sym (h p.id) ∙ itself p ps))
alone_by_ids (p ∷ ps) (q ∷ qs) c f x h e i = h i

shown_left_mine : (kind : Kind) (left : List ScopeColumn) (t : ShownRel) (on : Expr) (l : ShownRow) → Each (λ q. left_of q.id ≡ Some l.id) (shown_left kind left t on l)
shown_left_mine Inner left t on l = left_mine left t.columns on l t.rows
shown_left_mine Outer left t on l =
    alone_mine l.id (shown_pairs left t.columns on t.rows l) (not t.is_open && not (unknown_on left t.columns on t.rows l)) (shown_alone (length t.columns) l)
    (left_mine left t.columns on l t.rows) (left_of_alone l.id)

-- ---- another left side

module _ (kind : Kind) (on : Expr) (t : ShownRel) where
  abbrev of_left : List ScopeColumn → ShownRow → List ShownRow
  of_left left = shown_left kind left t on

  left_placed : (left : List ScopeColumn) (xs ys : List ShownRow) → Distinct (shown_ids xs) → Distinct (shown_ids ys) → (l m : Bool) → placed l xs ≡ placed l ys →
      placed (l || m) (flat_map (of_left left) xs) ≡ placed (l || m) (flat_map (of_left left) ys)
  left_placed left xs ys d g false m e = ap (λ zs. placed m (flat_map (of_left left) zs)) (in_order xs ys e)
  left_placed left xs ys d g true m e =
      by_each_id (flat_map (of_left left) xs) (flat_map (of_left left) ys)
      (λ i. flat_by_id left_of (of_left left) (shown_left_mine kind left t on) xs d i
      ∙ (ap (λ f. at_from left_of (of_left left) (shown_left_mine kind left t on) (left_of i) f i) (by_ids xs ys e)
      ∙ sym (flat_by_id left_of (of_left left) (shown_left_mine kind left t on) ys g i)))

  keeps_left : KeepsSame (λ s. shown_joined kind s t on)
  keeps_left s rows d g e = record {
    columns = refl;
    rows = left_placed s.columns s.rows rows d g s.is_loose t.is_loose e;
    opens = ap (λ b. (s.is_open || t.is_open) || b)
        (any_placed s.rows rows d g (λ vs. list_any (λ r. is_none (known_over_row (known_bindings s.columns vs ++ known_bindings t.columns r.values) on)) t.rows) s.is_loose e);
    looses = refl;
  }

-- ---- another right side

module _ (kind : Kind) (on : Expr) (s : ShownRel) (apart : Distinct (shown_ids s.rows)) where
  unknown_same : (t : ShownRel) (rows : List ShownRow) → Distinct (shown_ids t.rows) → Distinct (shown_ids rows) → placed t.is_loose t.rows ≡ placed t.is_loose rows → (l : ShownRow) →
      unknown_on s.columns t.columns on t.rows l ≡ unknown_on s.columns t.columns on rows l
  unknown_same t rows d g e l =
      any_placed t.rows rows d g (λ vs. is_none (known_over_row (known_bindings s.columns l.values ++ known_bindings t.columns vs) on)) t.is_loose e

  right_by_ids : (k : Kind) (t : ShownRel) (rows : List ShownRow) → Distinct (shown_ids t.rows) → Distinct (shown_ids rows) → placed t.is_loose t.rows ≡ placed t.is_loose rows →
      values_at t.rows ≡ values_at rows → (l : ShownRow) (i : RowId) → values_at (shown_left k s.columns t on l) i ≡ values_at (shown_left k s.columns (with_rows t rows) on l) i
  right_by_ids Inner t rows d g e v l i = pairs_by_ids s.columns t.columns on l t.rows rows d g v i
  right_by_ids Outer t rows d g e v l i =
      alone_by_ids (shown_pairs s.columns t.columns on t.rows l) (shown_pairs s.columns t.columns on rows l)
      (not t.is_open && not (unknown_on s.columns t.columns on t.rows l)) (not t.is_open && not (unknown_on s.columns t.columns on rows l)) (shown_alone (length t.columns) l)
      (pairs_by_ids s.columns t.columns on l t.rows rows d g v) (ap (λ b. not t.is_open && not b) (unknown_same t rows d g e l)) i

  abbrev to_right : ShownRel → ShownRow → List ShownRow
  to_right t = shown_left kind s.columns t on

  all_by_ids : (t : ShownRel) (rows : List ShownRow) → Distinct (shown_ids t.rows) → Distinct (shown_ids rows) → placed t.is_loose t.rows ≡ placed t.is_loose rows →
      values_at t.rows ≡ values_at rows → (i : RowId) → values_at (flat_map (to_right t) s.rows) i ≡ values_at (flat_map (to_right (with_rows t rows)) s.rows) i
  all_by_ids t rows d g e v i =
      flat_by_id left_of (to_right t) (shown_left_mine kind s.columns t on) s.rows apart i
      ∙ (from (left_of i) ∙ sym (flat_by_id left_of (to_right (with_rows t rows)) (shown_left_mine kind s.columns (with_rows t rows) on) s.rows apart i))
    where
      item : (k : RowId) (o : Option Values) → at_item left_of (to_right t) (shown_left_mine kind s.columns t on) o k i
          ≡ at_item left_of (to_right (with_rows t rows)) (shown_left_mine kind s.columns (with_rows t rows) on) o k i
      item k None = refl
      item k (Some vs) = right_by_ids kind t rows d g e v (record { id = k; values = vs }) i

      from : (o : Option RowId) → at_from left_of (to_right t) (shown_left_mine kind s.columns t on) o (values_at s.rows) i
          ≡ at_from left_of (to_right (with_rows t rows)) (shown_left_mine kind s.columns (with_rows t rows) on) o (values_at s.rows) i
      from None = refl
      from (Some k) = item k (values_at s.rows k)

  right_placed : (t : ShownRel) (rows : List ShownRow) → Distinct (shown_ids t.rows) → Distinct (shown_ids rows) → placed t.is_loose t.rows ≡ placed t.is_loose rows → (l m : Bool) →
      placed m t.rows ≡ placed m rows → placed (l || m) (flat_map (to_right t) s.rows) ≡ placed (l || m) (flat_map (to_right (with_rows t rows)) s.rows)
  right_placed t rows d g e l false h = ap (λ zs. placed (l || false) (flat_map (to_right (with_rows t zs)) s.rows)) (in_order t.rows rows h)
  right_placed t rows d g e false true h =
      by_each_id (flat_map (to_right t) s.rows) (flat_map (to_right (with_rows t rows)) s.rows) (all_by_ids t rows d g e (by_ids t.rows rows h))
  right_placed t rows d g e true true h =
      by_each_id (flat_map (to_right t) s.rows) (flat_map (to_right (with_rows t rows)) s.rows) (all_by_ids t rows d g e (by_ids t.rows rows h))

  keeps_right : KeepsSame (λ t. shown_joined kind s t on)
  keeps_right t rows d g e = record {
    columns = refl;
    rows = right_placed t rows d g e s.is_loose t.is_loose e;
    opens = λ i. (s.is_open || t.is_open) || list_any (λ l. unknown_same t rows d g e l i) s.rows;
    looses = refl;
  }

-- ---- both

pub join_keeps_shown : (kind : Kind) (on : Expr) → JoinKeepsShown kind on
join_keeps_shown kind on a b c d x y picks others cell of_a of_b of_c of_d e f k l =
    let J : ShownRel → ShownRel → ShownRel = λ s t. shown_joined kind s t on in
    same_on (shown_rel x) (J (shown_rel a) (shown_rel b)) (shown_rel y) (join_shows kind on a b x picks cell of_a of_b k)
    (same_on (J (shown_rel a) (shown_rel b)) (J (shown_rel c) (shown_rel b)) (shown_rel y)
    (kept_same (λ s. shown_joined kind s (shown_rel b) on) (keeps_left kind on (shown_rel b)) (shown_rel a) (shown_rel c) (shown_distinct a of_a) (shown_distinct c of_c) e)
    (same_on (J (shown_rel c) (shown_rel b)) (J (shown_rel c) (shown_rel d)) (shown_rel y)
    (kept_same (λ t. shown_joined kind (shown_rel c) t on) (keeps_right kind on (shown_rel c) (shown_distinct c of_c)) (shown_rel b) (shown_rel d) (shown_distinct b of_b) (shown_distinct d of_d) f)
    (same_back (shown_rel y) (J (shown_rel c) (shown_rel d)) (join_shows kind on c d y others cell of_c of_d l))))
