-- The keys and the groups of what is shown.
use Rattle.std.proofs.Common.{◌≡◌, ℕ, Bool, true, false, not, ◌&&◌, ◌||◌, Option, Some, List, [], ◌∷◌, ◌++◌, map, filter, cond, refl, subst, ap, ◌∙◌, sym, inl, inr}
use Rattle.std.proofs.lemmas.Bool.{and_parts}
use Rattle.std.proofs.Math.Bool.{or-true}
use Rattle.std.specs.Prelude.{is_none, option_map, IsTrue}
use Rattle.std.specs.List.{cons_option, filter_map, flat_map, list_any}
use Rattle.value_types.specs.Order.{same_key}
use Rattle.value_types.specs.Same.{key_decides}
use Rattle.dataset_types.specs.declared.row.Marked.{Marked}
use Rattle.dataset_types.specs.declared.row.Row.{Row}
use Rattle.dataset_types.specs.Tables.{all_sure}
use Rattle.caveat_marks.specs.Shown.{shown_row, shown_value}
use Rattle.expr_meaning.specs.declared.bindings.ScopeColumn.{ScopeColumn}
use Rattle.expr_meaning.specs.Known.{unless_marked}
use Rattle.expr_meaning.specs.Settings.{known_binding}
use Rattle.relations.specs.Rels.{RelData}
use Rattle.relations.specs.Bound.{known_bindings}
use Rattle.relations.specs.Conditions.{kept_if}
use Rattle.relations.specs.Shown.{sure_rows, shown_rel}
use Rattle.relations.proofs.Binds.{binds_known}
use Rattle.relations.proofs.Rules.{or_parts}
use Rattle.rel_group.specs.Groups.{Group}
use Rattle.rel_group.specs.Keys.{key_of, ascending, rows_at}
use Rattle.rel_group.specs.Groups.{key_values, has_marked_key, is_certain, is_uncertain, bound_rows, group_of, keyed_groups, whole_group, groups, may_lack_groups}
use Rattle.rel_group.specs.Shown.{all_known, shown_key, is_key, shown_uncertain, KnownGroup, shown_group_of, shown_keyed, shown_groups, shown_may_lack}
use Rattle.rel_group.proofs.KeyOrder.{Key, Below, Stands, Ascends, ascends, into_ascending, from_ascending, one_list}
use Rattle.rel_group.proofs.Natural.{key_map}
use Rattle.rel_group.proofs.GroupFits.{each_filter}

-- ---- keys

known_all : (ms : List Marked) → all_known (map shown_value ms) ≡ unless_marked (list_any (λ m. m.marked) ms) (map (λ m. m.value) ms)
known_all [] = refl
known_all (m ∷ ms) = on m.marked refl (known_all ms)
  where
    rest : (b : Bool) → option_map (λ ws. m.value ∷ ws) (unless_marked b (map (λ x. x.value) ms)) ≡ unless_marked b (m.value ∷ map (λ x. x.value) ms)
    rest true = refl
    rest false = refl

    on : (b : Bool) → m.marked ≡ b → all_known (map shown_value ms) ≡ unless_marked (list_any (λ x. x.marked) ms) (map (λ x. x.value) ms) →
        all_known (map shown_value (m ∷ ms)) ≡ unless_marked (m.marked || list_any (λ x. x.marked) ms) (m.value ∷ map (λ x. x.value) ms)
    on true e k = rw e refl
    on false e k = rw e (ap (option_map (λ ws. m.value ∷ ws)) k ∙ rest (list_any (λ x. x.marked) ms))

module _ (keys : Option (List ℕ)) where
  -- a row's key is known where it isn't marked
  pub key_shown : (r : Row) → shown_key keys (shown_row r) ≡ unless_marked (has_marked_key keys r) (key_values keys r)
  key_shown r = ap all_known (key_map shown_value keys r.values) ∙ known_all (key_of keys r.values)

  none_is : {A : Type 0} (b : Bool) (a : A) → is_none (unless_marked b a) ≡ b
  none_is true a = refl
  none_is false a = refl

  -- where all rows are sure, all are shown
  pub all_rows : (rows : List Row) → IsTrue (all_sure rows) → sure_rows rows ≡ map shown_row rows
  all_rows [] e = refl
  all_rows (r ∷ rs) e =
      let p = and_parts r.sure (all_sure rs) e in
      ap (λ b. map shown_row (cond b (r ∷ filter (λ x. x.sure) rs) (filter (λ x. x.sure) rs))) p.0 ∙ ap (λ z. shown_row r ∷ z) (all_rows rs p.1)

  any_unknown : (rows : List Row) → list_any (λ r. is_none (shown_key keys r)) (map shown_row rows) ≡ list_any (has_marked_key keys) rows
  any_unknown [] = refl
  any_unknown (r ∷ rs) =
      let one = ap is_none (key_shown r) ∙ none_is (has_marked_key keys r) (key_values keys r) in
      let more = any_unknown rs in
      λ i. one i || more i

  -- whether it is uncertain which rows are in a group shows
  pub uncertain_shows : (rel : RelData) → (rel.is_open ≡ false → IsTrue (all_sure rel.rows)) → shown_uncertain keys (shown_rel rel) ≡ is_uncertain keys rel
  uncertain_shows rel h = at rel.is_open h
    where
      at : (o : Bool) → (o ≡ false → IsTrue (all_sure rel.rows)) → (o || list_any (λ r. is_none (shown_key keys r)) (sure_rows rel.rows)) ≡ (o || list_any (has_marked_key keys) rel.rows)
      at true k = refl
      at false k = ap (list_any (λ r. is_none (shown_key keys r))) (all_rows rel.rows (k refl)) ∙ any_unknown rel.rows

  -- ---- the keys of groups that are shown

  abbrev sure_at : List Row → Key → Bool
  sure_at rows k = list_any (is_certain keys) (rows_at (key_values keys) rows k)

  abbrev known_keys : List Row → List Key
  known_keys rows = filter_map (shown_key keys) (sure_rows rows)

  later : (r : Row) (rs : List Row) (k : Key) → sure_at rs k ≡ true → sure_at (r ∷ rs) k ≡ true
  later r rs k e = on (same_key k (key_values keys r))
    where
      on : (b : Bool) → list_any (is_certain keys) (cond b (r ∷ rows_at (key_values keys) rs k) (rows_at (key_values keys) rs k)) ≡ true
      on true = rw e (or-true (is_certain keys r))
      on false = e

  here : (r : Row) (rs : List Row) (k : Key) → key_values keys r ≡ k → is_certain keys r ≡ true → sure_at (r ∷ rs) k ≡ true
  here r rs k e c =
      ap (λ b. list_any (is_certain keys) (cond b (r ∷ rows_at (key_values keys) rs k) (rows_at (key_values keys) rs k))) ((key_decides k (key_values keys r)).1 (sym e))
      ∙ ap (λ (b : Bool). b || sure_at rs k) c

  -- the first row's key, where it is sure and known
  abbrev key_first : Bool → Bool → Row → List Key → List Key
  key_first true false r ks = key_values keys r ∷ ks
  key_first true true r ks = ks
  key_first false m r ks = ks

  first_is : (r : Row) (rs : List Row) → known_keys (r ∷ rs) ≡ key_first r.sure (has_marked_key keys r) r (known_keys rs)
  first_is r rs = at r.sure
    where
      known_first : (m : Bool) → cons_option (unless_marked m (key_values keys r)) (known_keys rs) ≡ key_first true m r (known_keys rs)
      known_first true = refl
      known_first false = refl

      at : (s : Bool) → filter_map (shown_key keys) (map shown_row (cond s (r ∷ filter (λ x. x.sure) rs) (filter (λ x. x.sure) rs))) ≡ key_first s (has_marked_key keys r) r (known_keys rs)
      at true = ap (λ o. cons_option o (known_keys rs)) (key_shown r) ∙ known_first (has_marked_key keys r)
      at false = refl

  certain_is : (r : Row) → r.sure ≡ true → has_marked_key keys r ≡ false → is_certain keys r ≡ true
  certain_is r s m = rw (s, m) refl

  uncertain_by : (r : Row) → r.sure ≡ true → has_marked_key keys r ≡ true → is_certain keys r ≡ false
  uncertain_by r s m = rw (s, m) refl

  abbrev IsSure : List Row → Key → Type 0
  IsSure rows k = Stands k (map (key_values keys) rows) × (sure_at rows k ≡ true)

  known_is_sure : (rows : List Row) (k : Key) → Stands k (known_keys rows) → IsSure rows k
  known_is_sure [] k s = absurd s
  known_is_sure (r ∷ rs) k s =
      at (λ h. let p = known_is_sure rs k h in (inr p.0, later r rs k p.1)) r.sure (has_marked_key keys r) refl refl (subst (Stands k) (first_is r rs) s)
    where
      at : (Stands k (known_keys rs) → IsSure (r ∷ rs) k) → (u m : Bool) → r.sure ≡ u → has_marked_key keys r ≡ m →
          Stands k (key_first u m r (known_keys rs)) → IsSure (r ∷ rs) k
      at go true false e f h = elim h [ inl is ↦ (inl is, here r rs k is (certain_is r e f)) | inr t ↦ go t ]
      at go true true e f h = go h
      at go false m e f h = go h

  sure_is_known : (rows : List Row) (k : Key) → sure_at rows k ≡ true → Stands k (known_keys rows)
  sure_is_known [] k e = cc
  sure_is_known (r ∷ rs) k e =
      subst (Stands k) (sym (first_is r rs)) (at (λ h. sure_is_known rs k h) (same_key k (key_values keys r)) r.sure (has_marked_key keys r) refl refl refl e)
    where
      skipped : (u m : Bool) → Stands k (known_keys rs) → Stands k (key_first u m r (known_keys rs))
      skipped true false s = inr s
      skipped true true s = s
      skipped false m s = s

      at : (sure_at rs k ≡ true → Stands k (known_keys rs)) → (b u m : Bool) → same_key k (key_values keys r) ≡ b → r.sure ≡ u → has_marked_key keys r ≡ m →
          list_any (is_certain keys) (cond b (r ∷ rows_at (key_values keys) rs k) (rows_at (key_values keys) rs k)) ≡ true → Stands k (key_first u m r (known_keys rs))
      at go false u m f s n h = skipped u m (go h)
      at go true true false f s n h = inl (sym ((key_decides k (key_values keys r)).0 f))
      at go true true true f s n h = go (sym (ap (λ (b : Bool). b || sure_at rs k) (uncertain_by r s n)) ∙ h)
      at go true false m f s n h = go (sym (ap (λ (b : Bool). (b && not (has_marked_key keys r)) || sure_at rs k) s) ∙ h)

  -- ---- keys that pass a test

  filter_ascends : (p : Key → Bool) (ls : List Key) → Ascends ls → Ascends (filter p ls)
  filter_ascends p [] a = tt
  filter_ascends p (l ∷ ls) a = on (p l) (filter_ascends p ls a.1)
    where
      on : (b : Bool) → Ascends (filter p ls) → Ascends (cond b (l ∷ filter p ls) (filter p ls))
      on true rest = (each_filter (Below l) p ls a.0, rest)
      on false rest = rest

  into_filter : (p : Key → Bool) (ls : List Key) (k : Key) → Stands k ls → p k ≡ true → Stands k (filter p ls)
  into_filter p [] k s e = absurd s
  into_filter p (l ∷ ls) k s e = on (p l) refl s (λ h. into_filter p ls k h e)
    where
      wrong : true ≡ false → ⊥
      wrong z = cc

      on : (b : Bool) → p l ≡ b → Stands k (l ∷ ls) → (Stands k ls → Stands k (filter p ls)) → Stands k (cond b (l ∷ filter p ls) (filter p ls))
      on true f h rest = elim h [ inl is ↦ inl is | inr t ↦ inr (rest t) ]
      on false f h rest = elim h [ inl is ↦ absurd (wrong (sym e ∙ (ap p (sym is) ∙ f))) | inr t ↦ rest t ]

  from_filter : (p : Key → Bool) (ls : List Key) (k : Key) → Stands k (filter p ls) → Stands k ls × (p k ≡ true)
  from_filter p [] k s = absurd s
  from_filter p (l ∷ ls) k s = on (p l) refl (λ h. from_filter p ls k h) s
    where
      on : (b : Bool) → p l ≡ b → (Stands k (filter p ls) → Stands k ls × (p k ≡ true)) → Stands k (cond b (l ∷ filter p ls) (filter p ls)) → Stands k (l ∷ ls) × (p k ≡ true)
      on true f rest h = elim h [ inl is ↦ (inl is, ap p (sym is) ∙ f) | inr t ↦ (inr (rest t).0, (rest t).1) ]
      on false f rest h = (inr (rest h).0, (rest h).1)

  -- the keys of what is shown are those of the groups that are sure
  sure_keys : (rows : List Row) → filter (sure_at rows) (ascending (map (key_values keys) rows)) ≡ ascending (known_keys rows)
  sure_keys rows =
      let all = ascending (map (key_values keys) rows) in
      one_list (filter (sure_at rows) all) (ascending (known_keys rows)) (filter_ascends (sure_at rows) all (ascends (map (key_values keys) rows))) (ascends (known_keys rows))
      (λ k s. into_ascending (known_keys rows) k (sure_is_known rows k (from_filter (sure_at rows) all k s).1))
      (λ k s.
      let p = known_is_sure rows k (from_ascending (known_keys rows) k s) in
      into_filter (sure_at rows) all k (into_ascending (map (key_values keys) rows) k p.0) p.1)

-- ---- groups

-- what is shown of a group
abbrev pub show_group : Bool → Group → KnownGroup
show_group uncertain g = record { key = g.key; rows = unless_marked uncertain (map (map known_binding) g.rows) }

-- what is shown of a group that is sure
abbrev pub show_sure : Bool → Group → List KnownGroup
show_sure uncertain g = kept_if g.sure (show_group uncertain g)

rows_known : (columns : List ScopeColumn) (rows : List Row) → map (map known_binding) (bound_rows columns rows) ≡ map (λ r. known_bindings columns r.values) (map shown_row rows)
rows_known columns [] = refl
rows_known columns (r ∷ rs) = let one = binds_known columns r.values in let more = rows_known columns rs in λ i. one i ∷ more i

-- the rows of a key, where each row's key is known
rows_of_key : (keys : Option (List ℕ)) (rows : List Row) (k : Key) → list_any (has_marked_key keys) rows ≡ false →
    filter (λ r. is_key k (shown_key keys r)) (map shown_row rows) ≡ map shown_row (rows_at (key_values keys) rows k)
rows_of_key keys [] k e = refl
rows_of_key keys (r ∷ rs) k e =
    let q = or_parts (has_marked_key keys r) (list_any (has_marked_key keys) rs) e in
    let known : is_key k (shown_key keys (shown_row r)) ≡ same_key k (key_values keys r) =
    ap (is_key k) (key_shown keys r) ∙ ap (λ b. is_key k (unless_marked b (key_values keys r))) q.0 in
    let rest = filter (λ x. is_key k (shown_key keys x)) (map shown_row rs) in
    ap (λ b. cond b (shown_row r ∷ rest) rest) known ∙ on (same_key k (key_values keys r)) (rows_of_key keys rs k q.1)
  where
    on : (b : Bool) → filter (λ x. is_key k (shown_key keys x)) (map shown_row rs) ≡ map shown_row (rows_at (key_values keys) rs k) →
        cond b (shown_row r ∷ filter (λ x. is_key k (shown_key keys x)) (map shown_row rs)) (filter (λ x. is_key k (shown_key keys x)) (map shown_row rs))
        ≡ map shown_row (cond b (r ∷ rows_at (key_values keys) rs k) (rows_at (key_values keys) rs k))
    on true h = ap (λ z. shown_row r ∷ z) h
    on false h = h

module _ (columns : List ScopeColumn) (rel : RelData) (sure : rel.is_open ≡ false → IsTrue (all_sure rel.rows)) where
  -- a group shows its rows where it is certain which they are
  group_shows : (keys : Option (List ℕ)) (k : Key) →
      show_group (is_uncertain keys rel) (group_of columns keys k (rows_at (key_values keys) rel.rows k))
      ≡ shown_group_of columns (shown_uncertain keys (shown_rel rel)) k (filter (λ r. is_key k (shown_key keys r)) (sure_rows rel.rows))
  group_shows keys k =
      at (is_uncertain keys rel) refl
      ∙ ap (λ u. shown_group_of columns u k (filter (λ r. is_key k (shown_key keys r)) (sure_rows rel.rows))) (sym (uncertain_shows keys rel sure))
    where
      at : (u : Bool) → is_uncertain keys rel ≡ u →
          show_group u (group_of columns keys k (rows_at (key_values keys) rel.rows k)) ≡ shown_group_of columns u k (filter (λ r. is_key k (shown_key keys r)) (sure_rows rel.rows))
      at true e = refl
      at false e =
          let q = or_parts rel.is_open (list_any (has_marked_key keys) rel.rows) e in
          let is = rows_known columns (rows_at (key_values keys) rel.rows k)
          ∙ ap (map (λ r. known_bindings columns r.values)) (sym (ap (filter (λ r. is_key k (shown_key keys r))) (all_rows keys rel.rows (sure q.0)) ∙ rows_of_key keys rel.rows k q.1)) in
          λ i. record { key = k; rows = Some (is i) }

  flat_filter : {X Y : Type 0} (p : X → Bool) (f g : X → Y) → ((x : X) → f x ≡ g x) → (xs : List X) → flat_map (λ x. kept_if (p x) (f x)) xs ≡ map g (filter p xs)
  flat_filter p f g same [] = refl
  flat_filter p f g same (x ∷ xs) = on (p x) (flat_filter p f g same xs)
    where
      on : (b : Bool) → flat_map (λ y. kept_if (p y) (f y)) xs ≡ map g (filter p xs) → kept_if b (f x) ++ flat_map (λ y. kept_if (p y) (f y)) xs ≡ map g (cond b (x ∷ filter p xs) (filter p xs))
      on true h = λ i. same x i ∷ h i
      on false h = h

  flat_on_map : {X Y Z : Type 0} (f : Y → List Z) (g : X → Y) (xs : List X) → flat_map f (map g xs) ≡ flat_map (λ x. f (g x)) xs
  flat_on_map f g [] = refl
  flat_on_map f g (x ∷ xs) = ap (λ z. f (g x) ++ z) (flat_on_map f g xs)

  -- the groups that are sure are those of what is shown
  pub keyed_show : (keys : Option (List ℕ)) → flat_map (show_sure (is_uncertain keys rel)) (keyed_groups columns keys rel.rows) ≡ shown_keyed columns keys (shown_rel rel)
  keyed_show keys =
      let at : Key → Group = λ k. group_of columns keys k (rows_at (key_values keys) rel.rows k) in
      let shown : Key → KnownGroup = λ k. shown_group_of columns (shown_uncertain keys (shown_rel rel)) k (filter (λ r. is_key k (shown_key keys r)) (sure_rows rel.rows)) in
      let all = ascending (map (key_values keys) rel.rows) in
      flat_on_map (show_sure (is_uncertain keys rel)) at all
      ∙ (flat_filter (sure_at keys rel.rows) (λ k. show_group (is_uncertain keys rel) (at k)) shown (group_shows keys) all ∙ ap (map shown) (sure_keys keys rel.rows))

pub groups_show : (rel : RelData) → (rel.is_open ≡ false → IsTrue (all_sure rel.rows)) → (places : List ℕ) →
    flat_map (show_sure (is_uncertain (Some places) rel)) (groups rel.columns places rel.rows) ≡ shown_groups places (shown_rel rel)
groups_show rel sure [] =
    at (is_uncertain (Some []) rel) refl
    ∙ ap (λ u. shown_group_of rel.columns u [] (sure_rows rel.rows) ∷ []) (sym (uncertain_shows (Some []) rel sure))
  where
    at : (u : Bool) → is_uncertain (Some []) rel ≡ u → show_group u (whole_group rel.columns rel.rows) ∷ [] ≡ shown_group_of rel.columns u [] (sure_rows rel.rows) ∷ []
    at true e = refl
    at false e =
        let q = or_parts rel.is_open (list_any (has_marked_key (Some [])) rel.rows) e in
        let is = rows_known rel.columns rel.rows ∙ ap (map (λ r. known_bindings rel.columns r.values)) (sym (all_rows (Some []) rel.rows (sure q.0))) in
        λ i. record { key = []; rows = Some (is i) } ∷ []
groups_show rel sure (p ∷ ps) = keyed_show rel.columns rel sure (Some (p ∷ ps))

pub lack_shows : (rel : RelData) → (rel.is_open ≡ false → IsTrue (all_sure rel.rows)) → (places : List ℕ) → may_lack_groups places rel ≡ shown_may_lack places (shown_rel rel)
lack_shows rel sure [] = refl
lack_shows rel sure (p ∷ ps) = sym (uncertain_shows (Some (p ∷ ps)) rel sure)
