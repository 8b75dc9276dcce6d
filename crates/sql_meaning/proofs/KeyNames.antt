-- A name that stands for a key column among columns of which others stand twice stands for it among the key columns alone.
use Rattle.std.proofs.Common.{◌≡◌, ℕ, zero, suc, ◌+◌, ◌-◌, ◌<◌, ◌≤◌, Bool, true, false, not, ◌&&◌, ◌||◌, Option, Some, None, Ok, List, [], ◌∷◌, ◌++◌, length, refl, sym, ap, ◌∙◌, subst, arith, inl, inr, ◌⊎◌}
use Rattle.std.specs.Prelude.{◌==◌, nat_le, slice_get, filter}
use Rattle.std.specs.List.{flat_map, list_any}
use Rattle.std.proofs.lemmas.Bool.Decides.{Decides-eqb, nat_tests}
use Rattle.std.proofs.lemmas.List.Folds.{list_any-append}
use Rattle.std.proofs.Math.Bool.{or-false, or-true}
use Rattle.cell_errors.specs.Answers.{Answer, and_then}
use Rattle.expr_lang.specs.declared.expr.Expr.{Expr}
use Rattle.expr_meaning.specs.declared.bindings.ScopeColumn.{ScopeColumn}
use Rattle.expr_meaning.specs.declared.expr_type.ExprType.TheVariants.{Of}
use Rattle.expr_meaning.specs.Names.{Name, is_match, at_most_one, matching, or_no_column, or_any}
use Rattle.expr_meaning.specs.Types.{find_column, column_type, type_at}
use Rattle.relations.specs.declared.parts.Item.{Item}
use Rattle.relations.specs.Conditions.{kept_if}
use Rattle.relations.specs.Places.{placed_from}
use Rattle.relations.proofs.Gathered.{then_ok, Each}
use Rattle.rel_ops.specs.Project.{item_columns}
use Rattle.rel_group.specs.Keys.{is_place, are_places, items_at, once_after}
use Rattle.rel_group.specs.Groups as groups
use Rattle.rel_group.specs.Laws.{IsTyped}
use Rattle.sql_plan.specs.Conditions.{where_condition, some_condition_checked}
use Rattle.sql_plan.specs.Groups.{is_key, once_or_twice, columns_at, key_columns, grouped_setting}
use Rattle.sql_plan.proofs.Refining.{Below, type_kept, items_kept}

-- ---- columns of which one alone passes a test

module _ (f : ScopeColumn → Bool) (keys : List ℕ) where
  abbrev doubled : ℕ → List ScopeColumn → List ScopeColumn
  doubled n cs = flat_map (columns_at keys) (placed_from n cs)

  none_here : (b : Bool) (c : ScopeColumn) (rest : List ScopeColumn) → filter f (once_or_twice b c ++ rest) ≡ [] → (f c ≡ false) × (filter f rest ≡ [])
  none_here true c rest e = by (f c) refl
    where
      by : (t : Bool) → f c ≡ t → (f c ≡ false) × (filter f rest ≡ [])
      by true is = cc (rw is at e)
      by false is = (is, rw is at e)
  none_here false c rest e = by (f c) refl
    where
      by : (t : Bool) → f c ≡ t → (f c ≡ false) × (filter f rest ≡ [])
      by true is = cc (rw is at e)
      by false is = (is, rw is at e)

  -- where none passes among all, none of them passes
  none_at : (n : ℕ) (cs : List ScopeColumn) → filter f (doubled n cs) ≡ [] → (k : ℕ) (x : ScopeColumn) → slice_get cs k ≡ Some x → f x ≡ false
  none_at n [] e k x is = cc
  none_at n (c ∷ cs) e zero x is =
      let same : c ≡ x = cc in
      subst (λ z. f z ≡ false) same (none_here (is_key keys n) c (doubled (n + 1) cs) e).0
  none_at n (c ∷ cs) e (suc k) x is = none_at (n + 1) cs (none_here (is_key keys n) c (doubled (n + 1) cs) e).1 k x is

  record Here (b : Bool) (c : ScopeColumn) (rest : List ScopeColumn) (x : ScopeColumn) : Type 0 where
    key : b ≡ true
    asked : f c ≡ true
    same : c ≡ x
    none : filter f rest ≡ []

  one_here : (b : Bool) (c : ScopeColumn) (rest : List ScopeColumn) (x : ScopeColumn) → filter f (once_or_twice b c ++ rest) ≡ x ∷ [] →
      Here b c rest x ⊎ ((f c ≡ false) × (filter f rest ≡ x ∷ []))
  one_here true c rest x e = by (f c) refl
    where
      by : (t : Bool) → f c ≡ t → Here true c rest x ⊎ ((f c ≡ false) × (filter f rest ≡ x ∷ []))
      by true is = let h = rw is at e in let same : c ≡ x = cc in let none : filter f rest ≡ [] = cc in inl (record { key = refl; asked = is; same = same; none = none })
      by false is = inr (is, rw is at e)
  one_here false c rest x e = by (f c) refl
    where
      by : (t : Bool) → f c ≡ t → Here false c rest x ⊎ ((f c ≡ false) × (filter f rest ≡ x ∷ []))
      by true is = cc (rw is at e)
      by false is = inr (is, rw is at e)

  -- the one that passes is a key, and no other passes
  record One (n : ℕ) (cs : List ScopeColumn) (c : ScopeColumn) : Type 0 where
    at : ℕ
    there : slice_get cs at ≡ Some c
    asked : f c ≡ true
    key : is_key keys (n + at) ≡ true
    only : (j : ℕ) (x : ScopeColumn) → slice_get cs j ≡ Some x → f x ≡ true → j ≡ at

  first_only : (c : ScopeColumn) (n : ℕ) (cs : List ScopeColumn) → filter f (doubled n cs) ≡ [] → (j : ℕ) (x : ScopeColumn) → slice_get (c ∷ cs) j ≡ Some x → f x ≡ true → j ≡ 0
  first_only c n cs none zero x is p = refl
  first_only c n cs none (suc j) x is p = let wrong = none_at n cs none j x is in cc

  later_only : (c : ScopeColumn) (n : ℕ) (cs : List ScopeColumn) (at : ℕ) → f c ≡ false → ((j : ℕ) (x : ScopeColumn) → slice_get cs j ≡ Some x → f x ≡ true → j ≡ at) →
      (j : ℕ) (x : ScopeColumn) → slice_get (c ∷ cs) j ≡ Some x → f x ≡ true → j ≡ suc at
  later_only c n cs at not_c only zero x is p = let same : c ≡ x = cc in cc (subst (λ z. f z ≡ false) same not_c)
  later_only c n cs at not_c only (suc j) x is p = ap suc (only j x is p)

  start : (n : ℕ) → n ≡ n + 0
  start n = omega arith

  one_at : (n : ℕ) (cs : List ScopeColumn) (c : ScopeColumn) → filter f (doubled n cs) ≡ c ∷ [] → One n cs c
  one_at n [] c e = cc
  one_at n (d ∷ cs) c e = elim (one_here (is_key keys n) d (doubled (n + 1) cs) c e) [
    | inl h ↦ record {
      at = 0;
      there = ap Some h.same;
      asked = subst (λ z. f z ≡ true) h.same h.asked;
      key = subst (λ m. is_key keys m ≡ true) (start n) h.key;
      only = first_only d (n + 1) cs h.none;
    }
    | inr h ↦
        let r = one_at (n + 1) cs c h.1 in
        let more : n + 1 + r.at ≡ n + suc r.at = omega arith in
        record {
          at = suc r.at;
          there = r.there;
          asked = r.asked;
          key = subst (λ m. is_key keys m ≡ true) more r.key;
          only = later_only d n cs r.at h.0 r.only;
        }
  ]

  -- ---- among the key columns, each once

  parts : (a b : Bool) → a && b ≡ true → (a ≡ true) × (b ≡ true)
  parts true b e = (refl, e)
  parts false b e = cc

  -- the column at a place
  column_at : (columns : List ScopeColumn) (p : ℕ) → is_place columns p ≡ true → (x : ScopeColumn) × (slice_get columns (p - 1) ≡ Some x) × (1 ≤ p)
  column_at columns p e = let h = parts (nat_le 1 p) (nat_le p (length columns)) e in within columns (p - 1) (grind (arith, nat_tests)) (grind (arith, nat_tests))
    where
      within : (cs : List ScopeColumn) (k : ℕ) → k < length cs → 1 ≤ p → (x : ScopeColumn) × (slice_get cs k ≡ Some x) × (1 ≤ p)
      within [] k lt low = absurd (omega (arith, lt))
      within (c ∷ cs) zero lt low = (c, refl, low)
      within (c ∷ cs) (suc k) lt low = within cs k (omega (arith, lt)) low

  -- one of these is that place
  abbrev is_in : List ℕ → ℕ → Bool
  is_in ps p = list_any (λ q. q == p) ps

  nothing_kept : (b : Bool) → not b && false ≡ false
  nothing_kept true = refl
  nothing_kept false = refl

  module _ (columns : List ScopeColumn) (c : ScopeColumn) (p : ℕ) (there : slice_get columns (p - 1) ≡ Some c) (asked : f c ≡ true)
      (only : (q : ℕ) (x : ScopeColumn) → 1 ≤ q → slice_get columns (q - 1) ≡ Some x → f x ≡ true → q ≡ p) where
    abbrev rest_at : List ℕ → List ℕ → List ScopeColumn
    rest_at earlier qs = once_after earlier qs (items_at qs columns)

    abbrev Rest : List ℕ → List ℕ → Type 0
    Rest earlier qs = filter f (rest_at earlier qs) ≡ kept_if (not (is_in earlier p) && is_in qs p) c

    abbrev More : List ℕ → List ℕ → ℕ → ScopeColumn → Type 0
    More earlier qs q x =
        filter f (kept_if (not (is_in earlier q)) x ++ rest_at (earlier ++ q ∷ []) qs) ≡ kept_if (not (is_in earlier p) && ((q == p) || is_in qs p)) c

    itself : (p == p) ≡ true
    itself = (Decides-eqb p p).1 refl

    -- the key itself: no later one is kept
    own_key : (earlier qs : List ℕ) → Rest (earlier ++ p ∷ []) qs → More earlier qs p c
    own_key earlier qs rest =
        let last : is_in (earlier ++ p ∷ []) p ≡ true = list_any-append (λ q. q == p) earlier (p ∷ []) ∙ (ap (λ b. is_in earlier p || (b || false)) itself ∙ or-true (is_in earlier p)) in
        let none : filter f (rest_at (earlier ++ p ∷ []) qs) ≡ [] = rest ∙ ap (λ b. kept_if (not b && is_in qs p) c) last in
        rw itself (by (is_in earlier p) (rest_at (earlier ++ p ∷ []) qs) none)
      where
        by : (b : Bool) (xs : List ScopeColumn) → filter f xs ≡ [] → filter f (kept_if (not b) c ++ xs) ≡ kept_if (not b && true) c
        by true xs none = none
        by false xs none = rw (asked, none) refl

    -- another one, whose column doesn't pass
    other_key : (earlier qs : List ℕ) (q : ℕ) (x : ScopeColumn) → (q == p) ≡ false → f x ≡ false → Rest (earlier ++ q ∷ []) qs → More earlier qs q x
    other_key earlier qs q x apart not_x rest =
        let same : is_in (earlier ++ q ∷ []) p ≡ is_in earlier p = list_any-append (λ z. z == p) earlier (q ∷ []) ∙ (ap (λ b. is_in earlier p || (b || false)) apart ∙ or-false (is_in earlier p)) in
        let kept : filter f (rest_at (earlier ++ q ∷ []) qs) ≡ kept_if (not (is_in earlier p) && is_in qs p) c = rest ∙ ap (λ b. kept_if (not b && is_in qs p) c) same in
        rw apart (by (not (is_in earlier q)) (rest_at (earlier ++ q ∷ []) qs) ∙ kept)
      where
        by : (b : Bool) (xs : List ScopeColumn) → filter f (kept_if b x ++ xs) ≡ filter f xs
        by true xs = rw not_x refl
        by false xs = refl

    not_asked : (q : ℕ) (x : ScopeColumn) → (q == p) ≡ false → 1 ≤ q → slice_get columns (q - 1) ≡ Some x → (t : Bool) → f x ≡ t → t ≡ false
    not_asked q x apart low is true asks = let same = (Decides-eqb q p).1 (only q x low is asks) in cc
    not_asked q x apart low is false asks = refl

    one_more : (earlier qs : List ℕ) (q : ℕ) (x : ScopeColumn) → slice_get columns (q - 1) ≡ Some x → 1 ≤ q → Rest (earlier ++ p ∷ []) qs → Rest (earlier ++ q ∷ []) qs →
        (t : Bool) → (q == p) ≡ t → More earlier qs q x
    one_more earlier qs q x is low own other true same =
        let e : q ≡ p = (Decides-eqb q p).0 same in
        let there_too : slice_get columns (q - 1) ≡ Some c = subst (λ z. slice_get columns (z - 1) ≡ Some c) (sym e) there in
        let column : x ≡ c = cc in
        subst (λ z. More earlier qs z x) (sym e) (subst (More earlier qs p) (sym column) (own_key earlier qs own))
    one_more earlier qs q x is low own other false apart = other_key earlier qs q x apart (not_asked q x apart low is (f x) refl) other

    one_key : (earlier ps : List ℕ) → are_places columns ps ≡ true → Rest earlier ps
    one_key earlier [] are = rw (nothing_kept (is_in earlier p)) refl
    one_key earlier (q ∷ qs) are =
        let h = parts (is_place columns q) (are_places columns qs) are in
        let x = column_at columns q h.0 in
        rw x.1 (one_more earlier qs q x.0 x.1 x.2 (one_key (earlier ++ p ∷ []) qs h.1) (one_key (earlier ++ q ∷ []) qs h.1) (q == p) refl)

  -- where no column passes, no key column does
  none_once : (earlier ps : List ℕ) (xs : List ScopeColumn) → Each (λ x. f x ≡ false) xs → filter f (once_after earlier ps xs) ≡ []
  none_once earlier [] xs none = refl
  none_once earlier (p ∷ ps) [] none = refl
  none_once earlier (p ∷ ps) (x ∷ xs) none = by (not (is_in earlier p)) (once_after (earlier ++ p ∷ []) ps xs) none.0 (none_once (earlier ++ p ∷ []) ps xs none.1)
    where
      by : (b : Bool) (ys : List ScopeColumn) → f x ≡ false → filter f ys ≡ [] → filter f (kept_if b x ++ ys) ≡ []
      by true ys fails rest = rw fails rest
      by false ys fails rest = rest

  none_items : (columns : List ScopeColumn) → ((k : ℕ) (x : ScopeColumn) → slice_get columns k ≡ Some x → f x ≡ false) → (ps : List ℕ) → Each (λ x. f x ≡ false) (items_at ps columns)
  none_items columns none [] = tt
  none_items columns none (p ∷ ps) = by (slice_get columns (p - 1)) refl (none_items columns none ps)
    where
      by : (o : Option ScopeColumn) → slice_get columns (p - 1) ≡ o → Each (λ x. f x ≡ false) (items_at ps columns) → Each (λ x. f x ≡ false) (items_at (p ∷ ps) columns)
      by None is rest = rw is rest
      by (Some x) is rest = rw is (none (p - 1) x is, rest)

  -- ---- so the one that passes among the doubled columns is the one among the keys

  module _ (columns : List ScopeColumn) (are : are_places columns keys ≡ true) where
    pub none_kept : filter f (key_columns columns keys) ≡ [] → filter f (groups.key_columns columns keys) ≡ []
    none_kept e = none_once [] keys (items_at keys columns) (none_items columns (none_at 1 columns e) keys)

    pub one_kept : (c : ScopeColumn) → filter f (key_columns columns keys) ≡ c ∷ [] → filter f (groups.key_columns columns keys) ≡ c ∷ []
    one_kept c e =
        let r = one_at 1 columns c e in
        let only = λ (q : ℕ) (x : ScopeColumn) (low : 1 ≤ q) (is : slice_get columns (q - 1) ≡ Some x) (asks : f x ≡ true). placed_once q (r.at) low (r.only (q - 1) x is asks) in
        one_key columns c (1 + r.at) (subst (λ k. slice_get columns k ≡ Some c) (back r.at) r.there) r.asked only [] keys are
        ∙ ap (λ b. kept_if b c) r.key
      where
        placed_once : (q at : ℕ) → 1 ≤ q → q - 1 ≡ at → q ≡ 1 + at
        placed_once q at low e = omega arith

        back : (at : ℕ) → at ≡ 1 + at - 1
        back at = omega arith

-- ---- names

module _ (columns : List ScopeColumn) (keys : List ℕ) (are : are_places columns keys ≡ true) where
  abbrev D : List ScopeColumn
  D = key_columns columns keys

  abbrev K : List ScopeColumn
  K = groups.key_columns columns keys

  abbrev asks : Bool → Option Name → Name → ScopeColumn → Bool
  asks free p name c = is_match free p name c.qualifier c.column.name

  at_most_none : (xs : List ScopeColumn) → at_most_one xs ≡ Ok None → xs ≡ []
  at_most_none [] e = refl
  at_most_none (x ∷ []) e = cc
  at_most_none (x ∷ y ∷ xs) e = cc

  at_most_some : (xs : List ScopeColumn) (c : ScopeColumn) → at_most_one xs ≡ Ok (Some c) → xs ≡ c ∷ []
  at_most_some [] c e = cc
  at_most_some (x ∷ []) c e = let same : x ≡ c = cc in ap (λ z. z ∷ []) same
  at_most_some (x ∷ y ∷ xs) c e = cc

  abbrev found : Bool → Option Name → Name → List ScopeColumn → Answer (Option ScopeColumn)
  found free p name xs = matching (λ (c : ScopeColumn). c.qualifier) (λ (c : ScopeColumn). c.column.name) free p name xs

  matching_kept : (free : Bool) (p : Option Name) (name : Name) (o : Option ScopeColumn) → found free p name D ≡ Ok o → found free p name K ≡ Ok o
  matching_kept free p name None e = ap at_most_one (none_kept (asks free p name) keys columns are (at_most_none (filter (asks free p name) D) e))
  matching_kept free p name (Some c) e = ap at_most_one (one_kept (asks free p name) keys columns are c (at_most_some (filter (asks free p name) D) c e))

  abbrev none_is : Option ScopeColumn → Answer ScopeColumn
  none_is = or_no_column (λ (c : ScopeColumn). c.qualifier) (λ (c : ScopeColumn). c.column.name)

  abbrev any_in : Name → List ScopeColumn → Option ScopeColumn → Answer ScopeColumn
  any_in = or_any (λ (c : ScopeColumn). c.qualifier) (λ (c : ScopeColumn). c.column.name)

  written_kept : (p : Option Name) (name : Name) (c : ScopeColumn) → and_then (found false p name D) none_is ≡ Ok c → and_then (found false p name K) none_is ≡ Ok c
  written_kept p name c e =
      let h = then_ok (found false p name D) none_is c e in
      rw (matching_kept false p name h.0 h.1) h.2

  bare_kept : (name : Name) (c : ScopeColumn) (o : Option ScopeColumn) → any_in name D o ≡ Ok c → any_in name K o ≡ Ok c
  bare_kept name c None e = written_kept None name c e
  bare_kept name c (Some d) e = e

  column_kept : (p : Option Name) (name : Name) → Below (find_column D p name) (find_column K p name)
  column_kept None name c e =
      let h = then_ok (found true None name D) (any_in name D) c e in
      rw (matching_kept true None name h.0 h.1) (bare_kept name c h.0 h.2)
  column_kept (Some q) name c e = written_kept (Some q) name c e

  names_kept : (p : Option Name) (name : Name) → Below (column_type D p name) (column_type K p name)
  names_kept p name t e =
      let h = then_ok (find_column D p name) (λ c. Ok (Of c.column.kind)) t e in
      rw (column_kept p name h.0 h.1) h.2

  -- the output columns of a grouped core are those of its groups
  pub outputs_kept : (items : List Item) → Below (item_columns (grouped_setting columns keys) items) (item_columns (groups.group_types columns keys) items)
  outputs_kept items = items_kept (grouped_setting columns keys) (groups.group_types columns keys) refl names_kept items

  -- HAVING has a type among the groups
  pub having_kept : (having : Option Expr) (u : Unit {0}) → some_condition_checked (grouped_setting columns keys) having ≡ Ok u → IsTyped (groups.group_types columns keys) having
  having_kept None u e = tt
  having_kept (Some condition) u e =
      let h = then_ok (type_at (grouped_setting columns keys) condition) where_condition u e in
      (h.0, type_kept (grouped_setting columns keys) (groups.group_types columns keys) refl names_kept condition h.0 h.1)
