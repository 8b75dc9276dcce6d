-- What a join shows.
use Rattle.std.proofs.Common.{◌≡◌, ℕ, zero, suc, Bool, true, false, not, ◌&&◌, ◌||◌, Some, Ok, List, [], ◌∷◌, ◌++◌, map, length, replicate, refl, subst, ap, ◌∙◌, sym, append-nil}
use Rattle.std.specs.Prelude.{is_none, IsTrue}
use Rattle.std.specs.Bool.{⊤}
use Rattle.std.specs.List.{flat_map, list_any}
use Rattle.std.proofs.lemmas.List.{map-append}
use Rattle.std.proofs.Math.Bool.{or-false}
use Rattle.value_types.specs.declared.value.Value.{Value}
use Rattle.value_types.specs.declared.value.Value.TheVariants.{Null}
use Rattle.value_types.specs.declared.row_id.RowId.{Pair}
use Rattle.cell_errors.specs.Seen.{Seen}
use Rattle.dataset_types.specs.declared.picks.Pick.{Pick}
use Rattle.dataset_types.specs.declared.row.Row.{Row}
use Rattle.dataset_types.specs.Tables.{all_sure}
use Rattle.caveat_marks.specs.Shown.{ShownRow, shown_value, shown_row}
use Rattle.expr_lang.specs.declared.expr.Expr.{Expr}
use Rattle.expr_meaning.specs.declared.bindings.ScopeColumn.{ScopeColumn}
use Rattle.expr_meaning.specs.Known.{Known, known}
use Rattle.expr_meaning.specs.Settings.{at_row, known_binding}
use Rattle.expr_meaning.specs.Meaning.{marked_over_row, known_over_row}
use Rattle.expr_meaning.proofs.KnownLaw.{is_known}
use Rattle.relations.specs.declared.batch.Batch.{Batch}
use Rattle.relations.specs.Rels.{RelData, rel_of}
use Rattle.relations.specs.Bound.{bindings}
use Rattle.relations.specs.Batches.{gathered}
use Rattle.relations.specs.Conditions.{kept_if, known_true}
use Rattle.relations.specs.Shown.{SameShown, sure_rows, shown_rel}
use Rattle.relations.proofs.Binds.{binds_known}
use Rattle.relations.proofs.Gathered.{fine, the_same, then_ok, whole_ok, Each, show_row, sure_is, ShowsAs, all_shown}
use Rattle.relations.proofs.Rules.{UnsureOpens, unsure_opens, all_of}
use Rattle.relations.proofs.KeptRows.{row_shows}
use Rattle.relations.proofs.Sames.{same_from}
use Rattle.rel_join.specs.declared.kind.Kind.{Kind}
use Rattle.rel_join.specs.declared.kind.Kind.TheVariants.{Inner, Outer}
use Rattle.rel_join.specs.Join.{few_pairs, paired, pair_row, pairs_of, null_value, alone, or_one, by_kind, left_row, joined_of, all_pairs, shown_paired, known_on, shown_pairs, unknown_on, shown_alone, or_alone, shown_left, shown_joined}
use Rattle.rel_join.specs.Laws.{JoinShows}
use Rattle.rel_join.proofs.JoinRules.{pairs_sure}

-- ---- what is known of ON

module _ (left right : List ScopeColumn) (on : Expr) (picks : List Pick) (cell : ℕ) where
  abbrev on_of : Row → Row → Seen Value
  on_of l r = marked_over_row (bindings left l.values ++ bindings right r.values) picks cell on

  same_on : (l r : Row) → known_on left right on (shown_row l) (shown_row r) ≡ known (on_of l r)
  same_on l r = sym (is_known on (at_row (bindings left l.values ++ bindings right r.values)) picks cell
      ∙ ap (λ row. known_over_row row on)
      (map-append known_binding (bindings left l.values) (bindings right r.values) ∙ rw (binds_known left l.values, binds_known right r.values) refl))

  -- the pair of what is shown, where ON is known to be TRUE
  abbrev pair_of : ShownRow → ShownRow → List ShownRow
  pair_of l r = kept_if (known_true (known_on left right on l r)) (shown_paired l r)

  abbrev unknown : ShownRow → ShownRow → Bool
  unknown l r = is_none (known_on left right on l r)

  same_pair : (l r : Row) → pair_of (shown_row l) (shown_row r) ≡ kept_if (known_true (known (on_of l r))) (shown_row (paired l r))
  same_pair l r = rw (map-append shown_value l.values r.values)
      (ap (λ k. kept_if (known_true k) (record { id = Pair l.id r.id; values = map shown_value l.values ++ map shown_value r.values })) (same_on l r))

  module _ (is_open : Bool) (l : Row) where
    -- one pair of a sure left row
    sure_pair : l.sure ≡ true → (r : Row) (b : Batch) → UnsureOpens is_open r → pair_row left right on picks cell l r ≡ Ok b →
        ShowsAs is_open (pair_row left right on picks cell l) show_row (pair_of (shown_row l)) (unknown (shown_row l)) b (show_row r)
    sure_pair k r b u e =
        let s : (l.sure && r.sure) ≡ r.sure = rw k refl in
        let w = row_shows is_open (pair_of (shown_row l)) (unknown (shown_row l)) (shown_row r) (paired l r) (on_of l r) b
        (same_pair l r) (ap (λ (z : Known Value). is_none z) (same_on l r)) (λ z. u (sym s ∙ z)) e in
        subst (λ z. (sure_rows b.rows ≡ flat_map (pair_of (shown_row l)) (kept_if z (shown_row r)))
        × (is_open || b.marked ≡ is_open || list_any (unknown (shown_row l)) (kept_if z (shown_row r)))) s w

    sure_pairs : l.sure ≡ true → (rs : List Row) (b : Batch) → Each (UnsureOpens is_open) rs → pairs_of left right on picks cell rs l ≡ Ok b →
        (sure_rows b.rows ≡ shown_pairs left right on (sure_rows rs) (shown_row l)) × (is_open || b.marked ≡ is_open || unknown_on left right on (sure_rows rs) (shown_row l))
    sure_pairs k rs b u e =
        let w = all_shown is_open (pair_row left right on picks cell l) show_row (pair_of (shown_row l)) (unknown (shown_row l)) (UnsureOpens is_open) (sure_pair k) rs b u e in
        (w.0 ∙ ap (flat_map (pair_of (shown_row l))) (sym (sure_is rs)), w.1 ∙ ap (λ z. is_open || list_any (unknown (shown_row l)) z) (sym (sure_is rs)))

    -- an unsure left row shows nothing
    unsure_pair : l.sure ≡ false → (r : Row) (b : Batch) → ⊤ → pair_row left right on picks cell l r ≡ Ok b → sure_rows b.rows ≡ []
    unsure_pair k r b u e =
        let w = row_shows true (pair_of (shown_row l)) (unknown (shown_row l)) (shown_row r) (paired l r) (on_of l r) b
        (same_pair l r) (ap (λ (z : Known Value). is_none z) (same_on l r)) (λ z. refl) e in
        w.0 ∙ rw k refl

    unsure_pairs : l.sure ≡ false → (rs : List Row) (b : Batch) → pairs_of left right on picks cell rs l ≡ Ok b → sure_rows b.rows ≡ []
    unsure_pairs k rs b e =
        (all_shown true (pair_row left right on picks cell l) none_of (pair_of (shown_row l)) (λ x. false) (λ r. ⊤) (λ r c u q. (unsure_pair k r c u q, refl)) rs b (always rs) e).0
        ∙ nothing rs
      where
        none_of : Row → List ShownRow
        none_of r = []

        always : (xs : List Row) → Each (λ r. ⊤) xs
        always [] = tt
        always (x ∷ xs) = (tt, always xs)

        nothing : (xs : List Row) → flat_map (pair_of (shown_row l)) (flat_map none_of xs) ≡ []
        nothing [] = refl
        nothing (x ∷ xs) = nothing xs

-- ---- LEFT JOIN

nulls_shown : (n : ℕ) → map shown_value (replicate n null_value) ≡ replicate n (Some Null)
nulls_shown zero = refl
nulls_shown (suc n) = ap (λ z. Some Null ∷ z) (nulls_shown n)

alone_shows : (width : ℕ) (right_open marked : Bool) (l : Row) → shown_row (alone width right_open marked l) ≡ shown_alone width (shown_row l)
alone_shows width right_open marked l = rw (map-append shown_value l.values (replicate width null_value), nulls_shown width) refl

certain_same : (right_open m n : Bool) → (right_open ≡ false → m ≡ n) → (not right_open && not m) ≡ (not right_open && not n)
certain_same true m n e = refl
certain_same false m n e = ap not (e refl)

certain_parts : (right_open m : Bool) → (not right_open && not m) ≡ true → (right_open ≡ false) × (m ≡ false)
certain_parts true m e = cc
certain_parts false true e = cc
certain_parts false false e = (refl, refl)

-- rows that are all sure are all shown
all_there : (rows : List Row) → IsTrue (all_sure rows) → sure_rows rows ≡ [] → rows ≡ []
all_there [] h e = refl
all_there (r ∷ rows) h e = absurd (by r.sure refl (sym (sure_is (r ∷ rows)) ∙ e) h)
  where
    by : (s : Bool) → r.sure ≡ s → kept_if r.sure (shown_row r) ++ flat_map show_row rows ≡ [] → (r.sure && all_sure rows) ≡ true → ⊥
    by true k n h = let there : shown_row r ∷ flat_map show_row rows ≡ [] = sym (ap (λ z. kept_if z (shown_row r) ++ flat_map show_row rows) k) ∙ n in cc
    by false k n h = let no : false ≡ true = sym (ap (λ z. z && all_sure rows) k) ∙ h in cc

one_shown : (r : Row) → sure_rows (r ∷ []) ≡ kept_if r.sure (shown_row r)
one_shown r = sure_is (r ∷ []) ∙ append-nil (kept_if r.sure (shown_row r))

-- the rows that were found, or else the left row alone
outer_sure : (width : ℕ) (right_open marked : Bool) (l : Row) (rows : List Row) (P : List ShownRow) → l.sure ≡ true → sure_rows rows ≡ P →
    ((not right_open && not marked) ≡ true → P ≡ [] → rows ≡ []) →
    sure_rows (or_one rows (alone width right_open marked l)) ≡ or_alone P (not right_open && not marked) (shown_alone width (shown_row l))
outer_sure width right_open marked l [] P k e h =
    one_shown (alone width right_open marked l)
    ∙ (ap (λ s. kept_if (s && (not right_open && not marked)) (shown_row (alone width right_open marked l))) k
    ∙ (ap (kept_if (not right_open && not marked)) (alone_shows width right_open marked l)
    ∙ ap (λ (Q : List ShownRow). or_alone Q (not right_open && not marked) (shown_alone width (shown_row l))) e))
outer_sure width right_open marked l (r ∷ rs) P k e h = e ∙ rest P (not right_open && not marked) h
  where
    rest : (Q : List ShownRow) (c : Bool) → (c ≡ true → Q ≡ [] → (r ∷ rs) ≡ []) → Q ≡ or_alone Q c (shown_alone width (shown_row l))
    rest [] true n = absurd (let none = n refl refl in cc)
    rest [] false n = refl
    rest (q ∷ qs) c n = refl

outer_unsure : (width : ℕ) (right_open marked : Bool) (l : Row) (rows : List Row) → l.sure ≡ false → sure_rows rows ≡ [] → sure_rows (or_one rows (alone width right_open marked l)) ≡ []
outer_unsure width right_open marked l [] k e =
    one_shown (alone width right_open marked l) ∙ ap (λ s. kept_if (s && (not right_open && not marked)) (shown_row (alone width right_open marked l))) k
outer_unsure width right_open marked l (r ∷ rs) k e = e

-- ---- one left row

module _ (left : List ScopeColumn) (b : RelData) (on : Expr) (picks : List Pick) (cell : ℕ) (is_open : Bool)
    (sides : b.is_open ≡ false → IsTrue (all_sure b.rows)) (own : Each (UnsureOpens is_open) b.rows) where
  abbrev rows_of : Kind → ShownRow → List ShownRow
  rows_of kind = shown_left kind left (shown_rel b) on

  abbrev mark_of : ShownRow → Bool
  mark_of = unknown_on left b.columns on (sure_rows b.rows)

  abbrev ShowsLeft : Kind → Batch → Row → Bool → Type 0
  ShowsLeft kind out l s = (sure_rows out.rows ≡ flat_map (rows_of kind) (kept_if s (shown_row l))) × (is_open || out.marked ≡ is_open || list_any mark_of (kept_if s (shown_row l)))

  step_shows : (kind : Kind) (l : Row) (m : Batch) (s : Bool) → l.sure ≡ s → (s ≡ false → is_open ≡ true) → pairs_of left b.columns on picks cell b.rows l ≡ Ok m →
      ShowsLeft kind (by_kind kind (length b.columns) b.is_open l m) l s
  step_shows Inner l m false k u e = (unsure_pairs left b.columns on picks cell is_open l k b.rows m e, rw (u refl) refl)
  step_shows Outer l m false k u e =
      (outer_unsure (length b.columns) b.is_open m.marked l m.rows k (unsure_pairs left b.columns on picks cell is_open l k b.rows m e), rw (u refl) refl)
  step_shows Inner l m true k u e =
      let q = sure_pairs left b.columns on picks cell is_open l k b.rows m own e in
      (q.0 ∙ sym (append-nil _), q.1 ∙ ap (λ z. is_open || z) (sym (or-false (mark_of (shown_row l)))))
  step_shows Outer l m true k u e =
      let q = sure_pairs left b.columns on picks cell is_open l k b.rows m own e in
      let r = sure_pairs left b.columns on picks cell b.is_open l k b.rows m (unsure_opens b.is_open b.rows sides) e in
      let found = shown_pairs left b.columns on (sure_rows b.rows) (shown_row l) in (
        outer_sure (length b.columns) b.is_open m.marked l m.rows found k q.0
            (λ c n.
            let p = certain_parts b.is_open m.marked c in
            all_there m.rows (pairs_sure left b on picks cell (all_of (λ x. x.sure) b.rows (sides p.0)) l k m e p.1) (q.0 ∙ n))
            ∙ (ap (λ c. or_alone found c (shown_alone (length b.columns) (shown_row l)))
            (certain_same b.is_open m.marked (mark_of (shown_row l)) (λ o. subst (λ z. z || m.marked ≡ z || mark_of (shown_row l)) o r.1))
            ∙ sym (append-nil _)),
        q.1 ∙ ap (λ z. is_open || z) (sym (or-false (mark_of (shown_row l)))),
      )

  left_shows : (kind : Kind) (l : Row) (out : Batch) → UnsureOpens is_open l → left_row kind left b on picks cell l ≡ Ok out →
      ShowsAs is_open (left_row kind left b on picks cell) show_row (rows_of kind) mark_of out (show_row l)
  left_shows kind l out u e =
      let p = then_ok (pairs_of left b.columns on picks cell b.rows l) (λ m. fine (by_kind kind (length b.columns) b.is_open l m)) out e in
      subst (λ z. ShowsLeft kind z l l.sure) (the_same (by_kind kind (length b.columns) b.is_open l p.0) out p.2) (step_shows kind l p.0 l.sure refl u p.1)

-- ---- the whole

opens_too : (is_open more : Bool) (sure : Bool) → (sure ≡ false → is_open ≡ true) → sure ≡ false → (is_open || more) ≡ true
opens_too is_open more sure u k = rw (u k) refl

or_right : (a b : Bool) → b ≡ true → a || b ≡ true
or_right true b e = refl
or_right false b e = e

each_opens : (a b : Bool) → (a ≡ true → b ≡ true) → (rows : List Row) → Each (UnsureOpens a) rows → Each (UnsureOpens b) rows
each_opens a b f [] e = tt
each_opens a b f (r ∷ rows) e = (λ k. f (e.0 k), each_opens a b f rows e.1)

pub join_shows : (kind : Kind) (on : Expr) → JoinShows kind on
join_shows kind on a b out picks cell is too e =
    let is_open = a.is_open || b.is_open in
    let step = left_row kind a.columns b on picks cell in
    let mine = each_opens a.is_open (a.is_open || b.is_open) (λ k. rw k refl) a.rows (unsure_opens a.is_open a.rows is.rules.sure) in
    let own = each_opens b.is_open (a.is_open || b.is_open) (or_right a.is_open b.is_open) b.rows (unsure_opens b.is_open b.rows too.rules.sure) in
    let p = then_ok (few_pairs (length a.rows) (length b.rows)) (λ u. all_pairs kind a b on picks cell) out e in
    let q = then_ok (gathered step a.rows) (joined_of a b) out p.2 in
    let made = rows_of a.columns b on picks cell (a.is_open || b.is_open) too.rules.sure own kind in
    let mark = mark_of a.columns b on picks cell (a.is_open || b.is_open) too.rules.sure own in
    let s = all_shown (a.is_open || b.is_open) step show_row made mark (UnsureOpens (a.is_open || b.is_open))
    (left_shows a.columns b on picks cell (a.is_open || b.is_open) too.rules.sure own kind) a.rows q.0 mine q.1 in
    let rows : sure_rows q.0.rows ≡ flat_map made (sure_rows a.rows) = s.0 ∙ ap (flat_map made) (sym (sure_is a.rows)) in
    let opens : ((a.is_open || b.is_open) || q.0.marked) ≡ ((a.is_open || b.is_open) || list_any mark (sure_rows a.rows)) =
    s.1 ∙ ap (λ z. (a.is_open || b.is_open) || list_any mark z) (sym (sure_is a.rows)) in
    subst (λ z. SameShown (shown_rel z) (shown_joined kind (shown_rel a) (shown_rel b) on)) (whole_ok _ out q.2)
    (same_from (shown_rel (rel_of (a.columns ++ b.columns) q.0.rows ((a.is_open || b.is_open) || q.0.marked) (a.is_loose || b.is_loose))) (shown_joined kind (shown_rel a) (shown_rel b) on)
    (λ i. record { columns = a.columns ++ b.columns; rows = rows i; is_open = opens i; is_loose = a.is_loose || b.is_loose }))
