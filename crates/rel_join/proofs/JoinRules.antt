-- The rows of a join follow the rules of a relation.
use Rattle.std.proofs.Common.{◌≡◌, ℕ, zero, suc, Bool, true, false, not, ◌&&◌, ◌||◌, Some, Ok, List, [], ◌∷◌, ◌++◌, map, length, replicate, refl, subst, ap, ◌∙◌, sym, inl, inr, arith, length-append}
use Rattle.std.specs.Prelude.{IsTrue, ◌==◌}
use Rattle.std.specs.List.{list_all, Contains}
use Rattle.std.proofs.lemmas.List.{map-append}
use Rattle.std.proofs.lemmas.List.Elements.{Contains-append_right}
use Rattle.value_types.specs.declared.row_id.RowId.{RowId, Pair, Alone}
use Rattle.cell_errors.specs.Answers.{Answer}
use Rattle.cell_errors.specs.Seen.{Seen}
use Rattle.value_types.specs.declared.value.Value.{Value}
use Rattle.dataset_types.specs.declared.column.Column.{Column}
use Rattle.dataset_types.specs.declared.picks.Pick.{Pick}
use Rattle.dataset_types.specs.declared.row.Marked.{Marked}
use Rattle.dataset_types.specs.declared.row.Row.{Row}
use Rattle.dataset_types.specs.Tables.{Distinct, row_ids, fits, values_fit, row_fits, all_sure}
use Rattle.dataset_types.proofs.TableLemmas.{empty_contains, Contains-cases, Distinct-append, Distinct-map}
use Rattle.expr_lang.specs.declared.expr.Expr.{Expr}
use Rattle.expr_meaning.specs.declared.bindings.ScopeColumn.{ScopeColumn}
use Rattle.expr_meaning.specs.Meaning.{marked_over_row}
use Rattle.relations.specs.declared.batch.Batch.{Batch}
use Rattle.relations.specs.Rels.{RelData, rel_of, bare_columns, column_key, column_keys, KeepsRules, IsRel}
use Rattle.relations.specs.Bound.{bindings}
use Rattle.relations.specs.Batches.{both, gathered}
use Rattle.relations.proofs.Gathered.{fine, the_same, then_ok, all_gathered, Each}
use Rattle.relations.proofs.Rules.{HasOnly, or_parts, all_of, all_pass, all_pass_unmarked, ids_distinct}
use Rattle.relations.proofs.KeptRows.{kept_has_only, kept_fits, kept_sure}
use Rattle.rel_join.specs.declared.kind.Kind.{Kind}
use Rattle.rel_join.specs.declared.kind.Kind.TheVariants.{Inner, Outer}
use Rattle.rel_join.specs.Join.{paired, pair_row, pairs_of, null_value, alone, or_one, by_kind, left_row}
use Rattle.rel_join.specs.Rules.{AreApart}
use Rattle.rel_join.proofs.PairIds.{left_of, left_of_pair, left_of_alone, some_id, pair_apart}

-- ---- values

and_parts : (a b : Bool) → IsTrue (a && b) → IsTrue a × IsTrue b
and_parts true b e = (refl, e)
and_parts false b e = cc

and_both : (a b : Bool) → IsTrue a → IsTrue b → IsTrue (a && b)
and_both a b e k = rw (e, k) refl

same_length : (m n : ℕ) → IsTrue (m == n) → m ≡ n
same_length m n e = grind (arith, e)

is_same : (m n : ℕ) → m ≡ n → IsTrue (m == n)
is_same m n e = grind (arith, e)

-- values that fit columns, and then values that fit others
both_fit : (A B : List Column) (vs ws : List Marked) → length vs ≡ length A → IsTrue (values_fit A vs) → IsTrue (values_fit B ws) → IsTrue (values_fit (A ++ B) (vs ++ ws))
both_fit [] B [] ws n e k = k
both_fit [] B (v ∷ vs) ws n e k = cc
both_fit (c ∷ A) B [] ws n e k = cc
both_fit (c ∷ A) B (v ∷ vs) ws n e k =
    let p = and_parts (fits v.value c.kind) (values_fit A vs) e in
    let rest : length vs ≡ length A = cc in
    and_both (fits v.value c.kind) (values_fit (A ++ B) (vs ++ ws)) p.0 (both_fit A B vs ws rest p.1 k)

-- a row whose values are those of two rows
row_of_both : (A B : List Column) (l r : Row) (id : RowId) (sure : Bool) → IsTrue (row_fits A l) → IsTrue (row_fits B r) →
    IsTrue (row_fits (A ++ B) (record { id = id; sure = sure; values = l.values ++ r.values }))
row_of_both A B l r id sure e k =
    let p = and_parts (length l.values == length A) (values_fit A l.values) e in
    let q = and_parts (length r.values == length B) (values_fit B r.values) k in
    let m = same_length (length l.values) (length A) p.0 in
    let n = same_length (length r.values) (length B) q.0 in
    and_both (length (l.values ++ r.values) == length (A ++ B)) (values_fit (A ++ B) (l.values ++ r.values))
    (is_same (length (l.values ++ r.values)) (length (A ++ B)) (omega (arith, length-append l.values r.values, length-append A B, m, n)))
    (both_fit A B l.values r.values m p.1 q.1)

-- NULLs fit any columns
nulls_fit : (B : List Column) → IsTrue (values_fit B (replicate (length B) null_value))
nulls_fit [] = refl
nulls_fit (c ∷ B) = nulls_fit B

nulls_long : (n : ℕ) → length (replicate n null_value) ≡ n
nulls_long zero = refl
nulls_long (suc n) = ap suc (nulls_long n)

null_row_fits : (B : List Column) (id : RowId) (sure : Bool) → IsTrue (row_fits B (record { id = id; sure = sure; values = replicate (length B) null_value }))
null_row_fits B id sure =
    and_both (length (replicate (length B) null_value) == length B) (values_fit B (replicate (length B) null_value))
    (is_same (length (replicate (length B) null_value)) (length B) (nulls_long (length B))) (nulls_fit B)

-- ---- ids

abbrev pub OfLeft : RowId → Row → Type 0
OfLeft l r = left_of r.id ≡ Some l

each_append : {X : Type 0} (P : X → Type 0) (xs ys : List X) → Each P xs → Each P ys → Each P (xs ++ ys)
each_append P [] ys e k = k
each_append P (x ∷ xs) ys e k = (e.0, each_append P xs ys e.1 k)

each_map : {X : Type 0} (P Q : X → Type 0) → ((x : X) → P x → Q x) → (xs : List X) → Each P xs → Each Q xs
each_map P Q f [] e = tt
each_map P Q f (x ∷ xs) e = (f x e.0, each_map P Q f xs e.1)

ids_append : (xs ys : List Row) → row_ids (xs ++ ys) ≡ row_ids xs ++ row_ids ys
ids_append [] ys = refl
ids_append (x ∷ xs) ys = ap (λ z. x.id ∷ z) (ids_append xs ys)

-- an id of rows that are each of some left row
each_id : (P : RowId → Type 0) (rows : List Row) → Each (λ r. P r.id) rows → (i : RowId) → Contains (row_ids rows) i → P i
each_id P [] e i c = absurd (empty_contains i c)
each_id P (r ∷ rs) e i c = elim (Contains-cases r.id (row_ids rs) i c) [ inl here ↦ subst P here e.0 | inr there ↦ each_id P rs e.1 i there ]

-- what a left row gives is of that row, and has distinct ids
pub record IsOf (l : Row) (b : Batch) : Type 0 where
  pub of : Each (OfLeft l.id) b.rows
  pub ids : Distinct (row_ids b.rows)

module _ (f : Row → Answer Batch) (each : (l : Row) (b : Batch) → f l ≡ Ok b → IsOf l b) where
  -- of one of these left rows
  abbrev OfOne : List Row → RowId → Type 0
  OfOne ls i = (k : RowId) × Contains (row_ids ls) k × (left_of i ≡ Some k)

  record AreOf (ls : List Row) (b : Batch) : Type 0 where
    pub of : Each (λ r. OfOne ls r.id) b.rows
    pub ids : Distinct (row_ids ls) → Distinct (row_ids b.rows)

  later : (l : Row) (ls : List Row) (i : RowId) → OfOne ls i → OfOne (l ∷ ls) i
  later l ls i p = (p.0, Contains-append_right (l.id ∷ []) (row_ids ls) p.0 p.1, p.2)

  one_more : (l : Row) (ls : List Row) (a b : Batch) → f l ≡ Ok a → AreOf ls b → AreOf (l ∷ ls) (both a b)
  one_more l ls a b k rest =
      let mine = each l a k in record {
        of = each_append (λ r. OfOne (l ∷ ls) r.id) a.rows b.rows
            (each_map (OfLeft l.id) (λ r. OfOne (l ∷ ls) r.id) (λ r e. (l.id, (0, omega arith, refl), e)) a.rows mine.of)
            (each_map (λ r. OfOne ls r.id) (λ r. OfOne (l ∷ ls) r.id) (λ r e. later l ls r.id e) b.rows rest.of);
        ids = λ d. subst Distinct (sym (ids_append a.rows b.rows)) (Distinct-append (row_ids a.rows) (row_ids b.rows) mine.ids (rest.ids d.1) (λ i c g.
            let from = each_id (λ j. left_of j ≡ Some l.id) a.rows mine.of i c in
            let other = each_id (OfOne ls) b.rows rest.of i g in
            d.0 (subst (λ z. Contains (row_ids ls) z) (some_id other.0 l.id (sym other.2 ∙ from)) other.1)));
      }

  pub joined_distinct : (ls : List Row) (b : Batch) → gathered f ls ≡ Ok b → Distinct (row_ids ls) → Distinct (row_ids b.rows)
  joined_distinct ls b e d = (all_gathered f AreOf (record { of = tt; ids = λ g. tt }) one_more ls b e).ids d

-- ---- one left row

module _ (left : List ScopeColumn) (b : RelData) (on : Expr) (picks : List Pick) (cell : ℕ) where
  abbrev on_of : Row → Row → Seen Value
  on_of l r = marked_over_row (bindings left l.values ++ bindings b.columns r.values) picks cell on

  abbrev pairs : Row → Answer Batch
  pairs l = pairs_of left b.columns on picks cell b.rows l

  one_of_left : (l : Row) (r : Row) (m : Batch) → pair_row left b.columns on picks cell l r ≡ Ok m → Each (OfLeft l.id) m.rows
  one_of_left l r m e = at m (kept_has_only (paired l r) (on_of l r) m e)
    where
      listed_one : (rows : List Row) → row_ids rows ≡ Pair l.id r.id ∷ [] → Each (OfLeft l.id) rows
      listed_one [] k = tt
      listed_one (x ∷ []) k = let same : x.id ≡ Pair l.id r.id = cc in (ap left_of same ∙ left_of_pair l.id r.id, tt)
      listed_one (x ∷ y ∷ rows) k = cc

      listed_none : (rows : List Row) → row_ids rows ≡ [] → Each (OfLeft l.id) rows
      listed_none [] k = tt
      listed_none (x ∷ rows) k = cc

      at : (m : Batch) → HasOnly (Pair l.id r.id) m → Each (OfLeft l.id) m.rows
      at m h = elim h [ inl e ↦ listed_none m.rows e | inr e ↦ listed_one m.rows e ]

  pairs_of_left : (l : Row) (m : Batch) → pairs l ≡ Ok m → Each (OfLeft l.id) m.rows
  pairs_of_left l m e =
      all_gathered (pair_row left b.columns on picks cell l) (λ rs n. Each (OfLeft l.id) n.rows) tt
      (λ r rs a n k rest. each_append (OfLeft l.id) a.rows n.rows (one_of_left l r a k) rest) b.rows m e

  pairs_distinct : (l : Row) (m : Batch) → Distinct (row_ids b.rows) → pairs l ≡ Ok m → Distinct (row_ids m.rows)
  pairs_distinct l m d e =
      ids_distinct (pair_row left b.columns on picks cell l) (λ r. Pair l.id r.id) (λ r n k. kept_has_only (paired l r) (on_of l r) n k) b.rows m e
      (subst Distinct (pair_ids b.rows) (Distinct-map (Pair l.id) (pair_apart l.id) (row_ids b.rows) d))
    where
      pair_ids : (rows : List Row) → map (Pair l.id) (row_ids rows) ≡ map (λ r. Pair l.id r.id) rows
      pair_ids [] = refl
      pair_ids (r ∷ rows) = ap (λ z. Pair l.id r.id ∷ z) (pair_ids rows)

  -- what holds of the pairs of a left row, and of that row alone, holds of what a join makes of it
  by_kinds : (P : Batch → Type 0) (kind : Kind) (l : Row) (c : Batch) →
      ((m : Batch) → pairs l ≡ Ok m → P m) →
      ((m : Batch) → pairs l ≡ Ok m → P (record { rows = alone (length b.columns) b.is_open m.marked l ∷ []; marked = m.marked })) →
      left_row kind left b on picks cell l ≡ Ok c → P c
  by_kinds P kind l c found lone e =
      let p = then_ok (pairs l) (λ m. fine (by_kind kind (length b.columns) b.is_open l m)) c e in
      subst P (the_same (by_kind kind (length b.columns) b.is_open l p.0) c p.2) (at kind p.0 p.1)
    where
      outer : (rows : List Row) (marked : Bool) → pairs l ≡ Ok (record { rows = rows; marked = marked }) →
          P (record { rows = or_one rows (alone (length b.columns) b.is_open marked l); marked = marked })
      outer [] marked k = lone (record { rows = []; marked = marked }) k
      outer (r ∷ rows) marked k = found (record { rows = r ∷ rows; marked = marked }) k

      at : (kind : Kind) (m : Batch) → pairs l ≡ Ok m → P (by_kind kind (length b.columns) b.is_open l m)
      at Inner m k = found m k
      at Outer m k = outer m.rows m.marked k

  left_is_of : (kind : Kind) → Distinct (row_ids b.rows) → (l : Row) (c : Batch) → left_row kind left b on picks cell l ≡ Ok c → IsOf l c
  left_is_of kind d l c e =
      by_kinds (IsOf l) kind l c (λ m k. record { of = pairs_of_left l m k; ids = pairs_distinct l m d k })
      (λ m k. record { of = (left_of_alone l.id, tt); ids = (empty_contains (Alone l.id), tt) }) e

  left_fits : (kind : Kind) (A : List Column) → Each (λ r. IsTrue (row_fits (bare_columns b.columns) r)) b.rows → (l : Row) (c : Batch) → IsTrue (row_fits A l) →
      left_row kind left b on picks cell l ≡ Ok c → IsTrue (list_all (row_fits (A ++ bare_columns b.columns)) c.rows)
  left_fits kind A all l c g e =
      let B = bare_columns b.columns in
      by_kinds (λ n. IsTrue (list_all (row_fits (A ++ bare_columns b.columns)) n.rows)) kind l c
      (λ m k. all_pass (pair_row left b.columns on picks cell l) (λ r. IsTrue (row_fits (bare_columns b.columns) r)) (row_fits (A ++ bare_columns b.columns))
      (λ r n h q. kept_fits (A ++ bare_columns b.columns) (paired l r) (on_of l r) n (row_of_both A (bare_columns b.columns) l r (Pair l.id r.id) (l.sure && r.sure) g h) q) b.rows m all k)
      (λ m k. and_both (row_fits (A ++ bare_columns b.columns) (alone (length b.columns) b.is_open m.marked l)) true (alone_fits m.marked) refl) e
    where
      width : (cs : List ScopeColumn) → length cs ≡ length (bare_columns cs)
      width [] = refl
      width (x ∷ cs) = ap suc (width cs)

      alone_fits : (marked : Bool) → IsTrue (row_fits (A ++ bare_columns b.columns) (alone (length b.columns) b.is_open marked l))
      alone_fits marked =
          let sure = l.sure && (not b.is_open && not marked) in
          subst (λ n. IsTrue (row_fits (A ++ bare_columns b.columns) (record { id = Alone l.id; sure = l.sure && (not b.is_open && not marked); values = l.values ++ replicate n null_value })))
          (sym (width b.columns))
          (row_of_both A (bare_columns b.columns) l (record { id = l.id; sure = true; values = replicate (length (bare_columns b.columns)) null_value }) (Alone l.id)
          (l.sure && (not b.is_open && not marked)) g (null_row_fits (bare_columns b.columns) l.id true))

  pub pairs_sure : Each (λ r. IsTrue r.sure) b.rows → (l : Row) → IsTrue l.sure → (m : Batch) → pairs l ≡ Ok m → m.marked ≡ false → IsTrue (all_sure m.rows)
  pairs_sure all l g m k u =
      all_pass_unmarked (pair_row left b.columns on picks cell l) (λ r. IsTrue r.sure) (λ r. r.sure)
      (λ r n h q w. kept_sure (paired l r) (on_of l r) n (and_both l.sure r.sure g h) q w) b.rows m all k u

  pub left_sure : (kind : Kind) → Each (λ r. IsTrue r.sure) b.rows → b.is_open ≡ false → (l : Row) (c : Batch) → IsTrue l.sure →
      left_row kind left b on picks cell l ≡ Ok c → c.marked ≡ false → IsTrue (all_sure c.rows)
  left_sure kind all closed l c g e =
      by_kinds (λ n. n.marked ≡ false → IsTrue (all_sure n.rows)) kind l c
      (λ m k u. pairs_sure all l g m k u)
      (λ m k u. rw (g, closed, u) refl) e

-- ---- the rules

bare_append : (xs ys : List ScopeColumn) → bare_columns (xs ++ ys) ≡ bare_columns xs ++ bare_columns ys
bare_append xs ys = map-append (λ (c : ScopeColumn). c.column) xs ys

pub join_rules : (kind : Kind) (a b : RelData) (on : Expr) (picks : List Pick) (cell : ℕ) (m : Batch) → IsRel a → IsRel b → AreApart a.columns b.columns →
    gathered (left_row kind a.columns b on picks cell) a.rows ≡ Ok m →
    KeepsRules (rel_of (a.columns ++ b.columns) m.rows ((a.is_open || b.is_open) || m.marked) (a.is_loose || b.is_loose))
join_rules kind a b on picks cell m is too apart e =
    let step = left_row kind a.columns b on picks cell in record {
      names = subst Distinct (sym (map-append column_key a.columns b.columns))
          (Distinct-append (column_keys a.columns) (column_keys b.columns) is.rules.names too.rules.names apart.on_one);
      ids = joined_distinct step (λ l c k. left_is_of a.columns b on picks cell kind too.rules.ids l c k) a.rows m e is.rules.ids;
      fitting = subst (λ cs. IsTrue (list_all (row_fits cs) m.rows)) (sym (bare_append a.columns b.columns))
          (all_pass step (λ l. IsTrue (row_fits (bare_columns a.columns) l)) (row_fits (bare_columns a.columns ++ bare_columns b.columns))
          (λ l c g k. left_fits a.columns b on picks cell kind (bare_columns a.columns) (all_of (row_fits (bare_columns b.columns)) b.rows too.rules.fitting) l c g k) a.rows m
          (all_of (row_fits (bare_columns a.columns)) a.rows is.rules.fitting) e);
      sure = λ o.
          let p = or_parts (a.is_open || b.is_open) m.marked o in
          let q = or_parts a.is_open b.is_open p.0 in
          all_pass_unmarked step (λ l. IsTrue l.sure) (λ l. l.sure)
          (λ l c g k u. left_sure a.columns b on picks cell kind (all_of (λ r. r.sure) b.rows (too.rules.sure q.1)) q.1 l c g k u) a.rows m
          (all_of (λ l. l.sure) a.rows (is.rules.sure q.0)) e p.1;
    }
