-- What lots stand for: their rows under all columns, and what HAVING and the items make of them.
use Rattle.std.proofs.Common.{◌≡◌, ℕ, zero, suc, ◌+◌, ◌<◌, ◌≤◌, Bool, true, false, nat_eq, Option, Some, None, Result, Ok, Err, IfOk, List, [], ◌∷◌, ◌++◌, map, length, take, drop, get_or, refl, ap, ◌∙◌, sym, append_assoc, append-nil, arith}
use Rattle.std.specs.Prelude.{slice_get}
use Rattle.std.specs.List.{cons_option}
use Rattle.std.proofs.lemmas.List.{drop_more, drop_all, take_all}
use Rattle.dataset_types.specs.declared.row.Row.{Row}
use Rattle.cell_errors.specs.Answers.{Answer, and_then, collect}
use Rattle.expr_lang.specs.declared.expr.Expr.{Expr}
use Rattle.expr_meaning.specs.declared.bindings.Binding.{Binding}
use Rattle.expr_meaning.specs.declared.bindings.ScopeColumn.{ScopeColumn}
use Rattle.relations.specs.declared.condition.Test.{Test}
use Rattle.relations.specs.declared.parts.Item.{Item}
use Rattle.relations.specs.Bound.{bindings}
use Rattle.relations.specs.Batches.{both, gathered}
use Rattle.rel_group.specs.declared.parts.Lot.{Lot}
use Rattle.rel_group.specs.declared.parts.TestedLot.{TestedLot}
use Rattle.rel_group.specs.declared.job.Job.{Job}
use Rattle.rel_group.specs.Groups.{bound_rows, keyed_groups, groups, setting_under}
use Rattle.rel_group.specs.Group.{tested, group_row, group_rows, key_row}
use Rattle.rel_group.specs.Calls.{lots_of, AreLots, rows_by, bound_lot, StandFor, key_lot, IsOf, bound_in, bound_test, setting_in, having_in, tested_in, row_in, group_rows_in, rows_in}
use Rattle.rel_group.proofs.KeyedGroups.{lots_stand}

-- ---- the rows at places

module _ (rows : List Row) where
  pub next_rows : (ps : List ℕ) (i p : ℕ) → i < length ps → p ≡ get_or ps i p →
      rows_by rows (drop i ps) ≡ cons_option (slice_get rows p) (rows_by rows (drop (i + 1) ps))
  next_rows ps i p h e = ap (rows_by rows) (drop_more ps i p h) ∙ ap (λ q. cons_option (slice_get rows q) (rows_by rows (drop (i + 1) ps))) (sym e)

  module _ (columns : List ScopeColumn) where
    pub bound_here : (all : List (List Binding)) (ps : List ℕ) (i p : ℕ) (r : Row) → i < length ps → p ≡ get_or ps i p → slice_get rows p ≡ Some r →
        all ++ bound_rows columns (rows_by rows (drop i ps)) ≡ (all ++ bindings columns r.values ∷ []) ++ bound_rows columns (rows_by rows (drop (i + 1) ps))
    bound_here all ps i p r h e k =
        ap (λ z. all ++ bound_rows columns z) (next_rows ps i p h e ∙ ap (λ o. cons_option o (rows_by rows (drop (i + 1) ps))) k) ∙ rw append_assoc refl

    pub none_here : (all : List (List Binding)) (ps : List ℕ) (i p : ℕ) → i < length ps → p ≡ get_or ps i p → slice_get rows p ≡ None →
        all ++ bound_rows columns (rows_by rows (drop i ps)) ≡ all ++ bound_rows columns (rows_by rows (drop (i + 1) ps))
    none_here all ps i p h e k = ap (λ z. all ++ bound_rows columns z) (next_rows ps i p h e ∙ ap (λ o. cons_option o (rows_by rows (drop (i + 1) ps))) k)

    pub all_bound : (all : List (List Binding)) (ps : List ℕ) (i : ℕ) → length ps ≤ i → all ++ bound_rows columns (rows_by rows (drop i ps)) ≡ all
    all_bound all ps i h = ap (λ z. all ++ bound_rows columns (rows_by rows z)) (drop_all i ps h) ∙ append-nil all

  by_last : (ps : List ℕ) (i : ℕ) → rows_by rows (ps ++ i ∷ []) ≡ rows_by rows ps ++ cons_option (slice_get rows i) []
  by_last [] i = on (slice_get rows i)
    where
      on : (o : Option Row) → cons_option o [] ≡ cons_option o []
      on o = refl
  by_last (p ∷ ps) i = on (slice_get rows p) (by_last ps i)
    where
      on : (o : Option Row) → rows_by rows (ps ++ i ∷ []) ≡ rows_by rows ps ++ cons_option (slice_get rows i) [] →
          cons_option o (rows_by rows (ps ++ i ∷ [])) ≡ cons_option o (rows_by rows ps) ++ cons_option (slice_get rows i) []
      on None e = e
      on (Some r) e = ap (λ z. r ∷ z) e

  pub counted : (ps : List ℕ) (i : ℕ) → rows_by rows ps ≡ take i rows → rows_by rows (ps ++ i ∷ []) ≡ take (i + 1) rows
  counted ps i e =
      let next : suc i ≡ i + 1 = omega arith in
      by_last ps i ∙ (ap (λ z. z ++ cons_option (slice_get rows i) []) e ∙ (sym (take_next rows i) ∙ ap (λ m. take m rows) next))
    where
      take_next : (rs : List Row) (n : ℕ) → take (suc n) rs ≡ take n rs ++ cons_option (slice_get rs n) []
      take_next [] zero = refl
      take_next [] (suc n) = refl
      take_next (r ∷ rs) zero = refl
      take_next (r ∷ rs) (suc n) = ap (λ z. r ∷ z) (take_next rs n)

  pub all_counted : (ps : List ℕ) (i : ℕ) → rows_by rows ps ≡ take i rows → length rows ≤ i → rows_by rows ps ≡ rows
  all_counted ps i e h = e ∙ take_all i rows h

pub ruleset binding = (bound_here, none_here, all_bound)

pub ruleset counting = (counted, all_counted)

-- ---- lots that stand for groups

pub whole_stands : (rows : List Row) (ps : List ℕ) → rows_by rows ps ≡ rows → StandFor [] rows (record { key = []; sure = true; rows = ps } ∷ [])
whole_stands rows ps e columns = λ i. record { key = []; sure = true; rows = bound_rows columns (e i) } ∷ []

-- where there are places, the lots of the keys at them
pub keyed_stand : (places : List ℕ) (rows : List Row) (empty : Bool) → empty ≡ nat_eq (length places) 0 → empty ≡ false →
    (gs : List Lot) → AreLots (Some places) rows gs → StandFor places rows gs
keyed_stand [] rows empty is isnt gs e columns = absurd (wrong (sym is ∙ isnt))
  where
    wrong : true ≡ false → ⊥
    wrong z = cc
keyed_stand (p ∷ ps) rows empty is isnt gs e columns = ap (map (bound_lot columns rows)) e ∙ lots_stand (Some (p ∷ ps)) columns rows

pub after_if_ok : {T E : Type 0} (r : Result T E) (P Q : T → Type 0) → ((x : T) → P x → Q x) → IfOk r P → IfOk r Q
after_if_ok (Ok x) P Q f p = f x p
after_if_ok (Err e) P Q f p = p

pub distinct_rows : (rows : List Row) → map key_lot (lots_of None rows) ≡ map key_row (keyed_groups [] None rows)
distinct_rows rows = twice (lots_of None rows) ∙ ap (map key_row) (lots_stand None [] rows)
  where
    twice : (gs : List Lot) → map key_lot gs ≡ map key_row (map (bound_lot [] rows) gs)
    twice [] = refl
    twice (g ∷ gs) = ap (λ z. key_lot g ∷ z) (twice gs)

-- ---- HAVING and the items

module _ (job : Job) (having : Option Expr) (items : List Item) where
  tests_bound : (gs : List Lot) →
      collect (tested (setting_in job) having job.picks.now job.cell) (map (bound_in job) gs) ≡ and_then (collect (tested_in job having) gs) (λ ts. Ok (map (bound_test job) ts))
  tests_bound [] = refl
  tests_bound (g ∷ gs) = on (having_in job having (bound_in job g)) (collect (tested_in job having) gs) (tests_bound gs)
    where
      on : (a : Answer Test) (r : Answer (List TestedLot)) →
          collect (tested (setting_in job) having job.picks.now job.cell) (map (bound_in job) gs) ≡ and_then r (λ ts. Ok (map (bound_test job) ts)) →
          and_then (and_then a (λ t. Ok (record { group = bound_in job g; test = t }))) (λ y. and_then (collect (tested (setting_in job) having job.picks.now job.cell) (map (bound_in job) gs)) (λ ys. Ok (y ∷ ys)))
          ≡ and_then (and_then (and_then a (λ t. Ok (record { lot = g; test = t }))) (λ y. and_then r (λ ys. Ok (y ∷ ys)))) (λ ts. Ok (map (bound_test job) ts))
      on (Err f) r e = refl
      on (Ok t) (Ok ts) e = ap (λ z. and_then z (λ ys. Ok (record { group = bound_in job g; test = t } ∷ ys))) e
      on (Ok t) (Err f) e = ap (λ z. and_then z (λ ys. Ok (record { group = bound_in job g; test = t } ∷ ys))) e

  rows_tested : (ts : List TestedLot) → gathered (group_row (setting_in job) items job.picks.now job.cell) (map (bound_test job) ts) ≡ gathered (row_in job items) ts
  rows_tested [] = refl
  rows_tested (t ∷ ts) = ap (λ z. and_then (row_in job items t) (λ b. and_then z (λ c. Ok (both b c)))) (rows_tested ts)

  rows_bound : (gs : List Lot) → group_rows (setting_in job) having items job.picks.now job.cell (map (bound_in job) gs) ≡ group_rows_in job having items gs
  rows_bound gs =
      ap (λ z. and_then z (λ ts. gathered (group_row (setting_in job) items job.picks.now job.cell) ts)) (tests_bound gs) ∙ on (collect (tested_in job having) gs)
    where
      on : (r : Answer (List TestedLot)) →
          and_then (and_then r (λ ts. Ok (map (bound_test job) ts))) (λ ts. gathered (group_row (setting_in job) items job.picks.now job.cell) ts) ≡ and_then r (λ ts. gathered (row_in job items) ts)
      on (Ok ts) = rows_tested ts
      on (Err f) = refl

  pub rows_are : (gs : List Lot) → IsOf job → StandFor job.places.now job.rel.now.rows gs → group_rows_in job having items gs ≡ rows_in job having items
  rows_are gs is stand =
      sym (rows_bound gs)
      ∙ (ap (group_rows (setting_in job) having items job.picks.now job.cell) (stand job.rel.now.columns)
      ∙ (let columns = is.columns in let uncertain = is.uncertain in
      λ i. group_rows (setting_under (columns i) job.places.now (uncertain i)) having items job.picks.now job.cell (groups job.rel.now.columns job.places.now job.rel.now.rows)))
