-- The laws of formula.
use Rattle.std.proofs.Common.{◌≡◌, ℕ, Bool, true, false, Option, None, Ok, Err, List, [], ◌∷◌, map, cond, filter, refl, subst, ap, ◌∙◌, sym}
use Rattle.std.specs.Result.{result_map_both}
use Rattle.value_types.specs.declared.value.ColumnType.{ColumnType}
use Rattle.value_types.specs.declared.value.Value.{Value}
use Rattle.cell_errors.specs.Answers.{Answer, and_then, collect}
use Rattle.cell_errors.specs.Seen.{Seen}
use Rattle.dataset_types.specs.declared.column.Column.{Column}
use Rattle.dataset_types.specs.declared.picks.Pick.{Pick}
use Rattle.dataset_types.specs.declared.row.Marked.{Marked}
use Rattle.dataset_types.specs.declared.row.Row.{Row}
use Rattle.dataset_types.specs.Tables.{table_of}
use Rattle.dataset_types.specs.Plain.{erased, erased_row}
use Rattle.caveat_marks.specs.Shown.{ShownRow, shown, shown_row, shown_value, placed}
use Rattle.expr_lang.specs.declared.expr.Expr.{Expr}
use Rattle.expr_meaning.specs.Known.{known, unless_marked}
use Rattle.expr_meaning.specs.Meaning.{marked_over_row}
use Rattle.expr_meaning.specs.Names.{Name}
use Rattle.relations.specs.Bound.{bindings}
use Rattle.relations.proofs.Binds.{over_plain, over_known}
use Rattle.relations.proofs.Gathered.{fine, the_same, then_ok}
use Rattle.edit_results.specs.Results.{whole, plain_whole}
use Rattle.edit_results.proofs.Whole.{whole_erased, whole_is}
use Rattle.column_edits.specs.Layout.{laid}
use Rattle.column_edits.specs.Changes.{laid_row, plain_laid_row, shown_with}
use Rattle.column_edits.specs.Formula.{scope, formula_type, entered, entered_seen, refilled, formula_row, formula, plain_formula_row, plain_formula, value_in, entered_known, shown_refilled, shown_formula}
use Rattle.column_edits.specs.Laws.{Erases, Shows, KeepsShown}
use Rattle.column_edits.proofs.Laying.{laid_read}
use Rattle.column_edits.proofs.ChangeLaws.{with_placed, sure_rows, keeps_shown}

-- ---- erasure

-- what is collected, where each is erased so
module _ {X Y A B : Type 0} (f : X → Answer A) (g : Y → Answer B) (e : X → Y) (h : A → B) (each : (x : X) → result_map_both h (λ d. d) (f x) ≡ g (e x)) where
  one_more : (a : Answer A) (b : Answer (List A)) → result_map_both (map h) (λ d. d) (and_then a (λ y. and_then b (λ ys. Ok (y ∷ ys))))
      ≡ and_then (result_map_both h (λ d. d) a) (λ y. and_then (result_map_both (map h) (λ d. d) b) (λ ys. Ok (y ∷ ys)))
  one_more (Ok y) (Ok ys) = refl
  one_more (Ok y) (Err d) = refl
  one_more (Err d) b = refl

  collect_erased : (xs : List X) → result_map_both (map h) (λ d. d) (collect f xs) ≡ collect g (map e xs)
  collect_erased [] = refl
  collect_erased (x ∷ xs) = one_more (f x) (collect f xs) ∙ rw (each x, collect_erased xs) refl

module _ (name : Name) (expr : Expr) (picks : List Pick) (cell : ℕ) (columns : List Column) (k : ColumnType) where
  row_erased : (r : Row) → result_map_both erased_row (λ d. d) (formula_row name expr picks cell columns k r) ≡ plain_formula_row name expr picks cell columns k (erased_row r)
  row_erased r =
      let seen = marked_over_row (bindings (scope columns) r.values) picks cell expr in
      at seen.marked seen.answer
      ∙ ap (λ a. and_then a (λ v. and_then (entered k v) (λ w. fine (plain_laid_row (refilled name columns) w (erased_row r))))) (over_plain (scope columns) r.values picks cell expr)
    where
      laid_so : (b : Bool) (a : Answer Value) → result_map_both erased_row (λ d. d) (and_then (and_then a (λ w. Ok (record { value = w; marked = b }))) (λ m. Ok (laid_row (refilled name columns) m r)))
          ≡ and_then a (λ w. fine (plain_laid_row (refilled name columns) w (erased_row r)))
      laid_so b (Ok w) =
          let values = laid_read (λ (m : Marked). m.value) (record { value = w; marked = b }) (refilled name columns) r.values in
          λ i. fine (record { id = r.id; values = values i })
      laid_so b (Err e) = refl

      at : (b : Bool) (a : Answer Value) → result_map_both erased_row (λ d. d)
          (and_then (and_then a (λ v. and_then (entered k v) (λ w. Ok (record { value = w; marked = b })))) (λ m. Ok (laid_row (refilled name columns) m r)))
          ≡ and_then a (λ v. and_then (entered k v) (λ w. fine (plain_laid_row (refilled name columns) w (erased_row r))))
      at b (Ok v) = laid_so b (entered k v)
      at b (Err e) = refl

pub formula_erases : (name : Name) (expr : Expr) (picks : List Pick) (cell : ℕ) → Erases (formula name expr picks cell) (plain_formula name expr picks cell)
formula_erases name expr picks cell t = at (formula_type name expr t.columns)
  where
    rows_so : (k : ColumnType) (a : Answer (List Row)) → result_map_both erased (λ d. d) (and_then a (λ rows. whole (table_of t.columns rows t.is_open t.is_loose)))
        ≡ and_then (result_map_both (map erased_row) (λ d. d) a) (λ rows. plain_whole (record { columns = t.columns; rows = rows }))
    rows_so k (Ok rows) = whole_erased (table_of t.columns rows t.is_open t.is_loose)
    rows_so k (Err e) = refl

    at : (a : Answer ColumnType) → result_map_both erased (λ d. d)
        (and_then a (λ k. and_then (collect (formula_row name expr picks cell t.columns k) t.rows) (λ rows. whole (table_of t.columns rows t.is_open t.is_loose))))
        ≡ and_then a (λ k. and_then (collect (plain_formula_row name expr picks cell t.columns k) (map erased_row t.rows)) (λ rows. plain_whole (record { columns = t.columns; rows = rows })))
    at (Ok k) =
        rows_so k (collect (formula_row name expr picks cell t.columns k) t.rows)
        ∙ ap (λ a. and_then a (λ rows. plain_whole (record { columns = t.columns; rows = rows })))
        (collect_erased (formula_row name expr picks cell t.columns k) (plain_formula_row name expr picks cell t.columns k) erased_row erased_row (row_erased name expr picks cell t.columns k) t.rows)
    at (Err e) = refl

-- ---- what is shown

-- the value of an answer, where it has no mark
abbrev known_in : Bool → Answer Value → Option Value
known_in true a = None
known_in false a = value_in a

-- a value that is entered shows what is known of it
value_shows : (k : ColumnType) (s : Seen Value) (m : Marked) → entered_seen k s ≡ Ok m → shown_value m ≡ entered_known k (known s)
value_shows k s m e =
    let v = then_ok s.answer (λ v. and_then (entered k v) (λ w. fine (record { value = w; marked = s.marked }))) m e in
    let w = then_ok (entered k v.0) (λ w. fine (record { value = w; marked = s.marked })) m v.2 in
    subst (λ z. shown_value z ≡ entered_known k (known s)) (the_same (record { value = w.0; marked = s.marked }) m w.2)
    (at s.marked w.0 ∙ ap (λ a. known_in s.marked a) (sym (ap (λ a. and_then a (entered k)) v.1 ∙ w.1)) ∙ sym (entered_is s.marked s.answer))
  where
    at : (b : Bool) (w : Value) → shown_value (record { value = w; marked = b }) ≡ known_in b (fine w)
    at true w = refl
    at false w = refl

    entered_is : (b : Bool) (a : Answer Value) → entered_known k (unless_marked b a) ≡ known_in b (and_then a (entered k))
    entered_is true a = refl
    entered_is false a = refl

module _ (name : Name) (expr : Expr) (picks : List Pick) (cell : ℕ) (columns : List Column) (k : ColumnType) where
  abbrev refill_shown : ShownRow → ShownRow
  refill_shown r = record { id = r.id; values = shown_refilled name expr columns k r.values }

  -- a row and what the formula makes of it
  record ShowsSo (r out : Row) : Type 0 where
    sure : out.sure ≡ r.sure
    row : shown_row out ≡ refill_shown (shown_row r)

  row_shows : (r out : Row) → formula_row name expr picks cell columns k r ≡ Ok out → ShowsSo r out
  row_shows r out e =
      let seen = marked_over_row (bindings (scope columns) r.values) picks cell expr in
      let p = then_ok (entered_seen k seen) (λ m. fine (laid_row (refilled name columns) m r)) out e in
      let new = value_shows k seen p.0 p.1 ∙ ap (entered_known k) (over_known (scope columns) r.values picks cell expr) in
      let values = laid_read shown_value p.0 (refilled name columns) r.values ∙ ap (λ v. laid v (refilled name columns) (map shown_value r.values)) new in
      subst (ShowsSo r) (the_same (laid_row (refilled name columns) p.0 r) out p.2) (record { sure = refl; row = λ i. record { id = r.id; values = values i } })

  rows_show : (rows out : List Row) → collect (formula_row name expr picks cell columns k) rows ≡ Ok out → sure_rows out ≡ map refill_shown (sure_rows rows)
  rows_show [] out e = ap sure_rows (sym (the_same [] out e))
  rows_show (r ∷ rs) out e =
      let f = formula_row name expr picks cell columns k in
      let p = then_ok (f r) (λ y. and_then (collect f rs) (λ ys. Ok (y ∷ ys))) out e in
      let q = then_ok (collect f rs) (λ ys. fine (p.0 ∷ ys)) out p.2 in
      let one = row_shows r p.0 p.1 in
      ap sure_rows (sym (the_same (p.0 ∷ q.0) out q.2)) ∙ by p.0 q.0 p.0.sure r.sure one.sure one.row (rows_show rs q.0 q.1)
    where
      by : (x : Row) (xs : List Row) (a b : Bool) → a ≡ b → shown_row x ≡ refill_shown (shown_row r) → sure_rows xs ≡ map refill_shown (sure_rows rs) →
          map shown_row (cond a (x ∷ filter (λ z. z.sure) xs) (filter (λ z. z.sure) xs))
          ≡ map refill_shown (map shown_row (cond b (r ∷ filter (λ z. z.sure) rs) (filter (λ z. z.sure) rs)))
      by x xs true true s one more = λ i. one i ∷ more i
      by x xs false false s one more = more
      by x xs true false s one more = cc
      by x xs false true s one more = cc

pub formula_shows : (name : Name) (expr : Expr) (picks : List Pick) (cell : ℕ) → Shows (formula name expr picks cell) (shown_formula name expr)
formula_shows name expr picks cell t out e =
    let f : ColumnType → Answer (List Row) = λ k. collect (formula_row name expr picks cell t.columns k) t.rows in
    let c = then_ok (formula_type name expr t.columns) (λ k. and_then (f k) (λ rows. whole (table_of t.columns rows t.is_open t.is_loose))) out e in
    let p = then_ok (f c.0) (λ rows. whole (table_of t.columns rows t.is_open t.is_loose)) out c.2 in
    let g = shown_refilled name expr t.columns c.0 in
    let rows = with_placed g t.is_loose (sure_rows t.rows) ∙ ap (placed t.is_loose) (sym (rows_show name expr picks cell t.columns c.0 t.rows p.0 p.1)) in
    ap (λ a. and_then a (λ k. fine (shown_with t.columns (shown_refilled name expr t.columns k) (shown t)))) c.1
    ∙ ((λ i. fine (record { columns = t.columns; rows = rows i; is_open = t.is_open; is_loose = t.is_loose }))
    ∙ ap (λ z. fine (shown z)) (whole_is (table_of t.columns p.0 t.is_open t.is_loose) out p.2))

-- ---- other picks

pub formula_keeps_shown : (name : Name) (expr : Expr) (picks others : List Pick) (cell : ℕ) → KeepsShown (formula name expr picks cell) (formula name expr others cell)
formula_keeps_shown name expr picks others cell =
    keeps_shown (formula name expr picks cell) (formula name expr others cell) (shown_formula name expr)
    (formula_shows name expr picks cell) (formula_shows name expr others cell)
