-- The rules that the tables of the commands keep.
use Rattle.std.proofs.Common.{◌≡◌, ℕ, ◌+◌, ℤ, Bool, true, false, ◌&&◌, Option, Some, None, Ok, Err, List, [], ◌∷◌, map, refl, subst, ap, ◌∙◌, sym}
use Rattle.std.specs.Prelude.{IsTrue, if◌then◌else◌, ◌==◌, length}
use Rattle.value_types.specs.Numbers.{widened}
use Rattle.value_types.specs.declared.value.ColumnType.{ColumnType}
use Rattle.value_types.specs.declared.value.ColumnType.TheVariants as kind
use Rattle.value_types.specs.declared.value.Value.{Value}
use Rattle.value_types.specs.declared.value.Value.TheVariants.{Null, Bool as Truth, Int, Fixed, Text}
use Rattle.cell_errors.specs.Answers.{and_then, collect}
use Rattle.cell_errors.specs.declared.fault.CellError.TheVariants as error
use Rattle.dataset_types.specs.declared.column.Column.{Column}
use Rattle.dataset_types.specs.declared.picks.Pick.{Pick}
use Rattle.dataset_types.specs.declared.row.Marked.{Marked}
use Rattle.dataset_types.specs.declared.row.Row.{Row}
use Rattle.dataset_types.specs.Tables.{TableData, IsTable, table_of, Distinct, column_names, row_ids, fits, values_fit, row_fits, rows_fit, all_sure}
use Rattle.expr_lang.specs.declared.expr.Expr.{Expr}
use Rattle.expr_meaning.specs.declared.expr_type.ExprType.{ExprType}
use Rattle.expr_meaning.specs.declared.expr_type.ExprType.TheVariants.{Null as Unknown, Of}
use Rattle.expr_meaning.specs.Meaning.{marked_over_row}
use Rattle.expr_meaning.specs.Names.{Name}
use Rattle.expr_meaning.specs.Settings.{at_row}
use Rattle.expr_meaning.specs.Types.{type_over, over_columns}
use Rattle.relations.specs.Bound.{bindings}
use Rattle.relations.specs.Rels.{bare_columns}
use Rattle.relations.specs.Typed.{is_of}
use Rattle.relations.proofs.Gathered.{fine, the_same, then_ok, Each}
use Rattle.relations.proofs.TypeLaw.{keeps_type, row_is_bound, alone}
use Rattle.std.proofs.lemmas.Bool.{and_parts}
use Rattle.std.proofs.lemmas.Bool.Decides.{Decides-eqb}
use Rattle.std.specs.List.{Contains, enumerate_from}
use Rattle.edit_results.specs.Results.{KeepsRules}
use Rattle.edit_results.specs.Widening.{fixed_or, as_fixed}
use Rattle.column_edits.specs.declared.layout.LaidColumn.{LaidColumn}
use Rattle.column_edits.specs.Layout.{standing, as_they_stand, columns_of}
use Rattle.column_edits.specs.Plans.{has_name, find}
use Rattle.column_edits.specs.Changes.{blank, laid_row, laid_out}
use Rattle.column_edits.specs.Formula.{scope, goes_into, open_to, formula_type, entered, entered_seen, emptied, emptied_at, refilled, formula_row}
use Rattle.column_edits.specs.Rules.{names_of, IsLayout}
use Rattle.column_edits.proofs.Laying.{Takes, laid_row_fits}
use Rattle.column_edits.proofs.Places.{here, there}
use Rattle.column_edits.proofs.Names.{not_both, names_are, names_stand, name_is}
use Rattle.column_edits.proofs.PlanRules.{each_stands}

-- ---- a table under a layout

module _ (layout : List LaidColumn) where
  ids_stay : (rows : List Row) → row_ids (map (laid_row layout blank) rows) ≡ row_ids rows
  ids_stay [] = refl
  ids_stay (r ∷ rs) = ap (λ z. r.id ∷ z) (ids_stay rs)

  sure_stays : (rows : List Row) → all_sure (map (laid_row layout blank) rows) ≡ all_sure rows
  sure_stays [] = refl
  sure_stays (r ∷ rs) = ap (λ (b : Bool). r.sure && b) (sure_stays rs)

  all_fit : (columns : List Column) → ((r : Row) → IsTrue (row_fits columns r) → IsTrue (row_fits (columns_of layout) (laid_row layout blank r))) →
      (rows : List Row) → IsTrue (rows_fit columns rows) → IsTrue (rows_fit (columns_of layout) (map (laid_row layout blank) rows))
  all_fit columns h [] f = refl
  all_fit columns h (r ∷ rs) f =
      let p = and_parts (row_fits columns r) (rows_fit columns rs) f in rw (h r p.0, all_fit columns h rs p.1) refl

pub laid_out_rules : (layout : List LaidColumn) (t : TableData) → IsTable t → IsLayout t.columns layout → KeepsRules (laid_out layout t)
laid_out_rules layout t is good = record {
  names = subst Distinct (sym (names_are layout)) good.names;
  ids = subst Distinct (sym (ids_stay layout t.rows)) is.ids;
  fitting = all_fit layout t.columns good.fitting t.rows is.fitting;
  sure = λ o. subst IsTrue (sym (sure_stays layout t.rows)) (is.sure o);
}

-- ---- what a formula's value is

or_is : (n : ℤ) (w : Value) → as_fixed n ≡ Ok w → IsTrue (fits w kind.Fixed)
or_is n w e = at (widened n) e
  where
    at : (o : Option ℤ) → fixed_or o ≡ Ok w → IsTrue (fits w kind.Fixed)
    at None h = cc
    at (Some m) h = subst (λ z. IsTrue (fits z kind.Fixed)) (the_same (Fixed m) w h) refl

-- a value of a type that goes into a column is, once it is entered, one of the column's type
pub entered_fits : (v : Value) (k : ColumnType) (t : ExprType) (w : Value) → IsTrue (is_of v t) → IsTrue (goes_into k t) → entered k v ≡ Ok w → IsTrue (fits w k)
entered_fits Null kind.Bool t w i g e = subst (λ z. IsTrue (fits z kind.Bool)) (the_same Null w e) refl
entered_fits Null kind.Int t w i g e = subst (λ z. IsTrue (fits z kind.Int)) (the_same Null w e) refl
entered_fits Null kind.Fixed t w i g e = subst (λ z. IsTrue (fits z kind.Fixed)) (the_same Null w e) refl
entered_fits Null kind.Text t w i g e = subst (λ z. IsTrue (fits z kind.Text)) (the_same Null w e) refl
entered_fits (Truth b) k Unknown w i g e = cc
entered_fits (Truth b) k (Of kind.Int) w i g e = cc
entered_fits (Truth b) k (Of kind.Fixed) w i g e = cc
entered_fits (Truth b) k (Of kind.Text) w i g e = cc
entered_fits (Truth b) kind.Bool (Of kind.Bool) w i g e = subst (λ z. IsTrue (fits z kind.Bool)) (the_same (Truth b) w e) refl
entered_fits (Truth b) kind.Int (Of kind.Bool) w i g e = cc
entered_fits (Truth b) kind.Fixed (Of kind.Bool) w i g e = cc
entered_fits (Truth b) kind.Text (Of kind.Bool) w i g e = cc
entered_fits (Int n) k Unknown w i g e = cc
entered_fits (Int n) k (Of kind.Bool) w i g e = cc
entered_fits (Int n) k (Of kind.Fixed) w i g e = cc
entered_fits (Int n) k (Of kind.Text) w i g e = cc
entered_fits (Int n) kind.Bool (Of kind.Int) w i g e = cc
entered_fits (Int n) kind.Int (Of kind.Int) w i g e = subst (λ z. IsTrue (fits z kind.Int)) (the_same (Int n) w e) refl
entered_fits (Int n) kind.Fixed (Of kind.Int) w i g e = or_is n w e
entered_fits (Int n) kind.Text (Of kind.Int) w i g e = cc
entered_fits (Fixed n) k Unknown w i g e = cc
entered_fits (Fixed n) k (Of kind.Bool) w i g e = cc
entered_fits (Fixed n) k (Of kind.Int) w i g e = cc
entered_fits (Fixed n) k (Of kind.Text) w i g e = cc
entered_fits (Fixed n) kind.Bool (Of kind.Fixed) w i g e = cc
entered_fits (Fixed n) kind.Int (Of kind.Fixed) w i g e = cc
entered_fits (Fixed n) kind.Fixed (Of kind.Fixed) w i g e = subst (λ z. IsTrue (fits z kind.Fixed)) (the_same (Fixed n) w e) refl
entered_fits (Fixed n) kind.Text (Of kind.Fixed) w i g e = cc
entered_fits (Text x) k Unknown w i g e = cc
entered_fits (Text x) k (Of kind.Bool) w i g e = cc
entered_fits (Text x) k (Of kind.Int) w i g e = cc
entered_fits (Text x) k (Of kind.Fixed) w i g e = cc
entered_fits (Text x) kind.Bool (Of kind.Text) w i g e = cc
entered_fits (Text x) kind.Int (Of kind.Text) w i g e = cc
entered_fits (Text x) kind.Fixed (Of kind.Text) w i g e = cc
entered_fits (Text x) kind.Text (Of kind.Text) w i g e = subst (λ z. IsTrue (fits z kind.Text)) (the_same (Text x) w e) refl

scope_bare : (columns : List Column) → bare_columns (scope columns) ≡ columns
scope_bare [] = refl
scope_bare (c ∷ cs) = ap (λ z. c ∷ z) (scope_bare cs)

emptied_columns : (name : Name) (layout : List LaidColumn) → columns_of (emptied_at name layout) ≡ columns_of layout
emptied_columns name [] = refl
emptied_columns name (c ∷ cs) = by (has_name name c) (emptied_columns name cs)
  where
    by : (b : Bool) → columns_of (emptied_at name cs) ≡ columns_of cs → (if b then emptied c else c).column ∷ columns_of (emptied_at name cs) ≡ c.column ∷ columns_of cs
    by true e = ap (λ z. c.column ∷ z) e
    by false e = ap (λ z. c.column ∷ z) e

pub stand_columns : (columns : List Column) → columns_of (as_they_stand columns) ≡ columns
stand_columns columns = from 0 columns
  where
    from : (n : ℕ) (cs : List Column) → columns_of (map standing (enumerate_from n cs)) ≡ cs
    from n [] = refl
    from n (c ∷ cs) = ap (λ z. c ∷ z) (from (n + 1) cs)

refilled_columns : (name : Name) (columns : List Column) → columns_of (refilled name columns) ≡ columns
refilled_columns name columns = emptied_columns name (as_they_stand columns) ∙ stand_columns columns

-- among columns of distinct names those that have the name are of the type of the one that is found
abbrev OfKind : Name → ColumnType → LaidColumn → Type 0
OfKind name k c = has_name name c ≡ true → c.column.kind ≡ k

none_of : (name : Name) (k : ColumnType) (layout : List LaidColumn) → (Contains (names_of layout) name → ⊥) → Each (OfKind name k) layout
none_of name k [] h = tt
none_of name k (x ∷ xs) h = (
  λ e. absurd (h (here name x.column.name (names_of xs) (sym (name_is name x e)))),
  none_of name k xs (λ c. h (there name x.column.name (names_of xs) c)),
)

found_kind : (name : Name) (layout : List LaidColumn) (c : LaidColumn) → Distinct (names_of layout) → find name layout ≡ Ok c → Each (OfKind name c.column.kind) layout
found_kind name [] c d e = tt
found_kind name (x ∷ xs) c d e = by (has_name name x) refl e (λ k. found_kind name xs c d.1 k)
  where
    by : (b : Bool) → has_name name x ≡ b → (if b then Ok x else find name xs) ≡ Ok c → (find name xs ≡ Ok c → Each (OfKind name c.column.kind) xs) →
        Each (OfKind name c.column.kind) (x ∷ xs)
    by true h k rest = (
      λ t. ap (λ z. z.column.kind) (the_same x c k),
      none_of name c.column.kind xs (λ held. d.0 (subst (Contains (names_of xs)) (name_is name x h) held)),
    )
    by false h k rest = (λ t. absurd (not_both (has_name name x) t h), rest k)

-- a value of the column's type in its place
refill_takes : (name : Name) (columns : List Column) (v : Value) (k : ColumnType) (layout : List LaidColumn) → IsTrue (fits v k) → Each (OfKind name k) layout →
    Each (Takes columns v) layout → Each (Takes columns v) (emptied_at name layout)
refill_takes name columns v k [] f o t = tt
refill_takes name columns v k (c ∷ cs) f o t = (by (has_name name c) refl, refill_takes name columns v k cs f o.1 t.1)
  where
    by : (b : Bool) → has_name name c ≡ b → Takes columns v (if b then emptied c else c)
    by true e = subst (λ z. IsTrue (fits v z)) (sym (o.0 e)) f
    by false e = t.0

-- ---- a formula's rows

module _ (name : Name) (expr : Expr) (picks : List Pick) (cell : ℕ) (columns : List Column) (d : Distinct (column_names columns)) (k : ColumnType)
    (typed : formula_type name expr columns ≡ Ok k) where
  -- what is known of a row and what a formula makes of it
  record Kept (r out : Row) : Type 0 where
    id : out.id ≡ r.id
    sure : out.sure ≡ r.sure
    fits_too : IsTrue (row_fits columns r) → IsTrue (row_fits columns out)

  open_is : (c : LaidColumn) (t : ExprType) → open_to c.column.kind t ≡ Ok k → IsTrue (goes_into c.column.kind t) × (c.column.kind ≡ k)
  open_is c t e = at (goes_into c.column.kind t) refl e
    where
      at : (b : Bool) → goes_into c.column.kind t ≡ b → (if b then Ok c.column.kind else Err error.TypeFault) ≡ Ok k → IsTrue (goes_into c.column.kind t) × (c.column.kind ≡ k)
      at true g h = (g, the_same c.column.kind k h)
      at false g h = cc

  value_fits : (values : List Marked) (m : Marked) → length values ≡ length columns → IsTrue (values_fit columns values) →
      entered_seen k (marked_over_row (bindings (scope columns) values) picks cell expr) ≡ Ok m → IsTrue (fits m.value k)
  value_fits values m n f e =
      let seen = marked_over_row (bindings (scope columns) values) picks cell expr in
      let v = then_ok seen.answer (λ v. and_then (entered k v) (λ w. fine (record { value = w; marked = seen.marked }))) m e in
      let w = then_ok (entered k v.0) (λ w. fine (record { value = w; marked = seen.marked })) m v.2 in
      let c = then_ok (find name (as_they_stand columns)) (λ c. and_then (type_over (scope columns) expr) (λ t. open_to c.column.kind t)) k typed in
      let t = then_ok (type_over (scope columns) expr) (λ t. open_to c.0.column.kind t) k c.2 in
      let opens = open_is c.0 t.0 t.2 in
      let bare = scope_bare columns in
      let are = row_is_bound (scope columns) values (subst (λ z. length values ≡ length z) (sym bare) n) (subst (λ z. IsTrue (values_fit z values)) (sym bare) f) in
      let is = keeps_type expr (at_row (bindings (scope columns) values)) (over_columns (scope columns)) picks cell (alone (bindings (scope columns) values) (scope columns) are) t.0 v.0 t.1 v.1 in
      subst (λ z. IsTrue (fits z.value k)) (the_same (record { value = w.0; marked = seen.marked }) m w.2)
      (entered_fits v.0 k t.0 w.0 is (subst (λ z. IsTrue (goes_into z t.0)) opens.1 opens.0) w.1)

  row_fits_too : (r : Row) (m : Marked) → entered_seen k (marked_over_row (bindings (scope columns) r.values) picks cell expr) ≡ Ok m →
      IsTrue (row_fits columns r) → IsTrue (row_fits columns (laid_row (refilled name columns) m r))
  row_fits_too r m e g =
      let p = and_parts (length r.values == length columns) (values_fit columns r.values) g in
      let n = (Decides-eqb (length r.values) (length columns)).0 p.0 in
      let c = then_ok (find name (as_they_stand columns)) (λ c. and_then (type_over (scope columns) expr) (λ t. open_to c.column.kind t)) k typed in
      let t = then_ok (type_over (scope columns) expr) (λ t. open_to c.0.column.kind t) k c.2 in
      let kinds = found_kind name (as_they_stand columns) c.0 (subst Distinct (sym (names_stand columns)) d) c.1 in
      let takes = refill_takes name columns m.value k (as_they_stand columns) (value_fits r.values m n p.1 e)
      (subst (λ z. Each (OfKind name z) (as_they_stand columns)) (open_is c.0 t.0 t.2).1 kinds) (each_stands columns m.value) in
      subst (λ z. IsTrue (row_fits z (laid_row (refilled name columns) m r))) (refilled_columns name columns)
      (laid_row_fits columns m (refilled name columns) r takes g)

  row_kept : (r out : Row) → formula_row name expr picks cell columns k r ≡ Ok out → Kept r out
  row_kept r out e =
      let p = then_ok (entered_seen k (marked_over_row (bindings (scope columns) r.values) picks cell expr)) (λ m. fine (laid_row (refilled name columns) m r)) out e in
      subst (Kept r) (the_same (laid_row (refilled name columns) p.0 r) out p.2) (record { id = refl; sure = refl; fits_too = row_fits_too r p.0 p.1 })

  record AllKept (rows out : List Row) : Type 0 where
    ids : row_ids out ≡ row_ids rows
    sures : all_sure out ≡ all_sure rows
    all_fit : IsTrue (rows_fit columns rows) → IsTrue (rows_fit columns out)

  rows_kept : (rows out : List Row) → collect (formula_row name expr picks cell columns k) rows ≡ Ok out → AllKept rows out
  rows_kept [] out e = subst (AllKept []) (the_same [] out e) (record { ids = refl; sures = refl; all_fit = λ h. refl })
  rows_kept (r ∷ rs) out e =
      let f = formula_row name expr picks cell columns k in
      let p = then_ok (f r) (λ y. and_then (collect f rs) (λ ys. Ok (y ∷ ys))) out e in
      let q = then_ok (collect f rs) (λ ys. fine (p.0 ∷ ys)) out p.2 in
      let one = row_kept r p.0 p.1 in
      let more = rows_kept rs q.0 q.1 in
      subst (AllKept (r ∷ rs)) (the_same (p.0 ∷ q.0) out q.2) (record {
        ids = λ i. one.id i ∷ more.ids i;
        sures = λ i. one.sure i && more.sures i;
        all_fit = λ h. let b = and_parts (row_fits columns r) (rows_fit columns rs) h in rw (one.fits_too b.0, more.all_fit b.1) refl;
      })

pub formula_rules : (name : Name) (expr : Expr) (picks : List Pick) (cell : ℕ) (t : TableData) (k : ColumnType) (rows : List Row) → IsTable t →
    formula_type name expr t.columns ≡ Ok k → collect (formula_row name expr picks cell t.columns k) t.rows ≡ Ok rows → KeepsRules (table_of t.columns rows t.is_open t.is_loose)
formula_rules name expr picks cell t k rows is typed e =
    let all = rows_kept name expr picks cell t.columns is.names k typed t.rows rows e in record {
      names = is.names;
      ids = subst Distinct (sym all.ids) is.ids;
      fitting = all.all_fit is.fitting;
      sure = λ o. subst IsTrue (sym all.sures) (is.sure o);
    }
