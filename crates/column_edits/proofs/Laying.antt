-- Values under a layout: read otherwise, and of the types of the layout's columns.
use Rattle.std.proofs.Common.{◌≡◌, ℕ, zero, suc, Option, Some, None, List, [], ◌∷◌, map, length, refl, ap, ◌∙◌, sym, arith}
use Rattle.std.specs.Prelude.{IsTrue, ◌==◌, unwrap_or, slice_get, option_map}
use Rattle.std.proofs.lemmas.Bool.{and_parts}
use Rattle.std.proofs.lemmas.Bool.Decides.{Decides-eqb}
use Rattle.std.proofs.lemmas.List.{length-map}
use Rattle.std.proofs.lemmas.Option.{slice_get-map}
use Rattle.value_types.specs.declared.value.ColumnType.{ColumnType}
use Rattle.value_types.specs.declared.value.Value.{Value}
use Rattle.dataset_types.specs.declared.column.Column.{Column}
use Rattle.dataset_types.specs.declared.row.Marked.{Marked}
use Rattle.dataset_types.specs.declared.row.Row.{Row}
use Rattle.dataset_types.specs.Tables.{fits, values_fit, row_fits}
use Rattle.relations.proofs.Gathered.{Each}
use Rattle.column_edits.specs.declared.layout.LaidColumn.{LaidColumn}
use Rattle.column_edits.specs.Layout.{columns_of, value_from, laid}
use Rattle.column_edits.specs.Changes.{laid_row}

-- ---- values that are read otherwise

module _ {V W : Type 0} (f : V → W) where
  or_else : (new : V) (o : Option V) → f (unwrap_or o new) ≡ unwrap_or (option_map f o) (f new)
  or_else new None = refl
  or_else new (Some v) = refl

  value_read : (new : V) (values : List V) (s : Option ℕ) → f (value_from new values s) ≡ value_from (f new) (map f values) s
  value_read new values None = refl
  value_read new values (Some p) = or_else new (slice_get values p) ∙ ap (λ o. unwrap_or o (f new)) (sym (slice_get-map f values p))

  -- reading values otherwise before they are laid out or after it is one thing
  pub laid_read : (new : V) (layout : List LaidColumn) (values : List V) → map f (laid new layout values) ≡ laid (f new) layout (map f values)
  laid_read new [] values = refl
  laid_read new (c ∷ cs) values =
      let one = value_read new values c.source in
      let more = laid_read new cs values in λ i. one i ∷ more i

-- ---- values of the columns' types

-- the type of the column at a place, if there is one
abbrev pub kind_at : List Column → ℕ → Option ColumnType
kind_at columns p = option_map (λ c. c.kind) (slice_get columns p)

-- a source from which values of a type come: the new value is of it, or the column at the place is
abbrev pub Supplies : List Column → Value → ColumnType → Option ℕ → Type 0
Supplies columns new k None = IsTrue (fits new k)
Supplies columns new k (Some p) = kind_at columns p ≡ Some k

-- a column of a layout over these columns whose source has values of its type
abbrev pub Takes : List Column → Value → LaidColumn → Type 0
Takes columns new c = Supplies columns new c.column.kind c.source

none_is_some : (k : ColumnType) → None ≡ Some k → ⊥
none_is_some k e = cc

some_is : (k l : ColumnType) → Some k ≡ Some l → k ≡ l
some_is k l e = cc

fits_at : (new : Marked) (columns : List Column) (values : List Marked) (p : ℕ) (k : ColumnType) → length values ≡ length columns → IsTrue (values_fit columns values) →
    kind_at columns p ≡ Some k → IsTrue (fits (unwrap_or (slice_get values p) new).value k)
fits_at new [] values p k n f e = absurd (none_is_some k e)
fits_at new (c ∷ cs) [] p k n f e = absurd (omega (arith, n))
fits_at new (c ∷ cs) (v ∷ vs) zero k n f e = rw (sym (some_is c.kind k e)) (and_parts (fits v.value c.kind) (values_fit cs vs) f).0
fits_at new (c ∷ cs) (v ∷ vs) (suc p) k n f e = fits_at new cs vs p k (omega (arith, n)) (and_parts (fits v.value c.kind) (values_fit cs vs) f).1 e

module _ (columns : List Column) (values : List Marked) (n : length values ≡ length columns) (f : IsTrue (values_fit columns values)) (new : Marked) where
  supplied : (k : ColumnType) (s : Option ℕ) → Supplies columns new.value k s → IsTrue (fits (value_from new values s).value k)
  supplied k None t = t
  supplied k (Some p) t = fits_at new columns values p k n f t

  laid_fit : (layout : List LaidColumn) → Each (Takes columns new.value) layout → IsTrue (values_fit (columns_of layout) (laid new layout values))
  laid_fit [] e = refl
  laid_fit (c ∷ cs) e = rw (supplied c.column.kind c.source e.0) (laid_fit cs e.1)

-- a row that fits the columns fits a layout under which each column takes values of its type
pub laid_row_fits : (columns : List Column) (new : Marked) (layout : List LaidColumn) (r : Row) → Each (Takes columns new.value) layout →
    IsTrue (row_fits columns r) → IsTrue (row_fits (columns_of layout) (laid_row layout new r))
laid_row_fits columns new layout r e g =
    let p = and_parts (length r.values == length columns) (values_fit columns r.values) g in
    let n = (Decides-eqb (length r.values) (length columns)).0 p.0 in
    let same = length-map layout (λ c. value_from new r.values c.source) ∙ sym (length-map layout (λ c. c.column)) in
    rw ((Decides-eqb (length (laid new layout r.values)) (length (columns_of layout))).1 same, laid_fit columns r.values n p.1 new layout e) refl
