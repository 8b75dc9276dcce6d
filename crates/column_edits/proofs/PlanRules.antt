-- The layout of each command is one for tables of its columns.
use Rattle.std.proofs.Common.{◌≡◌, ℕ, ◌+◌, Bool, true, false, Ok, Err, Some, List, [], ◌∷◌, map, length, refl, subst, ap, sym, arith}
use Rattle.std.specs.Prelude.{suc, not, if◌then◌else◌}
use Rattle.std.specs.List.{Contains, enumerate_from}
use Rattle.cell_errors.specs.Answers.{and_then}
use Rattle.cell_errors.specs.declared.fault.CellError.TheVariants as error
use Rattle.value_types.specs.declared.value.ColumnType.{ColumnType}
use Rattle.value_types.specs.declared.value.Value.{Value}
use Rattle.value_types.specs.declared.value.Value.TheVariants.{Null}
use Rattle.dataset_types.specs.declared.column.Column.{Column}
use Rattle.dataset_types.specs.Tables.{Distinct, column_names}
use Rattle.expr_meaning.specs.Names.{Name}
use Rattle.relations.proofs.Gathered.{fine, the_same, then_ok, Each}
use Rattle.column_edits.specs.declared.layout.LaidColumn.{LaidColumn}
use Rattle.column_edits.specs.Layout.{standing, as_they_stand}
use Rattle.column_edits.specs.Plans.{has_name, find, is_taken, others, is_place, put, new_column, insertion, deletion, under, renamed, renaming, moving, keeping}
use Rattle.column_edits.specs.Changes.{blank}
use Rattle.column_edits.specs.Rules.{names_of, IsLayout}
use Rattle.column_edits.proofs.Laying.{kind_at, Takes, laid_row_fits}
use Rattle.column_edits.proofs.Places.{each_insert, each_filter, each_map}
use Rattle.column_edits.proofs.Names.{names_stand, not_taken, found_is, found_name, others_distinct, not_other, renamed_distinct, put_distinct, kept_names}

-- ---- columns as they stand

pub from_here : (n : ℕ) → n + 0 ≡ n
from_here n = omega arith

pub from_next : (n q : ℕ) → n + suc q ≡ (n + 1) + q
from_next n q = omega arith

pub from_start : (q : ℕ) → 0 + q ≡ q
from_start q = omega arith

stands : (columns : List Column) (v : Value) (n : ℕ) (cs : List Column) → ((q : ℕ) → kind_at columns (n + q) ≡ kind_at cs q) → Each (Takes columns v) (map standing (enumerate_from n cs))
stands columns v n [] h = tt
stands columns v n (c ∷ cs) h = (
  subst (λ m. kind_at columns m ≡ Some c.kind) (from_here n) (h 0),
  stands columns v (n + 1) cs (λ q. subst (λ m. kind_at columns m ≡ kind_at cs q) (from_next n q) (h (suc q))),
)

-- each takes the values of its own column
pub each_stands : (columns : List Column) (v : Value) → Each (Takes columns v) (as_they_stand columns)
each_stands columns v = stands columns v 0 columns (λ q. ap (kind_at columns) (from_start q))

-- ---- layouts

module _ (columns : List Column) (d : Distinct (column_names columns)) where
  abbrev all : List LaidColumn
  all = as_they_stand columns

  stand_distinct : Distinct (names_of all)
  stand_distinct = subst Distinct (sym (names_stand columns)) d

  is_layout : (layout : List LaidColumn) → Distinct (names_of layout) → Each (Takes columns Null) layout → IsLayout columns layout
  is_layout layout names takes = record { names = names; fitting = λ r g. laid_row_fits columns blank layout r takes g }

  pub insertion_rules : (name : Name) (k : ColumnType) (at : ℕ) (layout : List LaidColumn) → insertion name k at columns ≡ Ok layout → IsLayout columns layout
  insertion_rules name k at layout e = in_range (is_place at (suc (length columns))) e
    where
      free : (b : Bool) → is_taken name all ≡ b → (if b then Err error.NameTaken else Ok (put at (new_column name k) all)) ≡ Ok layout → IsLayout columns layout
      free true t h = cc
      free false t h =
          subst (IsLayout columns) (the_same (put at (new_column name k) all) layout h)
          (is_layout (put at (new_column name k) all)
          (put_distinct at (new_column name k) all stand_distinct (not_taken name all t))
          (each_insert (Takes columns Null) all _ (new_column name k) (each_stands columns Null) refl))

      in_range : (b : Bool) → (if b then (if is_taken name all then Err error.NameTaken else Ok (put at (new_column name k) all)) else Err error.NoColumn) ≡ Ok layout →
          IsLayout columns layout
      in_range true h = free (is_taken name all) refl h
      in_range false h = cc

  pub deletion_rules : (name : Name) (layout : List LaidColumn) → deletion name columns ≡ Ok layout → IsLayout columns layout
  deletion_rules name layout e =
      let p = then_ok (find name all) (λ c. fine (others name all)) layout e in
      subst (IsLayout columns) (the_same (others name all) layout p.2)
      (is_layout (others name all) (others_distinct name all stand_distinct)
      (each_filter (Takes columns Null) (λ c. not (has_name name c)) all (each_stands columns Null)))

  pub renaming_rules : (name to : Name) (layout : List LaidColumn) → renaming name to columns ≡ Ok layout → IsLayout columns layout
  renaming_rules name to layout e =
      let p = then_ok (find name all) (λ c. if is_taken to (others name all) then Err error.NameTaken else Ok (renamed name to all)) layout e in
      free (is_taken to (others name all)) refl p.2
    where
      takes : (b : Bool) (c : LaidColumn) → Takes columns Null c → Takes columns Null (if b then under to c else c)
      takes true c t = t
      takes false c t = t

      free : (b : Bool) → is_taken to (others name all) ≡ b → (if b then Err error.NameTaken else Ok (renamed name to all)) ≡ Ok layout → IsLayout columns layout
      free true t h = cc
      free false t h =
          subst (IsLayout columns) (the_same (renamed name to all) layout h)
          (is_layout (renamed name to all)
          (renamed_distinct name to all stand_distinct (not_taken to (others name all) t))
          (each_map (Takes columns Null) (Takes columns Null) (λ c. if has_name name c then under to c else c) (λ c t. takes (has_name name c) c t) all (each_stands columns Null)))

  pub moving_rules : (name : Name) (at : ℕ) (layout : List LaidColumn) → moving name at columns ≡ Ok layout → IsLayout columns layout
  moving_rules name at layout e =
      let p = then_ok (find name all) (λ c. if is_place at (length columns) then Ok (put at c (others name all)) else Err error.NoColumn) layout e in
      in_range p.0 p.1 (is_place at (length columns)) p.2
    where
      moved : (c : LaidColumn) → find name all ≡ Ok c → IsLayout columns (put at c (others name all))
      moved c k =
          is_layout (put at c (others name all))
          (put_distinct at c (others name all) (others_distinct name all stand_distinct)
          (λ h. not_other name all (subst (Contains (names_of (others name all))) (sym (found_name name all c k)) h)))
          (each_insert (Takes columns Null) (others name all) _ c
          (each_filter (Takes columns Null) (λ z. not (has_name name z)) all (each_stands columns Null))
          (found_is name (Takes columns Null) all c (each_stands columns Null) k))

      in_range : (c : LaidColumn) → find name all ≡ Ok c → (b : Bool) → (if b then Ok (put at c (others name all)) else Err error.NoColumn) ≡ Ok layout → IsLayout columns layout
      in_range c k true h = subst (IsLayout columns) (the_same (put at c (others name all)) layout h) (moved c k)
      in_range c k false h = cc

  kept_each : (names : List Name) (kept : List LaidColumn) → keeping names columns ≡ Ok kept → Each (Takes columns Null) kept
  kept_each [] kept e = subst (Each (Takes columns Null)) (the_same [] kept e) tt
  kept_each (n ∷ ns) kept e =
      let p = then_ok (find n all) (λ y. and_then (keeping ns columns) (λ ys. Ok (y ∷ ys))) kept e in
      let q = then_ok (keeping ns columns) (λ ys. fine (p.0 ∷ ys)) kept p.2 in
      subst (Each (Takes columns Null)) (the_same (p.0 ∷ q.0) kept q.2)
      (found_is n (Takes columns Null) all p.0 (each_stands columns Null) p.1, kept_each ns q.0 q.1)

  pub keeping_rules : (names : List Name) (layout : List LaidColumn) → Distinct names → keeping names columns ≡ Ok layout → IsLayout columns layout
  keeping_rules names layout apart e =
      is_layout layout (subst Distinct (sym (kept_names all names layout e)) apart) (kept_each names layout e)
