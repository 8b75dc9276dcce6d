-- The parts of a loaded table keep the rules of a table.
use Rattle.std.proofs.Common.{◌≡◌, ◌≤◌, ◌<◌, ◌+◌, ℕ, zero, suc, List, [], ◌∷◌, ◌++◌, length, map, Bool, true, false, Option, Some, None, refl, sym, ◌∙◌, ap, subst, arith, inl, inr, eq-eqb}
use Rattle.std.specs.Prelude.{◌&&◌, ◌||◌, not, cond, if◌then◌else◌, filter, zip, IsTrue, option_map, option_and_then, unwrap_or, slice_get}
use Rattle.std.specs.List.{Contains, list_any, list_all, enumerate_from, range_with_len}
use Rattle.std.specs.Str.{is_utf8}
use Rattle.value_types.specs.Numbers.{bool_of, int_of, fixed_of, widened}
use Rattle.value_types.specs.declared.value.ColumnType.{ColumnType}
use Rattle.value_types.specs.declared.value.ColumnType.TheVariants as kind
use Rattle.value_types.specs.declared.value.Value.{Value}
use Rattle.value_types.specs.declared.value.Value.TheVariants as value
use Rattle.value_types.specs.declared.row_id.RowId.{RowId, Rec}
use Rattle.dataset_types.specs.declared.load_options.Repair.{Repair}
use Rattle.dataset_types.specs.declared.load_options.Repair.TheVariants as repair
use Rattle.dataset_types.specs.declared.picks.Site.{Site}
use Rattle.dataset_types.specs.declared.picks.Site.TheVariants as site
use Rattle.dataset_types.specs.declared.picks.Choice.{Choice}
use Rattle.dataset_types.specs.declared.picks.Choice.TheVariants as choice
use Rattle.dataset_types.specs.declared.column.Column.{Column}
use Rattle.dataset_types.specs.declared.row.Marked.{Marked}
use Rattle.dataset_types.specs.declared.row.Row.{Row}
use Rattle.dataset_types.specs.Picks.{choice_of}
use Rattle.dataset_types.specs.Fitting.{fitted}
use Rattle.dataset_types.specs.Tables.{Distinct, fits, values_fit, row_fits, rows_fit, all_sure, row_ids, column_names}
use Rattle.dataset_types.proofs.TableLemmas.{Distinct-filter, Rec_number, Contains-cases, empty_contains}
use Rattle.csv_load.specs.Ends.{stripped}
use Rattle.csv_load.specs.Names.{names_of, names_after, free_name, base_name}
use Rattle.csv_load.specs.Guess.{read, kind_of, columns_of}
use Rattle.csv_load.specs.Fields.{Repairs, read_stripped, own_value, value_in, zero_of, default_of, chosen, site_value, field_value, marked_value}
use Rattle.csv_load.specs.Rows.{Numbered, numbered, is_surplus, has_row, by_columns, row_of, rows_of, some_surplus}
use Rattle.csv_load.specs.Calls.{column_named}
use Rattle.csv_load.proofs.FreeNames.{names_distinct}

-- ---- values

-- a value, if there is one, fits a type
abbrev pub MayFit : ColumnType → Option Value → Type 0
MayFit k None = Unit {0}
MayFit k (Some v) = fits v k ≡ true

made_fits : {A : Type 0} (k : ColumnType) (make : A → Value) → ((a : A) → fits (make a) k ≡ true) → (o : Option A) → MayFit k (option_map make o)
made_fits k make each None = tt
made_fits k make each (Some a) = each a

text_fits : (utf8 : Bool) (text : List ℕ) → MayFit kind.Text (if utf8 then Some (value.Text text) else None)
text_fits true text = refl
text_fits false text = tt

read_fits : (k : ColumnType) (text : List ℕ) → MayFit k (read k text)
read_fits kind.Bool text = made_fits kind.Bool value.Bool (λ b. refl) (bool_of text)
read_fits kind.Int text = made_fits kind.Int value.Int (λ n. refl) (int_of text)
read_fits kind.Fixed text = made_fits kind.Fixed value.Fixed (λ n. refl) (fixed_of text)
read_fits kind.Text text = text_fits (is_utf8 text) text

stripped_fits : (k : ColumnType) (text : List ℕ) → MayFit k (read_stripped k text)
stripped_fits k [] = refl
stripped_fits k (b ∷ bs) = read_fits k (b ∷ bs)

own_fits : (k : ColumnType) (field : List ℕ) → MayFit k (own_value k field)
own_fits kind.Bool field = stripped_fits kind.Bool (stripped field)
own_fits kind.Int field = stripped_fits kind.Int (stripped field)
own_fits kind.Fixed field = stripped_fits kind.Fixed (stripped field)
own_fits kind.Text field = read_fits kind.Text field

then_fits : {A : Type 0} (k : ColumnType) (f : A → Option Value) → ((a : A) → MayFit k (f a)) → (o : Option A) → MayFit k (option_and_then f o)
then_fits k f each None = tt
then_fits k f each (Some a) = each a

as_it_is : (k : ColumnType) (v : Value) (t : Bool) → fits v k ≡ t → MayFit k (if t then Some v else None)
as_it_is k v true e = e
as_it_is k v false e = tt

fitted_fits : (k : ColumnType) (v : Value) → MayFit k (fitted k v)
fitted_fits kind.Fixed (value.Int n) = made_fits kind.Fixed value.Fixed (λ m. refl) (widened n)
fitted_fits k v = as_it_is k v (fits v k) refl

chosen_fits : (k : ColumnType) (c : Choice) → MayFit k (chosen k c)
chosen_fits k (choice.Value v) = fitted_fits k v
chosen_fits k (choice.Keep b) = tt

zero_fits : (k : ColumnType) → fits (zero_of k) k ≡ true
zero_fits kind.Bool = refl
zero_fits kind.Int = refl
zero_fits kind.Fixed = refl
zero_fits kind.Text = refl

default_fits : (r : Repair) (k : ColumnType) → fits (default_of r k) k ≡ true
default_fits repair.Null k = refl
default_fits repair.Zero k = zero_fits k

or_fits : (k : ColumnType) (o : Option Value) (d : Value) → MayFit k o → fits d k ≡ true → fits (unwrap_or o d) k ≡ true
or_fits k None d may other = other
or_fits k (Some v) d may other = may

value_fits : (r : Repairs) (k : ColumnType) (s : Site) (field : Option (List ℕ)) → fits (field_value r k s field) k ≡ true
value_fits r k s field =
    or_fits k (value_in k field) (site_value r k s) (then_fits k (own_value k) (own_fits k) field)
    (or_fits k (option_and_then (chosen k) (choice_of r.picks r.cell s)) (default_of r.repair k) (then_fits k (chosen k) (chosen_fits k) (choice_of r.picks r.cell s)) (default_fits r.repair k))

-- ---- rows

pub many : {A B : Type 0} (f : ℕ × A → B) (n : ℕ) (xs : List A) → length (map f (enumerate_from n xs)) ≡ length xs
many f n [] = refl
many f n (x ∷ xs) = ap suc (many f (n + 1) xs)

each_fits : (f : ℕ × Column → Marked) → ((p : ℕ × Column) → fits (f p).value p.1.kind ≡ true) → (n : ℕ) (columns : List Column) →
    values_fit columns (map f (enumerate_from n columns)) ≡ true
each_fits f each n [] = refl
each_fits f each n (c ∷ cs) = rw (each (n, c)) (each_fits f each (n + 1) cs)

pub row_is_fit : (r : Repairs) (columns : List Column) (p : Numbered) → row_fits columns (row_of r columns p) ≡ true
row_is_fit r columns p =
    let f = λ (c : ℕ × Column). marked_value r c.1.kind (site.Field p.0 (c.0 + 1)) (slice_get p.1 c.0) in
    rw (eq-eqb _ _ (many f 0 columns)) (each_fits f (λ c. value_fits r c.1.kind (site.Field p.0 (c.0 + 1)) (slice_get p.1 c.0)) 0 columns)

all_of_map : {A : Type 0} (f : A → Row) (test : Row → Bool) → ((a : A) → test (f a) ≡ true) → (xs : List A) → list_all test (map f xs) ≡ true
all_of_map f test each [] = refl
all_of_map f test each (x ∷ xs) = rw (each x) (all_of_map f test each xs)

pub rows_are_fit : (r : Repairs) (columns : List Column) (rs : List (List (List ℕ))) → IsTrue (rows_fit columns (rows_of r columns rs))
rows_are_fit r columns rs =
    all_of_map (row_of r columns) (row_fits columns) (row_is_fit r columns) (filter (has_row r (length columns)) (numbered rs))

-- ids are numbers that rise
abbrev number_id : Numbered → RowId
number_id p = Rec p.0

from_number : (n m : ℕ) (rs : List (List (List ℕ))) → Contains (map number_id (enumerate_from n rs)) (Rec m) → n ≤ m
from_number n m [] c = absurd (empty_contains (Rec m) c)
from_number n m (r ∷ rs) c = elim (Contains-cases (Rec n) (map number_id (enumerate_from (n + 1) rs)) (Rec m) c) [
  | inl e ↦ let same = Rec_number n m e in omega arith
  | inr held ↦ let le = from_number (n + 1) m rs held in omega arith
]

numbers_distinct : (n : ℕ) (rs : List (List (List ℕ))) → Distinct (map number_id (enumerate_from n rs))
numbers_distinct n [] = tt
numbers_distinct n (r ∷ rs) = (λ c. let le = from_number (n + 1) n rs c in omega arith, numbers_distinct (n + 1) rs)

ids_of_rows : (r : Repairs) (columns : List Column) (ps : List Numbered) → row_ids (map (row_of r columns) ps) ≡ map number_id ps
ids_of_rows r columns [] = refl
ids_of_rows r columns (p ∷ ps) = ap (λ ids. Rec p.0 ∷ ids) (ids_of_rows r columns ps)

pub ids_are_distinct : (r : Repairs) (columns : List Column) (rs : List (List (List ℕ))) → Distinct (row_ids (rows_of r columns rs))
ids_are_distinct r columns rs =
    rw (ids_of_rows r columns (filter (has_row r (length columns)) (numbered rs)))
    (Distinct-filter number_id (has_row r (length columns)) (numbered rs) (numbers_distinct 1 rs))

-- where no record is surplus, each row is sure
module _ (r : Repairs) (columns : List Column) where
  abbrev rows_at : ℕ → List (List (List ℕ)) → List Row
  rows_at n rs = map (row_of r columns) (filter (has_row r (length columns)) (enumerate_from n rs))

  sure_from : (n : ℕ) (rs : List (List (List ℕ))) → some_surplus (length columns) rs ≡ false → all_sure (rows_at n rs) ≡ true
  sure_from n [] e = refl
  sure_from n (f ∷ fs) e = by (is_surplus (length columns) f) (has_row r (length columns) (n, f)) refl refl (sure_from (n + 1) fs)
    where
      by : (surplus has : Bool) → is_surplus (length columns) f ≡ surplus → has_row r (length columns) (n, f) ≡ has →
          (some_surplus (length columns) fs ≡ false → all_sure (rows_at (n + 1) fs) ≡ true) → all_sure (rows_at n (f ∷ fs)) ≡ true
      by true has s h rest = cc (rw s at e)
      by false true s h rest = rw (h, s) (rest (rw s at e))
      by false false s h rest = rw h (rest (rw s at e))

  pub rows_are_sure : (rs : List (List (List ℕ))) → some_surplus (length columns) rs ≡ false → IsTrue (all_sure (rows_of r columns rs))
  rows_are_sure rs e = sure_from 1 rs e

-- ---- columns

pub names_many : (taken fields : List (List ℕ)) → length (names_after taken fields) ≡ length fields
names_many taken [] = refl
names_many taken (f ∷ fs) = ap suc (names_many (taken ++ free_name taken (base_name f) ∷ []) fs)

module _ (types : List (Option ColumnType)) (records : List (List (List ℕ))) where
  zipped : (n : ℕ) (names : List (List ℕ)) →
      map column_named (zip names (map (kind_of types records) (range_with_len n (length names)))) ≡ map (λ p. column_named (p.1, kind_of types records p.0)) (enumerate_from n names)
  zipped n [] = refl
  zipped n (x ∷ xs) = ap (λ cs. column_named (x, kind_of types records n) ∷ cs) (zipped (n + 1) xs)

  pub columns_zipped : (header : List (List ℕ)) →
      map column_named (zip (names_of header) (map (kind_of types records) (range_with_len 0 (length header)))) ≡ columns_of types header records
  columns_zipped header = rw (← names_many [] header) (zipped 0 (names_of header))

  named : (n : ℕ) (names : List (List ℕ)) → column_names (map (λ p. column_named (p.1, kind_of types records p.0)) (enumerate_from n names)) ≡ names
  named n [] = refl
  named n (x ∷ xs) = ap (λ ns. x ∷ ns) (named (n + 1) xs)

  pub columns_distinct : (header : List (List ℕ)) → length header ≤ 32 → Distinct (column_names (columns_of types header records))
  columns_distinct header few = rw (named 0 (names_of header)) (names_distinct [] header tt (omega arith))

  pub columns_many : (header : List (List ℕ)) → length (columns_of types header records) ≡ length header
  columns_many header = many (λ p. column_named (p.1, kind_of types records p.0)) 0 (names_of header) ∙ names_many [] header
